-- What `clap` makes of the program's words.
use Rattle.std.proofs.Common.{◌≡◌, ◌⊎◌, List, [], ◌∷◌, true, None, inl, inr, refl, sym, ap, ◌∙◌}
use Rattle.clap.specs.Words.{App, IsAmong, Kinds, Row, Text, fault_of, is_simple_and_free, matches_of}
use Rattle.clap.specs.{declared.error.kind.ErrorKind.ErrorKind, declared.error.kind.ErrorKind.TheVariants.OutOfMemory}
use Rattle.bridge_jobs.specs.Verbs.{unless_at_fault}
use Rattle.publish_core.specs.Words.{syntax_of_words, values_of}

free : is_simple_and_free syntax_of_words ≡ true
free = refl

among_some : (kind : ErrorKind) (kinds : Kinds) (rows : List Row) → IsAmong kind kinds → unless_at_fault kinds rows ≡ None
among_some kind [] rows among = absurd among
among_some kind (k ∷ kinds) rows among = refl

pub refused : (app : App) (words : List Text) (kind : ErrorKind) → app ≡ syntax_of_words
    → (is_simple_and_free app ≡ true → (kind ≡ OutOfMemory) ⊎ IsAmong kind (fault_of app words)) → (kind ≡ OutOfMemory → ⊥)
    → values_of words ≡ None
unfolding values_of
refused app words kind same faults other = go (faults (ap is_simple_and_free same ∙ free))
  where
    go : (kind ≡ OutOfMemory) ⊎ IsAmong kind (fault_of app words)
        → unless_at_fault (fault_of syntax_of_words words) (matches_of syntax_of_words words) ≡ None
    go (inl is) = absurd (other is)
    go (inr among) = ap (λ a. unless_at_fault (fault_of a words) (matches_of syntax_of_words words)) (sym same)
        ∙ among_some kind _ (matches_of syntax_of_words words) among
