-- From what was read of a text to the tree or the fault of its bytes.
use Rattle.mpd_tree.specs.declared.stop.Stop.TheVariants as stops
use Rattle.std.proofs.Common.{◌≡◌, true, List, ℕ, Option, None, Some, Result, Ok, Err, IfOk, IfErr, IfSome, ◌⊎◌, inl, inr, refl, sym, ap}
use Rattle.std.proofs.{Common.{◌∙◌, subst}, lemmas.Str.is_utf8-from_IsUtf8}
use Rattle.std.specs.{Result.IsErrAnd, Str.is_utf8}
use Rattle.mpd_tree.specs.{declared.fault.TextFault.TextFault, declared.fault.TextFault.TheVariants.Memory, declared.stop.Stop.Stop}
use Rattle.mpd_tree.specs.{declared.tree.Tree.Tree, Characters.first_bad_character}
use Rattle.mpd_tree.specs.{Faults.{HasBadCharacter, HasFault, IsNotUtf8, ReadsAs, refusal, placed}, Grammar.{IsClean, Spells, document}}
use Rattle.mpd_tree.specs.{Meaning.{reading_of, stop_told, told}, Nodes.root_of, Trees.Element, Reading.fault_in}
use Rattle.mpd_tree.proofs.OneReading.{one_reading}
use Rattle.bridge_io.specs.Answer.{Gives}

-- what is read of a text without bad characters
clean_is_read : (text : List ℕ) → IsClean text → reading_of text ≡ told text (document text).read
unfolding reading_of
clean_is_read text clean =
    let utf8 : is_utf8 text ≡ true = is_utf8-from_IsUtf8 text clean.utf8 in
    let none : first_bad_character text ≡ None = clean.no_bad_character in
    rw (utf8, none) refl

-- want of memory tells nothing of the text
told_as : (P : TextFault → Type 0) (f : TextFault) → P f → IfSome (refusal f) P
told_as P Memory is = tt
told_as P f is = is

-- the reading stops
pub stopped : (text : List ℕ) (stop : Stop) → IsClean text → IfSome (fault_in stop) (λ f. (document text).read ≡ Err f)
    → IfSome (refusal (stop_told text stop)) (λ g. reading_of text ≡ Err g)
stopped text stops.Memory clean h = tt
stopped text (stops.Fault f) clean h =
    told_as (λ g. reading_of text ≡ Err g) (placed text f) (clean_is_read text clean ∙ ap (told text) h)

-- the reading comes to its end
pub finished : (text : List ℕ) (root shown : Element) → IsClean text → (document text).read ≡ Ok root → shown ≡ root
    → reading_of text ≡ Ok shown
finished text root shown clean h is = clean_is_read text clean ∙ ap (told text) h ∙ ap Ok (sym is)

-- a fault that is passed on
pub passed_on : (r : Result Tree TextFault) (f : TextFault) (meaning : Result Element TextFault)
    → IsErrAnd r (λ g. g ≡ f) → IfSome (refusal f) (λ g. meaning ≡ Err g) → Gives root_of refusal r meaning
passed_on (Ok x) f meaning e is = absurd e
passed_on (Err g) f meaning e is = subst (λ h. IfSome (refusal h) (λ k. meaning ≡ Err k)) (sym e) is

-- bytes that are no text
pub refused_before : (bytes : List ℕ) (r : Result Tree TextFault) (f : TextFault) → IsErrAnd r (λ g. g ≡ f)
    → IsNotUtf8 bytes f ⊎ HasBadCharacter bytes f → Gives root_of refusal r (reading_of bytes)
refused_before bytes r f e h = passed_on r f (reading_of bytes) e
    (told_as (λ g. reading_of bytes ≡ Err g) f (sym ((one_reading bytes).only (Err f) (fault h))))
  where
    fault : IsNotUtf8 bytes f ⊎ HasBadCharacter bytes f → HasFault bytes f
    fault (inl other) = inl other
    fault (inr bad) = inr (inl bad)

-- the answer is that of the grammar
pub spelled : (bytes : List ℕ) (root : Element) → reading_of bytes ≡ Ok root → Spells root bytes
spelled bytes root is = subst (ReadsAs bytes) is (one_reading bytes).is_read

pub given_tree : (bytes : List ℕ) (r : Result Tree TextFault) → Gives root_of refusal r (reading_of bytes)
    → IfOk r (λ tree. Spells (root_of tree) bytes)
given_tree bytes (Ok tree) is = spelled bytes (root_of tree) is
given_tree bytes (Err f) is = tt

mapped : (o : Option TextFault) (P Q : TextFault → Type 0) → ((f : TextFault) → P f → Q f) → IfSome o P → IfSome o Q
mapped None P Q h p = tt
mapped (Some f) P Q h p = h f p

pub given_fault : (bytes : List ℕ) (r : Result Tree TextFault) → Gives root_of refusal r (reading_of bytes)
    → IfErr r (λ fault. IfSome (refusal fault) (HasFault bytes))
given_fault bytes (Ok tree) is = tt
given_fault bytes (Err f) is = mapped (refusal f) (λ g. reading_of bytes ≡ Err g) (HasFault bytes)
    (λ g e. subst (ReadsAs bytes) e (one_reading bytes).is_read) is
