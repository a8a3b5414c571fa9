-- What `clap` makes of a command's words.
use Rattle.std.proofs.Common.{◌≡◌, ◌⊎◌, List, [], ◌∷◌, true, Some, None, inl, inr, refl, sym, ap, ◌∙◌}
use Rattle.clap.specs.Words.{App, IsAmong, Kinds, Row, Text, fault_of, is_simple, is_simple_and_free, matches_of}
use Rattle.clap.specs.{declared.error.kind.ErrorKind.ErrorKind, declared.error.kind.ErrorKind.TheVariants.OutOfMemory}
use Rattle.bridge_jobs.specs.{Verbs.{app_of_verb, unless_at_fault, values_of}, declared.verb.Verb.Verb, declared.verb.Verb.TheVariants.Hls}
use Rattle.bridge_jobs.specs.declared.verb.Verb.TheVariants.{Dash, Follow, Show, Check, Reload, Make, HlsIndex, DashTimes, Agree, FollowHls}
use Rattle.bridge_jobs.specs.declared.verb.Verb.TheVariants.{FollowHlsTimes, Compare}

simple : (verb : Verb) → is_simple (app_of_verb verb) ≡ true
simple Hls = refl
simple Dash = refl
simple Follow = refl
simple Show = refl
simple Check = refl
simple Reload = refl
simple Make = refl
simple HlsIndex = refl
simple DashTimes = refl
simple Agree = refl
simple FollowHls = refl
simple FollowHlsTimes = refl
simple Compare = refl

free : (verb : Verb) → is_simple_and_free (app_of_verb verb) ≡ true
free Hls = refl
free Dash = refl
free Follow = refl
free Show = refl
free Check = refl
free Reload = refl
free Make = refl
free HlsIndex = refl
free DashTimes = refl
free Agree = refl
free FollowHls = refl
free FollowHlsTimes = refl
free Compare = refl

pub taken : (app : App) (verb : Verb) (words : List Text) (rows : List Row) → app ≡ app_of_verb verb
    → (is_simple_and_free app ≡ true → fault_of app words ≡ []) → (is_simple app ≡ true → rows ≡ matches_of app words)
    → Some rows ≡ values_of verb words
unfolding values_of
taken app verb words rows same faults matches =
    let none : fault_of (app_of_verb verb) words ≡ [] = ap (λ a. fault_of a words) (sym same)
    ∙ faults (ap is_simple_and_free same ∙ free verb) in
    let all : rows ≡ matches_of (app_of_verb verb) words = matches (ap is_simple same ∙ simple verb) ∙ ap (λ a. matches_of a words) same in
    ap Some all ∙ ap (λ kinds. unless_at_fault kinds (matches_of (app_of_verb verb) words)) (sym none)

among_some : (kind : ErrorKind) (kinds : Kinds) (rows : List Row) → IsAmong kind kinds → None ≡ unless_at_fault kinds rows
among_some kind [] rows among = absurd among
among_some kind (k ∷ kinds) rows among = refl

pub refused : (app : App) (verb : Verb) (words : List Text) (kind : ErrorKind) → app ≡ app_of_verb verb
    → (is_simple_and_free app ≡ true → (kind ≡ OutOfMemory) ⊎ IsAmong kind (fault_of app words)) → (kind ≡ OutOfMemory → ⊥)
    → None ≡ values_of verb words
unfolding values_of
refused app verb words kind same faults other =
    go (faults (ap is_simple_and_free same ∙ free verb))
  where
    go : (kind ≡ OutOfMemory) ⊎ IsAmong kind (fault_of app words)
        → None ≡ unless_at_fault (fault_of (app_of_verb verb) words) (matches_of (app_of_verb verb) words)
    go (inl is) = absurd (other is)
    go (inr among) = among_some kind _ (matches_of (app_of_verb verb) words) among
        ∙ ap (λ a. unless_at_fault (fault_of a words) (matches_of (app_of_verb verb) words)) same
