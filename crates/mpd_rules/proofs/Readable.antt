-- The instants that an MPD tells can be read.
use Rattle.std.proofs.Common.{ℤ, true, List, ℕ, Option, Some, None, Result, Ok, Err, ◌++◌, IfSome, refl, sym, subst}
use Rattle.std.specs.{Prelude.{codes, option_and_then, IfOk}, Result.result_ok}
use Rattle.iso_time.specs.{Instant.{IsReadable, instant_of}, declared.instant.InstantFault.InstantFault}
use Rattle.iso_time.proofs.InstantLemmas.{readable}
use Rattle.mpd_values.specs.{declared.blank.Blank.TheVariants.Space, Blanks.trimmed}
use Rattle.mpd_tree.specs.Trees.{Head}
use Rattle.mpd_profile.specs.{Heads.value_named, declared.listed.Addressing.TheVariants.Segments as OneByOne, Refusals.refusals_of}
use Rattle.mpd_levels.specs.Segments.{Segments, segments_of}
use Rattle.mpd_rules.specs.{Laws.StartsAreReadable, Readings.{instant_in, instant_named}}
use Rattle.mpd_rules.specs.Rules.{all_refusals, dash_values, refusals_behind, segments_refused, typed_mpd_of}
use Rattle.mpd_rules.specs.Typed.{TypedMpd, values_with}
use Rattle.mpd_rules.proofs.Refusing.{none_told}

ok_readable : (r : Result ℤ InstantFault) → IfOk r IsReadable → IfSome (result_ok r) IsReadable
ok_readable (Ok instant) is = is
ok_readable (Err fault) is = tt

text_readable : (o : Option (List ℕ)) → IfSome (option_and_then instant_in o) IsReadable
text_readable None = tt
text_readable (Some text) = ok_readable (instant_of (trimmed Space text))
    (readable (trimmed Space text) (instant_of (trimmed Space text)) refl)

pub named_readable : (name : List ℕ) (head : Head) → IfSome (instant_named name head) IsReadable
named_readable name head = text_readable (value_named name head)

pub starts_are_readable : StartsAreReadable
unfolding typed_mpd_of all_refusals dash_values
starts_are_readable tree mpd is =
    let told = none_told (refusals_of OneByOne tree ++ refusals_behind true segments_refused segments_of tree)
    (values_with segments_of tree) mpd (sym is) in
    subst (λ (m : TypedMpd (Option Segments)). IfSome m.facts.availability_start IsReadable) (sym told.1)
    (named_readable (codes "availabilityStartTime") tree.head)
