use Rattle.mpd_presentation.proofs.manifest.present.Goals as goal
use Rattle.std.proofs.Common.{◌≡◌, ◌*◌, Bool, true, false, Some, None, option_map, if◌then◌else◌, length, map, ap, ◌∙◌, sym, refl}
use Rattle.std.proofs.lemmas.List.{length-map}
use Rattle.mpd_rules.specs.Typed.{period_with}
use Rattle.presentation.specs.Presented.{following_of}
use Rattle.mpd_presentation.specs.Rows.{first_rows, row_of, shown}
use Rattle.presentation.proofs.Filling.{length_in_order}

not_live : {X : Type 0} (live : Bool) (x : X) → (if live then Some x else None) ≡ None → live ≡ false
not_live true x is = absurd (cc)
not_live false x is = refl

pub from_placed-requires-clause-filled : goal.from_placed-requires-clause-filled
from_placed-requires-clause-filled c =
    let sections : length c.in_ok-sections.sections ≡ length c.args.mpd.now.values.periods =
    ap length c.in_ok-sections.ensures ∙ length-map _ _ ∙ length-map _ _ ∙ ap length c.periods-2.ensures.periods in
    let rows = ap length c.in_ok-rows.ensures ∙ length_in_order _ _ in
    let tracks : length c.in_ok-tracks.tracks ≡ length (first_rows (map (period_with shown) c.args.mpd.now.values.periods)) =
    ap length c.in_ok-tracks.ensures ∙ length-map _ _ ∙ ap (λ rows. length (map row_of rows)) c.deref.ensures.value ∙ rows
    ∙ ap (λ periods. length (first_rows (map (period_with shown) periods))) c.periods.ensures.periods in
    c.requires.filled
    ∙ ap (λ n. n * length (first_rows (map (period_with shown) c.args.mpd.now.values.periods))) (sym sections)
    ∙ ap (λ n. length c.in_ok-sections.sections * n) (sym tracks)

pub from_placed-requires-clause-ended : goal.from_placed-requires-clause-ended
from_placed-requires-clause-ended c = λ none.
    c.requires.ended (not_live _ _ (sym c.following_of.ensures ∙ ap (option_map following_of) none))
