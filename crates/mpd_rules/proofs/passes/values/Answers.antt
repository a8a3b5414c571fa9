use Rattle.mpd_rules.proofs.passes.values.Goals as goal
use Rattle.std.proofs.{Common.{◌≡◌, Ok, Some, map, length, ap, sym, ◌∙◌, arith}, lemmas.List.length-map, lemmas.Result.err_from_is_err_and}
use Rattle.std.specs.Prelude.{codes}
use Rattle.mpd_tree.specs.Nodes.{element_of}
use Rattle.mpd_rules.specs.{Built.{periods_refused, periods_shown}, Kept.{left_out_in, periods_of}}
use Rattle.mpd_rules.specs.Periods.{bounds_of, first_start, period_bounds, period_refusals, total_of}
use Rattle.mpd_rules.specs.{Rules.{paths_told, refusals_behind, refused_at, silence_in, static_told}, Typed.values_with}
use Rattle.mpd_rules.proofs.Meaning.{all_passed, bounds_count, fourth_first, mpd_is, no_period_left, periods_are, periods_told}
use Rattle.mpd_rules.proofs.{Ids.rows_once, Meaning.{silence_same, third_first}, Readable.named_readable}
use Rattle.mpd_rules.proofs.Refusing.{none_first, none_told, one_first, unless_first}

pub periods-requires-clause-count : goal.periods-requires-clause-count
periods-requires-clause-count g c =
    let e = element_of c.args.mpd in
    let bounds = (none_told (period_refusals e) (map bounds_of (period_bounds e)) c.in_ok-bounds.bounds (sym c.in_ok-bounds.ensures)).1 in
    ap length (c.as_slice.ensures ∙ bounds) ∙ bounds_count (total_of e.head) (first_start e.head) (periods_of e)
    ∙ ap length (sym c.in_ok-periods.ensures.kept) ∙ length-map c.in_ok-periods.periods.items element_of
    ∙ ap length (sym c.deref-2.ensures.value)

pub returns-in_err-rows : goal.returns-in_err-rows
returns-in_err-rows g c =
    let p = err_from_is_err_and c.from_residual-in_err-rows.result c.from_residual-in_err-rows.ensures.1 in
    let e = element_of c.args.mpd in
    let order = (none_told (period_refusals e) (map bounds_of (period_bounds e)) c.in_ok-bounds.bounds (sym c.in_ok-bounds.ensures)).0 in
    let static = (none_told (static_told c.args.many e) tt c.in_ok-check_static.field-0 c.in_ok-check_static.ensures).0 in
    let periods = ap (map element_of) c.deref-2.ensures.value ∙ c.in_ok-periods.ensures.kept in
    let told = ap (periods_refused c.args.many g.X.FromLevels.refused g.X.FromLevels.of 0) periods
    ∙ sym (periods_told g.X.FromLevels.refused g.X.FromLevels.of e c.args.many 0 (periods_of e)) in
    rw (p.1, p.2) (unless_first c.in_err-rows.field-0.0 (refusals_behind c.args.many g.X.FromLevels.refused g.X.FromLevels.of e)
    (values_with g.X.FromLevels.of e)
    (third_first c.in_err-rows.field-0.0 (period_refusals e) (static_told c.args.many e)
    (paths_told c.args.many (refused_at g.X.FromLevels.refused g.X.FromLevels.of) e 0 (periods_of e))
    (silence_in e.head.place (values_with g.X.FromLevels.of e).periods) _
    order static told c.in_err-rows.ensures.refused))

pub returns-in_err-check_silence : goal.returns-in_err-check_silence
returns-in_err-check_silence g c =
    let p = err_from_is_err_and c.from_residual-in_err-check_silence.result c.from_residual-in_err-check_silence.ensures.1 in
    let e = element_of c.args.mpd in
    let bounds = none_told (period_refusals e) (map bounds_of (period_bounds e)) c.in_ok-bounds.bounds (sym c.in_ok-bounds.ensures) in
    let static = (none_told (static_told c.args.many e) tt c.in_ok-check_static.field-0 c.in_ok-check_static.ensures).0 in
    let periods = ap (map element_of) c.deref-2.ensures.value ∙ c.in_ok-periods.ensures.kept in
    let told = sym (ap (periods_refused c.args.many g.X.FromLevels.refused g.X.FromLevels.of 0) periods
    ∙ sym (periods_told g.X.FromLevels.refused g.X.FromLevels.of e c.args.many 0 (periods_of e)))
    ∙ none_first _ c.in_ok-rows.ensures.refused in
    let bases = rw c.new.ensures at c.in_ok-bases.ensures in
    let rows = periods_are g.X.FromLevels.of g.X.FromLevels.shown e
    (periods_shown g.X.FromLevels.shown c.periods.new.self.tables c.in_ok-rows.rows) c.in_ok-bases.bases
    (map element_of c.deref-2.result.now) c.as_slice.result.now
    bases periods (c.as_slice.ensures ∙ bounds.1) c.in_ok-rows.ensures.rows in
    let silence = sym (silence_same (λ x. Some (g.X.FromLevels.shown c.periods.new.self.tables x)) e.head.place c.in_ok-rows.rows)
    ∙ ap (silence_in e.head.place) rows in
    let first = one_first (silence_in c.place.result c.as_slice-2.result.now) c.in_err-check_silence.field-0.0 tt
    c.in_err-check_silence.ensures in
    rw (p.1, p.2) (unless_first c.in_err-check_silence.field-0.0 (refusals_behind c.args.many g.X.FromLevels.refused g.X.FromLevels.of e)
    (values_with g.X.FromLevels.of e)
    (fourth_first c.in_err-check_silence.field-0.0 (period_refusals e) (static_told c.args.many e)
    (paths_told c.args.many (refused_at g.X.FromLevels.refused g.X.FromLevels.of) e 0 (periods_of e))
    (silence_in e.head.place (values_with g.X.FromLevels.of e).periods) _
    bounds.0 static told silence (rw (c.place.ensures, c.as_slice-2.ensures) at first)))

pub of-requires-clause-start : goal.of-requires-clause-start
of-requires-clause-start g c = rw c.facts_of.ensures (named_readable (codes "availabilityStartTime") (element_of c.args.mpd).head)

pub of-requires-clause-ids : goal.of-requires-clause-ids
of-requires-clause-ids g c =
    let e = element_of c.args.mpd in
    let bounds = none_told (period_refusals e) (map bounds_of (period_bounds e)) c.in_ok-bounds.bounds (sym c.in_ok-bounds.ensures) in
    let periods = ap (map element_of) c.deref-2.ensures.value ∙ c.in_ok-periods.ensures.kept in
    let bases = rw c.new.ensures at c.in_ok-bases.ensures in
    rows_once g.X.FromLevels.of g.X.FromLevels.shown c.periods.new.self.tables e c.facts_of.result c.in_ok-rows.rows c.requires.ids
    c.facts_of.ensures
    (periods_are g.X.FromLevels.of g.X.FromLevels.shown e
    (periods_shown g.X.FromLevels.shown c.periods.new.self.tables c.in_ok-rows.rows) c.in_ok-bases.bases
    (map element_of c.deref-2.result.now) c.as_slice.result.now
    bases periods (c.as_slice.ensures ∙ bounds.1) c.in_ok-rows.ensures.rows)

pub returns : goal.returns
returns g c =
    let e = element_of c.args.mpd in
    let bounds = none_told (period_refusals e) (map bounds_of (period_bounds e)) c.in_ok-bounds.bounds (sym c.in_ok-bounds.ensures) in
    let static = (none_told (static_told c.args.many e) tt c.in_ok-check_static.field-0 c.in_ok-check_static.ensures).0 in
    let periods = ap (map element_of) c.deref-2.ensures.value ∙ c.in_ok-periods.ensures.kept in
    let told = sym (ap (periods_refused c.args.many g.X.FromLevels.refused g.X.FromLevels.of 0) periods
    ∙ sym (periods_told g.X.FromLevels.refused g.X.FromLevels.of e c.args.many 0 (periods_of e)))
    ∙ none_first _ c.in_ok-rows.ensures.refused in
    let bases = rw c.new.ensures at c.in_ok-bases.ensures in
    let rows = periods_are g.X.FromLevels.of g.X.FromLevels.shown e
    (periods_shown g.X.FromLevels.shown c.periods.new.self.tables c.in_ok-rows.rows) c.in_ok-bases.bases
    (map element_of c.deref-2.result.now) c.as_slice.result.now
    bases periods (c.as_slice.ensures ∙ bounds.1) c.in_ok-rows.ensures.rows in
    let silence = sym (silence_same (λ x. Some (g.X.FromLevels.shown c.periods.new.self.tables x)) e.head.place c.in_ok-rows.rows)
    ∙ ap (silence_in e.head.place) rows in
    let quiet = (none_told (silence_in c.place.result c.as_slice-2.result.now) tt c.in_ok-check_silence.field-0
    c.in_ok-check_silence.ensures).0 in
    let counted = rw periods at c.in_ok-rows.ensures.left_out in
    let left : length c.periods.new.self.left_out ≡ left_out_in e = omega (
      arith,
      counted,
      c.in_ok-periods.ensures.left_out,
      ap length c.new-left_out.ensures,
      no_period_left e,
    ) in
    all_passed (period_refusals e) (static_told c.args.many e)
    (paths_told c.args.many (refused_at g.X.FromLevels.refused g.X.FromLevels.of) e 0 (periods_of e))
    (silence_in e.head.place (values_with g.X.FromLevels.of e).periods) (values_with g.X.FromLevels.of e)
    bounds.0 static told (sym silence ∙ rw (c.place.ensures, c.as_slice-2.ensures) at quiet)
    ∙ ap Ok (mpd_is g.X.FromLevels.of g.X.FromLevels.shown e c.of.result c.periods.new.self.tables c.facts_of.result
    (length c.periods.new.self.left_out) c.in_ok-rows.rows c.of.ensures c.facts_of.ensures left rows)
