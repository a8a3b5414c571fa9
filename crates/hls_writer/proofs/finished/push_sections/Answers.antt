use Rattle.hls_writer.proofs.finished.push_sections.Goals as goal
use Rattle.std.proofs.{Common.{◌≡◌, ◌+◌, ◌^◌, ◌<◌, ◌++◌, [], ap, sym, ◌∙◌, length, flat_map, None, arith}, lemmas.List.append-nil}
use Rattle.presentation.proofs.Counts.{from_on, from_on-end, from_on-first, from_on-start}
use Rattle.hls_writer.specs.{Finished.section_items, Lines.lines_text, Playlists.items_lines, Spelled.spelled_items}
use Rattle.bridge_io.proofs.Adding.{adds_answered, adds_none, adds_same, adds_then, adds_stop_at}
use Rattle.hls_writer.proofs.Sections.{more_spelled}

pub loop-section-init : goal.loop-section-init
loop-section-init g c = let t = c.args.track.now in let p = t.presentation.now in (
  [],
  ap (λ ss. lines_text (items_lines t.digits None (spelled_items t.spelling.now (flat_map (section_items p (10 ^ t.digits) t.track) ss))))
      (from_on-start (length p.sections)),
  adds_none _,
)

pub returns-in_err-former : goal.returns-in_err-former
returns-in_err-former g c =
    let t = c.args.track.now in let p = t.presentation.now in let l = c.loop-section in let n = length p.sections in
    let of = section_items p (10 ^ t.digits) t.track in
    let within : l.section < n = omega (arith, ap length c.sections.ensures) in
    let here = ap (λ ss. l.invariant.0 ++ lines_text (items_lines t.digits l.former (spelled_items t.spelling.now (flat_map of ss))))
    (sym (from_on-first l.section n within)) ∙ l.invariant.1 in
    adds_same (more_spelled t.spelling.now t.digits l.former (of l.section) (flat_map of (from_on (l.section + 1) n)) l.invariant.0 _ here)
    (adds_stop_at _ c.from_residual.result c.from_residual.ensures.1 (adds_then _ l.invariant.2 c.in_err-former.ensures.adds))

pub loop-section-preserved : goal.loop-section-preserved
loop-section-preserved g c =
    let t = c.args.track.now in let p = t.presentation.now in let l = c.loop-section in let n = length p.sections in
    let of = section_items p (10 ^ t.digits) t.track in
    let within : l.section < n = omega (arith, ap length c.sections.ensures) in
    let here = ap (λ ss. l.invariant.0 ++ lines_text (items_lines t.digits l.former (spelled_items t.spelling.now (flat_map of ss))))
    (sym (from_on-first l.section n within)) ∙ l.invariant.1 in
    let later = flat_map of (from_on (l.section + 1) n) in (
      l.invariant.0 ++ lines_text (items_lines t.digits l.former (spelled_items t.spelling.now (of l.section))),
      ap (λ last. (l.invariant.0 ++ lines_text (items_lines t.digits l.former (spelled_items t.spelling.now (of l.section))))
          ++ lines_text (items_lines t.digits last (spelled_items t.spelling.now later))) c.in_ok-former.ensures.last
          ∙ more_spelled t.spelling.now t.digits l.former (of l.section) later l.invariant.0 _ here,
      adds_answered tt (adds_then _ l.invariant.2 c.in_ok-former.ensures.adds),
    )

pub returns : goal.returns
returns g c =
    let t = c.args.track.now in let p = t.presentation.now in let l = c.loop-section in let n = length p.sections in
    let last : l.section ≡ n = omega (arith, ap length c.sections.ensures) in
    let none : from_on l.section n ≡ [] = ap (λ s. from_on s n) last ∙ from_on-end n in
    let done = sym (append-nil l.invariant.0)
    ∙ ap (λ ss. l.invariant.0 ++ lines_text (items_lines t.digits l.former
    (spelled_items t.spelling.now (flat_map (section_items p (10 ^ t.digits) t.track) ss))))
    (sym none) ∙ l.invariant.1 in
    adds_same done l.invariant.2
