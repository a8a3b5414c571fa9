use Rattle.hls_media.proofs.media.media_in.Goals as goal
use Rattle.std.proofs.{Common.{Ok, length, sym, ap, ◌∙◌}, lemmas.Result.err_from_is_err_and}
use Rattle.std.specs.List.{list_all}
use Rattle.bridge_io.specs.Places.{place_of}
use Rattle.hls_media.specs.{Media.{is_short, media_at}, States.{State, nothing}}
use Rattle.hls_media.proofs.{Lengths.none_long, Wholes.{line_told, media_in-no_target, media_in-long, media_in-good}}

pub returns-in_err-reader : goal.returns-in_err-reader
returns-in_err-reader c =
    let p = err_from_is_err_and c.from_residual.result c.from_residual.ensures.1 in
    let told = rw c.copy.ensures.lines at c.in_err-reader.ensures.fault in
    rw (p.1, p.2) (line_told (place_of c.args.bytes.now (length c.args.bytes.now)) c.args.base.now c.args.lines _ told)

pub returns-in_default : goal.returns-in_default
returns-in_default c =
    let ok = rw c.copy.ensures.lines at c.in_ok-reader.ensures.ok in
    rw c.end_of.ensures (media_in-no_target (place_of c.args.bytes.now (length c.args.bytes.now)) c.args.base.now c.args.lines ok.0
    (ap (λ (s : State). s.target) (sym ok.1) ∙ c.in_default.is))

pub returns-in-Some-first_long : goal.returns-in-Some-first_long
returns-in-Some-first_long c =
    let ok = rw c.copy.ensures.lines at c.in_ok-reader.ensures.ok in
    media_in-long (place_of c.args.bytes.now (length c.args.bytes.now)) c.args.base.now c.args.lines c.in-Some.target _ ok.0
    (ap (λ (s : State). s.target) (sym ok.1) ∙ c.in-Some.is) (sym c.in-Some-first_long.ensures)

pub returns : goal.returns
returns c =
    let ok = rw c.copy.ensures.lines at c.in_ok-reader.ensures.ok in
    media_in-good (place_of c.args.bytes.now (length c.args.bytes.now)) c.args.base.now c.args.lines c.in-Some.target ok.0
    (ap (λ (s : State). s.target) (sym ok.1) ∙ c.in-Some.is) (sym c.in_default-first_long.ensures)
    ∙ ap Ok (sym (c.finish.ensures ∙ ap media_at ok.1))

pub first_long-requires : goal.first_long-requires
first_long-requires c =
    let ok = rw c.copy.ensures.lines at c.in_ok-reader.ensures.ok in
    rw (c.as_slice.ensures.value) (λ short. none_long c.args.base.now c.in-Some.target c.args.lines nothing ok.0
    (ap (λ (s : State). list_all (is_short c.in-Some.target) s.segments) (sym ok.1) ∙ short))
