use Rattle.std.proofs.Common.{◌∙◌, ap}
use Rattle.hls_writer.proofs.Codes.{codes_missing, codes_found}
use Rattle.hls_writer.specs.Variants.{codes_of}
use Rattle.hls_writer.proofs.variants.Cast.codes.Goals as goal

pub returns-then-not-have_codes : goal.returns-then-not-have_codes
returns-then-not-have_codes c =
    let tracks = c.args.self.now.tracks.now in
    codes_missing tracks c.in_ok-places.places.items (rw (c.have_codes.ensures, c.deref.ensures.value) at c.if-not-have_codes.true)
    ∙ ap (codes_of tracks) c.in_ok-places.ensures

pub returns : goal.returns
returns c =
    let tracks = c.args.self.now.tracks.now in
    let places = c.in_ok-places.places.items in
    rw (c.in_ok-merged.ensures, c.deref-2.ensures.value, c.args.self.now.told)
    (codes_found tracks places (rw (c.have_codes.ensures, c.deref.ensures.value) at c.if-not-have_codes.false)
    ∙ ap (codes_of tracks) c.in_ok-places.ensures)
