use Rattle.std.proofs.{Common.{◌≡◌, ◌^◌, ◌∙◌, ap, sym}, lemmas.Option.slice_get_within}
use Rattle.presentation.specs.Verifying.{longest_of}
use Rattle.presentation.proofs.Allowed.{each_has_longest}
use Rattle.hls_writer.specs.Finished.{target_of}
use Rattle.hls_writer.proofs.finished.Durations.own_target.Goals as goal

pub of-requires : goal.of-requires
of-requires c = let self = c.args.self.now in
    slice_get_within self.longest.now c.args.track _
    (each_has_longest self.presentation.now (10 ^ self.digits) c.args.track self.longest.now self.told c.requires)

pub returns : goal.returns
returns c =
    let self = c.args.self.now in
    let told = sym c.of.ensures
    ∙ each_has_longest self.presentation.now (10 ^ self.digits) c.args.track self.longest.now self.told c.requires in
    let same : c.of.result ≡ longest_of self.presentation.now (10 ^ self.digits) c.args.track = cc (told) in
    c.target_of.ensures ∙ ap (target_of (10 ^ self.digits)) same
