use Rattle.hls_master.proofs.whole.find_muxed.Goals as goal
use Rattle.std.proofs.Common.{◌∙◌, not, ◌&&◌, ap}
use Rattle.std.specs.Option.{is_none}
use Rattle.bridge_io.specs.declared.media.Kind.TheVariants.{Audio}
use Rattle.hls_master.specs.{Codes.has_code_in, Tracks.is_audio_variant}
use Rattle.hls_master.proofs.Loops.{first_place-same}

pub returns : goal.returns
returns c = c.first_muxed.ensures
    ∙ first_place-same _ _ (λ v. ap (λ b. not b && (not (is_audio_variant v) && (is_none v.audio && has_code_in Audio v.shown.codecs)))
    (c.in_ok-addresses.ensures.same v.address)) _
