use Rattle.byte_scan.proofs.class.ClassByteTest.flags.Goals as goal
use Rattle.std.proofs.Common.{◌==◌, sym, ap, ◌∙◌}
use Rattle.byte_scan.specs.{Class.{is_low_control, is_outside}, Lanes.flags}
use Rattle.byte_scan.proofs.{LaneLemmas.either, class.ClassByteTest.flags.Goals.{in-Xml, in-Playlist}}

pub returns : goal.returns
returns c =
    let xs = c.args.lanes in elim c.match-self.branch [
      | in-Xml w ↦ w.result-is ∙ w.low_controls.ensures ∙ ap (λ class. flags (is_outside class) xs) (sym w.in-Xml.is)
      | in-Playlist w ↦
          w.result-is ∙ either is_low_control (λ lane. lane == 127) xs w.low_controls-in-Playlist.ensures w.equal_to.ensures
          ∙ ap (λ class. flags (is_outside class) xs) (sym w.in-Playlist.is)
    ]
