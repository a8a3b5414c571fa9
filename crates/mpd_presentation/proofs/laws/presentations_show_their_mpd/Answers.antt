use Rattle.mpd_presentation.proofs.laws.presentations_show_their_mpd.Goals as goal
use Rattle.mpd_presentation.proofs.FromMpd.{presented_are_few, presented_are_followed, sections_are_periods}
use Rattle.mpd_presentation.proofs.Pace.{are_always_in_pace, presented_are_in_pace}

pub returns : goal.returns
returns c = record {
  few = presented_are_few;
  followed = presented_are_followed;
  sections = sections_are_periods;
  pace = presented_are_in_pace;
  always = are_always_in_pace;
}
