use Rattle.std.proofs.Common.{true, false, refl}
use Rattle.mpd_levels.proofs.Showing.{Shows-nothing}
use Rattle.mpd_levels.proofs.level.Level.top.Goals as goal

pub returns : goal.returns
returns c = λ tables. record {
  means = refl;
  template = rw c.nothing.ensures (Shows-nothing tables false);
  list = rw c.nothing-2.ensures (Shows-nothing tables true);
  base = refl;
}
