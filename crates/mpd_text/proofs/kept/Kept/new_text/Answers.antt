use Rattle.mpd_text.proofs.kept.Kept.new_text.Goals as goal
use Rattle.std.proofs.{Common.{refl, sym}, lemmas.List.append-nil}
use Rattle.mpd_text.specs.Keeping.{attributes_in, shown_in}

pub returns-clause-adds : goal.returns-clause-adds
unfolding attributes_in shown_in
returns-clause-adds c = record { same = refl; shown_are = refl; attributes_are = sym (append-nil (attributes_in c.args.self.now)) }
