use Rattle.mpd_text.proofs.kept.Kept.finish.Goals as goal
use Rattle.std.specs.String.{string_bytes}
use Rattle.mpd_text.specs.Keeping.{shown_in}
use Rattle.mpd_tree.proofs.ForestLemmas.{has_one_root, root_is}

pub returns-clause-root : goal.returns-clause-root
unfolding shown_in
returns-clause-root c = λ root is. let k = c.args.self in root_is k.source.now (string_bytes k.read) k.elements k.attributes.items root is

pub returns-clause-has_one_root : goal.returns-clause-has_one_root
unfolding shown_in
returns-clause-has_one_root c = let k = c.args.self in
    has_one_root k.source.now (string_bytes k.read) k.elements k.attributes.items c.requires.0 c.requires.1
