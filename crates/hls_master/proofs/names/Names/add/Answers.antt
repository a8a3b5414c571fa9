use Rattle.std.proofs.Common.{not, refl, ◌∙◌, ap}
use Rattle.hls_master.specs.SeenTags.{rendition_seen}
use Rattle.hls_master.proofs.NameSets.{has_name, named_one_more}
use Rattle.hls_master.proofs.names.Names.add.Goals as goal

pub returns-clause-fresh : goal.returns-clause-fresh
returns-clause-fresh c =
    let one = c.args.rendition.now in
    c.in_ok-insert.ensures.added ∙ ap not (has_name c.args.self.now.keys.keys (c.number_of.result, one.group, one.name)
    (rendition_seen one) c.number_of.ensures refl refl)

pub returns-clause-added : goal.returns-clause-added
returns-clause-added c =
    let one = c.args.rendition.now in
    λ before is. record {
      same = named_one_more c.args.self.now.keys c.insert.new.self (c.number_of.result, one.group, one.name)
          (rendition_seen one) c.number_of.ensures refl refl c.in_ok-insert.ensures.updates before is.same;
    }
