use Rattle.mpd_levels.proofs.tables.run_texts.Goals as goal
use Rattle.std.specs.Prelude.{codes}
use Rattle.mpd_tree.specs.{Nodes.attributes_left, Views.attribute_shown}
use Rattle.mpd_levels.proofs.Walking.{ends, goes_on, shown}

pub loop-attr-preserved : goal.loop-attr-preserved
loop-attr-preserved c =
    let so_far = c.loop-attr.invariant in
    let left = attributes_left c.loop-attr.attr-iterator in
    let rest = attributes_left c.next.new.self in
    let a = attribute_shown c.in-Some.attr in
    let steps = c.in-Some.ensures.steps in (
      tt,
      tt,
      goes_on (codes "t") (shown c.loop-attr.t) left _ so_far.2 (shown c.or_named-t.result) a rest steps c.or_named-t.ensures,
      goes_on (codes "d") (shown c.loop-attr.d) left _ so_far.3 (shown c.or_named-d.result) a rest steps c.or_named-d.ensures,
      goes_on (codes "r") (shown c.loop-attr.r) left _ so_far.4 (shown c.or_named-r.result) a rest steps c.or_named-r.ensures,
    )

pub returns : goal.returns
returns c =
    let so_far = c.loop-attr.invariant in
    let left = attributes_left c.loop-attr.attr-iterator in
    let none = c.in-None.ensures.steps.0 in record {
      t = ends (codes "t") (shown c.loop-attr.t) left _ so_far.2 none;
      d = ends (codes "d") (shown c.loop-attr.d) left _ so_far.3 none;
      r = ends (codes "r") (shown c.loop-attr.r) left _ so_far.4 none;
    }
