use Rattle.std.proofs.Common.{sym, ◌∙◌}
use Rattle.timeline.proofs.ShortNames.{rests_alike}
use Rattle.timeline.proofs.short_names.without_detours.Goals as goal

pub returns : goal.returns
returns c = rests_alike c.args.base.now c.args.names c.in_ok-short.short c.as_str.ensures.base c.in_ok-short.ensures c.requires
    (sym c.goes_on_in_path.ensures ∙ c.if-not-goes_on_in_path.false)
