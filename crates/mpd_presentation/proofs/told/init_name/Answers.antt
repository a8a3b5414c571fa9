use Rattle.mpd_presentation.proofs.told.init_name.Goals as goal
use Rattle.std.proofs.Common.{◌∙◌, ap}
use Rattle.template_ids.specs.Templates.{named}

pub returns : goal.returns
returns c = c.in_ok-name.ensures
    ∙ ap (λ id. named c.args.template.now (record { id = id; bandwidth = c.bandwidth.result; number = 0; time = 0 })) (c.in_ok-id.ensures
    ∙ c.id.ensures)
    ∙ ap (λ bandwidth. named c.args.template.now (record {
      id = c.args.row.now.row.now.description.id;
      bandwidth = bandwidth;
      number = 0;
      time = 0;
    })) c.bandwidth.ensures
