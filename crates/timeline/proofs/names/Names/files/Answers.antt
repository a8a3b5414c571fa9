use Rattle.std.proofs.Common.{◌≡◌, ◌∙◌, ap, sym, true, arith}
use Rattle.std.proofs.lemmas.Bool.Decides.{nat_tests}
use Rattle.template_ids.specs.{Templates.named, Filled.ids_with}
use Rattle.timeline.proofs.Naming.{names_valid}
use Rattle.timeline.proofs.names.Names.files.Goals as goal

pub returns-in_ok-names-in-Template : goal.returns-in_ok-names-in-Template
returns-in_ok-names-in-Template c =
    let t = c.in-Template in
    let files : c.in_ok-are_files.field-0 ≡ true = grind (arith, nat_tests) in
    record {
      folder = rw t.is c.in_ok-folder-in-Template.ensures.text;
      names_are = λ number time. rw t.is (c.in_ok-names-in-Template.ensures number time
          ∙ ap (λ id. named c.template.result.now (ids_with id t.bandwidth number time)) c.as_str.ensures
          ∙ ap (λ media. named media (ids_with t.id t.bandwidth number time)) c.template.ensures);
      addressed = c.in_ok-are_files.ensures.named files;
      named = names_valid c.args.self.now (sym c.in_ok-are_files.ensures.told ∙ files);
    }
