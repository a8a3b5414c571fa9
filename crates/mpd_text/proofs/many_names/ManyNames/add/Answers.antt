use Rattle.mpd_text.proofs.many_names.ManyNames.add.Goals as goal
use Rattle.std.proofs.Common.{sym, ◌∙◌, ap, not, ◌||◌}
use Rattle.std.specs.Str.{bytes_eq}
use Rattle.bridge_io.proofs.{NameSets.{has, has_name, insert_has}, Texts.among_more}

pub returns-clause-name : goal.returns-clause-name
returns-clause-name c = λ names known. (
  c.in_ok-insert.ensures.added ∙ ap not (has_name c.args.self.now.names.keys c.args.name.now ∙ known c.args.name.now),
  λ name. ap (λ keys. has keys name) c.in_ok-insert.ensures.keys ∙ insert_has c.args.self.now.names.keys c.args.name name
      ∙ ap (λ b. b || bytes_eq name c.args.name.now) (known name) ∙ sym (among_more name c.args.name.now names),
)
