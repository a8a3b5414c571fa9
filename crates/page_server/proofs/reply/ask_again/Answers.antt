use Rattle.std.proofs.Common.{◌≡◌, ◌++◌, ◌∷◌, [], OnOk, subst}
use Rattle.http_server.specs.Response.{fields_of}
use Rattle.page_server.specs.Answers.{cached}
use Rattle.page_server.proofs.reply.ask_again.Goals as goal

pub returns-clause-fields : goal.returns-clause-fields
returns-clause-fields c =
    subst (λ v. OnOk c.cached.result (fields_of c.cached.new.response ≡ fields_of c.args.response.now ++ cached v.bytes ∷ []))
    c.from_static.ensures c.cached.ensures.fields
