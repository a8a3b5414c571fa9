use Rattle.std.proofs.Common.{◌≡◌, subst, ◌∙◌}
use Rattle.std.proofs.lemmas.Result.{on_ok_weaker}
use Rattle.std.specs.Option.{option_copied}
use Rattle.page_server.specs.Answers.{HasReply, page_reply}
use Rattle.page_server.specs.Pages.{held}
use Rattle.page_server.specs.Tags.{known_in}
use Rattle.page_server.proofs.origin.Origin.send_page.Goals as goal

-- what is held is what is made of the manifest
pub returns-clause-answer : goal.returns-clause-answer
returns-clause-answer g c =
    let file = c.args.file.now in
    let page : held c.in_ok-page.page ≡ (g.M.Maker.making c.args.self.now.workshop.maker).page_of c.args.manifest file =
    c.in_ok-page.ensures.page ∙ c.in_ok-prepare.ensures.pages file in
    on_ok_weaker c.page_reply.result (λ reply. subst (λ p. HasReply (page_reply c.args.self.now.terms.cache.bytes file
    (known_in (option_copied c.args.headers)) p) c.page_reply.new.response) page reply) c.page_reply.ensures
