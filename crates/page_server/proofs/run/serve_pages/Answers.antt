use Rattle.std.proofs.Common.{◌≡◌, ◌++◌, ap, subst, ◌∙◌}
use Rattle.http_server.specs.Connection.{history}
use Rattle.http_server.specs.History.{History, IsServed}
use Rattle.http_server.proofs.Theorems.{always_served}
use Rattle.page_server.specs.Answers.{site}
use Rattle.page_server.proofs.Chains.{chain_answers}
use Rattle.page_server.proofs.run.serve_pages.Goals as goal

pub returns : goal.returns
returns g c =
    let old = c.args.origin.now in
    let new = c.serve.new.service in
    let first = c.new-connection.ensures.history in
    let config = c.serve.ensures.config ∙ c.new-connection.ensures.config in
    let calls = c.serve.ensures.calls in
    let read = c.serve.ensures.read in
    let written = c.serve.ensures.written in
    let all = chain_answers
    (λ o. site (g.M.Maker.making o.workshop.maker) o.terms (g.F.Store.files o.store) (g.F.Store.read_faults o.store))
    calls.0 old new calls.2 in
    let called : (history c.serve.new.connection).calls ≡ calls.0 = calls.1 ∙ ap (λ (h : History). h.calls ++ calls.0) first in
    let received : (history c.serve.new.connection).received ≡ read.0 = read.2 ∙ ap (λ (h : History). h.received ++ read.0) first in
    let sent : (history c.serve.new.connection).sent ≡ written.0 = written.2 ∙ ap (λ (h : History). h.sent ++ written.0) first in
    record {
      history = history c.serve.new.connection;
      is_served = subst (λ k. ∥ IsServed k (history c.serve.new.connection) ∥₁) config (always_served c.serve.new.connection);
      answers = rw called all.0;
      stays = all.1;
      read = rw received read.1;
      written = rw sent written.1;
      done = c.serve.ensures.done;
    }
