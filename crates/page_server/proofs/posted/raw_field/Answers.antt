use Rattle.std.proofs.Common.{◌≡◌, bytes_eq, ap, rules, tests, ◌∙◌}
use Rattle.std.proofs.lemmas.Iterator.{Consumers.YieldsList-from_first, Search.find_from_yields_List}
use Rattle.form_urlencoded.specs.{Form.pair_text, Parse.raw_pairs_left}
use Rattle.page_server.specs.Requests.{raw_field_of}
use Rattle.page_server.proofs.posted.raw_field.Goals as goal

pub returns : goal.returns
returns c =
    let same : c.as_bytes.result.now ≡ c.args.query.now = search rules in
    find_from_yields_List (λ pair. bytes_eq pair.0 c.args.name.now) c.find.new.self _ c.find.result c.find.ensures.ran
    (YieldsList-from_first pair_text raw_pairs_left _ c.raw_pairs.ensures.value)
    (λ x b q k. search (rules, tests))
    ∙ ap (λ query. raw_field_of query c.args.name.now) same
