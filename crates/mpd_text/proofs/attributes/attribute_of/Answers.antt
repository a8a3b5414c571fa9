use Rattle.mpd_text.proofs.attributes.attribute_of.Goals as goal
use Rattle.std.proofs.Common.{sym, subst, ◌∙◌, arith}
use Rattle.mpd_text.specs.{Keeping.names_from, ManyNames.IsPrepared}
use Rattle.mpd_text.proofs.{KeptRows.names_added, Rests.{ends, quote_behind}}

pub value_of-requires-clause-rest : goal.value_of-requires-clause-rest
value_of-requires-clause-rest c =
    quote_behind _ c.args.bytes.now _ (c.in_ok-quote.quote, c.in_ok-quote.rest.now) c.requires.rest
    (rw c.in_ok-name_rest.ensures.is_new.rest_is at c.in_ok-rest.ensures) c.in_ok-quote.ensures.read

pub returns-clause-goes_on : goal.returns-clause-goes_on
returns-clause-goes_on c =
    let named = c.in_ok-name_rest.ensures.is_new in
    let value = c.in_ok-value.ensures in
    let added = c.in_ok-add_attribute.ensures.adds in
    let final = c.add_attribute.new.self in
    let h = names_added c.args.kept.now c.value_of.new.self final c.args.names.now.from _ c.requires.known.within
    value.adds.attributes_are added.attributes_are in
    record {
      stays = record { same = added.same ∙ value.adds.same; shown_are = added.shown_are ∙ value.adds.shown_are };
      from = named.from;
      known = record {
        within = omega (arith, h.0, named.from);
        prepared = subst (λ from. IsPrepared c.new_name_of.new.names.many (names_from final from)) (sym named.from)
            (subst (IsPrepared c.new_name_of.new.names.many) (sym h.1) named.prepared);
      };
      left = ends _ _ value.rest;
    }
