use Rattle.std.proofs.Common.{◌≡◌, ◌∙◌, ℕ, List, ap, length, refl, subst}
use Rattle.std.specs.Prelude.{slice_get}
use Rattle.live_meaning.specs.Known.{Known, ids_of}
use Rattle.live_judge.specs.{Known.{if_there}, Order.IsOrder}
use Rattle.live_judge.proofs.{Finding.found_there, Ordering.{IsRank, lent_at, ranked_there}}
use Rattle.live_judge.proofs.known.KnownPeriods.find.Goals as goal

pub returns : goal.returns
returns c =
    let order = c.self.inside.order.items in
    let ids = ids_of c.args.self.now in
    let is : IsOrder ids order = subst (λ (known : List Known). IsOrder (ids_of known) order) c.self.view_is c.self.invariant in
    let ranked : IsRank ids order c.args.id.now c.rank_of-rank.result =
    rw (c.deref.ensures.value, c.deref-2.ensures.value, c.self.view_is) at c.rank_of-rank.ensures.rank in
    let got : c.copied.result ≡ slice_get order c.rank_of-rank.result = c.copied.ensures
    ∙ lent_at _ _ _ c.get.ensures.lookup ∙ ap (λ (ns : List ℕ). slice_get ns c.rank_of-rank.result) c.deref-3.ensures.value in
    c.if_there.ensures ∙ ap (if_there ids c.args.id.now) got ∙ found_there ids c.args.id.now _
    (λ place there. ranked_there ids order (length ids) is.all c.args.id.now c.rank_of-rank.result ranked place is.once refl there)
