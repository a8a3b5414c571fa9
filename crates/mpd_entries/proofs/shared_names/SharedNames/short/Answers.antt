use Rattle.std.proofs.Common.{◌≡◌, ap, sym, subst, ◌∙◌, Some, slice_get, IfSome}
use Rattle.mpd_entries.specs.Short.{AreShort, IsShortAt}
use Rattle.mpd_entries.proofs.Shorts.{short_found}
use Rattle.mpd_entries.proofs.shared_names.SharedNames.short.Goals as goal

pub returns : goal.returns
returns c =
    let listed = c.self.inside.listed.value in
    let known : listed.short ≡ Some c.in-Some.short = (λ i. (sym c.deref.ensures i).short) ∙ c.in-Some.is in
    let are = subst (λ o. IfSome o (λ shorts. AreShort listed.parts shorts.items)) known c.self.invariant in
    let found = ap (λ shorts. slice_get shorts c.args.place) (sym c.deref-2.ensures.value) ∙ c.in_ok-text.ensures in
    subst (λ parts. IsShortAt (slice_get parts c.args.place) c.in_ok-text.text.now) c.self.view_is
    (short_found listed.parts c.in-Some.short.items c.args.place c.in_ok-text.text.now are found)
