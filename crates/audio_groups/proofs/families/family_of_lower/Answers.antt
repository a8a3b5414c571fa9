use Rattle.audio_groups.proofs.families.family_of_lower.Goals as goal
use Rattle.std.proofs.Common.{◌≡◌, ℕ, List, [], ◌∷◌, ◌++◌, map, ap, ◌∙◌, refl, lit<}
use Rattle.std.proofs.{lemmas.Iterator.Splits.YieldsList-from_str_split, lemmas.Iterator.Consumers.YieldsList-end}
use Rattle.std.specs.List.{flat_map}
use Rattle.audio_groups.specs.Families.{family_part}

seen_twice : {X : Type 0} (f : List ℕ → List ℕ) (g : X → List ℕ) (xs : List X) → flat_map (λ x. f (g x)) xs ≡ flat_map f (map g xs)
seen_twice f g [] = refl
seen_twice f g (x ∷ xs) = ap (λ more. f (g x) ++ more) (seen_twice f g xs)

pub returns : goal.returns
returns c =
    let end = YieldsList-end (YieldsList-from_str_split {s = c.into_iter-code-iterator.result} 44 c.args.codecs.now (lit< tt) (cc) (cc)
    (cc)) c.loop-code.yielded _ c.loop-code.yielded_by _ _ c.in-None.is c.next.ensures.steps in
    c.from.ensures ∙ c.loop-code.invariant ∙ seen_twice family_part (λ text. text.now) c.loop-code.yielded
    ∙ ap (flat_map family_part) end.0
