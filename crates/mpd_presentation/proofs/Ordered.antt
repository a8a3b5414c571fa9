-- Lists behind one another.
use Rattle.std.proofs.Common.{◌≡◌, List, [], ◌++◌, ◌∙◌, ap, append_assoc}

pub three_kinds : {X : Type 0} (a b c d one two three : List X) → a ≡ [] → b ≡ a ++ one → c ≡ b ++ two → d ≡ c ++ three
    → d ≡ one ++ (two ++ three)
three_kinds a b c d one two three none p q r =
    r ∙ ap (λ xs. xs ++ three) (q ∙ ap (λ xs. xs ++ two) (p ∙ ap (λ xs. xs ++ one) none)) ∙ append_assoc one two three
