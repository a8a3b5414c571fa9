-- Where a text has slashes.
use Rattle.std.proofs.Common.{◌≡◌, ◌≢◌, ℕ, suc, ◌+◌, ◌-◌, ◌<◌, ◌==◌, not, Bool, true, false, List}
use Rattle.std.proofs.Common.{[], ◌∷◌, length, take, Option, None, Some, Bor, refl, ap, sym, arith}
use Rattle.std.proofs.Math.ListN.{get_or}
use Rattle.std.proofs.lemmas.{Bool.ne_eqb, Bool.Decides.nat_tests, List.Sums.suffix_len_is}
use Rattle.std.specs.{Option.{MatchOption, option_copied}, List.suffix_len}
use Rattle.page_server.specs.Requests.{after_slash, folder_before, folder_of}

pub behind_slash : (text : List ℕ) (r : Option (Bor (List ℕ)))
    → MatchOption r ((rest : List ℕ) → text ≢ 47 ∷ rest) (λ x. text ≡ 47 ∷ x.now) → option_copied r ≡ after_slash text
behind_slash [] None h = refl
behind_slash [] (Some x) h = cc
behind_slash (b ∷ rest) None h = go (b == 47) refl
  where
    go : (t : Bool) → (b == 47) ≡ t → None ≡ after_slash (b ∷ rest)
    go true e = absurd (h rest (ap (λ n. n ∷ rest) (grind (arith, nat_tests))))
    go false e = rw e refl
behind_slash (b ∷ rest) (Some x) h = sym (ap after_slash h)

pub folder_at : (text : List ℕ) (k : ℕ) → k < length text → get_or text k 0 ≡ 47
    → ((i : ℕ) → k < i → i < length text → get_or text i 0 ≢ 47) → folder_of text ≡ Some (take k text)
folder_at text k inside slash after =
    let test = λ (b : ℕ). not (b == 47) in
    let len : suffix_len test text ≡ length text - (k + 1) = suffix_len_is test text (k + 1) 0 (omega arith)
    (λ i above below. rw (ne_eqb _ 47 (after i (omega arith) below)) refl) (λ _. let back : k + 1 - 1 ≡ k = omega arith in
    rw (back, slash) refl) in
    let cut : length text - suffix_len test text ≡ suc k = omega (arith, len) in
    ap (folder_before text) cut

pub no_folder : (text : List ℕ) → ((i : ℕ) → i < length text → get_or text i 0 ≢ 47) → folder_of text ≡ None
no_folder text none =
    let test = λ (b : ℕ). not (b == 47) in
    let len : suffix_len test text ≡ length text - 0 = suffix_len_is test text 0 0 (omega arith)
    (λ i above below. rw (ne_eqb _ 47 (none i below)) refl) (λ h. absurd (omega arith)) in
    let gone : length text - suffix_len test text ≡ 0 = omega (arith, len) in
    ap (folder_before text) gone
