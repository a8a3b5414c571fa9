-- The table of what bytes are in names, held against the definitions at each byte.
use Rattle.std.proofs.Common.{◌≡◌, ℕ, ◌<◌, ◌==◌, ◌∙◌, Bool, true, false, not, map, cond, get_or, refl, ap, arith}
use Rattle.std.proofs.lemmas.List.FromFn.{get_or-map-range_with_len}
use Rattle.std.specs.List.{range_with_len}
use Rattle.mpd_tree.specs.Characters.{goes_on_name, starts_name}
use Rattle.mpd_text.specs.declared.class.TheConstants.{ROLES}

abbrev role : ℕ → ℕ
role b = cond (goes_on_name b) (cond (starts_name b) 2 1) 0

table_is : ROLES ≡ map role (range_with_len 0 256)
unfolding goes_on_name starts_name
table_is = refl

role_at : (b : ℕ) → b < 256 → get_or ROLES b 0 ≡ role b
role_at b small = ap (λ t. get_or t b 0) table_is ∙ get_or-map-range_with_len role 0 256 b b 0 small (omega arith)

later : (goes starts : Bool) → not (cond goes (cond starts 2 1) 0 == 0) ≡ goes
later true true = refl
later true false = refl
later false starts = refl

first : (goes starts : Bool) → (starts ≡ true → goes ≡ true) → (cond goes (cond starts 2 1) 0 == 2) ≡ starts
first true true so = refl
first true false so = refl
first false true so = absurd (cc (so refl))
first false false so = refl

starting_goes : (b : ℕ) → starts_name b ≡ true → goes_on_name b ≡ true
unfolding goes_on_name
starting_goes b is = rw is refl

pub goes_at : (b : ℕ) → b < 256 → not (get_or ROLES b 0 == 0) ≡ goes_on_name b
goes_at b small = ap (λ (n : ℕ). not (n == 0)) (role_at b small) ∙ later (goes_on_name b) (starts_name b)

pub starts_at : (b : ℕ) → b < 256 → (get_or ROLES b 0 == 2) ≡ starts_name b
starts_at b small = ap (λ (n : ℕ). n == 2) (role_at b small) ∙ first (goes_on_name b) (starts_name b) (starting_goes b)
