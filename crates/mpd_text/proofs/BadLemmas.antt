-- The first character that no text may have, by the places where one begins.
use Rattle.std.proofs.Common.{◌≢◌, ◌==◌, ◌||◌, ◌≡◌, ℕ, Bool, zero, suc, ◌-◌, ◌<◌, ◌≤◌, true, false, List, [], ◌∷◌, length, get_or, drop}
use Rattle.std.proofs.{Common.{Option, Some, None, option_map, position, refl, arith, if◌then◌else◌}, lemmas.Bool.Decides.nat_tests}
use Rattle.std.proofs.{lemmas.Grind.common_steps, lemmas.List.get_or-drop}
use Rattle.byte_scan.specs.Class.{is_low_control}
use Rattle.mpd_tree.specs.Characters.{begins_with_noncharacter, begins_with_bad_character, first_bad_character, IsFirstNoncharacter}
use Rattle.mpd_tree.specs.Characters.{lesser}

-- of the first control and the first noncharacter the one that comes first
position_cons : (p : ℕ → Bool) (b : ℕ) (bs : List ℕ) → position p (b ∷ bs) ≡ (if p b then Some 0 else option_map suc (position p bs))
position_cons p b bs = grind (arith, nat_tests, common_steps)

bad_cons : (b : ℕ) (bs : List ℕ) → begins_with_bad_character (b ∷ bs) ≡ is_low_control b || begins_with_noncharacter (b ∷ bs)
unfolding begins_with_bad_character
bad_cons b bs = refl

lesser_zero : (c : Bool) (p r : Option ℕ) → (if c || true then Some 0 else r) ≡ lesser (if c then Some 0 else option_map suc p) (Some 0)
lesser_zero c p r = grind arith

lesser_cons : (c : Bool) (p o : Option ℕ) → (if c || false then Some 0 else option_map suc (lesser p o))
    ≡ lesser (if c then Some 0 else option_map suc p) (option_map suc o)
lesser_cons c None o = grind arith
lesser_cons c (Some k) o = grind arith

pub bad_first : (bytes : List ℕ) (other : Option ℕ) → IsFirstNoncharacter bytes other
    → first_bad_character bytes ≡ lesser (position is_low_control bytes) other
bad_first [] None none = refl
bad_first [] (Some k) first = absurd (omega (arith, first.0))
bad_first (b ∷ bs) None none =
    rw (bad_cons b bs, none 0, bad_first bs None (λ j. none (suc j)), position_cons is_low_control b bs)
    (lesser_cons (is_low_control b) (position is_low_control bs) None)
bad_first (b ∷ bs) (Some zero) first =
    rw (bad_cons b bs, first.1, position_cons is_low_control b bs) (lesser_zero (is_low_control b) (position is_low_control bs) _)
bad_first (b ∷ bs) (Some (suc k)) first =
    rw (
      bad_cons b bs,
      first.2 0 (omega arith),
      bad_first bs (Some k) (omega (arith, first.0), first.1, λ j h. first.2 (suc j) (omega (arith, h))),
      position_cons is_low_control b bs,
    )
    (lesser_cons (is_low_control b) (position is_low_control bs) (Some k))

-- it begins within the bytes
pub bad_within : (bytes : List ℕ) (k : ℕ) → Some k ≡ first_bad_character bytes → k < length bytes
bad_within [] k e = cc
bad_within (b ∷ bs) zero e = omega arith
bad_within (b ∷ bs) (suc k) e = grind (arith, bad_within bs k)

-- a noncharacter begins with 0xEF
other_start : (bytes : List ℕ) → get_or bytes 0 0 ≢ 239 → begins_with_noncharacter bytes ≡ false
unfolding begins_with_noncharacter
other_start [] e = refl
other_start (b ∷ bs) e = grind arith

-- where 0xEF doesn't stand none begins
pub none_here : (bytes rest : List ℕ) (from j : ℕ) → rest ≡ drop from bytes → from ≤ j
    → (j - from < length rest → (get_or rest (j - from) 0 == 239) ≡ true → ⊥) → begins_with_noncharacter (drop j bytes) ≡ false
none_here bytes rest from j same low none =
    other_start (drop j bytes) (λ is. grind (arith, common_steps, get_or-drop from bytes (j - from) 0, get_or-drop j bytes 0 0))
