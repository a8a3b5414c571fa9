-- A set of bytes, as the list of its members.
use Rattle.std.specs.{Prelude.{◌≡◌, ℕ, ◌+◌, ◌*◌, ◌<◌, Bool, IsTrue, ◌==◌, nat_lt, if◌then◌else◌, List, slice_index}, Int.bit_at}
use Rattle.std.specs.List.{list_any, list_all}

-- one of the members
abbrev pub is_member : List ℕ → ℕ → Bool
is_member members byte = list_any (λ member. byte == member) members

-- every member is below 128
abbrev pub all_ascii : List ℕ → Bool
all_ascii members = list_all (λ member. nat_lt member 128) members

-- bit high of row low is set where 16 * high + low is a member
pub record HasRows (members rows : List ℕ) : Type 0 where
  pub bits : (low high : ℕ) → low < 16 → high < 8 → bit_at (slice_index rows low) high
      ≡ (if is_member members (16 * high + low) then 1 else 0)

-- all members are ASCII, and the rows are theirs
pub record IsReady (members rows : List ℕ) : Type 0 where
  pub ascii : IsTrue (all_ascii members)
  pub rows_are : HasRows members rows
