-- The place of the number in the addresses of a list of segments.
use Rattle.std.specs.Prelude.{ℕ, ◌+◌, ◌-◌, ◌==◌, ◌||◌, not, nat_eq, nat_lt, Bool, List, [], ◌∷◌, length, take, drop, slice_index}
use Rattle.std.specs.Prelude.{if◌then◌else◌, Option, Some, None, unwrap_or}
use Rattle.std.specs.{Char.is_ascii_digit, List.{before_first, common_prefix_len, suffix_len}, Option.{option_map, option_map_or}}

abbrev pub is_slash : ℕ → Bool
is_slash b = b == 47

abbrev pub is_dot : ℕ → Bool
is_dot b = b == 46

-- a `?` or a `#`
abbrev pub ends_path : ℕ → Bool
ends_path b = b == 63 || b == 35

-- how many bytes follow the last one that passes; all of them where none does
abbrev pub behind_last : (ℕ → Bool) → List ℕ → ℕ
behind_last passes text = suffix_len (λ b. not (passes b)) text

-- the place of the last byte that passes
abbrev pub last_place : (ℕ → Bool) → List ℕ → Option ℕ
last_place passes text =
    if nat_lt (behind_last passes text) (length text) then Some (length text - 1 - behind_last passes text) else None

-- an address without its query and its fragment
abbrev pub path_of : List ℕ → List ℕ
path_of address = before_first ends_path address

-- where the name that ends a path begins: behind the last `/`
abbrev pub name_start : List ℕ → ℕ
name_start path = option_map_or (λ slash. slash + 1) (last_place is_slash path) 0

-- a name without its last `.` and what follows it
abbrev pub stem_of : List ℕ → List ℕ
stem_of name = take (unwrap_or (last_place is_dot name) (length name)) name

-- the last digit of the stem of a path's name, as a place in the path
abbrev pub place_in_path : List ℕ → Option ℕ
place_in_path path =
    option_map (λ place. name_start path + place) (last_place is_ascii_digit (stem_of (drop (name_start path) path)))

-- the first place where two addresses differ, where the first one has a digit there
abbrev pub first_difference : List ℕ → List ℕ → Option ℕ
first_difference first second = let place = common_prefix_len nat_eq first second in
    if is_ascii_digit (slice_index first place) then Some place else None

-- the place of the number in the first address, given the addresses that follow it
abbrev pub place_of : List ℕ → List (List ℕ) → Option ℕ
place_of first [] = place_in_path (path_of first)
place_of first (second ∷ rest) = first_difference first second
