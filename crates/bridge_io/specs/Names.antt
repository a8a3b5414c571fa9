-- Which texts are names of files in a store.
use Rattle.std.specs.Prelude.{ℕ, ◌==◌, ◌&&◌, ◌||◌, not, nat_le, Bool, List, [], ◌∷◌, ◌++◌, length, if◌then◌else◌, Result, Ok, Err, Option}
use Rattle.std.specs.{Prelude.{Some, None}, List.list_all}
use Rattle.bridge_io.specs.{declared.name.NameFault.NameFault, declared.name.NameFault.TheVariants.{Shape, Memory}}

-- `A`-`Z`, `a`-`z`, `0`-`9`, `-`, `.`, `_`, `~`, `+`, `=`, `,`, `@` and `/`
abbrev pub is_name_byte : ℕ → Bool
is_name_byte b = (nat_le 65 b && nat_le b 90) || (nat_le 97 b && nat_le b 122) || (nat_le 48 b && nat_le b 57)
    || b == 45 || b == 46 || b == 95 || b == 126 || b == 43 || b == 61 || b == 44 || b == 64 || b == 47

-- the parts between the slashes of a text; the first argument is the start of the first part
abbrev pub parts_after : List ℕ → List ℕ → List (List ℕ)
parts_after front [] = front ∷ []
parts_after front (b ∷ bs) = if b == 47 then front ∷ parts_after [] bs else parts_after (front ++ b ∷ []) bs

-- a proper part isn't empty, `.` or `..`: those name nothing in a directory, or lead out of it
abbrev pub is_proper_part : List ℕ → Bool
is_proper_part part = not (nat_le (length part) 2 && list_all (λ b. b == 46) part)

-- 1 to 255 bytes of names, whose parts between the slashes are proper
abbrev pub is_name : List ℕ → Bool
is_name text = nat_le 1 (length text) && nat_le (length text) 255 && list_all is_name_byte text
    && list_all is_proper_part (parts_after [] text)

-- a text read as a name
abbrev pub name_of : List ℕ → Result (List ℕ) NameFault
name_of text = if is_name text then Ok text else Err Shape

-- out of memory says nothing about the text
abbrev pub refusal : NameFault → Option NameFault
refusal Shape = Some Shape
refusal Memory = None
