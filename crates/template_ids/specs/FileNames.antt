-- Which templates name files, whatever the number and the time.
use Rattle.std.specs.Prelude.{◌≡◌, ℕ, ◌-◌, ◌<◌, ◌^◌, Bool, true, List}
use Rattle.bridge_io.specs.Names.{is_name}
use Rattle.template_ids.specs.{declared.ids.Ids.Ids, Templates.named}

-- the same with the greatest number and time
abbrev pub with_greatest : Ids → Ids
with_greatest ids = record ids { number = 2 ^ 64 - 1; time = 2 ^ 64 - 1 }

-- whether the greatest number and time give a valid file name
abbrev pub names_files : List ℕ → Ids → Bool
names_files text ids = is_name (named text (with_greatest ids))

-- where they do, each number and each time do
abbrev pub FilesAreNamed : Type 0
FilesAreNamed = (text : List ℕ) (ids : Ids) → ids.number < 2 ^ 64 → ids.time < 2 ^ 64 →
    names_files text ids ≡ true → is_name (named text ids) ≡ true
