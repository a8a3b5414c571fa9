-- Names of files in one folder, for all numbers and times.
use Rattle.std.specs.Prelude.{◌≡◌, ℕ, ◌<◌, ◌^◌, ◌&&◌, ◌++◌, nat_le, Bool, true, false, List, [], length, string_bytes, None, Ok}
use Rattle.bridge_io.specs.Names.{is_name}
use Rattle.template_ids.specs.{Templates.named, FileNames.names_files, Filled.name_of}
use Rattle.url_parts.specs.Addresses.{folder_of}
use Rattle.timeline.specs.{declared.names.Files.Files, declared.names.Names.Names, declared.names.Names.TheVariants.{Template, List as Listed}}
use Rattle.timeline.specs.declared.names.Names.TheVariants.{Shared, Addresses}
use Rattle.timeline.specs.Names.{part_of}

-- whether a template gives valid file names that fit into a URL with the base
abbrev pub are_files : Names → Bool
are_files (Template media id bandwidth base) = nat_le (length base) 1793 && names_files media
    (record { id = id; bandwidth = bandwidth; number = 0; time = 0 })
are_files (Listed parts base) = false
are_files (Shared parts base) = false
are_files (Addresses parts) = false

-- the folder of a template's base
abbrev pub folder_of_names : Names → List ℕ
folder_of_names (Template media id bandwidth base) = folder_of base
folder_of_names (Listed parts base) = []
folder_of_names (Shared parts base) = []
folder_of_names (Addresses parts) = []

-- the name that a template gives
abbrev pub file_name : Names → (number time : ℕ) → List ℕ
file_name (Template media id bandwidth base) number time =
    named media (record { id = id; bandwidth = bandwidth; number = number; time = time })
file_name (Listed parts base) number time = []
file_name (Shared parts base) number time = []
file_name (Addresses parts) number time = []

-- each name has a URL, which is the folder's text and the name
abbrev pub AreInFolder : Names → Type 0
AreInFolder names = (place number time : ℕ) → number < 2 ^ 64 → time < 2 ^ 64 →
    part_of names place number time ≡ Ok (record { address = folder_of_names names ++ file_name names number time; range = None })

-- each name is a valid file name
abbrev pub AreNames : Names → Type 0
AreNames names = (number time : ℕ) → number < 2 ^ 64 → time < 2 ^ 64 → is_name (file_name names number time) ≡ true

-- a folder's text, and the names in it
pub record AreFilesOf (names : Names) (files : Files) : Type 0 where
  pub folder : string_bytes files.folder ≡ folder_of_names names
  pub names_are : (number time : ℕ) → name_of files.names number time ≡ file_name names number time
  pub addressed : AreInFolder names
  pub named : AreNames names
