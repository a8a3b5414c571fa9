-- Files that take their places one after another.
use Rattle.std.specs.Prelude.{◌≡◌, ◌⊎◌, ℕ, ◌<◌, List, [], ◌∷◌, take, length, bytes_eq, if◌then◌else◌, Option}
use Rattle.bridge_io.specs.Outside.{Changes, Files, put}
use Rattle.bridge_ends.specs.Moved.{moved}
use Rattle.publish_core.specs.declared.decision.NewFile.{NewFile}

-- a file is written to the pending name, which then takes its place
abbrev pub placed : (pending : List ℕ) → NewFile → Files → Files
placed pending file files = moved pending file.name (put pending file.text files)

abbrev pub all_placed : (pending : List ℕ) → List NewFile → Files → Files
all_placed pending [] files = files
all_placed pending (file ∷ more) files = all_placed pending more (placed pending file files)

-- the files where a name has these bytes, or none
abbrev pub with_file : (name : List ℕ) → Option (List ℕ) → Files → Files
with_file name bytes files q = if bytes_eq name q then bytes else files q

-- nothing is done, or a name has anything, and every other file is as before
abbrev pub MayChange : (name : List ℕ) → Option Files → Option Files → Type 0
MayChange name before after = (after ≡ before) ⊎ ((left : Option (List ℕ)) × Changes (with_file name left) before after)

-- Of some files the first `count` took their places, and others didn't. The pending file has anything, and every other file is as before.
pub record AreCut (pending : List ℕ) (files : List NewFile) (before after : Option Files) : Type 0 where
  pub count : ℕ
  pub within : count < length files
  pub mid : Option Files
  pub placed : Changes (all_placed pending (take count files)) before mid
  pub left : MayChange pending mid after
