-- A buffered file.
use Rattle.std.specs.Prelude.{◌≡◌, ℕ, List, ◌++◌, length, take, min, Option}
use Rattle.std.proofs.{Common.{◌∙◌, append_assoc, arith}, lemmas.List.{take-append-le, take_min}, Math.Seq.take-length}
use Rattle.bridge_io.specs.{Outside.{Files, put, Changes}, declared.file_writer.FileWriter.FileWriter}

-- the name of the file that is written
abbrev pub target : FileWriter → List ℕ
target writer = writer.name.now

-- the buffered bytes
abbrev pub held : FileWriter → List ℕ
held writer = writer.held.items

-- A prefix of the text is in the writer's file, and the rest is buffered. Every other file is as it was at first.
pub record IsBehind (writer : FileWriter) (text : List ℕ) (first now : Option Files) : Type 0 where
  pub front : List ℕ
  pub whole : front ++ held writer ≡ text
  pub files : Changes (put (target writer) front) first now

-- A name's file holds a prefix of a text. Every other file is as it was at first.
abbrev pub HasFront : List ℕ → List ℕ → Option Files → Option Files → Type 0
HasFront name text first now = (n : ℕ) × Changes (put name (take n text)) first now

-- a prefix of a text is a prefix of a longer text
pub front_of_more : (name text more : List ℕ) (first now : Option Files) → HasFront name text first now
    → HasFront name (text ++ more) first now
front_of_more name text more first now (n, changes) =
    let same : take (min n (length text)) (text ++ more) ≡ take n text = take-append-le (min n (length text)) text more (omega arith)
    ∙ take_min n text in
    (min n (length text), rw same changes)

-- a prefix of a part of a whole text is a prefix of the whole text
pub front_of_whole : (name text done rest whole : List ℕ) (first now : Option Files) → done ++ rest ≡ whole
    → HasFront name (text ++ done) first now → HasFront name (text ++ whole) first now
front_of_whole name text done rest whole first now goes front =
    rw (← goes, ← append_assoc) (front_of_more name (text ++ done) rest first now front)

-- the whole text is a prefix of itself
pub front_of_all : (name text : List ℕ) (first now : Option Files) → Changes (put name text) first now → HasFront name text first now
front_of_all name text first now changes = (length text, rw (take-length text) changes)

-- the file of a writer holds a prefix of the writer's text
pub front_of_behind : (writer : FileWriter) (text : List ℕ) (first now : Option Files) → IsBehind writer text first now
    → HasFront (target writer) text first now
front_of_behind writer text first now behind =
    rw (← behind.whole) (front_of_more (target writer) behind.front (held writer) first now
    (front_of_all (target writer) behind.front first now behind.files))
