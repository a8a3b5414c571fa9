-- A file that takes another's place.
use Rattle.std.specs.Prelude.{List, ℕ, None, bytes_eq, if◌then◌else◌}
use Rattle.bridge_io.specs.Outside.{Files}

-- nothing has a name
abbrev pub without : (name : List ℕ) → Files → Files
without name files q = if bytes_eq name q then None else files q

-- the file of the name `to` is now what that of `from` was, and nothing has the name `from`
abbrev pub moved : (from to : List ℕ) → Files → Files
moved from to files q = if bytes_eq to q then files from else if bytes_eq from q then None else files q
