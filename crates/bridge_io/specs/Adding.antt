-- What a call appends to a buffered file.
use Rattle.std.specs.Prelude.{◌≡◌, ℕ, List, ◌++◌, Option, Result, OnOk, OnErr}
use Rattle.bridge_io.specs.{Fault.HasCause, Outside.Files, Written.{target, IsBehind, HasFront}, declared.outside.Store.Ghosts}
use Rattle.bridge_io.specs.{declared.outside.Fail.Fail, declared.outside.Fail.TheVariants.Failed, declared.sheet.Sheet.Sheet}

-- The text is appended to what the sheet's writer was given. After an error the file holds a prefix of the two, and the
-- error is an I/O error only where the count of failed writes rose.
pub record Adds {F T : Type 0} (store : Ghosts F) (text : List ℕ) (old new : Sheet F) (result : Result T Fail) : Type 0 where
  pub same_writer : new.writer.ghost_name ≡ old.writer.ghost_name
  pub same_store : new.store.ghost_name ≡ old.store.ghost_name
  pub same_file : target new.writer.now ≡ target old.writer.now
  pub behind : OnOk result ((former : List ℕ) (first : Option Files) → IsBehind old.writer.now former first (store.files old.store.now)
      → IsBehind new.writer.now (former ++ text) first (store.files new.store.now))
  pub front : OnErr result ((former : List ℕ) (first : Option Files) → IsBehind old.writer.now former first (store.files old.store.now)
      → HasFront (target old.writer.now) (former ++ text) first (store.files new.store.now))
  pub cause : HasCause Failed (store.write_faults old.store.now) (store.write_faults new.store.now) result
  pub reads : store.read_faults new.store.now ≡ store.read_faults old.store.now
