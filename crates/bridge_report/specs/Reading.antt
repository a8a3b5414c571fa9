-- The files of a command, or the first one that is rejected.
use Rattle.bridge_report.specs.declared.reading.Halt.TheVariants as halt
use Rattle.bridge_report.specs.declared.refusal.Refusal.TheVariants as refusal
use Rattle.bridge_io.specs.declared.outside.Store.{Ghosts as Store}
use Rattle.std.specs.{Prelude.{◌≡◌, ℕ, List, Option, Some, None, Result, IsErrOf}, Option.ForSome}
use Rattle.bridge_io.specs.{Answer.{Gives, and_then, told_as}, Fault.HasCause, Outside.Files, Slurped.whole_file}
use Rattle.hls_media.specs.{declared.media.Media.Media, Media.media_of}
use Rattle.bridge_report.specs.{declared.reading.Halt.Halt, declared.refusal.Refusal.Refusal, Refusals.refusal_of_file}

-- the most bytes of a manifest
abbrev pub manifest_limit : ℕ
manifest_limit = 8388608

-- an error with the name of its file
abbrev pub Named : Type 0
Named = List ℕ × Refusal

abbrev pub of_file : {X : Type 0} → (file : List ℕ) → Result X Refusal → Result X Named
of_file file read = told_as (λ refusal. (file, refusal)) read

-- the whole content of a file
abbrev pub content_of : (file : List ℕ) → Files → Result (List ℕ) Named
content_of file files = of_file file (told_as refusal_of_file (whole_file manifest_limit file files))

abbrev pub media_in : (file url bytes : List ℕ) → Result Media Named
media_in file url bytes = of_file file (told_as refusal.Media (media_of bytes url))

-- the media playlist of a file with this URL
unfoldable pub media_at : (file url : List ℕ) → Files → Result Media Named
media_at file url files = and_then (content_of file files) (media_in file url)

-- what an error says about the files: nothing where it is an I/O error or out of memory
abbrev pub halted : Halt → Option Named
halted (halt.Refused file refusal) = Some (file, refusal)
halted halt.ReadFault = None
halted halt.Memory = None

-- no read failed
abbrev pub IsNoReadFault : {X : Type 0} → Result X Halt → Type 0
IsNoReadFault read = IsErrOf read halt.ReadFault → ⊥

-- What is read from a store's files: where the store models them, the result for them; a read error comes only where the count of
-- failed reads rose; and nothing is written.
pub record ReadsAs {F X Y : Type 0} (store : Store F) (old new : F) (shown : X → Y) (given : Files → Result Y Named)
    (result : Result X Halt) : Type 0 where
  pub read : ForSome (store.files old) (λ files. Gives shown halted result (given files))
  pub cause : HasCause halt.ReadFault (store.read_faults old) (store.read_faults new) result
  pub files : store.files new ≡ store.files old
  pub writes : store.write_faults new ≡ store.write_faults old
