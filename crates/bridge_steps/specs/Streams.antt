-- Streams that are followed: of update frames, or of snapshots.
use Rattle.std.specs.Prelude.{◌≡◌, ℕ, List, [], ◌∷◌, drop, slice_get, Option, Some, None, unwrap_or, IfSome, Result, MatchResult}
use Rattle.bridge_jobs.specs.{Frames.{LeavesAt, refusal}, declared.frame.FramePos.FramePos, declared.frame.FrameFault.FrameFault}

-- the frames of a stream, why it ends where it isn't whole, and how many bytes are asked for each frame, and at last for its end
abbrev pub Stream : Type 0 → Type 0
Stream X = List X × Option FrameFault × List ℕ

-- the first frame, if there is one, for which so many bytes are asked, and the stream after it
abbrev pub with_first : {X : Type 0} → Option X → (size : ℕ) → Stream X → Stream X
with_first None size more = ([], None, size ∷ [])
with_first (Some x) size more = (x ∷ more.0, more.1, size ∷ more.2)

-- how many bytes are asked for first
abbrev pub first_size : {X : Type 0} → Stream X → ℕ
first_size stream = unwrap_or (slice_get stream.2 0) 0

-- The call reads the first frame of the unread bytes, and the stream continues after it; or the stream ends there. It reads no
-- further, and where it fails it leaves what it asked for, or some of that.
abbrev pub ReadsFirst : {X : Type 0} → (stream : FramePos → List ℕ → Stream X) → (at at' : FramePos) → Result (Option X) FrameFault
    → (before after : Option (List ℕ)) → Type 0
ReadsFirst stream at at' result before after =
    (bytes : List ℕ) → before ≡ Some bytes → MatchResult result
    (λ frame. (rest : List ℕ) × (after ≡ Some rest) × (size : ℕ) × (rest ≡ drop size bytes)
    × (stream at bytes ≡ with_first frame size (stream at' rest)))
    (λ e. (size : ℕ) × (first_size (stream at bytes) ≡ size) × LeavesAt e size bytes after
    × IfSome (refusal e) (λ told. stream at bytes ≡ ([], Some told, size ∷ [])))
