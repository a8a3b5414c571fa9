-- A stream has few frames.
use Rattle.std.proofs.Common.{◌≡◌, ◌≤◌, ◌+◌, ◌==◌, ℕ, zero, suc, List, [], ◌∷◌, length, drop, Option, None, Some, Result, Ok, Err, inl, inr}
use Rattle.std.proofs.{Common.{refl, sym, ap, ◌∙◌, arith}, lemmas.Bool.cases_Bool, lemmas.Bool.Decides.nat_tests}
use Rattle.bridge_io.specs.declared.place.Place.{Place}
use Rattle.bridge_jobs.specs.{Headers.header_of, declared.header.Header.Header, declared.frame.Frame.Frame}
use Rattle.bridge_jobs.specs.{declared.frame.FramePos.FramePos, declared.frame.FrameFault.FrameFault, Frames.{Framed, behind, body_of}}
use Rattle.bridge_jobs.specs.Frames.{counted, frame_by_line, framed_as, framed_if, frames_of, frames_within, header_at, line_within}
use Rattle.bridge_jobs.specs.Frames.{most_frames, most_header, next_frame, next_line, some_of, start, stream_by}
use Rattle.bridge_jobs.specs.Frames.{frame_size}

counted_one : (n : ℕ) (r : Result (Frame × Place × List ℕ) FrameFault) (framed : Framed) → counted n r ≡ Ok framed
    → framed.after.frames ≡ n + 1
counted_one n (Ok x) framed is =
    let same : framed_as x.0 (record { place = x.1; frames = n + 1 }) x.2 ≡ framed = cc in ap (λ (f : Framed). f.after.frames) (sym same)
counted_one n (Err e) framed is = absurd (cc)

framed_one : (at : FramePos) (line bytes : List ℕ) (h : Result Header FrameFault) (framed : Framed) → framed_if at line bytes h ≡ Ok framed
    → framed.after.frames ≡ at.frames + 1
framed_one at line bytes (Ok header) framed is = counted_one at.frames (body_of (behind at.place line) header bytes) framed is
framed_one at line bytes (Err e) framed is = absurd (cc)

line_one : (at : FramePos) (line bytes : List ℕ) (framed : Framed) (r : Result Framed FrameFault) → frame_by_line at line bytes ≡ r
    → some_of r ≡ Ok (Some framed) → framed.after.frames ≡ at.frames + 1
unfolding frame_by_line
line_one at line bytes framed (Ok found) read is =
    let same : found ≡ framed = cc in
    framed_one at line bytes (header_at most_header header_of at.place line) framed (read ∙ ap (λ (f : Framed). Ok f) same)
line_one at line bytes framed (Err e) read is = absurd (cc)

-- a frame that is read is one more, of so many at most
record IsOneMore (at after : FramePos) : Type 0 where
  one : after.frames ≡ at.frames + 1
  within : after.frames ≤ most_frames

one_more : (at : FramePos) (bytes : List ℕ) (framed : Framed) → at.frames ≤ most_frames → next_frame at bytes ≡ Ok (Some framed)
    → IsOneMore at framed.after
unfolding next_frame next_line
one_more at [] framed few is = absurd (cc)
one_more at (b ∷ bytes) framed few is = elim (cases_Bool (at.frames == most_frames)) [
  | inl last ↦ absurd (let e = rw last at is in cc)
  | inr more ↦
      let line : List ℕ = line_within most_header (b ∷ bytes) in
      let one = line_one at line (drop (length line) (b ∷ bytes)) framed (frame_by_line at line (drop (length line) (b ∷ bytes))) refl
      (rw more at is) in
      record { one = one; within = grind (arith, nat_tests, one, more, few) }
]

abbrev StaysFew : (fuel : ℕ) → FramePos → List ℕ → Type 0
StaysFew fuel at bytes = length (frames_within fuel at bytes).frames + at.frames ≤ most_frames

few_by : (fuel : ℕ) (at : FramePos) (bytes : List ℕ) (r : Result (Option Framed) FrameFault) → at.frames ≤ most_frames
    → next_frame at bytes ≡ r
    → ((framed : Framed) → framed.after.frames ≤ most_frames → StaysFew fuel framed.after framed.rest)
    → length (stream_by (frame_size at bytes) (λ framed. frames_within fuel framed.after framed.rest) r).frames + at.frames ≤ most_frames
few_by fuel at bytes (Ok None) few is each = omega (arith, few)
few_by fuel at bytes (Err e) few is each = omega (arith, few)
few_by fuel at bytes (Ok (Some framed)) few is each =
    let more = one_more at bytes framed few is in
    let rest = each framed more.within in
    omega (arith, rest, more.one)

few_within : (fuel : ℕ) (at : FramePos) (bytes : List ℕ) → at.frames ≤ most_frames → StaysFew fuel at bytes
unfolding frames_within
few_within zero at bytes few = omega (arith, few)
few_within (suc fuel) at bytes few =
    few_by fuel at bytes (next_frame at bytes) few refl (λ framed less. few_within fuel framed.after framed.rest less)

pub few_frames : (bytes : List ℕ) → length (frames_of bytes).frames ≤ most_frames
few_frames bytes = omega (arith, few_within (suc (length bytes)) start bytes (omega arith))
