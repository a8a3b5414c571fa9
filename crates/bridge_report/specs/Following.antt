-- The course of a followed presentation: a step for each update frame, accepted or rejected.
use Rattle.bridge_courses.specs.declared.status.Verdict.TheVariants as verdict
use Rattle.std.specs.Prelude.{ℕ, ◌+◌, true, List, [], ◌∷◌, ◌++◌, codes, decimal, Option, Some, None}
use Rattle.bridge_io.specs.{InOrder.put_all, Outside.Files}
use Rattle.bridge_courses.specs.{declared.status.Verdict.Verdict, Courses.{Step, End, Course}, Steps.{with_step, only_end}}

-- What is followed, by its layers: S is the type of the state after the accepted update frames, and X that of an update
-- frame. `refusal` is why a frame is rejected, as in the report. `files` are those that are written for the state after an
-- accepted one, `appended` is the number in its line, and `makes` how many segments are made for it, or at most where it is
-- rejected.
pub record Followed (S X : Type 0) : Type 0 where
  pub refusal : S → X → Option (List ℕ)
  pub after : S → X → S
  pub files : S → List (List ℕ × List ℕ)
  pub appended : S → X → ℕ
  pub makes : S → X → ℕ

-- ---- lines

-- a frame is reported by its index in the stream, counted from 0
unfoldable pub accepted_line : (frame appended : ℕ) → List ℕ
accepted_line frame appended = codes "frame " ++ decimal frame ++ codes " ok appended=" ++ decimal appended ++ codes "\n"

unfoldable pub refused_frame : (frame : ℕ) (refusal : List ℕ) → List ℕ
refused_frame frame refusal = codes "frame " ++ decimal frame ++ codes " refused " ++ refusal ++ codes "\n"

unfoldable pub frames_text : (frames : ℕ) → List ℕ
frames_text frames = codes "done frames=" ++ decimal frames

unfoldable pub accepted_text : (accepted : ℕ) → List ℕ
accepted_text accepted = codes " accepted=" ++ decimal accepted ++ codes "\n"

-- the last line where the stream is read to its end
unfoldable pub stream_line : (frames accepted : ℕ) → List ℕ
stream_line frames accepted = frames_text frames ++ accepted_text accepted

-- ---- one frame

abbrev pub unless_refused : {A : Type 0} → Option (List ℕ) → (accepted refused : A) → A
unless_refused None accepted refused = accepted
unless_refused (Some refusal) accepted refused = refused

abbrev pub line_by : (frame appended : ℕ) → Option (List ℕ) → List ℕ
line_by frame appended None = accepted_line frame appended
line_by frame appended (Some refusal) = refused_frame frame refusal

-- the step of a frame: a rejected one writes no file
abbrev pub step_of : {S X : Type 0} → Followed S X → S → (frame : ℕ) → X → Step
step_of f s i x = record {
  files = unless_refused (f.refusal s x) (f.files (f.after s x)) [];
  lines = line_by i (f.appended s x) (f.refusal s x);
  least = unless_refused (f.refusal s x) (f.makes s x) 0;
  most = f.makes s x;
  reads = true;
}

-- the state after a frame: a rejected one changes nothing
abbrev pub next_of : {S X : Type 0} → Followed S X → S → X → S
next_of f s x = unless_refused (f.refusal s x) (f.after s x) s

abbrev pub accepted_with : {S X : Type 0} → Followed S X → S → X → (accepted : ℕ) → ℕ
accepted_with f s x accepted = unless_refused (f.refusal s x) (accepted + 1) accepted

-- ---- all frames

-- a stream that isn't valid is rejected with a line
abbrev pub verdict_by : Option (List ℕ) → Verdict
verdict_by None = verdict.Done
verdict_by (Some line) = verdict.Refused

abbrev pub last_line : (frames accepted : ℕ) → Option (List ℕ) → List ℕ
last_line frames accepted None = stream_line frames accepted
last_line frames accepted (Some line) = line

abbrev pub end_by : (frames accepted : ℕ) → Option (List ℕ) → End
end_by frames accepted fault = record { verdict = verdict_by fault; lines = last_line frames accepted fault; reads = true }

-- the course of the remaining frames, after some frames, some of which were accepted
unfoldable pub course_from : {S X : Type 0} → Followed S X → S → (frames accepted : ℕ) → List X → (fault : Option (List ℕ)) → Course
course_from f s i a [] fault = only_end (end_by i a fault)
course_from f s i a (x ∷ xs) fault = with_step (step_of f s i x) (course_from f (next_of f s x) (i + 1) (accepted_with f s x a) xs fault)

-- ---- frames that are judged by the store's files

-- the same, where each frame is judged by the files as they are then: those that were written for frames before belong to them
unfoldable pub judged_from : {S X : Type 0} → (told : Files → Followed S X) → Files → S → (frames accepted : ℕ) → List X
    → (fault : Option (List ℕ)) → Course
judged_from told files s i a [] fault = only_end (end_by i a fault)
judged_from told files s i a (x ∷ xs) fault = let f = told files in let step = step_of f s i x in
    with_step step (judged_from told (put_all step.files files) (next_of f s x) (i + 1) (accepted_with f s x a) xs fault)
