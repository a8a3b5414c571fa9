-- What a run leaves after a read error, and for the accepted update frames.
use Rattle.bridge_courses.specs.declared.status.Status.TheVariants as status
use Rattle.std.specs.Prelude.{◌≡◌, ℕ, List, [], ◌∷◌, ◌++◌, take, Option, Some}
use Rattle.bridge_io.specs.{Outside.{Files, Changes}, InOrder.put_all}
use Rattle.bridge_courses.specs.{Courses.{World, files_to}, Executions.IsExecution, Laws.ReadsFirst}
use Rattle.bridge_report.specs.{Following.{Followed, unless_refused, course_from, judged_from}, Outcomes.{Outcome, course_by}}

-- ---- commands that read everything before they write

abbrev pub CommandsReadFirst : Type 0
CommandsReadFirst = (outcome : Outcome) → ReadsFirst (course_by outcome)

-- a run of such a command that ends with a read error wrote nothing
abbrev pub ReadFaultOfCommandsKeepsFiles : Type 0
ReadFaultOfCommandsKeepsFiles = (outcome : Outcome) (before after : World) → IsExecution (course_by outcome) status.ReadFault before after →
    after.files ≡ before.files

-- ---- followed presentations

-- the frames that are accepted in turn
abbrev pub accepted_in : {S X : Type 0} → Followed S X → S → List X → List X
accepted_in f s [] = []
accepted_in f s (x ∷ xs) = unless_refused (f.refusal s x) (x ∷ accepted_in f (f.after s x) xs) (accepted_in f s xs)

-- the state after accepted frames, and the files that are written for them
abbrev pub state_after : {S X : Type 0} → Followed S X → S → List X → S
state_after f s [] = s
state_after f s (x ∷ xs) = state_after f (f.after s x) xs

abbrev pub files_along : {S X : Type 0} → Followed S X → S → List X → List (List ℕ × List ℕ)
files_along f s [] = []
files_along f s (x ∷ xs) = f.files (f.after s x) ++ files_along f (f.after s x) xs

-- the steps of some first frames write the files of those that are accepted among them
abbrev pub FilesAreOfAccepted : Type 0 → Type 0 → Type 0
FilesAreOfAccepted S X = (f : Followed S X) (s : S) (i a : ℕ) (xs : List X) (fault : Option (List ℕ)) (n : ℕ) →
    files_to n (course_from f s i a xs fault) ≡ files_along f s (accepted_in f s (take n xs))

-- a file that is written again for each accepted frame
abbrev pub IsRewritten : {S X : Type 0} → Followed S X → (name : List ℕ) → (text : S → List ℕ) → Type 0
IsRewritten {S} {X} f name text = (s : S) (x : X) (files : Files) → put_all (f.files (f.after s x)) files name ≡ Some (text (f.after s x))

-- where some frame was accepted, such a file has the text of the state after the accepted frames
abbrev pub FileIsOfAccepted : Type 0 → Type 0 → Type 0
FileIsOfAccepted S X = (f : Followed S X) (name : List ℕ) (text : S → List ℕ) → IsRewritten f name text
    → (s : S) (i a : ℕ) (xs : List X) (fault : Option (List ℕ)) (n : ℕ) (x : X) (more : List X) (first last : Files)
    → accepted_in f s (take n xs) ≡ x ∷ more → Changes (put_all (files_to n (course_from f s i a xs fault))) (Some first) (Some last)
    → last name ≡ Some (text (state_after f s (x ∷ more)))

-- ---- two definitions of the same

-- What one says about a history, the other says about the state after the history.
pub record Mirrors {S T X : Type 0} (f : Followed S X) (g : Followed T X) (left : S → T) (s : S) (x : X) : Type 0 where
  pub refusal : f.refusal s x ≡ g.refusal (left s) x
  pub after : left (f.after s x) ≡ g.after (left s) x
  pub files : f.files (f.after s x) ≡ g.files (g.after (left s) x)
  pub appended : f.appended s x ≡ g.appended (left s) x
  pub makes : f.makes s x ≡ g.makes (left s) x

-- then both have the same courses
abbrev pub MirrorsHaveOneCourse : Type 0 → Type 0 → Type 0 → Type 0
MirrorsHaveOneCourse S T X = (f : Followed S X) (g : Followed T X) (left : S → T) → ((s : S) (x : X) → Mirrors f g left s x)
    → (s : S) (i a : ℕ) (xs : List X) (fault : Option (List ℕ)) → course_from f s i a xs fault ≡ course_from g (left s) i a xs fault

-- ---- frames that are judged by the store's files

-- where the files don't matter, it is the course of the frames alone
abbrev pub JudgedAlike : Type 0 → Type 0 → Type 0
JudgedAlike S X = (f : Followed S X) (files : Files) (s : S) (i a : ℕ) (xs : List X) (fault : Option (List ℕ))
    → judged_from (λ all. f) files s i a xs fault ≡ course_from f s i a xs fault
