-- How many segments a run of `follow` makes.
use Rattle.bridge_io.specs.declared.outside.Fail.TheVariants as fail
use Rattle.bridge_courses.specs.declared.ending.Ending.TheVariants as ending
use Rattle.std.specs.Prelude.{◌⊎◌, ◌≤◌, ℕ, suc, ◌+◌, List, [], ◌∷◌, length, take, Option, None}
use Rattle.std.proofs.Common.{inl, inr}
use Rattle.bridge_jobs.specs.declared.frame.Frame.{Frame}
use Rattle.bridge_jobs.specs.declared.jobs.FollowJob.{FollowJob}
use Rattle.bridge_courses.specs.{Courses.{Course, World}, Executions.{IsExecution, Works}, declared.ending.Ending.Ending}
use Rattle.bridge_courses.specs.declared.status.Status.{Status}
use Rattle.bridge_report.specs.Following.{Followed, next_of, unless_refused}
use Rattle.bridge_playlists.specs.declared.place.StorePlace.{StorePlace}
use Rattle.bridge_live.specs.declared.channel.Channel.{Channel}
use Rattle.laws_of_jobs.specs.Histories.{IsFollowing, followed_at, frames_in}

-- ---- for some frames

-- the sum of the numbers in the lines of the accepted ones
abbrev pub appended_along : {S X : Type 0} → Followed S X → S → List X → ℕ
appended_along f s [] = 0
appended_along f s (x ∷ xs) = unless_refused (f.refusal s x) (f.appended s x) 0 + appended_along f (next_of f s x) xs

-- how many segments those rejected frames were to append for which a segment's URL was rejected
abbrev pub refused_along : {S X : Type 0} → Followed S X → S → List X → ℕ
refused_along f s [] = 0
refused_along f s (x ∷ xs) = unless_refused (f.refusal s x) 0 (f.makes s x) + refused_along f (next_of f s x) xs

-- for the first n frames of an input
abbrev pub appended_to : Followed (Option Channel) Frame → (n : ℕ) (input : List ℕ) → ℕ
appended_to f n input = appended_along f None (take n (frames_in input))

abbrev pub refused_to : Followed (Option Channel) Frame → (n : ℕ) (input : List ℕ) → ℕ
refused_to f n input = refused_along f None (take n (frames_in input))

-- All segments that the accepted ones of the first n frames append were made, and at most some of each rejected one.
pub record MadeOf (f : Followed (Option Channel) Frame) (n : ℕ) (input : List ℕ) (before after : ℕ) : Type 0 where
  pub least : before + appended_to f n input ≤ after
  pub most : after ≤ before + appended_to f n input + refused_to f n input

-- and at most some of the frame after them, or all
pub record MadeBeyond (f : Followed (Option Channel) Frame) (n : ℕ) (input : List ℕ) (before after : ℕ) : Type 0 where
  pub least : before + appended_to f n input ≤ after
  pub most : after ≤ before + appended_to f (suc n) input + refused_to f (suc n) input

-- ---- for a run

-- out of memory in a frame of which no file is begun, or in one of which some are
abbrev pub MadeWanting : {A B : Type 0} → A ⊎ B → Followed (Option Channel) Frame → (n : ℕ) (input : List ℕ) (before after : ℕ) → Type 0
MadeWanting (inl none) f n input before after = MadeBeyond f n input before after
MadeWanting (inr some) f n input before after = MadeOf f (suc n) input before after

-- How many segments were made, by how the work ended. The lines of the first frames are reported, as far as the run reached.
-- Where the store failed in the files of the next one, or the sink in its line, that one counts, too; a failed read counts
-- for none.
abbrev pub MadeBy : Followed (Option Channel) Frame → (input : List ℕ) (course : Course) (told : Ending) (before mid : World)
    → Works course told before mid → (made : ℕ) → Type 0
MadeBy f input course (ending.Ended v line) before mid works made = MadeOf f (length (frames_in input)) input before.made made
MadeBy f input course ending.Words before mid works made = ⊥
MadeBy f input course ending.ReadFault before mid works made = MadeOf f works.reaches.n input before.made made
MadeBy f input course ending.WriteFault before mid works made = MadeOf f (suc works.reaches.n) input before.made made
MadeBy f input course ending.Memory before mid works made = MadeWanting works.left f works.reaches.n input before.made made
MadeBy f input course (ending.Cut fail.Failed) before mid works made = MadeOf f (suc works.0.reaches.n) input before.made made
MadeBy f input course (ending.Cut fail.Memory) before mid works made = MadeOf f (suc works.reaches.n) input before.made made

-- however a run ends
abbrev pub FollowCountsSegments : Type 0
FollowCountsSegments = (words : List (List ℕ)) (job : FollowJob) (place : StorePlace) (input : List ℕ) (course : Course) (end : Status)
    (before after : World) → IsFollowing words job place input course → (run : IsExecution course end before after)
    → MadeBy (followed_at job place) input course run.how before run.mid run.works after.made
