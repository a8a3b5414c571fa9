-- Runs of segments one after another.
use Rattle.std.proofs.Common.{◌≡◌, ℕ, suc, ◌+◌, zero, ◌<◌, ◌^◌, Bool, true, false, List, [], ◌∷◌, ◌++◌, replicate, Option, None, refl, ap, ◌∙◌}
use Rattle.std.proofs.{Common.{arith, inl, inr}, lemmas.Bool.{cases_Bool, eqb-true}, lemmas.Bool.Decides.nat_tests}
use Rattle.std.proofs.lemmas.List.{length-replicate}
use Rattle.dash_writer.specs.{Runs.longest_runs, Segments.{joins, s_element, s_elements}, SegmentRuns.{IsAlone, ended, gone_on, runs_left}}
use Rattle.dash_writer.specs.{declared.times.SegmentRun.SegmentRun, Written.{elements_text, is_childless}}
use Rattle.dash_writer.proofs.{Nodes.elements-append, Neighbours.{apart, begins, repeats_alone, repeats_apart, replicate-more}}

same_as_itself : (n : ℕ) → joins true n n ≡ true
same_as_itself n = grind (arith, nat_tests)

other_way : (one other : ℕ) → joins true other one ≡ false → joins true one other ≡ false
other_way one other isnt = grind (arith, nat_tests)

-- the elements where the first run is known
first_is : (time : Option ℕ) (n duration : ℕ) (runs : List (List ℕ)) → s_elements time ((duration ∷ replicate n duration) ∷ runs)
    ≡ s_element time duration n ∷ s_elements None runs
first_is time n duration runs = ap (λ k. s_element time duration k ∷ s_elements None runs) (length-replicate n duration)

-- a segment alone, before another one and before none
alone_goes_on : (time : Option ℕ) (duration repeats next : ℕ) (durations : List ℕ) → repeats ≡ 0
    → s_elements time (longest_runs (joins false) (duration ∷ (replicate repeats duration ++ (next ∷ durations))))
    ≡ s_element time duration repeats ∷ s_elements None (longest_runs (joins false) (next ∷ durations))
alone_goes_on time duration zero next durations is = ap (s_elements time) (apart (joins false) duration next durations refl)
alone_goes_on time duration (suc n) next durations is = absurd (omega arith)

alone_ends : (time : Option ℕ) (duration repeats : ℕ) → repeats ≡ 0
    → s_elements time (longest_runs (joins false) (duration ∷ (replicate repeats duration ++ []))) ≡ s_element time duration repeats ∷ []
alone_ends time duration zero is = refl
alone_ends time duration (suc n) is = absurd (omega arith)

-- a further segment
run_goes_on : (joined : Bool) (run : SegmentRun) (duration : ℕ) (durations : List ℕ) → IsAlone joined run
    → runs_left joined run (duration ∷ durations) ≡ ended joined run duration ++ runs_left joined (gone_on joined run duration) durations
run_goes_on false run duration durations alone = alone_goes_on run.time run.duration run.repeats duration durations (alone refl)
run_goes_on true run duration durations alone = elim (cases_Bool (joins true duration run.duration)) [
  | inl is ↦ let same : duration ≡ run.duration = eqb-true duration run.duration is in
      rw is (rw same (ap (λ ds. s_elements run.time (longest_runs (joins true) (run.duration ∷ ds)))
      (replicate-more run.repeats run.duration durations)))
  | inr isnt ↦ rw isnt (ap (s_elements run.time) (repeats_apart (joins true) run.repeats run.duration duration durations
      (same_as_itself run.duration) (other_way run.duration duration isnt))
      ∙ first_is run.time run.repeats run.duration (longest_runs (joins true) (duration ∷ durations)))
]

-- no further segment
pub run_ends : (joined : Bool) (run : SegmentRun) → IsAlone joined run
    → runs_left joined run [] ≡ s_element run.time run.duration run.repeats ∷ []
run_ends false run alone = alone_ends run.time run.duration run.repeats (alone refl)
run_ends true run alone = ap (s_elements run.time) (repeats_alone (joins true) run.repeats run.duration (same_as_itself run.duration))
    ∙ first_is run.time run.repeats run.duration []

pub more_runs : (joined : Bool) (run : SegmentRun) (duration : ℕ) (durations : List ℕ) → IsAlone joined run
    → elements_text (runs_left joined run (duration ∷ durations)) ≡ elements_text (ended joined run duration) ++ elements_text
    (runs_left joined (gone_on joined run duration) durations)
more_runs joined run duration durations alone = ap elements_text (run_goes_on joined run duration durations alone)
    ∙ elements-append (ended joined run duration) (runs_left joined (gone_on joined run duration) durations)

pub still_alone : (joined : Bool) (run : SegmentRun) (duration : ℕ) → IsAlone joined (gone_on joined run duration)
still_alone false run duration is = refl
still_alone true run duration is = absurd (cc)

-- and there is room for the number of its repeats
pub room_left : (joined : Bool) (run : SegmentRun) (duration left : ℕ) → run.repeats + suc left < 2 ^ 64
    → (gone_on joined run duration).repeats + left < 2 ^ 64
room_left joined run duration left room = elim (cases_Bool (joins joined duration run.duration)) [
  | inl is ↦ rw is (omega (arith, room))
  | inr isnt ↦ rw isnt (omega (arith, room))
]

-- a run has an element
pub some_runs : (joined : Bool) (run : SegmentRun) (durations : List ℕ) → is_childless (runs_left joined run durations) ≡ false
some_runs joined run durations = let first = begins (joins joined) run.duration
    (longest_runs (joins joined) (replicate run.repeats run.duration ++ durations)) in
    rw first.2 refl
