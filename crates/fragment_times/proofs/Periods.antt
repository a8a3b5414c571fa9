-- How long Periods last, one after another.
use Rattle.std.proofs.Common.{◌≡◌, ◌<◌, ◌≤◌, ◌+◌, ◌-◌, ◌*◌, ℕ, suc, true, List, nat_le, drop, take, sum, ◌∙◌, ap, arith}
use Rattle.std.proofs.{lemmas.Bool.Decides.nat_tests, lemmas.List.Sums.sum_by-cons}
use Rattle.segment_forms.specs.declared.form.Form.{Form}
use Rattle.fragment_times.specs.{declared.times.SegmentTimes.SegmentTimes, Durations.{lengths, section_length}}

-- so many tracks of one section, and those of the sections behind it
pub one_less : (sections s tracks : ℕ) → s < sections → (sections - s) * tracks ≡ tracks + (sections - (s + 1)) * tracks
one_less sections s tracks within =
    let left : sections - s ≡ suc (sections - (s + 1)) = omega arith in
    ap (λ n. n * tracks) left ∙ omega arith

-- the next section
pub next_length : (form : Form) (tracks sections s : ℕ) (times : List SegmentTimes) (rows : List (List ℕ)) → s < sections
    → sum (lengths form tracks (sections - s) times rows) ≡ section_length form (take tracks times) (take tracks rows)
    + sum (lengths form tracks (sections - (s + 1)) (drop tracks times) (drop tracks rows))
next_length form tracks sections s times rows within =
    let left : sections - s ≡ suc (sections - (s + 1)) = omega arith in
    ap (λ n. sum (lengths form tracks n times rows)) left
    ∙ sum_by-cons (λ n. n) (section_length form (take tracks times) (take tracks rows))
    (lengths form tracks (sections - (s + 1)) (drop tracks times) (drop tracks rows))

pub reached : (limit total later all : ℕ) → total + later ≡ all → limit ≤ total → nat_le limit all ≡ true
reached limit total later all is enough = grind (arith, nat_tests)
