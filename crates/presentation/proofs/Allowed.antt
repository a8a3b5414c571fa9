-- What answers of `count` and `verify` say of later calls.
use Rattle.std.proofs.Common.{◌≡◌, ℕ, zero, suc, ◌+◌, ◌<◌, ◌++◌, [], List, length, map, slice_get, sym, ◌∙◌, ap, Some, Ok, arith, zero-add}
use Rattle.std.proofs.Common.{add-zero}
use Rattle.std.specs.List.{range_with_len}
use Rattle.presentation.specs.{Presented.Presented, Counting.{count_faults, count_of_all, range_faults, tracks_of}, Verifying.verified}
use Rattle.presentation.specs.{Verifying.{url_faults, longest_of}, Laws.{CountedAreListed, EachHasLongest, EndsAreCounted}}
use Rattle.presentation.specs.Laws.{VerifiedAreCounted, VerifiedHaveAddresses}
use Rattle.presentation.proofs.{Firsts.{none_before, value_of}, Addressed.addressed, Reached.{all_reached, ends_reached, none_first}}
use Rattle.presentation.proofs.{Reached.none_later, Verified.{counted_is, verified_is}}

pub counted_are_listed : CountedAreListed
counted_are_listed p n s t is in_sections in_tracks =
    all_reached p (none_before (count_faults p) (count_of_all p) n (sym (counted_is p) ∙ is)) t in_tracks s in_sections

pub ends_are_counted : EndsAreCounted
ends_are_counted p done s t is in_sections in_tracks = ends_reached p (none_before (range_faults p) tt done is) t in_tracks s in_sections

none_refused : (p : Presented) (unit : ℕ) (longest : List ℕ) → verified p unit ≡ Ok longest → count_faults p ++ url_faults p ≡ []
none_refused p unit longest is = none_before (count_faults p ++ url_faults p) (map (longest_of p unit) (tracks_of p)) longest
    (sym (verified_is p unit) ∙ is)

pub verified_are_counted : VerifiedAreCounted
verified_are_counted p unit s t longest is in_sections in_tracks =
    all_reached p (none_first (count_faults p) (url_faults p) (none_refused p unit longest is)) t in_tracks s in_sections

-- a member of what is made of each number
pub each_at : {X : Type 0} (f : ℕ → X) (first n k : ℕ) → k < n → slice_get (map f (range_with_len first n)) k ≡ Some (f (first + k))
each_at f first zero k below = absurd (omega arith)
each_at f first (suc n) zero below = ap (λ m. Some (f m)) (sym (add-zero first))
each_at f first (suc n) (suc k) below = let same : first + 1 + k ≡ first + suc k = omega arith in
    each_at f (first + 1) n k (omega arith) ∙ ap (λ m. Some (f m)) same

pub each_has_longest : EachHasLongest
each_has_longest p unit t longest is below =
    ap (λ ls. slice_get ls t) (sym (value_of (count_faults p ++ url_faults p) (map (longest_of p unit) (tracks_of p)) longest
    (sym (verified_is p unit) ∙ is)))
    ∙ each_at (longest_of p unit) 0 (length p.tracks) t below ∙ ap (λ m. Some (longest_of p unit m)) (zero-add t)

pub none_unaddressed : (p : Presented) (unit : ℕ) (longest : List ℕ) → verified p unit ≡ Ok longest → url_faults p ≡ []
none_unaddressed p unit longest is = none_later (count_faults p) (url_faults p) (none_refused p unit longest is)

pub have_addresses : VerifiedHaveAddresses
have_addresses p unit s t longest is in_sections in_tracks = addressed p s t unit (none_unaddressed p unit longest is) in_sections in_tracks
