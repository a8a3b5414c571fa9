-- What files state of the segments of each track in each section.
use Rattle.std.proofs.{Common.{◌≡◌, ◌<◌, ◌+◌, ◌*◌, ℕ, List, length, Some, Ok, refl, ◌∙◌, ap}, lemmas.List.FromFn.length-range_with_len}
use Rattle.std.specs.Prelude.{slice_get}
use Rattle.bridge_io.proofs.AndThen.{steps_of}
use Rattle.bridge_io.specs.Outside.{Files}
use Rattle.fragment_times.specs.{declared.times.SegmentTimes.SegmentTimes, Parts.scale_at, Times.{FillPlaces, all_starts, content_times}}
use Rattle.fragment_times.specs.Times.{parts_of, section_times, times_at, times_of, times_with}
use Rattle.presentation.specs.{declared.parts.Content.Content, Counting.{sections_of, tracks_of}, Presented.{Presented, content_at}}
use Rattle.presentation.specs.Presented.{listed_at, listed_in, window_of}
use Rattle.bridge_reach.proofs.Places.{chunk_at, each_at, in_range, length_chunks, length_each}

pub record IsStated (folder : List ℕ) (files : Files) (p : Presented) (times : List SegmentTimes) (s t : ℕ)
    (content : Content) : Type 0 where
  pub own : SegmentTimes
  pub there : slice_get times (s * length p.tracks + t) ≡ Some own
  pub scale : scale_at folder files content.initialization ≡ Ok own.scale
  pub starts : all_starts folder files (parts_of content.runs (listed_at p s t)) ≡ Ok own.starts

module _ (folder : List ℕ) (files : Files) (p : Presented) where
  as_many : (s : ℕ) (own : List SegmentTimes) → section_times folder files p s ≡ Ok own → length own ≡ length p.tracks
  as_many s own is = length_each (times_at folder files p s) (tracks_of p) own is ∙ length-range_with_len 0 (length p.tracks)

  pub are_filled : (times : List SegmentTimes) → times_of folder files p ≡ Ok times → FillPlaces p (length times)
  unfolding times_of
  are_filled times is =
      length_chunks (section_times folder files p) (length p.tracks) as_many (sections_of p) times is
      ∙ ap (λ n. n * length p.tracks) (length-range_with_len 0 (length p.sections))

  own_stated : (s t : ℕ) (content : Content) (own : SegmentTimes) (times : List SegmentTimes) → content_at p s t ≡ Some content
      → slice_get times (s * length p.tracks + t) ≡ Some own
      → content_times folder files (window_of p s) content ≡ Ok own → IsStated folder files p times s t content
  own_stated s t content own times has there is =
      let listed : listed_at p s t ≡ listed_in (window_of p s) content.runs = rw has refl in
      let scale = steps_of (scale_at folder files content.initialization) _ own is in
      let starts = steps_of (all_starts folder files (parts_of content.runs (listed_in (window_of p s) content.runs)))
      (λ starts. Ok (times_with scale.value starts)) own scale.then in
      let same : times_with scale.value starts.value ≡ own = (let e = starts.then in cc) in
      record {
        own = own;
        there = there;
        scale = scale.first ∙ ap (λ (o : SegmentTimes). Ok o.scale) same;
        starts = ap (λ xs. all_starts folder files (parts_of content.runs xs)) listed ∙ starts.first
            ∙ ap (λ (o : SegmentTimes). Ok o.starts) same;
      }

  pub stated_at : (times : List SegmentTimes) → times_of folder files p ≡ Ok times → (s t : ℕ) (content : Content) → s < length p.sections
      → t < length p.tracks → content_at p s t ≡ Some content → IsStated folder files p times s t content
  unfolding times_of times_at
  stated_at times is s t content in_sections in_tracks has =
      let row = chunk_at (section_times folder files p) (length p.tracks) as_many (sections_of p) times is s s
      (in_range (length p.sections) s in_sections) t in_tracks in
      let own = each_at (times_at folder files p s) (tracks_of p) row.chunk row.given t t (in_range (length p.tracks) t in_tracks) in
      own_stated s t content own.value times has (row.is ∙ own.is) (rw has at own.given)
