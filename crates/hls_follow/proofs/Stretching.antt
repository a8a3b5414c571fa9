-- Stretches, one after another.
use Rattle.std.proofs.Common.{◌≡◌, ◌<◌, ◌+◌, ℕ, List, [], ◌∷◌, ◌++◌, map, length, take, drop, get_or, slice_get, refl, sym, ◌∙◌, ap}
use Rattle.std.proofs.{Common.{append_assoc, option_map}, lemmas.List.{drop_more, map-append}, lemmas.Option.get_or_from_slice_get}
use Rattle.std.proofs.lemmas.Option.{slice_get-map, slice_get_read, unwrap_or-slice_get}
use Rattle.hls_media.specs.declared.media.MediaSegment.{MediaSegment}
use Rattle.hls_presentation.specs.{Sections.{group_at, groups_in}, Views.source_of, declared.kept.Source.Source as Held}
use Rattle.hls_follow.specs.{declared.state.FollowedTrack.FollowedTrack, Stretches.{Stretch, known_times, stretches_from, stretches_of_all}}
use Rattle.hls_follow.proofs.Keeping.{left_at}

-- a member more, of what is mapped so far
pub mapped_turn : {X Y : Type 0} (f : X → Y) (before new : List X) (x : X) (y : Y) (left rest all : List Y) → new ≡ before ++ x ∷ []
    → f x ≡ y → left ≡ y ∷ rest → map f before ++ left ≡ all → map f new ++ rest ≡ all
mapped_turn f before new x y left rest all is same next so_far =
    ap (λ xs. map f xs ++ rest) is ∙ ap (λ ys. ys ++ rest) (map-append f before (x ∷ [])) ∙ append_assoc (map f before) (f x ∷ []) rest
    ∙ ap (λ y. map f before ++ y ∷ rest) same ∙ ap (λ ys. map f before ++ ys) (sym next) ∙ so_far

pub turn : {X : Type 0} (before new : List X) (x y : X) (left rest all : List X) → new ≡ before ++ x ∷ [] → x ≡ y → left ≡ y ∷ rest
    → before ++ left ≡ all → new ++ rest ≡ all
turn before new x y left rest all is same next so_far =
    ap (λ xs. xs ++ rest) is ∙ append_assoc before (x ∷ []) rest ∙ ap (λ y. before ++ y ∷ rest) same
    ∙ ap (λ ys. before ++ ys) (sym next) ∙ so_far

-- ---- a section more of a track

abbrev pub cut : (segments : List MediaSegment) (left : List ℕ) → Stretch
cut segments left = record { segments = segments; known = take (length segments) left }

pub next_stretch : (groups : List (List MediaSegment)) (i : ℕ) (left : List ℕ) (segments : List MediaSegment) → i < length groups
    → segments ≡ group_at i groups
    → stretches_from left (drop i groups) ≡ cut segments left ∷ stretches_from (drop (length segments) left) (drop (i + 1) groups)
next_stretch groups i left segments within is =
    let others = λ (g : List MediaSegment). cut g left ∷ stretches_from (drop (length g) left) (drop (i + 1) groups) in
    ap (stretches_from left) (drop_more groups i [] within) ∙ ap others (sym (is ∙ unwrap_or-slice_get groups i []))

-- ---- a track more

module _ (kept : List Held) (i : ℕ) (d : Held) (within : i < length kept) (at : d ≡ get_or kept i d) where
  pub next_track : (formers : List FollowedTrack)
      → stretches_of_all formers i (map source_of (drop i kept))
      ≡ stretches_from (known_times (slice_get formers i) (source_of d).media) (groups_in (source_of d))
      ∷ stretches_of_all formers (i + 1) (map source_of (drop (i + 1) kept))
  next_track formers = ap (λ (kept : List Held). stretches_of_all formers i (map source_of kept)) (left_at kept i d within at)

  pub groups_here : (groups : List (List (List MediaSegment))) (own : List (List MediaSegment))
      → groups ≡ map groups_in (map source_of kept) → own ≡ get_or groups i own → own ≡ groups_in (source_of d)
  groups_here groups own are is =
      is ∙ ap (λ groups. get_or groups i own) are
      ∙ get_or_from_slice_get (map groups_in (map source_of kept)) i (groups_in (source_of d)) own
      (slice_get-map groups_in (map source_of kept) i
      ∙ ap (option_map groups_in) (slice_get-map source_of kept i
      ∙ ap (option_map source_of) (slice_get_read kept (length kept) i d refl within at)))
