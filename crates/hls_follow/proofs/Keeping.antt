-- Kept tracks, one after another.
use Rattle.std.proofs.Common.{◌≡◌, ◌<◌, ◌+◌, ℕ, Bool, true, false, List, [], ◌∷◌, length, drop, get_or, slice_get, zero, suc, All, Option}
use Rattle.std.proofs.{Common.{Some, None, IfSome, refl, sym, ◌∙◌, ap, arith}, lemmas.List.drop_more, lemmas.Option.slice_get_past}
use Rattle.std.proofs.{lemmas.Option.slice_get_read, lemmas.List.Elements.{All-head, All-tail}}
use Rattle.std.specs.{Borrow.Bor, Option.option_copied, Slice.IsItemAt}
use Rattle.hls_master.specs.declared.track.MasterTrack.{MasterTrack}
use Rattle.hls_media.specs.declared.media.Media.{Media}
use Rattle.hls_presentation.specs.{Tracks.sources, declared.kept.Source.Source as Held}
use Rattle.hls_follow.specs.{declared.state.FollowedTrack.FollowedTrack, Kept.{IsEarly, kept_by}}
use Rattle.hls_follow.specs.{declared.round.Placed.Placed, Rounds.{moved_from, placed_from, tracks_by, tracks_with}}

-- what is lent of a place
pub lent_at : {X : Type 0} (xs : List X) (i : ℕ) (r : Option (Bor X)) → IsItemAt xs i r → option_copied r ≡ slice_get xs i
lent_at xs i None is = sym (slice_get_past xs i is.3)
lent_at xs i (Some x) is = sym (slice_get_read xs (length xs) i x.now refl is.3.0 is.1)

-- what is left at a place begins with what stands there
pub left_at : (kept : List Held) (i : ℕ) (d : Held) → i < length kept → d ≡ get_or kept i d → drop i kept ≡ d ∷ drop (i + 1) kept
left_at kept i d within at = drop_more kept i d within ∙ ap (λ (s : Held). s ∷ drop (i + 1) kept) (sym at)

pub kept_none : (flags : List Bool) → kept_by flags [] ≡ []
kept_none [] = refl
kept_none (flag ∷ flags) = refl

-- the playlists that are moved are those of the kept tracks
moved : (flags : List Bool) (tracks : List MasterTrack) (medias : List Media) (all : List (List ℕ)) → length medias ≡ length tracks
    → tracks_by flags medias all ≡ tracks_with (kept_by flags (sources tracks medias)) all
moved [] tracks [] all same = refl
moved [] tracks (media ∷ medias) all same = refl
moved (flag ∷ flags) [] [] all same = refl
moved (flag ∷ flags) (track ∷ tracks) [] all same = refl
moved (flag ∷ flags) [] (media ∷ medias) all same = absurd (omega (arith, same))
moved (false ∷ flags) (track ∷ tracks) (media ∷ medias) all same = moved flags tracks medias all (omega (arith, same))
moved (true ∷ flags) (track ∷ tracks) (media ∷ medias) [] same = refl
moved (true ∷ flags) (track ∷ tracks) (media ∷ medias) (times ∷ all) same =
    ap (λ (others : List FollowedTrack). record { media = media; times = times } ∷ others)
    (moved flags tracks medias all (omega (arith, same)))

pub moved_is : (p : Placed) (tracks : List MasterTrack) (medias : List Media) → length medias ≡ length tracks
    → moved_from p medias ≡ placed_from p (sources tracks medias)
moved_is p tracks medias same =
    ap (λ (ts : List FollowedTrack). record { kept = p.flags; tracks = ts; mpd = p.mpd }) (moved p.flags tracks medias p.times same)

pub early_at : (formers : List FollowedTrack) (place : ℕ) → All IsEarly formers → IfSome (slice_get formers place) IsEarly
early_at [] place are = tt
early_at (track ∷ formers) zero are = All-head IsEarly track formers are
early_at (track ∷ formers) (suc place) are = early_at formers place (All-tail IsEarly track formers are)
