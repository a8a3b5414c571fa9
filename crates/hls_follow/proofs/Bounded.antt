-- Playlists that are bounded stay so.
use Rattle.std.proofs.Common.{◌≡◌, ◌<◌, ℕ, zero, suc, Bool, true, false, List, [], ◌∷◌, map, length, get_or, All, sym, subst, arith}
use Rattle.std.proofs.lemmas.List.Elements.{All-nil, All-cons, All-head, All-tail}
use Rattle.hls_master.specs.declared.track.MasterTrack.{MasterTrack}
use Rattle.hls_media.specs.{Laws.IsBounded, declared.media.Media.Media}
use Rattle.hls_presentation.specs.{Tracks.{Source, sources}, Views.source_of, declared.kept.Source.Source as Held}
use Rattle.hls_follow.specs.{Kept.{AreBounded, IsEarly, kept_by}, Rounds.{followed_track, tracks_with}}

-- the playlist of a source is bounded
abbrev Holds : Source → Type 0
Holds s = IsBounded s.media

pub bounded_sources : (tracks : List MasterTrack) (medias : List Media) → All IsBounded medias → AreBounded (sources tracks medias)
bounded_sources [] medias are = All-nil Holds
bounded_sources (track ∷ tracks) [] are = All-nil Holds
bounded_sources (track ∷ tracks) (media ∷ medias) are =
    All-cons Holds (record { track = track; media = media }) (sources tracks medias) (All-head IsBounded media medias are)
    (bounded_sources tracks medias (All-tail IsBounded media medias are))

pub bounded_kept : (flags : List Bool) (all : List Source) → AreBounded all → AreBounded (kept_by flags all)
bounded_kept [] all are = All-nil Holds
bounded_kept (flag ∷ flags) [] are = All-nil Holds
bounded_kept (true ∷ flags) (s ∷ all) are =
    All-cons Holds s (kept_by flags all) (All-head Holds s all are) (bounded_kept flags all (All-tail Holds s all are))
bounded_kept (false ∷ flags) (s ∷ all) are = bounded_kept flags all (All-tail Holds s all are)

pub early_with : (kept : List Source) (all : List (List ℕ)) → AreBounded kept → All IsEarly (tracks_with kept all)
early_with [] all are = All-nil IsEarly
early_with (s ∷ kept) [] are = All-nil IsEarly
early_with (s ∷ kept) (times ∷ all) are =
    All-cons IsEarly (followed_track s times) (tracks_with kept all) (All-head Holds s kept are).sequence
    (early_with kept all (All-tail Holds s kept are))

bounded_or : (kept : List Held) (i : ℕ) (d : Held) → i < length kept → AreBounded (map source_of kept)
    → IsBounded (source_of (get_or kept i d)).media
bounded_or [] i d within are = absurd (omega arith)
bounded_or (s ∷ kept) zero d within are = All-head Holds (source_of s) (map source_of kept) are
bounded_or (s ∷ kept) (suc i) d within are = bounded_or kept i d (omega arith) (All-tail Holds (source_of s) (map source_of kept) are)

pub bounded_at : (kept : List Held) (i : ℕ) (d : Held) → i < length kept → d ≡ get_or kept i d → AreBounded (map source_of kept)
    → IsBounded (source_of d).media
bounded_at kept i d within at are =
    subst (λ (s : Held). IsBounded (source_of s).media) (sym at) (bounded_or kept i d within are)
