-- The segments of presentations can be gone over, whichever manifest they come from.
use Rattle.std.proofs.Common.{◌≡◌, ℕ, ◌+◌, ◌*◌, [], length, All, Option, None, Some, IfSome, option_map, refl, sym, ap, subst}
use Rattle.std.proofs.lemmas.List.Elements.{All-weaker}
use Rattle.std.specs.Option.{option_map_or}
use Rattle.presentation.specs.{declared.parts.Content.Content, Laws.HasAddress, Origins.IsAddressed}
use Rattle.presentation.specs.{Presented.{IsEnded, Presented, content_at, listed_at, listed_in, window_of}, Listable.PlaylistsAreListable}
use Rattle.presentation.proofs.OwnListed.{addressed_at, have_addresses}

own_addressed : (p : Presented) (s t : ℕ) (o : Option Content) → content_at p s t ≡ o
    → All (λ (content : Content). IsAddressed content.runs) p.contents
    → IfSome o (λ content. All (HasAddress content.runs) (listed_at p s t))
own_addressed p s t None is all = tt
own_addressed p s t (Some content) is all =
    let here = addressed_at p.contents (s * length p.tracks + t) content.runs all
    (ap (option_map (λ (content : Content). content.runs)) is) in
    subst (λ (o : Option Content). All (HasAddress content.runs) (option_map_or (λ content. listed_in (window_of p s) content.runs) o []))
    (sym is)
    (have_addresses content.runs (window_of p s) here)

pub playlists_are_listable : PlaylistsAreListable
playlists_are_listable p from = record {
  ended = All-weaker (λ (content : Content). IsAddressed content.runs) IsEnded (λ content is. is.ended) p.contents from.addressed;
  addressed = λ s t in_sections in_tracks. own_addressed p s t (content_at p s t) refl from.addressed;
}
