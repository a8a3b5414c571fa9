-- Playlists that are taken as if they were ended are as bounded and as many.
use Rattle.std.proofs.Common.{◌≡◌, ◌+◌, ℕ, List, [], ◌∷◌, fold, length, map, All, refl, sym, ◌∙◌}
use Rattle.std.proofs.lemmas.List.Elements.{All-cons, All-head, All-nil, All-tail}
use Rattle.hls_media.specs.{Laws.IsBounded, declared.media.Media.Media}
use Rattle.bridge_playlists.specs.declared.medias.Medias.{Medias}
use Rattle.bridge_playlists.specs.Playlists.{AreCounted, all_ended, ended}

bounded : (media : Media) → IsBounded media → IsBounded (ended media)
bounded media is = record {
  target = is.target;
  sequence = is.sequence;
  few = is.few;
  segments = is.segments;
  sections = is.sections;
}

all_bounded : (files : List Media) → All IsBounded files → All IsBounded (map ended files)
all_bounded [] all = All-nil IsBounded
all_bounded (media ∷ files) all =
    All-cons IsBounded (ended media) (map ended files) (bounded media (All-head IsBounded media files all))
    (all_bounded files (All-tail IsBounded media files all))

as_many : (n : ℕ) (files : List Media) → fold (λ m (media : Media). m + length media.segments) n (map ended files)
    ≡ fold (λ m (media : Media). m + length media.segments) n files
as_many n [] = refl
as_many n (media ∷ files) = as_many (n + length media.segments) files

pub all_counted : (medias : Medias) → AreCounted medias → AreCounted (all_ended medias)
all_counted medias are = record {
  bounded = all_bounded medias.files are.bounded;
  sum = are.sum ∙ sym (as_many 0 medias.files);
  few = are.few;
}
