-- What is told of two presentations.
use Rattle.meaning.specs.declared.difference.Aspect.TheVariants as aspect
use Rattle.std.proofs.Common.{◌≡◌, ℕ, ◌^◌, List, ◌++◌, length, append_assoc, refl, sym, ◌∙◌, ap}
use Rattle.meaning.specs.Differences.{in_all}
use Rattle.presentation.specs.{Meanings.meaning_of, Presented.Presented}
use Rattle.presentation.proofs.Allowed.{counted_are_listed, have_addresses, verified_are_counted}
use Rattle.differences.specs.declared.{collected.Collected.Collected, contents.Both.Both, deviation.Deviation.Deviation}
use Rattle.differences.specs.Collecting.{all_added, none_yet}
use Rattle.differences.specs.Contents.{contents_noted, greatest_of, heads_noted, tracks_of_both}
use Rattle.differences.specs.Deviating.{deviations, number_deviations, told}
use Rattle.comparison.proofs.Walks.{own_addresses}
use Rattle.differences.specs.{Heads.heads_from, Sides.IsSideOf}
use Rattle.differences.specs.{Sections.{AreComparable, IsListable, contents_from, greatest_from, kept_sections}}
use Rattle.differences.proofs.{Collecting.{all_added_more, all_counted, first_kept, same_greatest}}
use Rattle.differences.proofs.Opened.{greatest_opened, of_both, opened}

module _ (unit : ℕ) (a b : Presented) (both : AreComparable unit a b) where
  pub mpd_listable : IsListable unit a
  mpd_listable = record {
    counted = record {
      at = λ s t in_sections in_tracks. verified_are_counted a unit s t both.longest both.verified in_sections in_tracks;
    };
    addressed = λ s t in_sections in_tracks. have_addresses a unit s t both.longest both.verified in_sections in_tracks;
  }

  pub playlists_listable : IsListable unit b
  playlists_listable = record {
    counted = record { at = λ s t in_sections in_tracks. counted_are_listed b _ s t both.counted in_sections in_tracks };
    addressed = λ s t in_sections in_tracks. own_addresses b s t unit both.came.addressed;
  }

module _ (a b : Presented) (within unit : ℕ) where
  abbrev heads : List Deviation
  heads = number_deviations (in_all aspect.Tracks) (length a.tracks) (length b.tracks) ++ heads_from 0 a.tracks b.tracks

  abbrev sections : List Deviation
  sections = number_deviations (in_all aspect.Sections) (length (kept_sections a)) (length (kept_sections b))

  abbrev contents : List Deviation
  contents = contents_from within unit a b 0 (of_both a b)

  whole : (sections ++ heads) ++ contents ≡ deviations within unit (meaning_of a) (meaning_of b)
  whole = append_assoc sections heads contents
      ∙ ap (λ xs. sections ++ xs) (append_assoc (number_deviations (in_all aspect.Tracks) (length a.tracks) (length b.tracks))
      (heads_from 0 a.tracks b.tracks) contents)
      ∙ sym (opened a b within unit)

  pub told_is : (most : ℕ) (c : Collected) (greatest : List ℕ) → c ≡ all_added (all_added (none_yet most) (sections ++ heads)) contents
      → greatest ≡ greatest_from a b 0 (of_both a b)
      → record { first = c.first; count = c.count; greatest = greatest } ≡ told most within unit (meaning_of a) (meaning_of b)
  told_is most c greatest is is_greatest =
      let all : c ≡ all_added (none_yet most) (deviations within unit (meaning_of a) (meaning_of b)) =
      is ∙ all_added_more (none_yet most) (sections ++ heads) contents ∙ ap (all_added (none_yet most)) whole in
      rw (
        all,
        first_kept most (deviations within unit (meaning_of a) (meaning_of b)),
        all_counted most (deviations within unit (meaning_of a) (meaning_of b)),
        is_greatest,
        ← greatest_opened a b,
      ) refl

module _ (both : Both) where
  abbrev all_heads : List Deviation
  all_heads = number_deviations (in_all aspect.Sections) (length both.mpd.sections) (length both.playlists.sections)
      ++ heads both.mpd.presentation.now both.playlists.presentation.now both.tolerance.within (10 ^ both.tolerance.digits)

  pub heads_greatest : (c : Collected) → (heads_noted both c).greatest ≡ c.greatest
  heads_greatest c = same_greatest c all_heads

  module _ (a b : Presented) (mine : IsSideOf both.mpd (10 ^ both.tolerance.digits) a)
      (theirs : IsSideOf both.playlists (10 ^ both.tolerance.digits) b) where
    abbrev p : Presented
    p = both.mpd.presentation.now

    abbrev q : Presented
    q = both.playlists.presentation.now

    abbrev within : ℕ
    within = both.tolerance.within

    abbrev unit : ℕ
    unit = 10 ^ both.tolerance.digits

    same_heads : all_heads ≡ sections p q within unit ++ heads p q within unit
    same_heads = rw (mine.is_side.sections, theirs.is_side.sections) refl

    pub told_of : (most : ℕ) (c d : Collected) (greatest : List ℕ) → d ≡ heads_noted both (none_yet most)
        → c ≡ contents_noted both 0 (tracks_of_both both) d → greatest ≡ greatest_of both 0 (tracks_of_both both)
        → record { first = c.first; count = c.count; greatest = greatest } ≡ told most within unit (meaning_of a) (meaning_of b)
    told_of most c d greatest is_heads is_all is_greatest =
        told_is p q within unit most c greatest (is_all ∙ ap (contents_noted both 0 (tracks_of_both both)) (is_heads
        ∙ ap (all_added (none_yet most)) same_heads)) is_greatest
        ∙ ap (λ m. told most within unit (meaning_of m) (meaning_of q)) mine.presentation
        ∙ ap (λ m. told most within unit (meaning_of a) (meaning_of m)) theirs.presentation
