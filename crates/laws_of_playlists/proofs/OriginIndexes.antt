-- The indexes of the files of an MPD.
use Rattle.std.proofs.Common.{◌≡◌, ℕ, zero, suc, ◌+◌, ◌<◌, ◌&&◌, ◌==◌, Bool, true, false, List, [], ◌∷◌, ◌++◌, All, Option, Some, None}
use Rattle.std.proofs.{Common.{IfSome, refl, arith}, lemmas.List.Elements.{All-cons, All-nil, All-weaker}}
use Rattle.std.specs.Prelude.{flat_map, if◌then◌else◌, is_none}
use Rattle.bridge_io.specs.declared.place.Place.{Place}
use Rattle.url_parts.specs.declared.range.Range.{Range}
use Rattle.mpd_tree.specs.Trees.{Element}
use Rattle.mpd_profile.specs.{declared.fault.RuleFault.RuleFault, declared.fault.RuleFault.TheVariants.Missing}
use Rattle.mpd_profile.specs.declared.listed.Addressing.TheVariants.{Index}
use Rattle.mpd_levels.specs.{declared.indexed.IndexRow.IndexRow, declared.initialization.Initialization.Initialization}
use Rattle.mpd_levels.specs.Indexed.{index_of, lacks_by}
use Rattle.mpd_rules.specs.{declared.rows.TrackRow.TrackRow, Kept.{Path, levels_of, paths_of, periods_of}}
use Rattle.mpd_rules.specs.{Rules.{index_refused, paths_told, refused_at, second_told}, Typed.track_of}
use Rattle.mpd_rules.proofs.Ranges.{HasBytes, index_bytes}
use Rattle.presentation.proofs.Reached.{none_first, none_later}
use Rattle.laws_of_playlists.specs.Origins.{HasIndex, IndexesAreTold, IsSomeBytes}
use Rattle.laws_of_playlists.proofs.{OriginKept.{clean_index, index_untold}, OriginTracks.each_row}

-- ---- nothing is told of any Representation

none_each : {X Y : Type 0} (f : X → List Y) (xs : List X) → flat_map f xs ≡ [] → All (λ x. f x ≡ []) xs
none_each f [] none = All-nil (λ x. f x ≡ [])
none_each f (x ∷ xs) none =
    All-cons (λ x. f x ≡ []) x xs (none_first (f x) (flat_map f xs) none) (none_each f xs (none_later (f x) (flat_map f xs) none))

module _ (told : Path → List RuleFault) (mpd : Element) where
  abbrev NoneTold : Element → Type 0
  NoneTold e = All (λ path. told path ≡ []) (paths_of mpd e)

  paths_untold : (many : Bool) (place : ℕ) (periods : List Element) → paths_told many told mpd place periods ≡ [] → All NoneTold periods
  paths_untold many place [] none = All-nil NoneTold
  paths_untold many place (e ∷ periods) none =
      let here = flat_map told (paths_of mpd e) in
      let rest = paths_told many told mpd (place + 1) periods in
      let both = none_later (second_told many place e) (here ++ rest) none in
      All-cons NoneTold e periods (none_each told (paths_of mpd e) (none_first here rest both))
      (paths_untold many (place + 1) periods (none_later here rest both))

-- ---- an index of which nothing is refused

whole : (lacks : Bool) (place : Place) → (if lacks then Missing place ∷ [] else []) ≡ [] → lacks ≡ false
whole true place none = absurd (cc)
whole false place none = refl

some_before : (initialization : Option Initialization) (first : ℕ) → (is_none initialization && first == 0) ≡ false
    → initialization ≡ None → 0 < first
some_before None zero there none = absurd (cc)
some_before None (suc n) there none = omega arith
some_before (Some initialization) first there none = absurd (cc)

module _ (row : TrackRow (Option IndexRow)) (place : Place) where
  by_range : (range : Option Range) (initialization : Option Initialization) → lacks_by range initialization ≡ false
      → IfSome range IsSomeBytes
      → row.segments ≡ Some (record { range = range; initialization = initialization }) → HasIndex row
  by_range None initialization there bytes is = absurd (cc there)
  by_range (Some range) initialization there bytes is = record {
    index = record { range = Some range; initialization = initialization };
    there = is;
    range = rw is refl;
    bytes = rw is bytes;
    before = rw is (some_before initialization range.first there);
  }

  by_index : (o : Option IndexRow) → row.segments ≡ o → IfSome o HasBytes → index_refused place o ≡ [] → HasIndex row
  by_index None is bytes none = absurd (cc none)
  by_index (Some index) is bytes none =
      by_range index.range index.initialization (whole (lacks_by index.range index.initialization) place none) bytes is

path_has : (path : Path) → refused_at index_refused index_of path ≡ [] → HasIndex (track_of index_of path)
path_has path none =
    by_index (track_of index_of path) path.representation.head.place (index_of (levels_of path)) refl (index_bytes (levels_of path)) none

pub indexes_are_told : IndexesAreTold
indexes_are_told tree mpd is =
    let told = refused_at index_refused index_of in
    let none = paths_untold told tree false 0 (periods_of tree) (index_untold tree mpd is).representations in
    let Has = λ (path : Path). HasIndex (track_of index_of path) in
    each_row index_of Index tree mpd (clean_index tree mpd is) HasIndex
    (All-weaker (NoneTold told tree) (λ e. All Has (paths_of tree e)) (λ e here. All-weaker (λ path. told path ≡ []) Has path_has
    (paths_of tree e) here)
    (periods_of tree) none)
