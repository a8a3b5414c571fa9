-- Keys and rows as tables grow, and as levels are put together.
use Rattle.std.proofs.Common.{◌≡◌, ℕ, Bool, List, [], ◌∷◌, Option, Some, None, refl, sym, ◌∙◌, ap}
use Rattle.std.specs.Prelude.{slice_get, option_and_then}
use Rattle.mpd_tree.specs.Trees.{Element}
use Rattle.mpd_profile.specs.Heads.{or_else}
use Rattle.mpd_levels.specs.{declared.addressing.SegmentRow.SegmentRow, declared.level.Means.Means, declared.tables.Tables.Tables}
use Rattle.mpd_levels.specs.{declared.values.ValueRow.ValueRow, Merged.{row_over, no_row}}
use Rattle.mpd_levels.specs.Segments.{Segments, Values, told, values_by, values_in, segments_by, segments_of}
use Rattle.mpd_levels.specs.{Indexed.{index_by, index_of}, Levels.used}
use Rattle.mpd_levels.specs.Shown.{Stays, Grows, IsKey, Shows, Tells, segments_shown, values_shown, timelines_in, lists_in}

pub Grows-same : {tables : Tables} → Grows tables tables
Grows-same = record { timelines = record { at = λ k x is. is }; lists = record { at = λ k x is. is } }

pub Grows-then : {a b c : Tables} → Grows a b → Grows b c → Grows a c
Grows-then p q = record {
  timelines = record { at = λ k x is. q.timelines.at k x (p.timelines.at k x is) };
  lists = record { at = λ k x is. q.lists.at k x (p.lists.at k x is) };
}

module _ {X : Type 0} where
  pub IsKey-stays : (old new : List X) (key : Option ℕ) (member : Option X) → Stays old new → IsKey old key member → IsKey new key member
  IsKey-stays old new None None stays is = record { found = refl }
  IsKey-stays old new None (Some x) stays is = absurd (cc is.found)
  IsKey-stays old new (Some k) None stays is = absurd (cc is.found)
  IsKey-stays old new (Some k) (Some x) stays is = record { found = ap Some (stays.at k x (cc is.found)) }

  pub IsKey-over : (table : List X) (own higher : Option ℕ) (mine theirs : Option X) → IsKey table own mine → IsKey table higher theirs
      → IsKey table (or_else own higher) (or_else mine theirs)
  IsKey-over table None higher None theirs is are = are
  IsKey-over table None higher (Some x) theirs is are = absurd (cc is.found)
  IsKey-over table (Some k) higher None theirs is are = absurd (cc is.found)
  IsKey-over table (Some k) higher (Some x) theirs is are = record { found = is.found }

  pub member_at : (table : List X) (key : Option ℕ) (member : Option X) → IsKey table key member
      → option_and_then (slice_get table) key ≡ member
  member_at table None None is = refl
  member_at table None (Some x) is = absurd (cc is.found)
  member_at table (Some k) None is = absurd (cc is.found)
  member_at table (Some k) (Some x) is = cc is.found

pub Shows-grows : {old new : Tables} {row : ValueRow} {values : Values} → Grows old new → Shows old row values → Shows new row values
Shows-grows {old} {new} {row} {values} grows shows = record {
  attributes = shows.attributes;
  initialization = shows.initialization;
  timeline = IsKey-stays (timelines_in old) (timelines_in new) row.timeline values.timeline grows.timelines shows.timeline;
  urls = IsKey-stays (lists_in old) (lists_in new) row.urls values.urls grows.lists shows.urls;
}

pub Shows-nothing : (tables : Tables) (is_list : Bool) → Shows tables no_row (values_in is_list [])
Shows-nothing tables is_list = record {
  attributes = refl;
  initialization = refl;
  timeline = record { found = refl };
  urls = record { found = refl };
}

pub Shows-over : (tables : Tables) (is_list : Bool) (own higher : ValueRow) (e : Element) (above : List Element)
    → Shows tables own (values_by is_list e) → Shows tables higher (values_in is_list above)
    → Shows tables (row_over own higher) (values_in is_list (e ∷ above))
Shows-over tables is_list own higher e above mine theirs = record {
  attributes = rw (mine.attributes, theirs.attributes) refl;
  initialization = rw (mine.initialization, theirs.initialization) refl;
  timeline = IsKey-over (timelines_in tables) own.timeline higher.timeline _ _ mine.timeline theirs.timeline;
  urls = IsKey-over (lists_in tables) own.urls higher.urls _ _ mine.urls theirs.urls;
}

pub row_tells : (tables : Tables) (row : SegmentRow) (is_list : Bool) (kept : ValueRow) (values : Values)
    → (row.is_list ≡ is_list) × (row.values ≡ kept) → Shows tables kept values → Tells tables row (told is_list values)
row_tells tables row is_list kept values is shows = record { values = values; shows = rw is.1 shows; told_is = rw is.0 refl }

pub Tells-grows : {old new : Tables} {row : SegmentRow} {segments : Segments} → Grows old new → Tells old row segments
    → Tells new row segments
Tells-grows grows tells = record { values = tells.values; shows = Shows-grows grows tells.shows; told_is = tells.told_is }

shown_values : (tables : Tables) (row : ValueRow) (values : Values) → Shows tables row values → values_shown tables row ≡ values
shown_values tables row values shows =
    rw (
      shows.attributes,
      shows.initialization,
      member_at (timelines_in tables) row.timeline values.timeline shows.timeline,
      member_at (lists_in tables) row.urls values.urls shows.urls,
    ) refl

-- the segments that a row tells are those that it shows
pub tells_shown : (tables : Tables) (row : SegmentRow) (segments : Segments) → Tells tables row segments
    → segments ≡ segments_shown tables row
unfolding segments_shown
tells_shown tables row segments tells = tells.told_is
    ∙ ap (told row.is_list) (sym (shown_values tables row.values tells.values tells.shows))

-- what the used kind makes of a Representation's levels
pub segments_is : (levels : List Element) (means : Option Means) → used levels ≡ means → segments_of levels ≡ segments_by means levels
unfolding segments_of
segments_is levels means is = rw is refl

pub index_is : (levels : List Element) (means : Option Means) → used levels ≡ means → index_of levels ≡ index_by means levels
unfolding index_of
index_is levels means is = rw is refl
