-- The result of a history of accepted updates, with all segments that it ever listed.
use Rattle.std.specs.Prelude.{ℕ, ◌+◌, ℤ, pos, List, [], ◌∷◌, ◌++◌, map, slice_get, Option, Some, None, option_map, unwrap_or}
use Rattle.std.specs.{Prelude.{if◌then◌else◌, Result, Ok}, List.fold, Option.option_map_or, Result.result_ok}
use Rattle.presentation.specs.{declared.fault.PresentationFault.PresentationFault, Counting.tracks_of, Presented.{Presented, looked_at}}
use Rattle.presentation.specs.Verifying.{greatest, longest_of}
use Rattle.mpd_presentation.specs.Told.{presented_of}
use Rattle.live_meaning.specs.Updates.{Values, Update, Refresh, Reset, Tick, now_of, mpd_of, is_reset, Terms, unit_of}
use Rattle.live_meaning.specs.{Segments.{Numbering, Segment, behind, listed_of, place_behind}, Known.{Known, ids_of, known_with}}
use Rattle.live_meaning.specs.Removal.{first_kept, target_of, three_targets}
use Rattle.followed.specs.Durations.{last_behind, told}

-- the result of a history without its segments
pub record Common : Type 0 where
  pub terms : Terms
  -- the presentation of the first MPD at its time
  pub opened : Presented
  -- the presentation in force at the time of the last update
  pub force : Presented
  -- when the MPD in force was published
  pub published : Option ℤ
  pub known : List Known
  pub resets : ℕ
  -- in seconds
  pub target : ℕ
  pub instant : ℤ
  -- how many updates were accepted
  pub accepted : ℕ

-- all segments that a track ever listed, and the index of the first one that is kept
pub record Past : Type 0 where
  pub all : List Segment
  pub first : ℕ

pub record Whole : Type 0 where
  pub common : Common
  pub pasts : List Past

abbrev pub availability_start_of : Presented → ℤ
availability_start_of p = option_map_or (λ f. f.availability_start) p.following (pos 0)

abbrev pub numbering_of : Common → Numbering
numbering_of c = record { ids = ids_of c.known; resets = c.resets; availability_start = availability_start_of c.opened }

-- three target durations in units
abbrev pub least_length : Common → ℕ
least_length c = three_targets (unit_of c.terms) c.target

-- ---- the first update

abbrev pub longest_in : (unit : ℕ) → Presented → ℕ
longest_in unit p = greatest (map (longest_of p unit) (tracks_of p))

abbrev pub begun_common : Terms → Values → (now : ℤ) → Presented → Common
begun_common terms mpd now p = record {
  terms = terms;
  opened = p;
  force = p;
  published = mpd.facts.publish_time;
  known = known_with [] p;
  resets = 0;
  target = target_of (unit_of terms) (longest_in (unit_of terms) p) mpd.facts.max_segment;
  instant = now;
  accepted = 1;
}

-- at first all listed segments are kept
abbrev pub begun_past : Common → (track : ℕ) → Past
begun_past c t = record { all = listed_of (numbering_of c) c.force t; first = 0 }

abbrev pub begun_with : Common → Whole
begun_with c = record { common = c; pasts = map (begun_past c) (tracks_of c.opened) }

-- ---- later updates

-- the presentation that is in force from an update on, or why there is none
abbrev pub force_by : Terms → (former : Presented) → Update → Result Presented PresentationFault
force_by terms former (Refresh mpd now) = presented_of mpd terms.url (Some now)
force_by terms former (Reset mpd now) = presented_of mpd terms.url (Some now)
force_by terms former (Tick now) = Ok (looked_at now former)

abbrev pub published_by : (former : Option ℤ) → Option Values → Option ℤ
published_by former None = former
published_by former (Some mpd) = mpd.facts.publish_time

abbrev pub common_with : Common → Update → Presented → Common
common_with c u p = record {
  terms = c.terms;
  opened = c.opened;
  force = p;
  published = published_by c.published (mpd_of u);
  known = known_with c.known p;
  resets = (if is_reset u then c.resets + 1 else c.resets);
  target = c.target;
  instant = now_of u;
  accepted = c.accepted + 1;
}

-- what an update lists after the last segment is added to all segments
abbrev pub past_with : Common → Past → List Segment → Past
past_with c past all = record { all = all; first = first_kept c.force.following (least_length c) past.first (told (unit_of c.terms) all) }

abbrev pub new_listed : Common → (track : ℕ) → List Segment → List Segment
new_listed c t all = behind (last_behind None all) (place_behind 0 all) (listed_of (numbering_of c) c.force t)

abbrev pub past_after : Common → (track : ℕ) → Past → Past
past_after c t past = past_with c past (past.all ++ new_listed c t past.all)

-- the same for tracks, given the index of the first one
abbrev pub pasts_after : Common → (track : ℕ) → List Past → List Past
pasts_after c t [] = []
pasts_after c t (past ∷ pasts) = past_after c t past ∷ pasts_after c (t + 1) pasts

abbrev pub gone_on : Whole → Update → Presented → Whole
gone_on w u p = let c = common_with w.common u p in record { common = c; pasts = pasts_after c 0 w.pasts }

-- ---- a history

abbrev pub begun : Terms → Update → Option Whole
begun terms (Refresh mpd now) =
    option_map (λ p. begun_with (begun_common terms mpd now p)) (result_ok (presented_of mpd terms.url (Some now)))
begun terms (Reset mpd now) = None
begun terms (Tick now) = None

abbrev pub after : Terms → Option Whole → Update → Option Whole
after terms None u = begun terms u
after terms (Some w) u = option_map (gone_on w u) (result_ok (force_by terms w.common.force u))

-- the result of updates that are accepted one after another, the first one first
abbrev pub whole_of : Terms → List Update → Option Whole
whole_of terms history = fold (after terms) None history

abbrev pub no_past : Past
no_past = record { all = []; first = 0 }

abbrev pub past_of : Terms → List Update → (track : ℕ) → Past
past_of terms history t = option_map_or (λ w. unwrap_or (slice_get w.pasts t) no_past) (whole_of terms history) no_past

-- all segments that a track ever listed
abbrev pub all_of : Terms → List Update → (track : ℕ) → List Segment
all_of terms history t = (past_of terms history t).all

-- the index of the first one of them that is kept
abbrev pub first_kept_of : Terms → List Update → (track : ℕ) → ℕ
first_kept_of terms history t = (past_of terms history t).first
