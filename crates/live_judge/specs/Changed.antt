-- What an MPD itself breaks, by the indices of its Periods.
use Rattle.std.specs.Prelude.{◌≡◌, ℕ, ◌+◌, ◌<◌, ◌==◌, not, Bool, true, false, List, [], ◌∷◌, ◌++◌, length, slice_get, Option, Some, None}
use Rattle.std.specs.{Prelude.{IfSome, ◌&&◌, unsigned_abs, if◌then◌else◌}, Option.option_map_or}
use Rattle.exact_time.specs.Time.{Time}
use Rattle.url_parts.specs.declared.address.Part.{Part}
use Rattle.presentation.specs.Presented.{Presented, start_of}
use Rattle.mpd_rules.specs.Laws.{are_once}
use Rattle.live_meaning.specs.{Updates.Values, Segments.place_of, Known.{Attributes, Known, all_same, attributes_at, goes_on, ids_of}}
use Rattle.live_meaning.specs.{Histories.Common, Refusals.{Changed, Moved, Refusal, are_alike, ids_in, is_changed, moved_told, older_than}}
use Rattle.live_meaning.specs.Refusals.{starts_otherwise, told_if}

-- the index of the first of some ids among the known ones, or after them
abbrev pub first_place : (known ids : List (List ℕ)) → ℕ
first_place known [] = length known
first_place known (id ∷ ids) = place_of known id

-- the index from which some ids continue the known ones, where they do and none is repeated
abbrev pub place_among : (known ids : List (List ℕ)) → Option ℕ
place_among known ids = if are_once ids && goes_on known ids then Some (first_place known ids) else None

-- attributes by `@presentationTimeOffset` in seconds
abbrev pub attributes_by : Time → Part → Attributes
attributes_by offset initialization = record {
  timescale = offset.scale;
  time_offset = unsigned_abs offset.ticks;
  initialization = initialization;
}

-- a known Period has different attributes, or begins at another time
abbrev pub has_other : List Known → Presented → (place section : ℕ) → Bool
has_other known p place s = option_map_or (λ (k : Known). not (all_same k.attributes (attributes_at p s)))
    (slice_get known (place + s)) false

abbrev pub moved_from : Presented → (place section : ℕ) → Option Known → List Refusal
moved_from p place s None = []
moved_from p place s (Some k) = told_if (not (k.start == start_of p s)) (Moved (place + s))

abbrev pub moved_at : List Known → Presented → (place section : ℕ) → List Refusal
moved_at known p place s = moved_from p place s (slice_get known (place + s))

-- each known Period begins when it did
abbrev pub AreUnmoved : List Known → Presented → (place : ℕ) → Type 0
AreUnmoved known p place = (s : ℕ) → s < length p.sections → IfSome (slice_get known (place + s)) (λ (k : Known). k.start ≡ start_of p s)

-- what an update's MPD breaks, except kept segments
abbrev pub listed_told : Common → Option Values → Presented → List Refusal
listed_told c None p = []
listed_told c (Some mpd) p = older_than c.published mpd.facts.publish_time ++ told_if (is_changed c mpd p) Changed ++ moved_told c p

-- the index of the first Period of an MPD that changes nothing; without an MPD that of the one in force
pub record IsPlaceOf (c : Common) (mpd : Values) (p : Presented) (place : ℕ) : Type 0 where
  pub starts : starts_otherwise c mpd ≡ false
  pub alike : are_alike c.opened.tracks p.tracks ≡ true
  pub among : place_among (ids_of c.known) (ids_in p) ≡ Some place
  pub unmoved : AreUnmoved c.known p place

abbrev pub IsPlaceBy : Option Values → Common → (former : ℕ) → Presented → (place : ℕ) → Type 0
IsPlaceBy None c former p place = place ≡ former
IsPlaceBy (Some mpd) c former p place = IsPlaceOf c mpd p place
