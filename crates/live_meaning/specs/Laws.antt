-- Laws of histories.
use Rattle.std.specs.Prelude.{◌≡◌, ℕ, ℤ, ◌+◌, ◌-◌, ◌*◌, ◌^◌, ◌<◌, ◌≤◌, All, List, [], ◌∷◌, ◌++◌, filter, length, map, sum, take}
use Rattle.std.specs.{Prelude.{slice_get, Option, Some, None, Ok}, List.fold}
use Rattle.exact_time.specs.{Time.{AreRising, IsAtMost, IsTime, Time, difference}, Floor.floor_in}
use Rattle.hls_media.specs.{declared.media.Media.Media, declared.media.MediaSegment.MediaSegment}
use Rattle.hls_writer.specs.{Finished.rounded, Playlists.Item}
use Rattle.reload_law.specs.Rules.{lawful}
use Rattle.mpd_tree.specs.Trees.{Element}
use Rattle.mpd_rules.specs.Rules.{typed_mpd_of}
use Rattle.timeline.specs.Expansions.{Timing}
use Rattle.presentation.specs.Presented.{Presented, listed_at}
use Rattle.followed.specs.{Durations.{durations, ends, is_in, told}, Order.InOrder}
use Rattle.live_meaning.specs.Updates.{Update, Refresh, Terms, Values, mpd_of, unit_of}
use Rattle.live_meaning.specs.Segments.{Numbering, Segment, id_at, listed_of, place_of, segments_of}
use Rattle.live_meaning.specs.{Histories.{Common, Whole, all_of, numbering_of, whole_of}, States.{State, Track, state_of}}
use Rattle.live_meaning.specs.{Refusals.{Refusal, begun_of, next_of, refusal_of, update_refusal}, Playlists.{FollowedPlaylist, playlist_of}}

-- ---- histories of accepted updates

-- each update is accepted after those before it
abbrev pub IsAccepted : Terms → (history : List Update) → Type 0
IsAccepted terms history =
    (earlier : List Update) (u : Update) (later : List Update) → history ≡ earlier ++ u ∷ later → update_refusal terms earlier u ≡ None

-- of some updates those that are accepted in turn, each after those accepted before it
abbrev pub with_accepted : Terms → (history : List Update) → Update → Option Refusal → List Update
with_accepted terms history u None = history ++ u ∷ []
with_accepted terms history u (Some refusal) = history

abbrev pub accepted_of : Terms → List Update → List Update
accepted_of terms updates = fold (λ history u. with_accepted terms history u (update_refusal terms history u)) [] updates

abbrev pub AcceptedAreAccepted : Type 0
AcceptedAreAccepted = (terms : Terms) (updates : List Update) → IsAccepted terms (accepted_of terms updates)

-- ---- applying an update to a state gives the state of the longer history

-- a state is the result of an accepted history
pub record Shows (terms : Terms) (history : List Update) (s : State) : Type 0 where
  pub accepted : IsAccepted terms history
  pub leaves : state_of terms history ≡ Some s

-- where an update is accepted, the new state is the result of the history with it
abbrev pub HistoriesGoOn : Type 0
HistoriesGoOn =
    (terms : Terms) (history : List Update) (u : Update) (before after : State) → Shows terms history before → next_of before u ≡ Ok after
    → Shows terms (history ++ u ∷ []) after

-- and a state rejects what the history rejects
abbrev pub HistoriesRefuse : Type 0
HistoriesRefuse =
    (terms : Terms) (history : List Update) (u : Update) (before : State) → Shows terms history before
    → update_refusal terms history u ≡ refusal_of before u

abbrev pub HistoriesBegin : Type 0
HistoriesBegin = (terms : Terms) (mpd : Values) (now : ℤ) (s : State) → begun_of terms mpd now ≡ Ok s → Shows terms (Refresh mpd now ∷ []) s

-- ---- durations never drift, although the first segments were removed long ago

-- each update of a history lists its segments in order, each after the one before it
abbrev pub IsListedInOrder : Terms → (history : List Update) → Type 0
IsListedInOrder terms history =
    (earlier later : List Update) (w : Whole) (t : ℕ) → history ≡ earlier ++ later → whole_of terms earlier ≡ Some w
    → InOrder None (listed_of (numbering_of w.common) w.common.force t)

-- a segment doesn't end before it begins
pub record DoesLast (x : Timing) : Type 0 where
  pub start : IsTime x.start
  pub end : IsTime x.end
  pub lasts : IsAtMost x.start x.end

-- the Periods of a presentation have rising indices, and in each of them the ends rise
pub record HasRisingPeriods (n : Numbering) (p : Presented) (t : ℕ) : Type 0 where
  pub places : (s r : ℕ) → s < r → r < length p.sections → place_of n.ids (id_at p s) < place_of n.ids (id_at p r)
  pub last : (s : ℕ) → All DoesLast (listed_at p s t)
  pub rise : (s : ℕ) → AreRising (map (λ x. x.end) (listed_at p s t))

-- what it lists is then in order
abbrev pub PeriodsAreListedInOrder : Type 0
PeriodsAreListedInOrder = (n : Numbering) (p : Presented) (t : ℕ) → HasRisingPeriods n p t → InOrder None (listed_of n p t)

-- all segments ever listed are then in order too
abbrev pub AllAreInOrder : Type 0
AllAreInOrder = (terms : Terms) (history : List Update) (t : ℕ) → IsListedInOrder terms history → InOrder None (all_of terms history t)

-- up to the k-th segment ever listed of a section the durations sum to the time from the first one's start, rounded down
abbrev pub NeverDrifts : Terms → (history : List Update) → Type 0
NeverDrifts terms history = (t section k : ℕ) (x : Segment) (xs : List Segment) (end : Time)
    → filter (is_in section) (all_of terms history t) ≡ x ∷ xs → slice_get (ends (x ∷ xs)) k ≡ Some end
    → sum (take (k + 1) (durations (filter (λ y. is_in section y.segment) (told (unit_of terms) (all_of terms history t)))))
    ≡ floor_in (unit_of terms) (difference end x.start)

abbrev pub SectionsNeverDrift : Type 0
SectionsNeverDrift = (terms : Terms) (history : List Update) → IsListedInOrder terms history → NeverDrifts terms history

-- ---- accepted updates of typed MPDs

-- the values of an MPD are those of a valid tree
abbrev pub IsTyped : Option Values → Type 0
IsTyped None = Unit {0}
IsTyped (Some mpd) = (tree : Element) × (typed_mpd_of tree ≡ Ok mpd)

abbrev pub AreTyped : (history : List Update) → Type 0
AreTyped history = (earlier : List Update) (u : Update) (later : List Update) → history ≡ earlier ++ u ∷ later → IsTyped (mpd_of u)

-- each of them lists its segments in order
abbrev pub AcceptedAreListedInOrder : Type 0
AcceptedAreListedInOrder =
    (terms : Terms) (history : List Update) → IsAccepted terms history → AreTyped history → IsListedInOrder terms history

-- so durations never drift
abbrev pub AcceptedNeverDrift : Type 0
AcceptedNeverDrift = (terms : Terms) (history : List Update) → IsAccepted terms history → AreTyped history → NeverDrifts terms history

-- and section numbers never fall
abbrev pub SectionsNeverFall : Type 0
SectionsNeverFall =
    (terms : Terms) (history : List Update) (t i j : ℕ) (x y : Segment) → IsAccepted terms history → AreTyped history → i ≤ j
    → slice_get (all_of terms history t) i ≡ Some x → slice_get (all_of terms history t) j ≡ Some y → x.section ≤ y.section

-- ---- what is listed together, and what is kept

-- two segments are in the same Period and have the same map
pub record LieTogether (x y : Segment) : Type 0 where
  pub place : x.value.place ≡ y.value.place
  pub start : x.value.period_start ≡ y.value.period_start
  pub map : x.value.map ≡ y.value.map

-- those that were ever listed of a track in one section do
abbrev pub SectionsHaveOneMap : Type 0
SectionsHaveOneMap =
    (terms : Terms) (history : List Update) (t i j : ℕ) (x y : Segment) → IsAccepted terms history → AreTyped history
    → slice_get (all_of terms history t) i ≡ Some x → slice_get (all_of terms history t) j ≡ Some y → x.section ≡ y.section
    → LieTogether x y

-- each duration that was ever printed, rounded to the nearest second, is at most the target duration (RFC 8216, 4.3.3.1)
abbrev pub DurationsFitTarget : Type 0
DurationsFitTarget = (terms : Terms) (history : List Update) (s : State) (t : ℕ) → Shows terms history s → AreTyped history
    → All (λ duration. rounded (unit_of terms) duration ≤ s.common.target) (durations (told (unit_of terms) (all_of terms history t)))

-- no playlist is ever empty
abbrev pub NeverEmpty : Type 0
NeverEmpty = (terms : Terms) (history : List Update) (s : State) (t : ℕ) (playlist : FollowedPlaylist) → Shows terms history s
    → playlist_of s t ≡ Some playlist → 0 < length playlist.items

-- Numbers grow with the updates: each adds a limited number of segments and Periods.
pub record IsSmall (c : Common) (track : Track) : Type 0 where
  pub kept : length track.kept ≤ 20000
  pub listed : track.first + length track.kept ≤ 20000 * c.accepted
  pub known : length c.known ≤ 1000 * c.accepted
  pub resets : c.resets < c.accepted
  pub sections : All (λ x. x.section < 1001 * c.accepted) (segments_of track.kept)

abbrev pub NumbersStaySmall : Type 0
NumbersStaySmall = (terms : Terms) (history : List Update) (s : State) (t : ℕ) (track : Track) → Shows terms history s
    → slice_get s.tracks t ≡ Some track → (s.common.accepted ≤ length history) × IsSmall s.common track

-- ---- each playlist is a valid update of the one before it

-- what a segment in a live playlist's text is read as
abbrev pub segment_of : (digits : ℕ) → Item → MediaSegment
segment_of digits item = record {
  address = item.part.address;
  range = item.part.range;
  map = Some item.map;
  duration = item.duration * 10 ^ (9 - digits);
  section = item.section;
}

abbrev pub media_of : FollowedPlaylist → Media
media_of playlist = record {
  target = playlist.head.target;
  sequence = playlist.head.sequence;
  ended = playlist.head.ended;
  segments = map (segment_of playlist.head.digits) playlist.items;
}

abbrev pub ReloadsAreLawful : Type 0
ReloadsAreLawful = (terms : Terms) (history : List Update) (u : Update) (before after : State) (t : ℕ) (old new : FollowedPlaylist)
    → Shows terms history before → Shows terms (history ++ u ∷ []) after
    → playlist_of before t ≡ Some old → playlist_of after t ≡ Some new → lawful (media_of old) (media_of new) ≡ Ok tt
