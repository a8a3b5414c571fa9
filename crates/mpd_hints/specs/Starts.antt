-- Whether segments can be decoded without those before them: ISO/IEC 23009-1, 5.3.7.2 (startWithSAP) and 5.3.3.2
-- (subsegmentStartsWithSAP); ISO/IEC 14496-12, Annex I (stream access points).
use Rattle.std.specs.Prelude.{ℕ, ◌&&◌, ◌||◌, not, Bool, List, codes, bytes_eq, if◌then◌else◌, Option, None, Some}
use Rattle.std.specs.List.{list_all, list_any}
use Rattle.bridge_io.specs.{declared.media.Kind.Kind, declared.media.Kind.TheVariants.{Audio, Video}}
use Rattle.mpd_tree.specs.Trees.{Element}
use Rattle.mpd_profile.specs.Heads.{is_dynamic, or_else, value_named}
use Rattle.mpd_rules.specs.{Kept.{periods_of, representations_of, sets_of}, Typed.kind_in}
use Rattle.presentation.specs.Order.{is_of}
use Rattle.mpd_hints.specs.{declared.starts.Sap.Sap, declared.starts.Sap.TheVariants.{Segments, Subsegments}}
use Rattle.mpd_hints.specs.{declared.starts.Asked.Asked, declared.tracks.Told.Told, Tracks.kind_over}

abbrev pub attribute_of : Sap → List ℕ
attribute_of Segments = codes "startWithSAP"
attribute_of Subsegments = codes "subsegmentStartsWithSAP"

-- a stream access point of type 1 or 2: decoding can begin there, and no sample from there on is wrong
abbrev pub is_start : List ℕ → Bool
is_start text = bytes_eq text (codes "1") || bytes_eq text (codes "2")

-- a Representation of the kind asked for has to say so; another one may be silent
abbrev pub starts_with : (asked : Bool) → Option (List ℕ) → Bool
starts_with asked None = not asked
starts_with asked (Some text) = is_start text

-- its own value, otherwise that of its set
abbrev pub starts_over : Asked → Option Kind → Option (List ℕ) → (representation : Element) → Bool
starts_over asked kind start e =
    starts_with (is_of asked.kind (kind_over kind e)) (or_else (value_named (attribute_of asked.sap) e.head) start)

abbrev pub starts_at : Asked → (set representation : Element) → Bool
starts_at asked set e = starts_over asked (kind_in None set) (value_named (attribute_of asked.sap) set.head) e

abbrev pub set_starts : Asked → Element → Bool
set_starts asked set = list_all (starts_at asked set) (representations_of set)

abbrev pub period_starts : Asked → Element → Bool
period_starts asked period = list_all (set_starts asked) (sets_of period)

-- in a static MPD, in which no later version can say otherwise
abbrev pub is_independent : Asked → Element → Bool
is_independent asked mpd = not (is_dynamic mpd.head) && list_all (period_starts asked) (periods_of mpd)

-- video, and where there is none, audio
abbrev pub asked_kind : List Told → Kind
asked_kind tracks = if list_any (λ (told : Told). is_of Video told.kind) tracks then Video else Audio

abbrev pub asked_of : Sap → List Told → Asked
asked_of sap tracks = record { sap = sap; kind = asked_kind tracks }
