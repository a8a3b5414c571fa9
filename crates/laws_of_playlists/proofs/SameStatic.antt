-- What came from a static MPD can be written and read again.
use Rattle.std.proofs.Common.{ℕ, ◌*◌, ◌^◌, ◌<◌, ◌≤◌, List, [], ◌∷◌, map, All, arith, div-lt_iff_lt-mul}
use Rattle.std.proofs.{lemmas.List.Elements.{All-head, All-tail}, lemmas.Option.IfSome_then}
use Rattle.exact_time.proofs.Decimals.{ten_pow-pos}
use Rattle.url_parts.specs.{declared.address.Part.Part, declared.range.Range.Range}
use Rattle.timeline.specs.Expansions.{Timing}
use Rattle.presentation.specs.{Counting.sections_of, Presented.{Presented, listed_at}, Printing.durations_of}
use Rattle.presentation.specs.Verifying.{greatest, longest_at, longest_of}
use Rattle.mpd_presentation.specs.{Origins.StaticAreFinished, PresentedLaws.IsInPace}
use Rattle.laws_of_playlists.specs.Origins.{AreShortInPace, IsLocated, IsSomeBytes, StaticAreInPace, StaticInitializationsAreLocated}
use Rattle.laws_of_playlists.specs.Origins.{StaticPartsAreLocated, StaticTracksAreWritable}
use Rattle.laws_of_playlists.specs.{ReadMedia.{AreShort, IsReadableContent, IsReadablePart, IsReadableRange}, Same.EndInTurn}
use Rattle.laws_of_playlists.specs.{SameFiles.{IsReadable, WrittenMeanTheSame}, SameStatic.WrittenMeansTheSame}

pub in_turn : (xs : List Timing) → IsInPace xs → EndInTurn xs
in_turn [] pace = (pace.0, tt)
in_turn (x ∷ xs) pace = (pace.0, pace.1.0)

-- ---- the longest duration is short

module _ (bound : ℕ) where
  greatest_below : (xs : List ℕ) → All (λ x. x ≤ bound) xs → greatest xs ≤ bound
  greatest_below [] all = omega arith
  greatest_below (x ∷ xs) all = omega (arith, All-head (λ x. x ≤ bound) x xs all, greatest_below xs (All-tail (λ x. x ≤ bound) x xs all))

  greatest_short : (f : ℕ → ℕ) (xs : List ℕ) → ((x : ℕ) → f x ≤ bound) → greatest (map f xs) ≤ bound
  greatest_short f [] each = omega arith
  greatest_short f (x ∷ xs) each = omega (arith, each x, greatest_short f xs each)

pub short : (p : Presented) (digits t : ℕ) → AreShortInPace → ((s : ℕ) → IsInPace (listed_at p s t)) → AreShort p digits t
short p digits t told pace =
    let unit : ℕ = 10 ^ digits in
    let some : 0 < unit = ten_pow-pos digits in
    let below : longest_of p unit t ≤ 2000000 * unit = greatest_short (2000000 * unit) (longest_at p unit t) (sections_of p)
    (λ s. greatest_below (2000000 * unit) (durations_of unit (listed_at p s t)) (told (listed_at p s t) unit (pace s))) in
    (div-lt_iff_lt-mul some).1 (omega arith)

-- ---- parts

range_read : (range : Range) → IsSomeBytes range → IsReadableRange range
range_read range bytes = record { some = bytes.some; count = omega (arith, bytes.bounded); first = omega (arith, bytes.bounded) }

pub part_read : (part : Part) → IsLocated part → IsReadablePart part
part_read part located = record { address = located.address; range = IfSome_then part.range located.range range_read }

pub written_means_the_same : StaticAreFinished → StaticTracksAreWritable → StaticInitializationsAreLocated → StaticPartsAreLocated
    → StaticAreInPace → AreShortInPace → WrittenMeanTheSame → WrittenMeansTheSame
written_means_the_same finished writable initializations parts pace told same p digits files folder prefix place players from fit found
    verified few own holds spells written =
    let contents : All IsReadableContent p.contents = λ k d within. record {
      initialization = part_read _ (initializations p from found k d within);
      parts = λ x part is. part_read part (parts p from found k d within x part is);
    } in
    let readable : IsReadable p digits = record {
      writable = record {
        verified = verified;
        few = few;
        ordered = λ s t in_sections in_tracks. in_turn (listed_at p s t) (pace p s t from);
        tracks = writable p from;
      };
      playlists = λ t within. record {
        finished = finished p from;
        verified = verified;
        few = few;
        contents = contents;
        short = short p digits t told (λ s. pace p s t from);
      };
    } in
    same p digits files folder prefix place players fit readable own holds spells written
