-- What the tracks of a finished presentation have in its sections.
use Rattle.std.proofs.Common.{◌≡◌, ℕ, ◌+◌, ◌*◌, ◌^◌, ◌<◌, ◌&&◌, nat_lt, true, List, [], ◌∷◌, length, map, Option, Some, None, option_map}
use Rattle.std.proofs.{Common.{option_and_then, refl, sym, ◌∙◌, ap, ap₂, arith, inl, inr, slice_get, subst}, Math.Nat.mul-le-mul_left}
use Rattle.std.proofs.{lemmas.Bool.Decides.nat_tests, lemmas.Option.{slice_get_cases, get_or_from_slice_get, slice_get_within}}
use Rattle.std.specs.{List.{All, AllByRecursion}, Prelude.option_to_list}
use Rattle.url_parts.specs.declared.address.Part.{Part}
use Rattle.mpd_levels.specs.Segments.{Segments}
use Rattle.presentation.specs.{declared.parts.Content.Content, Presented.{Presented, content_at, listed_in, window_of, whole_window}}
use Rattle.presentation.specs.Meanings.{entry_of}
use Rattle.segment_forms.specs.{declared.form.Form.Form, declared.form.Form.TheVariants.{Plain, Players}, Media.LiteralsName}
use Rattle.segment_forms.specs.{Media.TemplatesName, declared.pattern.Pattern.Pattern}
use Rattle.dash_writer.specs.{Forms.{own_segments, segments_with, pattern_in}, Segments.duration_of, Manifest.segment_lists}
use Rattle.mpd_presentation.specs.Meanings.{is_counted}
use Rattle.laws_of_mpds.specs.{Contents.{IsOwnPart, IsPlain}, Meant.{IsWritable, TreesMean}, Told.{IsReadable, players_told, segments_told}}
use Rattle.laws_of_mpds.specs.Told.{told_of}
use Rattle.laws_of_mpds.proofs.{Patterns.first_low, Contents.{contents_seen, from_start, listed_is, parts_are, told_is}, Meanings.Gives}
use Rattle.laws_of_mpds.proofs.{Periods.{entry_through, outline_means, window_is}, Representations.Has, Times.durations_are}

-- what holds of each member of a list
All-at : {X : Type 0} (P : X → Type 0) (xs : List X) (k : ℕ) (x : X) → All P xs → slice_get xs k ≡ Some x → P x
All-at P xs k x all is = subst P (get_or_from_slice_get xs k x x is) (all k x (slice_get_within xs k x is))

-- the track at a place has a plain content
abbrev pub HasPlain : Presented → (section place : ℕ) → Type 0
HasPlain p section place = (c : Content) × (content_at p section place ≡ Some c) × IsPlain c

pub fits : (s t sections tracks : ℕ) → s < sections → t < tracks → s * tracks + t < sections * tracks
fits s t sections tracks in_sections in_tracks = omega (arith, in_tracks, mul-le-mul_left tracks in_sections)

pub has_plain : (p : Presented) (s i : ℕ) → IsWritable p → s < length p.sections → i < length p.tracks → HasPlain p s i
has_plain p s i w within below = elim (slice_get_cases p.contents (s * length p.tracks + i)).1 [
  | inl there ↦ (there.0, there.2, All-at IsPlain p.contents (s * length p.tracks + i) there.0 w.plain there.2)
  | inr past_end ↦ absurd (omega (arith, past_end.0, w.filled, fits s i (length p.sections) (length p.tracks) within below))
]

-- ---- the segments of a content

lists_are : (form : Form) (p : Presented) (s k : ℕ) (c : Content) → p.following ≡ None → content_at p s k ≡ Some c
    → segment_lists form p s k ≡ own_segments form c.runs c.initialization (listed_in whole_window c.runs) ∷ []
lists_are form p s k c finished there =
    ap (λ one. option_to_list (option_map
    (λ (content : Content). own_segments form content.runs content.initialization (listed_in (window_of p s) content.runs)) one)) there
    ∙ ap (λ window. own_segments form c.runs c.initialization (listed_in window c.runs) ∷ []) (window_is p s finished)

-- a plain content's segments have its durations and its parts
pub list_of : (form : Form) (p : Presented) (s k : ℕ) → p.following ≡ None → (has : HasPlain p s k)
    → segment_lists form p s k ≡ segments_with form has.0.runs.ticks None 0 has.0.initialization has.2.durations has.2.parts ∷ []
list_of form p s k finished has =
    let c = has.0 in
    let plain = has.2 in
    lists_are form p s k c finished has.1
    ∙ ap₂ (λ ds parts. segments_with form c.runs.ticks None 0 c.initialization ds parts ∷ [])
    (ap (map duration_of) (listed_is c plain) ∙ durations_are c.runs.ticks 0 c.runs.first_number plain.durations) (parts_are c plain)

-- ---- what is told of it

pub all_readable : (parts : List Part) → AllByRecursion IsOwnPart parts → AllByRecursion IsReadable parts
all_readable [] own = tt
all_readable (p ∷ parts) own = (own.0.readable, all_readable parts own.1)

-- ---- what is told of it, and meant

abbrev told_at : Form → Presented → (section place : ℕ) → Option Segments
told_at form p s k = option_map (λ (c : Content). told_of form c.runs c.initialization (listed_in whole_window c.runs)) (content_at p s k)

told_there : (form : Form) (p : Presented) (s k : ℕ) (has : HasPlain p s k)
    → told_at form p s k
    ≡ Some (segments_told form has.0.runs.ticks 0 0 has.0.initialization has.2.durations has.2.parts)
told_there form p s k has =
    ap (option_map (λ (c : Content). told_of form c.runs c.initialization (listed_in whole_window c.runs))) has.1
    ∙ ap Some (told_is form has.0 has.2)

has_list : (form : Form) (p : Presented) (s k : ℕ) → p.following ≡ None → HasPlain p s k
    → Has form (segment_lists form p s) (told_at form p s) k
has_list form p s k finished has =
    let c = has.0 in
    let plain = has.2 in
    record {
      ticks = c.runs.ticks;
      offset = None;
      first = 0;
      initialization = c.initialization;
      durations = plain.durations;
      parts = plain.parts;
      is = list_of form p s k finished has;
      readable = record {
        ticks = plain.ticks;
        offset = tt;
        first = omega arith;
        initialization = plain.initialization.readable;
        durations = plain.short;
        few = plain.few;
        parts = all_readable plain.parts plain.own;
      };
      tells = told_there form p s k has;
    }

ticks_counted : (ticks first : ℕ) → 0 < ticks → first < 2 ^ 63 → (nat_lt 0 ticks && nat_lt first (2 ^ 63)) ≡ true
ticks_counted ticks first some few = grind (arith, nat_tests)

-- in either form the segments can be counted
players_counted : (found : Option Pattern) (ticks offset first : ℕ) (part : Part) (ds : List ℕ) (parts : List Part)
    → pattern_in part parts ≡ found → 0 < ticks → is_counted (players_told found ticks offset first part ds parts) ≡ true
players_counted None ticks offset first part ds parts is some = ticks_counted ticks 1 some (omega arith)
players_counted (Some p) ticks offset first part ds parts is some =
    let low = first_low part parts p is in ticks_counted ticks p.first_number some (omega (arith, low))

pub form_counted : (form : Form) (ticks offset first : ℕ) (part : Part) (ds : List ℕ) (parts : List Part) → 0 < ticks
    → is_counted (segments_told form ticks offset first part ds parts) ≡ true
form_counted Plain ticks offset first part ds parts some = ticks_counted ticks 1 some (omega arith)
form_counted Players ticks offset first part ds parts some =
    players_counted (pattern_in part parts) ticks offset first part ds parts refl some

gives : TemplatesName → LiteralsName → (form : Form) (p : Presented) (s k : ℕ) → HasPlain p s k
    → Gives (told_at form p) (entry_through p) s k
gives templates literals form p s k has =
    let c = has.0 in
    let plain = has.2 in
    let told = segments_told form c.runs.ticks 0 0 c.initialization plain.durations plain.parts in
    record {
      segments = told;
      tells = told_there form p s k has;
      counted = form_counted form c.runs.ticks 0 0 c.initialization plain.durations plain.parts plain.positive;
      seen = λ window url end d bases. contents_seen templates literals window form c 0 0 url end d (from_start c plain) bases
          ∙ sym (ap (option_and_then (entry_of window)) has.1);
    }

pub trees_mean : TemplatesName → LiteralsName → TreesMean
trees_mean templates literals form p url now w = outline_means form p (segment_lists form p) (told_at form p) (record {
  finished = w.finished;
  some = w.some;
  ordered = w.ordered;
  has = λ s k in_sections in_tracks. has_list form p s k w.finished (has_plain p s k w in_sections in_tracks);
  gives = λ s k in_sections in_tracks. gives templates literals form p s k (has_plain p s k w in_sections in_tracks);
}) url now
