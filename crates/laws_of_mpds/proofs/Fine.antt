-- Written MPDs can be printed: their tags are legal, and their values can be carried.
use Rattle.std.proofs.Common.{◌≡◌, ℕ, suc, ◌+◌, ◌<◌, ◌≤◌, ◌==◌, Bool, true, false, List, [], ◌∷◌, ◌++◌, map, length, codes, Option, Some}
use Rattle.std.proofs.Common.{take, drop, None, IfSome, option_map, if◌then◌else◌, refl, sym, ap, subst, arith, length-append}
use Rattle.std.proofs.{lemmas.Bool.and_parts, lemmas.List.Elements.All-tail}
use Rattle.std.specs.{Prelude.{decimal, All}, List.{AllByRecursion, list_all}}
use Rattle.bridge_io.specs.declared.media.Size.{Size}
use Rattle.iso_time.specs.Duration.{duration_text}
use Rattle.url_parts.specs.declared.address.Part.{Part}
use Rattle.mpd_tree.specs.{Characters.{starts_name, goes_on_name}, Placed.{IsLegal, IsLegalTag}}
use Rattle.presentation.specs.declared.track.Track.{Track}
use Rattle.segment_forms.specs.{declared.form.Form.Form, declared.form.Form.TheVariants.{Plain, Players}, declared.pattern.Pattern.Pattern}
use Rattle.segment_forms.specs.{Media.{doubled, media_if_some, media_of, number_identifier}, Patterns.pattern_of}
use Rattle.dash_writer.specs.{Elements.{Attribute, Element as Written, node, tag_of}, Forms.{addresses_of, pattern_in, players_by}}
use Rattle.dash_writer.specs.{Forms.{segments_with, template_attributes, template_with}, Lists.{contents_with, head_attributes, list_with}}
use Rattle.dash_writer.specs.{Lists.timeline_with, Manifest.finished_root, Outline.{Outline, mime_type, period_element, period_elements}}
use Rattle.dash_writer.specs.Outline.{representation_attributes, root_element, set_attributes, set_elements, stand_together, track_element}
use Rattle.dash_writer.specs.{Outline.track_elements, Runs.longest_runs, Segments.{initialization, joins, s_element, s_elements}}
use Rattle.dash_writer.specs.{Segments.segment_url, Values.{id_text, range_text}}
use Rattle.laws_of_mpds.specs.{Contents.IsOwnPart, Texts.{IsCarried, IsTellable}}
use Rattle.laws_of_mpds.proofs.Legal.{IsFine, all_fine, fine_leaf, fine_node, legal_tag, maybe_plain, rate_carried}
use Rattle.laws_of_mpds.proofs.{Parts.{back as back_of_all, front as front_of_all}, Plain.{ArePlain, address_plain, both, carried}}
use Rattle.laws_of_mpds.proofs.{Plain.{decimal_plain, duration_plain, id_plain, is_plain, mime_plain, range_plain}, Sets.{all_join, joined}}

pub number : (n : ℕ) → IsCarried (decimal n)
number n = carried (decimal n) (decimal_plain n)

-- ---- segments

fine_s : (time : Option ℕ) (duration repeats : ℕ) → IsFine 0 (s_element time duration repeats)
unfolding starts_name goes_on_name
fine_s time duration repeats =
    fine_leaf 0 (codes "S") ((codes "t", option_map decimal time) ∷ (codes "d", Some (decimal duration)) ∷
    (codes "r", if repeats == 0 then None else Some (decimal repeats)) ∷ [])
    (legal_tag (codes "S") ((codes "t", option_map decimal time) ∷ (codes "d", Some (decimal duration)) ∷
    (codes "r", if repeats == 0 then None else Some (decimal repeats)) ∷ []) refl refl
    (maybe_plain decimal decimal_plain time, (number duration, (again (repeats == 0), tt)))) where
      again : (once : Bool) → IfSome (if once then None else Some (decimal repeats)) IsCarried
      again true = tt
      again false = number repeats

fine_runs : (time : Option ℕ) (runs : List (List ℕ)) → AllByRecursion (IsFine 0) (s_elements time runs)
fine_runs time [] = tt
fine_runs time ([] ∷ runs) = fine_runs None runs
fine_runs time ((d ∷ others) ∷ runs) = (fine_s time d (length others), fine_runs None runs)

fine_url : (part : Part) → IsOwnPart part → IsFine 1 (segment_url part)
unfolding starts_name goes_on_name
fine_url part own =
    fine_leaf 1 (codes "SegmentURL") ((codes "media", Some part.address) ∷ (codes "mediaRange", option_map range_text part.range) ∷ [])
    (legal_tag (codes "SegmentURL") ((codes "media", Some part.address) ∷
    (codes "mediaRange", option_map range_text part.range) ∷ []) refl refl
    (carried part.address (address_plain part.address own.address), (maybe_plain range_text range_plain part.range, tt)))

fine_initialization : (part : Part) → IsOwnPart part → IsFine 1 (initialization part)
unfolding starts_name goes_on_name
fine_initialization part own =
    fine_leaf 1 (codes "Initialization") ((codes "sourceURL", Some part.address) ∷ (codes "range", option_map range_text part.range) ∷ [])
    (legal_tag (codes "Initialization") ((codes "sourceURL", Some part.address) ∷
    (codes "range", option_map range_text part.range) ∷ []) refl refl
    (carried part.address (address_plain part.address own.address), (maybe_plain range_text range_plain part.range, tt)))

fine_urls : (parts : List Part) → AllByRecursion IsOwnPart parts → AllByRecursion (IsFine 1) (map segment_url parts)
fine_urls [] own = tt
fine_urls (p ∷ parts) own = (fine_url p own.0, fine_urls parts own.1)

fine_timeline : (join : Bool) (first : ℕ) (durations : List ℕ) → IsFine 1 (timeline_with join first durations)
unfolding starts_name goes_on_name
fine_timeline join first durations =
    fine_node 0 (codes "SegmentTimeline") [] (s_elements (Some first) (longest_runs (joins join) durations))
    (legal_tag (codes "SegmentTimeline") [] refl refl tt) (fine_runs (Some first) (longest_runs (joins join) durations))

-- a list whose files have addresses of their own
fine_list : (join : Bool) (ticks : ℕ) (offset : Option ℕ) (first : ℕ) (part : Part) (durations : List ℕ) (parts : List Part)
    → IsOwnPart part → AllByRecursion IsOwnPart parts → IsFine 2 (list_with join ticks offset first part durations parts)
unfolding starts_name goes_on_name
fine_list join ticks offset first part durations parts own all =
    fine_node 1 (codes "SegmentList") (head_attributes ticks offset) (contents_with join first part durations parts)
    (legal_tag (codes "SegmentList") (head_attributes ticks offset) refl refl (
      number ticks,
      (maybe_plain decimal decimal_plain offset, tt),
    )) (fine_initialization part own, (fine_timeline join first durations, fine_urls parts all))

-- ---- templates of such files

doubled_plain : (text : List ℕ) → ArePlain text → ArePlain (doubled text)
doubled_plain [] plain = refl
doubled_plain (b ∷ bs) plain =
    let parts = and_parts (is_plain b) (list_all is_plain bs) plain in
    both (if b == 36 then codes "$$" else b ∷ []) (doubled bs) (go (b == 36) parts.0) (doubled_plain bs parts.1) where
      go : (dollar : Bool) → is_plain b ≡ true → ArePlain (if dollar then codes "$$" else b ∷ [])
      go true here = refl
      go false here = rw here refl

identifier_plain : (width : ℕ) → ArePlain (number_identifier width)
identifier_plain width = go (width == 0) where
  go : (none : Bool) → ArePlain (if none then codes "$Number$" else codes "$Number%0" ++ (decimal width ++ codes "d$"))
  go true = refl
  go false = both (codes "$Number%0") (decimal width ++ codes "d$") refl (both (decimal width) (codes "d$") (decimal_plain width) refl)

media_plain : (parts : List Part) → AllByRecursion IsOwnPart parts → ArePlain (media_of (addresses_of parts))
media_plain [] own = refl
media_plain (part ∷ parts) own = go (pattern_of (addresses_of (part ∷ parts))) (address_plain part.address own.0.address) where
  go : (found : Option Pattern) → ArePlain part.address → ArePlain (media_if_some part.address found)
  go None plain = refl
  go (Some p) plain =
      let front = doubled (take p.prefix_len part.address) in
      let back = doubled (drop p.suffix_start part.address) in
      both front (number_identifier p.width ++ back)
      (doubled_plain (take p.prefix_len part.address) (front_of_all is_plain p.prefix_len part.address plain))
      (both (number_identifier p.width) back (identifier_plain p.width)
      (doubled_plain (drop p.suffix_start part.address) (back_of_all is_plain p.suffix_start part.address plain)))

fine_template : (ticks : ℕ) (offset : Option ℕ) (first : ℕ) (part : Part) (parts : List Part) (count : ℕ) (durations : List ℕ)
    → IsOwnPart part → AllByRecursion IsOwnPart parts
    → IsFine 2 (template_with ticks offset first part.address (media_of (addresses_of parts)) count durations)
unfolding starts_name goes_on_name
fine_template ticks offset first part parts count durations own all =
    let attributes = template_attributes ticks offset (doubled part.address) (media_of (addresses_of parts)) count in
    fine_node 1 (codes "SegmentTemplate") attributes (timeline_with true first durations ∷ [])
    (legal_tag (codes "SegmentTemplate") attributes refl refl (
      number ticks,
      (
        maybe_plain decimal decimal_plain offset,
        (
          carried (doubled part.address) (doubled_plain part.address (address_plain part.address own.address)),
          (carried (media_of (addresses_of parts)) (media_plain parts all), (number count, tt)),
        ),
      ),
    ))
    (fine_timeline true first durations, tt)

-- ---- in a form of MPDs

fine_players : (found : Option Pattern) (ticks : ℕ) (offset : Option ℕ) (first : ℕ) (part : Part) (durations : List ℕ) (parts : List Part)
    → IsOwnPart part → AllByRecursion IsOwnPart parts → IsFine 2 (players_by found ticks offset first part durations parts)
fine_players None ticks offset first part durations parts own all = fine_list false ticks offset first part durations parts own all
fine_players (Some p) ticks offset first part durations parts own all =
    fine_template ticks offset first part parts p.first_number durations own all

pub fine_segments : (form : Form) (ticks : ℕ) (offset : Option ℕ) (first : ℕ) (part : Part) (durations : List ℕ) (parts : List Part)
    → IsOwnPart part → AllByRecursion IsOwnPart parts → IsFine 2 (segments_with form ticks offset first part durations parts)
fine_segments Plain ticks offset first part durations parts own all = fine_list true ticks offset first part durations parts own all
fine_segments Players ticks offset first part durations parts own all =
    fine_players (pattern_in part parts) ticks offset first part durations parts own all

-- ---- tracks

-- so is what tracks have, from a place on
abbrev pub AreFine : (lists : ℕ → List Written) → (place count : ℕ) → Type 0
AreFine lists place count = (i : ℕ) → place ≤ i → i < place + count → AllByRecursion (IsFine 2) (lists i)

fine_representation : (lists : ℕ → List Written) (k : ℕ) (track : Track) → AllByRecursion (IsFine 2) (lists k) → IsTellable track
    → IsFine 3 (track_element lists k track)
unfolding starts_name goes_on_name
fine_representation lists k track fine told =
    fine_node 2 (codes "Representation") (representation_attributes k track) (lists k)
    (legal_tag (codes "Representation") (representation_attributes k track) refl refl (
      carried (id_text k) (id_plain k),
      (
        number track.bandwidth,
        (
          told.codecs,
          (
            maybe_plain (λ (size : Size). decimal size.width) (λ size. decimal_plain size.width) track.size,
            (
              maybe_plain (λ (size : Size). decimal size.height) (λ size. decimal_plain size.height) track.size,
              (rate_carried track.frame_rate, tt),
            ),
          ),
        ),
      ),
    ))
    fine

fine_representations : (lists : ℕ → List Written) (k : ℕ) (tracks : List Track) → AreFine lists k (length tracks)
    → AllByRecursion IsTellable tracks
    → AllByRecursion (IsFine 3) (track_elements lists k tracks)
fine_representations lists k [] fine told = tt
fine_representations lists k (track ∷ tracks) fine told = (
  fine_representation lists k track (fine k (omega arith) (omega arith)) told.0,
  fine_representations lists (k + 1) tracks (λ i from below. fine i (omega (arith, from)) (omega (arith, below))) told.1,
)

front_of : {X : Type 0} (P : X → Type 0) (xs ys : List X) → AllByRecursion P (xs ++ ys) → AllByRecursion P xs
front_of P [] ys all = tt
front_of P (x ∷ xs) ys all = (all.0, front_of P xs ys all.1)

back_of : {X : Type 0} (P : X → Type 0) (xs ys : List X) → AllByRecursion P (xs ++ ys) → AllByRecursion P ys
back_of P [] ys all = all
back_of P (x ∷ xs) ys all = back_of P xs ys all.1

fine_set : (lists : ℕ → List Written) (k : ℕ) (track : Track) (tracks : List Track) → AreFine lists k (suc (length tracks))
    → AllByRecursion IsTellable (track ∷ tracks)
    → IsFine 4 (node (codes "AdaptationSet") (set_attributes track) (track_elements lists k (track ∷ tracks)))
unfolding starts_name goes_on_name
fine_set lists k track tracks fine told =
    fine_node 3 (codes "AdaptationSet") (set_attributes track) (track_elements lists k (track ∷ tracks))
    (legal_tag (codes "AdaptationSet") (set_attributes track) refl refl (
      carried (mime_type track.kind) (mime_plain track.kind),
      (told.0.language, tt),
    ))
    (fine_representations lists k (track ∷ tracks) fine told)

fine_sets : (lists : ℕ → List Written) (k : ℕ) (sets : List (List Track)) → AreFine lists k (length (joined sets))
    → AllByRecursion IsTellable (joined sets)
    → AllByRecursion (IsFine 4) (set_elements lists k sets)
fine_sets lists k [] fine told = tt
fine_sets lists k ([] ∷ sets) fine told = fine_sets lists (k + 0) sets (λ i from below. fine i (omega (arith, from)) (omega
    (arith, below))) told
fine_sets lists k ((track ∷ tracks) ∷ sets) fine told =
    let size : suc (length tracks) + length (joined sets) ≡ length ((track ∷ tracks)
    ++ joined sets) = omega (arith, length-append tracks (joined sets)) in (
      fine_set lists k track tracks (λ i from below. fine i from (omega (arith, below, size))) (front_of IsTellable (track ∷ tracks)
          (joined sets) told),
      fine_sets lists (k + suc (length tracks)) sets (λ i from below. fine i (omega (arith, from)) (omega (arith, below, size)))
          (back_of IsTellable (track ∷ tracks) (joined sets) told),
    )

-- ---- Periods, and the whole

fine_period : (o : Outline) (place : ℕ) (attributes : List Attribute) → IsLegalTag (tag_of (codes "Period") attributes)
    → AreFine (o.lists place) 0 (length o.tracks) → AllByRecursion IsTellable o.tracks → IsFine 5 (period_element o place attributes)
fine_period o place attributes legal fine told =
    let sets = longest_runs stand_together o.tracks in
    let whole = sym (all_join o.tracks) in
    fine_node 4 (codes "Period") attributes (set_elements (o.lists place) 0 sets) legal
    (fine_sets (o.lists place) 0 sets (subst (AreFine (o.lists place) 0) (ap length whole) fine) (subst
    (AllByRecursion IsTellable) whole told))

-- Periods, from a place on
abbrev pub ArePrintable : Outline → (place : ℕ) → List (List Attribute) → Type 0
ArePrintable o place [] = Unit {0}
ArePrintable o place (attributes ∷ periods) = IsLegalTag (tag_of (codes "Period") attributes) × AreFine (o.lists place) 0 (length o.tracks)
    × ArePrintable o (place + 1) periods

fine_periods : (o : Outline) (place : ℕ) (periods : List (List Attribute)) → ArePrintable o place periods
    → AllByRecursion IsTellable o.tracks
    → AllByRecursion (IsFine 5) (period_elements o place periods)
fine_periods o place [] fine told = tt
fine_periods o place (attributes ∷ periods) fine told =
    (fine_period o place attributes fine.0 fine.1 told, fine_periods o (place + 1) periods fine.2 told)

pub root_legal : (o : Outline) → IsLegalTag (tag_of (codes "MPD") o.root) → ArePrintable o 0 o.periods → AllByRecursion IsTellable o.tracks
    → IsLegal (root_element o).0 (root_element o).1
root_legal o legal fine told =
    let inside = all_fine 5 (period_elements o 0 o.periods) (fine_periods o 0 o.periods fine told) in
    record { root = legal; inside = inside.0; shallow = omega (arith, inside.1) }

-- the root of a finished MPD
pub finished_legal : (end : Option ℕ) → IsLegalTag (tag_of (codes "MPD") (finished_root end))
unfolding starts_name goes_on_name
finished_legal end = legal_tag (codes "MPD") (finished_root end) refl refl (
  carried (codes "urn:mpeg:dash:schema:mpd:2011") refl,
  (
    carried (codes "urn:mpeg:dash:profile:full:2011") refl,
    (carried (codes "static") refl, (carried (codes "PT2S") refl, (maybe_plain duration_text duration_plain end, tt))),
  ),
)

pub by_recursion : {X : Type 0} (P : X → Type 0) (xs : List X) → All P xs → AllByRecursion P xs
by_recursion P [] all = tt
by_recursion P (x ∷ xs) all = (all 0 x (omega arith), by_recursion P xs (All-tail P x xs all))
