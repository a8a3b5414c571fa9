-- The sets of a Period are read as they were written.
use Rattle.mpd_profile.specs.declared.listed.Listed.TheVariants as listed
use Rattle.std.proofs.Common.{◌≡◌, ℕ, suc, ◌+◌, ◌==◌, Bool, true, false, ◌&&◌, ◌||◌, List, [], ◌∷◌, ◌++◌, length, map, filter, codes}
use Rattle.std.proofs.Common.{bytes_eq, Option, Some, None, if◌then◌else◌, refl, sym, ◌∙◌, ap, ap₂, subst, arith, length-append}
use Rattle.std.proofs.{lemmas.Bool.and_parts, lemmas.List.map-append}
use Rattle.std.specs.{Option.option_eq, List.AllByRecursion}
use Rattle.bridge_io.proofs.Texts.{same_bytes}
use Rattle.bridge_io.specs.{declared.place.Place.Place, declared.media.Kind.Kind, declared.media.Kind.TheVariants.{Video, Audio, Text}}
use Rattle.mpd_tree.specs.{Views.side_by_side, Placed.{past, placed}, Markup.{Tag, opening}}
use Rattle.mpd_profile.specs.LeftOut.{type_of, is_set_left_out}
use Rattle.mpd_levels.specs.Segments.{Segments, segments_of}
use Rattle.mpd_rules.specs.{Kept.{is_kept, paths_in, paths_of, path_in, representations_of}, Typed.track_of}
use Rattle.presentation.specs.{declared.track.Track.Track, Order.{is_of, same_language}}
use Rattle.segment_forms.specs.declared.form.Form.{Form}
use Rattle.dash_writer.specs.{Elements.{Element as Written, in_order, tag_of}, Runs.{longest_runs, with_first}}
use Rattle.dash_writer.specs.Outline.{is_video, set_attributes, set_elements, sets_of, stand_together, track_elements}
use Rattle.laws_of_mpds.specs.{Told.{AreNamed, read_at}, Shown.{shown_row, shown_tracks}}
use Rattle.laws_of_mpds.proofs.Representations.{AreOf, Around, Has, HasAll, OfSet, not_left, period_in, representations_named}
use Rattle.laws_of_mpds.proofs.{Representations.representations_shown, Views.{behind, has_none, nothing_above, value_read}}

-- ---- tracks that stand together are of one kind, in one language

same_kind : (a b : Kind) → is_of a b ≡ true → a ≡ b
same_kind Video Video is = refl
same_kind Video Audio is = absurd (cc)
same_kind Video Text is = absurd (cc)
same_kind Audio Video is = absurd (cc)
same_kind Audio Audio is = refl
same_kind Audio Text is = absurd (cc)
same_kind Text Video is = absurd (cc)
same_kind Text Audio is = absurd (cc)
same_kind Text Text is = refl

one_language : (a b : Option (List ℕ)) → option_eq bytes_eq a b ≡ true → a ≡ b
one_language None None is = refl
one_language None (Some b) is = absurd (cc)
one_language (Some a) None is = absurd (cc)
one_language (Some a) (Some b) is = ap Some (same_bytes a b is)

-- a set's tracks are as its first one
abbrev pub IsSet : List Track → Type 0
IsSet [] = ⊥
IsSet (track ∷ tracks) = AreOf track.kind track.language tracks

as_first : (one other : Track) (tracks : List Track) → one.kind ≡ other.kind → one.language ≡ other.language
    → AreOf other.kind other.language tracks
    → AreOf one.kind one.language tracks
as_first one other [] kind language all = tt
as_first one other (t ∷ tracks) kind language all = (
  (
    all.0.0 ∙ sym kind,
    all.0.1
        ∙ sym language,
  ),
  as_first one other tracks kind language all.1,
)

first_sets : (track : Track) (sets : List (List Track)) → AllByRecursion IsSet sets
    → AllByRecursion IsSet (with_first stand_together track sets)
first_sets track [] all = (tt, tt)
first_sets track ([] ∷ sets) all = absurd (all.0)
first_sets track ((other ∷ tracks) ∷ sets) all = go (stand_together track other) refl where
  go : (together : Bool) → stand_together track other ≡ together
      → AllByRecursion IsSet (if together then (track ∷ other ∷ tracks) ∷ sets else (track ∷ []) ∷ (other ∷ tracks) ∷ sets)
  go true is =
      let both = and_parts (is_of track.kind other.kind && (is_video track.kind || track.set == other.set))
      (same_language track.language other.language) is in
      let kinds = and_parts (is_of track.kind other.kind) (is_video track.kind || track.set == other.set) both.0 in
      let kind = same_kind track.kind other.kind kinds.0 in
      let language = one_language track.language other.language both.1 in
      (((sym kind, sym language), as_first track other tracks kind language all.0), all.1)
  go false is = (tt, all)

all_sets_are : (tracks : List Track) → AllByRecursion IsSet (longest_runs stand_together tracks)
all_sets_are [] = tt
all_sets_are (track ∷ tracks) = first_sets track (longest_runs stand_together tracks) (all_sets_are tracks)

abbrev pub joined : List (List Track) → List Track
joined [] = []
joined (tracks ∷ sets) = tracks ++ joined sets

first_joins : (track : Track) (sets : List (List Track)) → joined (with_first stand_together track sets) ≡ track ∷ joined sets
first_joins track [] = refl
first_joins track ([] ∷ sets) = refl
first_joins track ((other ∷ tracks) ∷ sets) = go (stand_together track other) where
  go : (together : Bool) → joined (if together then (track ∷ other ∷ tracks) ∷ sets else (track ∷ []) ∷ (other ∷ tracks) ∷ sets)
      ≡ track ∷ (other ∷ tracks) ++ joined sets
  go true = refl
  go false = refl

pub all_join : (tracks : List Track) → joined (longest_runs stand_together tracks) ≡ tracks
all_join [] = refl
all_join (track ∷ tracks) = first_joins track (longest_runs stand_together tracks) ∙ ap (λ more. track ∷ more) (all_join tracks)

shown_joins : (told : ℕ → Option Segments) (k : ℕ) (tracks more : List Track)
    → shown_tracks told k (tracks ++ more) ≡ shown_tracks told k tracks ++ shown_tracks told (k + length tracks) more
shown_joins told k [] more = let place : k ≡ k + 0 = omega arith in ap (λ n. shown_tracks told n more) place
shown_joins told k (t ∷ tracks) more =
    let place : k + 1 + length tracks ≡ k + suc (length tracks) = omega arith in
    ap (λ xs. record { kind = t.kind; language = t.language; bases = []; segments = told k } ∷ xs)
    (shown_joins told (k + 1) tracks more ∙ ap (λ n. shown_tracks told (k + 1) tracks ++ shown_tracks told n more) place)

-- ---- a set

abbrev tag_for : Track → Tag
tag_for track = tag_of (codes "AdaptationSet") (set_attributes track)

says : (here : Place) (track : Track) (reps : List Written) → OfSet (read_at here (tag_for track, in_order reps)) track.kind track.language
says here track reps = record {
  type = value_read (codes "mimeType") (set_attributes track) (past here (codes "<" ++ codes "AdaptationSet"));
  tongue = value_read (codes "lang") (set_attributes track) (past here (codes "<" ++ codes "AdaptationSet")) ∙ nothing_above track.language;
}

set_kept : (form : Form) (lists : ℕ → List Written) (told : ℕ → Option Segments) (k : ℕ) (track : Track) (tracks : List Track)
    (here : Place)
    → Has form lists told k
    → is_set_left_out (read_at here (tag_for track, in_order (track_elements lists k (track ∷ tracks)))) ≡ false
unfolding is_set_left_out
set_kept form lists told k track tracks here has =
    let reps = track_elements lists k (track ∷ tracks) in
    let inside = past here (opening (tag_for track) ++ codes ">") in
    let type = type_of (read_at here (tag_for track, in_order reps)).head in
    rw (
      has_none (codes "Representation") (codes "EssentialProperty") refl inside reps (representations_named lists k (track ∷ tracks)),
      not_left form lists told k track track.kind type (past inside (codes "\n")) has (says here track reps).type,
    ) refl

-- ---- sets in order

pub sets_named : (lists : ℕ → List Written) (k : ℕ) (sets : List (List Track))
    → AreNamed (codes "AdaptationSet") (set_elements lists k sets)
sets_named lists k [] = refl
sets_named lists k ([] ∷ sets) = sets_named lists (k + 0) sets
sets_named lists k ((track ∷ tracks) ∷ sets) = sets_named lists (k + suc (length tracks)) sets

sets_shown : (form : Form) (r : Around) (k place : ℕ) (sets : List (List Track)) (here : Place)
    → HasAll form r.lists r.told k (length (joined sets))
    → AllByRecursion IsSet sets
    → map shown_row (map (track_of segments_of) (paths_in r.mpd (period_in r) place
    (filter (is_kept listed.AdaptationSet (codes "AdaptationSet") (period_in r).head)
    (side_by_side (placed here (in_order (set_elements r.lists k sets)))))))
    ≡ shown_tracks r.told k (joined sets)
sets_shown form r k place [] here has all = refl
sets_shown form r k place ([] ∷ sets) here has all = absurd (all.0)
sets_shown form r k place ((track ∷ tracks) ∷ sets) here has all =
    let reps = track_elements r.lists k (track ∷ tracks) in
    let from = past here (codes "\n") in
    let set = read_at from (tag_for track, in_order reps) in
    let next = k + suc (length tracks) in
    let size : suc (length tracks) + length (joined sets) ≡ length ((track ∷ tracks)
    ++ joined sets) = omega (arith, length-append tracks (joined sets)) in
    let own : HasAll form r.lists r.told k (suc (length tracks)) = λ i start below. has i start (omega (arith, below, size)) in
    let later : HasAll form r.lists r.told next (length (joined sets)) =
    λ i start below. has i (omega (arith, start)) (omega (arith, below, size)) in
    let firsts = map (path_in r.mpd (period_in r) set place) (representations_of set) in
    let others = paths_in r.mpd (period_in r) (place + 1)
    (filter (is_kept listed.AdaptationSet (codes "AdaptationSet") (period_in r).head)
    (side_by_side (placed (behind here (tag_for track, in_order reps)) (in_order (set_elements r.lists next sets))))) in
    rw (set_kept form r.lists r.told k track tracks from (own k (omega arith) (omega arith)))
    (ap (map shown_row) (map-append (track_of segments_of) firsts others)
    ∙ map-append shown_row (map (track_of segments_of) firsts) (map (track_of segments_of) others)
    ∙ ap₂ (λ xs ys. xs ++ ys)
    (representations_shown form r k place (track ∷ tracks) track.kind track.language (tag_for track) reps (past from (opening
    (tag_for track) ++ codes ">")) from own
    (representations_named r.lists k (track ∷ tracks)) (says from track reps) ((refl, refl), all.0))
    (sets_shown form r next (place + 1) sets (behind here (tag_for track, in_order reps)) later all.1)
    ∙ sym (shown_joins r.told k (track ∷ tracks) (joined sets)))

-- ---- a Period

-- a Period with the sets of all tracks
pub tracks_shown : (form : Form) (r : Around) (tracks : List Track) → HasAll form r.lists r.told 0 (length tracks)
    → r.sets ≡ sets_of r.lists tracks
    → map shown_row (map (track_of segments_of) (paths_of r.mpd (period_in r))) ≡ shown_tracks r.told 0 tracks
tracks_shown form r tracks has are =
    let sets = longest_runs stand_together tracks in
    let whole = all_join tracks in
    let inside = past r.at (opening r.tag ++ codes ">") in
    ap (λ xs. map shown_row (map (track_of segments_of) (paths_in r.mpd (period_in r) 0
    (filter (is_kept listed.AdaptationSet (codes "AdaptationSet") (period_in r).head) (side_by_side (placed inside (in_order xs))))))) are
    ∙ sets_shown form r 0 0 sets inside (subst (HasAll form r.lists r.told 0) (ap length (sym whole)) has) (all_sets_are tracks)
    ∙ ap (shown_tracks r.told 0) whole
