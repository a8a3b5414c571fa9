-- One more element before.
use Rattle.std.proofs.Common.{◌≡◌, ℕ, Bool, true, false, ◌||◌, ◌&&◌, List, [], ◌∷◌, ◌++◌, Option, Some, None, refl, sym, ◌∙◌, ap}
use Rattle.std.proofs.{Common.bytes_eq, lemmas.List.map-append, lemmas.List.Folds.list_any-append}
use Rattle.std.specs.{Prelude.{codes, if◌then◌else◌}, List.list_any}
use Rattle.bridge_io.proofs.Texts.{among_more, bytes_eq_sym, or_nothing}
use Rattle.bridge_io.specs.Texts.{is_among}
use Rattle.mpd_tree.specs.Trees.{Head}
use Rattle.mpd_profile.specs.{declared.siblings.Siblings.Siblings, Behind.{IsBehind, holds_id}, Features.{is_segment_element, names_of}}
use Rattle.mpd_profile.specs.{Heads.is_short, Refusals.{has_id, is_same_id}}
use Rattle.mpd_profile.proofs.Untold.{no_initialization, no_period, no_segments, no_timeline}

any_more : {X : Type 0} (p : X → Bool) (before : List X) (x : X) → list_any p (before ++ x ∷ []) ≡ (list_any p before || p x)
any_more p before x = list_any-append p before (x ∷ []) ∙ ap (λ b. list_any p before || b) (or_nothing (p x))

pub no_more_ids : (dynamic : Bool) (period : Option (List ℕ)) (id : List ℕ) (was here : Bool) → None ≡ (if dynamic then period else None)
    → here ≡ (dynamic && was) → here ≡ (dynamic && (was || is_same_id period id))
no_more_ids true None id was here none is = is ∙ sym (or_nothing was)
no_more_ids true (Some other) id was here none is = absurd (cc)
no_more_ids false period id was here none is = is

pub one_more_id : (dynamic : Bool) (period : Option (List ℕ)) (key id : List ℕ) (was here : Bool)
    → Some key ≡ (if dynamic then period else None) → here ≡ (dynamic && was)
    → (here || bytes_eq id key) ≡ (dynamic && (was || is_same_id period id))
one_more_id true (Some other) key id was here some is =
    let more : (here || bytes_eq key id) ≡ (was || bytes_eq other id) = cc in ap (λ b. here || b) (bytes_eq_sym id key) ∙ more
one_more_id true None key id was here some is = absurd (cc)
one_more_id false period key id was here some is = absurd (cc)

name_more : (before : List Head) (head : Head) (name : List ℕ) → is_among name (names_of (before ++ head ∷ []))
    ≡ (is_among name (names_of before) || bytes_eq head.name name)
name_more before head name = ap (is_among name) (map-append (λ (h : Head). h.name) before (head ∷ []))
    ∙ among_more name head.name (names_of before)
    ∙ ap (λ b. is_among name (names_of before) || b) (bytes_eq_sym name head.name)

name_still : (before : List Head) (head : Head) (name : List ℕ) → bytes_eq head.name name ≡ false
    → is_among name (names_of before) ≡ is_among name (names_of (before ++ head ∷ []))
name_still before head name differs = sym (name_more before head name ∙ rw differs (or_nothing (is_among name (names_of before))))

-- an element of a short name says nothing of those behind it
any_still : {X : Type 0} (p : X → Bool) (before : List X) (x : X) → p x ≡ false → list_any p before ≡ list_any p (before ++ x ∷ [])
any_still p before x fails = sym (any_more p before x ∙ rw fails (or_nothing (list_any p before)))

pub one_more : (siblings next : Siblings) (dynamic : Bool) (before : List Head) (head : Head)
    → next.segments ≡ (siblings.segments || is_segment_element head.name)
    → next.timeline ≡ (siblings.timeline || bytes_eq head.name (codes "SegmentTimeline"))
    → next.initialization ≡ (siblings.initialization || bytes_eq head.name (codes "Initialization"))
    → ((id : List ℕ) → holds_id next id ≡ (dynamic && (list_any (has_id id) before || has_id id head)))
    → IsBehind siblings dynamic before → IsBehind next dynamic (before ++ head ∷ [])
one_more siblings next dynamic before head segments timeline initialization ids behind = record {
  segments = rw (segments, behind.segments) (sym (any_more (λ (h : Head). is_segment_element h.name) before head));
  timeline = rw (timeline, behind.timeline) (sym (name_more before head (codes "SegmentTimeline")));
  initialization = rw (initialization, behind.initialization) (sym (name_more before head (codes "Initialization")));
  ids = λ id. ids id ∙ ap (λ some. dynamic && some) (sym (any_more (has_id id) before head));
}

pub short_behind : (siblings : Siblings) (dynamic : Bool) (before : List Head) (head : Head) → is_short head.name ≡ true
    → IsBehind siblings dynamic before → IsBehind siblings dynamic (before ++ head ∷ [])
short_behind siblings dynamic before head short behind = record {
  segments = behind.segments ∙ any_still (λ (h : Head). is_segment_element h.name) before head (no_segments head.name short);
  timeline = behind.timeline ∙ name_still before head (codes "SegmentTimeline") (no_timeline head.name short);
  initialization = behind.initialization ∙ name_still before head (codes "Initialization") (no_initialization head.name short);
  ids = λ id. behind.ids id ∙ ap (λ some. dynamic && some) (any_still (has_id id) before head (rw (no_period head.name short) refl));
}
