-- Where no segment is too long, no EXTINF is: each EXTINF without a fault is that of a segment.
use Rattle.hls_media.specs.declared.fault.MediaFault.TheVariants as fault
use Rattle.hls_media.specs.declared.tag.Tag.TheVariants as tags
use Rattle.std.proofs.Common.{◌≡◌, ℕ, Bool, true, false, ◌||◌, List, [], ◌∷◌, codes, bytes_eq, is_some, cond, Option, Some, None, Result}
use Rattle.std.proofs.{Common.{Err, refl, sym, ap, ◌∙◌}, lemmas.Bool.{and_parts, false≢true, not-true}, lemmas.List.Folds.list_all-append}
use Rattle.std.proofs.lemmas.Option.{none-some}
use Rattle.std.specs.List.{list_all, list_any}
use Rattle.bridge_io.specs.{Firsts.first_of, declared.place.Place.Place}
use Rattle.hls_lines.specs.Lines.{PlaylistLine, is_uri, tag, uri}
use Rattle.hls_media.specs.Media.{after_all, after_tag, after_uri, fault_in, is_long, is_short, length_of, line_fault, line_faults}
use Rattle.hls_media.specs.{Media.{long_faults, segment_value, tag_fault}, States.State, Tags.tag_of, Values.duration_of}
use Rattle.hls_media.specs.{declared.fault.MediaFault.MediaFault, declared.media.MediaSegment.MediaSegment, declared.tag.Tag.Tag}
use Rattle.hls_media.proofs.{Bounded.nothing_with, Told.tag_same, Wholes.not_long}

-- what all segments pass in the end, those before some lines pass
kept : (test : MediaSegment → Bool) (url : List ℕ) (s : State) (lines : List PlaylistLine)
    → list_all test (after_all url s lines).segments ≡ true → list_all test s.segments ≡ true
kept test url s [] all = all
kept test url s (tag name rest place ∷ lines) all =
    ap (list_all test) (sym (tag_same url s (tag_of name) rest place)) ∙ kept test url (after_tag url s (tag_of name) rest place) lines all
kept test url s (uri text place ∷ lines) all =
    let more = kept test url (after_uri url s text) lines all in
    (and_parts _ _ (sym (list_all-append test s.segments (segment_value url s text ∷ [])) ∙ more)).0

-- a tag without a fault leaves a duration that is told
waits : (url : List ℕ) (s : State) (t : Tag) (rest : List ℕ) (place : Place) (follows : Bool) (nanos : ℕ) → s.duration ≡ Some nanos
    → tag_fault url s t rest place follows ≡ None
    → (after_tag url s t rest place).duration ≡ Some nanos
waits url s tags.Duration rest place follows nanos e none = let twice : Some (fault.Misplaced place) ≡ None = rw e at none in
    absurd (none-some _ (sym twice))
waits url s _ rest place follows nanos e none = e

misplaced : (told : Bool) (place : Place) (r : Result ℕ MediaFault) → fault_in (cond (told || true) (Err (fault.Misplaced place)) r) ≡ None
    → ⊥
misplaced true place r none = none-some _ (sym none)
misplaced false place r none = none-some _ (sym none)

-- a URI follows an EXTINF without a fault
followed : (s : State) (rest : List ℕ) (place : Place) (follows : Bool) → fault_in (length_of s rest place follows) ≡ None → follows ≡ true
followed s rest place true none = refl
followed s rest place false none = absurd (misplaced (is_some s.duration) place _ none)

named_duration : (name : List ℕ) → bytes_eq name (codes "EXTINF") ≡ true → tag_of name ≡ tags.Duration
unfolding tag_of
named_duration name e = rw e refl

lasting : (url : List ℕ) (s : State) (text : List ℕ) (nanos : ℕ) → s.duration ≡ Some nanos → (segment_value url s text).duration ≡ nanos
unfolding segment_value
lasting url s text nanos e = rw e refl

module _ (url : List ℕ) (target : ℕ) where
  -- a duration that is told is that of the next URI's segment
  next_lasts : (lines : List PlaylistLine) (s : State) (nanos : ℕ) → s.duration ≡ Some nanos → list_any is_uri lines ≡ true
      → line_faults url s lines ≡ []
      → list_all (is_short target) (after_all url s lines).segments ≡ true → is_long target (Some nanos) ≡ false
  next_lasts [] s nanos e some none short = absurd (false≢true some)
  next_lasts (tag name rest place ∷ lines) s nanos e some none short =
      let parts = nothing_with (line_fault url s (tag name rest place) (list_any is_uri lines)) _ none in
      next_lasts lines (after_tag url s (tag_of name) rest place) nanos
      (waits url s (tag_of name) rest place (list_any is_uri lines) nanos e parts.0) some parts.1 short
  next_lasts (uri text place ∷ lines) s nanos e some none short =
      let segment = segment_value url s text in
      let more = kept (is_short target) url (after_uri url s text) lines short in
      let last = (and_parts (list_all (is_short target) s.segments) (list_all (is_short target) (segment ∷ []))
      (sym (list_all-append (is_short target) s.segments (segment ∷ [])) ∙ more)).1 in
      let own = (and_parts (is_short target segment) true last).0 in
      ap (λ n. is_long target (Some n)) (sym (lasting url s text nanos e)) ∙ not-true (is_long target (Some segment.duration)) own

  -- so is that of an EXTINF
  own_lasts : (rest : List ℕ) (place : Place) (lines : List PlaylistLine) (s : State) (t : Tag) → t ≡ tags.Duration
      → tag_fault url s t rest place (list_any is_uri lines) ≡ None
      → line_faults url (after_tag url s t rest place) lines ≡ []
      → list_all (is_short target) (after_all url (after_tag url s t rest place) lines).segments ≡ true
      → (o : Option ℕ) → duration_of rest ≡ o → is_long target o ≡ false
  own_lasts rest place lines s t is none others short None e = refl
  own_lasts rest place lines s t is none others short (Some nanos) e =
      next_lasts lines (after_tag url s t rest place) nanos (rw (is, e) refl) (followed s rest place _ (rw is at none)) others short

  -- the EXTINF of no segment is too long
  pub none_long : (lines : List PlaylistLine) (s : State) → line_faults url s lines ≡ []
      → list_all (is_short target) (after_all url s lines).segments ≡ true
      → first_of (long_faults target lines) ≡ None
  none_long [] s none short = refl
  none_long (uri text place ∷ lines) s none short =
      let parts = nothing_with (line_fault url s (uri text place) (list_any is_uri lines)) _ none in
      none_long lines (after_uri url s text) parts.1 short
  none_long (tag name rest place ∷ lines) s none short =
      let parts = nothing_with (line_fault url s (tag name rest place) (list_any is_uri lines)) _ none in
      not_long target name rest place lines (bytes_eq name (codes "EXTINF")) refl
      (λ named. own_lasts rest place lines s (tag_of name) (named_duration name named) parts.0 parts.1 short (duration_of rest) refl)
      ∙ none_long lines (after_tag url s (tag_of name) rest place) parts.1 short
