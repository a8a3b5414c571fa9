-- What lines mean is what they tell.
use Rattle.hls_media.specs.declared.tag.Tag.TheVariants as tags
use Rattle.std.proofs.Common.{◌≡◌, ℕ, zero, suc, ◌+◌, ◌<◌, Bool, List, [], ◌∷◌, ◌++◌, length, reverse, cond, count_by, Some, option_map}
use Rattle.std.proofs.{Common.{unwrap_or, is_some, refl, sym, ◌∙◌, ap, subst, arith, append_assoc, length-append}, lemmas.List.append-nil}
use Rattle.std.proofs.{lemmas.List.reverse-append, lemmas.List.Sums.sum_by_push}
use Rattle.std.specs.List.{slice_get}
use Rattle.bridge_io.specs.declared.place.Place.{Place}
use Rattle.hls_lines.specs.Lines.{PlaylistLine, is_uri, tag, uri}
use Rattle.hls_media.specs.Media.{after, after_all, after_tag, after_uri, former_end, map_value, no_range, media_values, segment_value}
use Rattle.hls_media.specs.{States.{State, nothing}, Tags.tag_of, Told.{PlaylistsAreTold, SegmentsAreTold, first_told, told_first}}
use Rattle.hls_media.specs.Told.{is_byte_range, is_discontinuity, is_duration, is_end, is_first_section, is_map, is_of, is_sequence}
use Rattle.hls_media.specs.{Told.{is_target, number_told, segment_behind}, Values.{duration_of, number_of, range_from}}
use Rattle.hls_media.specs.{Addresses.address_of, declared.media.MediaSegment.MediaSegment, declared.tag.Tag.Tag}

-- what lines tell that are given from the last one on
abbrev pub state_told : List ℕ → List PlaylistLine → ℕ → List MediaSegment → State
state_told url back discontinuities segments = record {
  target = option_map (λ told. unwrap_or (number_of told.0) 0) (first_told is_target back);
  sequence = option_map (λ told. unwrap_or (number_of told.0) 0) (first_told is_sequence back);
  first_section = option_map (λ told. unwrap_or (number_of told.0) 0) (first_told is_first_section back);
  discontinuities = discontinuities;
  ended = is_some (first_told is_end back);
  duration = option_map (λ told. unwrap_or (duration_of told.0) 0) (told_first is_duration back);
  range = told_first is_byte_range back;
  map = option_map (λ told. map_value url told.0) (first_told is_map back);
  segments = segments;
}

-- a state behind lines is what they tell
pub record Tells (url : List ℕ) (before : List PlaylistLine) (s : State) : Type 0 where
  pub state : s ≡ state_told url (reverse before) s.discontinuities s.segments
  pub discontinuities : s.discontinuities ≡ count_by (is_of is_discontinuity) before
  pub segments : length s.segments ≡ count_by is_uri before

-- a state is what lines tell, but for its discontinuities and segments
abbrev IsState : List ℕ → List PlaylistLine → State → Type 0
IsState url back s = s ≡ state_told url back s.discontinuities s.segments

tag_tells : (url : List ℕ) (back : List PlaylistLine) (n : ℕ) (segments : List MediaSegment) (name rest : List ℕ) (place : Place) (t : Tag)
    → tag_of name ≡ t
    → IsState url (tag name rest place ∷ back) (after_tag url (state_told url back n segments) t rest place)
tag_tells url back n segments name rest place tags.TargetDuration e = rw e refl
tag_tells url back n segments name rest place _ e = rw e refl

tag_counts : (url : List ℕ) (s : State) (t : Tag) (rest : List ℕ) (place : Place)
    → (after_tag url s t rest place).discontinuities ≡ s.discontinuities + cond (is_discontinuity t) 1 0
tag_counts url s tags.Discontinuity rest place = refl
tag_counts url s _ rest place = omega arith

pub tag_same : (url : List ℕ) (s : State) (t : Tag) (rest : List ℕ) (place : Place) → (after_tag url s t rest place).segments ≡ s.segments
tag_same url s tags.Map rest place = refl
tag_same url s _ rest place = refl

module _ (url : List ℕ) (before : List PlaylistLine) (s : State) (is : Tells url before s) where
  backwards : (line : PlaylistLine) → reverse (before ++ line ∷ []) ≡ line ∷ reverse before
  backwards line = reverse-append before (line ∷ [])

  one_more : (test : PlaylistLine → Bool) (line : PlaylistLine) → count_by test (before ++ line ∷ [])
      ≡ count_by test before + cond (test line) 1 0
  one_more test line = sum_by_push (λ x. cond (test x) 1 0) before line

  tag_more : (name rest : List ℕ) (place : Place) → Tells url (before ++ tag name rest place ∷ []) (after url s (tag name rest place))
  tag_more name rest place =
      let line = tag name rest place in
      let t = tag_of name in
      record {
        state = rw (backwards line) (subst (λ (x : State). IsState url (line ∷ reverse before) (after_tag url x t rest place))
            (sym is.state)
            (tag_tells url (reverse before) s.discontinuities s.segments name rest place t refl));
        discontinuities = omega (arith, tag_counts url s t rest place, one_more (is_of is_discontinuity) line, is.discontinuities);
        segments = omega (arith, ap length (tag_same url s t rest place), one_more is_uri line, is.segments);
      }

  uri_more : (text : List ℕ) (place : Place) → Tells url (before ++ uri text place ∷ []) (after url s (uri text place))
  uri_more text place =
      let line = uri text place in
      let told : IsState url (line ∷ reverse before) (after_uri url (state_told url (reverse before) s.discontinuities s.segments) text) =
      refl in
      record {
        state = rw (backwards line) (subst (λ (x : State). IsState url (line ∷ reverse before) (after_uri url x text)) (sym is.state) told);
        discontinuities = omega (arith, one_more (is_of is_discontinuity) line, is.discontinuities);
        segments = omega (arith, length-append s.segments (segment_value url s text ∷ []), one_more is_uri line, is.segments);
      }

  line_more : (line : PlaylistLine) → Tells url (before ++ line ∷ []) (after url s line)
  line_more (tag name rest place) = tag_more name rest place
  line_more (uri text place) = uri_more text place

walked : (url : List ℕ) (before lines : List PlaylistLine) (s : State) → Tells url before s
    → Tells url (before ++ lines) (after_all url s lines)
walked url before [] s is = rw append-nil is
walked url before (line ∷ lines) s is = rw (← append_assoc before (line ∷ []) lines)
    (walked url (before ++ line ∷ []) lines (after url s line) (line_more url before s is line))

pub tells : (url : List ℕ) (lines : List PlaylistLine) → Tells url lines (after_all url nothing lines)
tells url lines = walked url [] lines nothing (record { state = refl; discontinuities = refl; segments = refl })

-- ---- segments stay where they are

get_front : (xs ys : List MediaSegment) (i : ℕ) → i < length xs → slice_get (xs ++ ys) i ≡ slice_get xs i
get_front [] ys i less = absurd (omega arith)
get_front (x ∷ xs) ys zero less = refl
get_front (x ∷ xs) ys (suc i) less = get_front xs ys i (omega arith)

get_seam : (xs : List MediaSegment) (y : MediaSegment) → slice_get (xs ++ y ∷ []) (length xs) ≡ Some y
get_seam [] y = refl
get_seam (x ∷ xs) y = get_seam xs y

stays : (url : List ℕ) (s : State) (lines : List PlaylistLine) (i : ℕ) → i < length s.segments
    → slice_get (after_all url s lines).segments i ≡ slice_get s.segments i
stays url s [] i less = refl
stays url s (tag name rest place ∷ lines) i less =
    let same = tag_same url s (tag_of name) rest place in
    stays url (after_tag url s (tag_of name) rest place) lines i (omega (arith, ap length same, less))
    ∙ ap (λ segments. slice_get segments i) same
stays url s (uri text place ∷ lines) i less =
    stays url (after_uri url s text) lines i (omega (arith, length-append s.segments (segment_value url s text ∷ [])))
    ∙ get_front s.segments (segment_value url s text ∷ []) i less

after_both : (url : List ℕ) (s : State) (xs ys : List PlaylistLine) → after_all url s (xs ++ ys) ≡ after_all url (after_all url s xs) ys
after_both url s [] ys = refl
after_both url s (x ∷ xs) ys = after_both url (after url s x) xs ys

-- ---- laws

module _ (url : List ℕ) (before : List PlaylistLine) where
  abbrev s : State
  s = after_all url nothing before

  abbrev is : Tells url before s
  is = tells url before

  section_told : unwrap_or s.first_section 0 + s.discontinuities ≡ number_told is_first_section before + count_by
      (is_of is_discontinuity) before
  section_told = ap (λ (x : State). unwrap_or x.first_section 0 + s.discontinuities) is.state
      ∙ ap (λ n. number_told is_first_section before + n) is.discontinuities

  value_told : (text : List ℕ) → segment_value url s text ≡ segment_behind url before text
  unfolding segment_value media_values
  value_told text =
      let ranges = ap (λ (x : State). x.range) is.state in
      let maps = ap (λ (x : State). x.map) is.state in
      let durations = ap (λ (x : State). x.duration) is.state in
      let sections = section_told in
      let address = address_of url text in
      λ i. record {
        address = address;
        range = option_map (λ told. unwrap_or (range_from (former_end address s.segments) told.0) no_range) (ranges i);
        map = maps i;
        duration = unwrap_or (durations i) 0;
        section = sections i;
      }

pub segments_are_told : SegmentsAreTold
unfolding media_values
segments_are_told url before text place behind =
    let s = after_all url nothing before in
    let value = segment_value url s text in
    let at : count_by is_uri before ≡ length s.segments = sym ((tells url before).segments) in
    let whole = after_both url nothing before (uri text place ∷ behind) in
    let kept = stays url (after_uri url s text) behind (length s.segments) (omega (arith, length-append s.segments (value ∷ []))) in
    rw (at, whole) (kept ∙ get_seam s.segments value ∙ ap Some (value_told url before text))

pub playlists_are_told : PlaylistsAreTold
unfolding media_values
playlists_are_told url lines = let is = tells url lines in record {
  target = ap (λ (x : State). unwrap_or x.target 0) is.state;
  sequence = ap (λ (x : State). unwrap_or x.sequence 0) is.state;
  ended = ap (λ (x : State). x.ended) is.state;
  segments = is.segments;
}
