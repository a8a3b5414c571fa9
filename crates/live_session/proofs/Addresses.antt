-- The new segments without an address, and those of which the Periods have the places from a first one on.
use Rattle.timeline.specs.declared.fault.ListFault.TheVariants as list_fault
use Rattle.timeline.specs.declared.names.Names.TheVariants as names
use Rattle.std.proofs.Common.{◌≡◌, ℕ, zero, suc, ◌+◌, ◌-◌, ◌<◌, ◌≤◌, ℤ, List, [], ◌∷◌, ◌++◌, map, filter, flat_map, length, All, Option}
use Rattle.std.proofs.{Common.{Some, None, Result, Ok, Err, refl, ◌∙◌, ap, arith, length-append}, lemmas.List.nil_from_length}
use Rattle.std.proofs.lemmas.List.Elements.{All-append, All-cons, All-head, All-nil}
use Rattle.std.specs.{Prelude.{true, slice_get}, List.range_with_len, Option.option_map_or}
use Rattle.bridge_io.specs.Firsts.{first_of}
use Rattle.template_ids.specs.Templates.{named}
use Rattle.timeline.specs.{Expansions.{SegmentTimeline, Timing}, declared.names.Names.Names}
use Rattle.timeline.specs.Names.{listed_part, own_part, part_at, part_of, referred}
use Rattle.mpd_entries.specs.declared.ref_part.RefPart.{RefPart}
use Rattle.url_parts.specs.{Addresses.resolve, declared.address.Part.Part, declared.fault.UrlFault.TheVariants.Refused}
use Rattle.url_parts.specs.{declared.fault.UrlFault.UrlFault, declared.range.Range.Range}
use Rattle.presentation.specs.{declared.fault.PresentationFault.PresentationFault, declared.parts.Content.Content, Counting.sections_of}
use Rattle.presentation.specs.{Presented.{Presented, content_at, listed_at}, Verifying.{fault_at, part_fault, part_faults}}
use Rattle.live_meaning.specs.{Segments.{Segment, id_at, is_later, place_of}, Known.ids_of}
use Rattle.live_meaning.specs.{Histories.{Common, availability_start_of, numbering_of}, States.{Track, new_count, new_of}}
use Rattle.live_meaning.specs.Refusals.{Presentation, Refusal, is_of_address, makes_segments, urls_in, urls_told}
use Rattle.presentation.proofs.Grids.{All-at}
use Rattle.live_judge.proofs.{Contents.length-new, New.new_is}
use Rattle.live_session.specs.New.{faults_by, new_all, new_faults_in, new_faults_of, new_in, new_timings}

-- ---- all faults are of addresses

abbrev pub IsOfAddress : PresentationFault → Type 0
IsOfAddress fault = is_of_address fault ≡ true

at_address : (s t k : ℕ) (range : Option Range) (r : Result (List ℕ) UrlFault) → All IsOfAddress (part_fault s t k (part_at range r))
at_address s t k range (Ok address) = All-nil IsOfAddress
at_address s t k range (Err fault) = All-cons IsOfAddress (fault_at s t k (list_fault.Url fault)) [] refl (All-nil IsOfAddress)

listed_address : (s t k : ℕ) (base : List ℕ) (o : Option RefPart) → All IsOfAddress (part_fault s t k (listed_part base o))
listed_address s t k base None = All-nil IsOfAddress
listed_address s t k base (Some part) = at_address s t k part.range (referred base part.reference)

own_address : (s t k : ℕ) (o : Option Part) → All IsOfAddress (part_fault s t k (own_part o))
own_address s t k None = All-cons IsOfAddress (fault_at s t k (list_fault.Url Refused)) [] refl (All-nil IsOfAddress)
own_address s t k (Some part) = All-nil IsOfAddress

name_address : (s t k : ℕ) (names : Names) (place number time : ℕ) → All IsOfAddress (part_fault s t k (part_of names place number time))
name_address s t k (names.Template media id bandwidth base) place number time =
    at_address s t k None (resolve base (named media (record { id = id; bandwidth = bandwidth; number = number; time = time })))
name_address s t k (names.List parts base) place number time = listed_address s t k base (slice_get parts place)
name_address s t k (names.Shared parts base) place number time = listed_address s t k base (slice_get parts place)
name_address s t k (names.Addresses parts) place number time = own_address s t k (slice_get parts place)

parts_address : (timeline : SegmentTimeline) (s t k : ℕ) (xs : List Timing) → All IsOfAddress (part_faults timeline s t k xs)
parts_address timeline s t k [] = All-nil IsOfAddress
parts_address timeline s t k (x ∷ xs) =
    All-append IsOfAddress _ _ (name_address s t k timeline.names _ _ _) (parts_address timeline s t (k + 1) xs)

content_address : (s t k : ℕ) (xs : List Timing) (o : Option Content)
    → All IsOfAddress (option_map_or (λ content. part_faults content.runs s t k xs) o [])
content_address s t k xs None = All-nil IsOfAddress
content_address s t k xs (Some content) = parts_address content.runs s t k xs

pub all_flat : {X Y : Type 0} (P : Y → Type 0) (f : X → List Y) (xs : List X) → ((x : X) → All P (f x)) → All P (flat_map f xs)
all_flat P f [] each = All-nil P
all_flat P f (x ∷ xs) each = All-append P (f x) (flat_map f xs) (each x) (all_flat P f xs each)

-- those of a track
abbrev pub urls_of : Common → Presented → (t : ℕ) → Track → List PresentationFault
urls_of c p t track = flat_map (urls_in c p t track) (sections_of p)

all_address : (c : Common) (p : Presented) (t : ℕ) (track : Track) → All IsOfAddress (urls_of c p t track)
all_address c p t track =
    all_flat IsOfAddress (urls_in c p t track) (sections_of p) (λ s. content_address s t _ _ (content_at p s t))

-- ---- the first of them

pub first_mapped : (fs : List PresentationFault) (rs : List Refusal) (f : PresentationFault) → slice_get fs 0 ≡ Some f
    → first_of (map Presentation fs ++ rs) ≡ Some (Presentation f)
first_mapped [] rs f is = absurd (cc)
first_mapped (g ∷ fs) rs f is = let same : g ≡ f = cc in ap (λ (x : PresentationFault). Some (Presentation x)) same

pub first_address : (c : Common) (p : Presented) (t : ℕ) (track : Track) (f : PresentationFault)
    → slice_get (urls_of c p t track) 0 ≡ Some f
    → is_of_address f ≡ true
first_address c p t track f is = All-at IsOfAddress (urls_of c p t track) 0 f (all_address c p t track) is

makes_front : (fs : List PresentationFault) (rs : List Refusal) → All IsOfAddress fs → makes_segments (first_of rs) ≡ true
    → makes_segments (first_of (map Presentation fs ++ rs)) ≡ true
makes_front [] rs all rest = rest
makes_front (f ∷ fs) rs all rest = All-head IsOfAddress f fs all

-- an update that isn't refused before is to make all of them
pub urls_make : (c : Common) (p : Presented) (t : ℕ) (tracks : List Track) → makes_segments (first_of (urls_told c p t tracks)) ≡ true
urls_make c p t [] = refl
urls_make c p t (track ∷ tracks) =
    makes_front (urls_of c p t track) (urls_told c p (t + 1) tracks) (all_address c p t track) (urls_make c p (t + 1) tracks)

-- ---- by the places of Periods

pub same_over : {X : Type 0} (f g : ℕ → List X) (i n : ℕ) → ((s : ℕ) → i ≤ s → s < i + n → f s ≡ g s)
    → flat_map f (range_with_len i n) ≡ flat_map g (range_with_len i n)
same_over f g i zero same = refl
same_over f g i (suc n) same =
    rw (same i (omega arith) (omega arith), same_over f g (i + 1) n (λ s low high. same s (omega arith) (omega arith))) refl

module _ (c : Common) (p : Presented) (resets : ℕ) (start : ℤ) (k : ℕ) (force : p ≡ c.force) (more : resets ≡ c.resets)
    (first : start ≡ availability_start_of c.opened)
    (places : (s : ℕ) → s < length c.force.sections → place_of (ids_of c.known) (id_at c.force s) ≡ k + s) where
  pub all_by : (t : ℕ) (track : Track)
      → new_of c t track ≡ new_all (record { ids = []; resets = resets; availability_start = start }) p k track t
  all_by t track = rw (force, more, first) (new_is c k track t places)

  urls_at : (t : ℕ) (track : Track) (s : ℕ) → s < length c.force.sections → urls_in c c.force t track s ≡ new_faults_in c.force k track t s
  urls_at t track s within =
      ap (λ place. let new : List Timing =
      filter (λ x. option_map_or (λ last. is_later last track.place place x.end) track.last true) (listed_at c.force s t) in
      option_map_or (faults_by s t (length (listed_at c.force s t)) new) (content_at c.force s t) []) (places s within)

  pub urls_by : (t : ℕ) (track : Track) → urls_of c c.force t track ≡ new_faults_of p k track t
  urls_by t track =
      rw force (same_over (urls_in c c.force t track) (new_faults_in c.force k track t) 0 (length c.force.sections)
      (λ s low high. urls_at t track s (omega arith)))

-- ---- none where nothing is new

none_by : (s t listed : ℕ) (xs : List Timing) (o : Option Content) → xs ≡ [] → option_map_or (faults_by s t listed xs) o [] ≡ []
none_by s t listed xs None none = refl
none_by s t listed xs (Some content) none = rw none refl

none_among : (c : Common) (k t : ℕ) (track : Track) (ss : List ℕ)
    → length (flat_map (new_in (numbering_of c) c.force k track t) ss) ≡ 0 → flat_map (new_faults_in c.force k track t) ss ≡ []
none_among c k t track [] none = refl
none_among c k t track (s ∷ ss) none =
    let both = length-append (new_in (numbering_of c) c.force k track t s) (flat_map (new_in (numbering_of c) c.force k track t) ss) in
    let here : new_timings c.force k track t s ≡ [] =
    nil_from_length _ (omega (arith, both, length-new (numbering_of c) c.force k track t s)) in
    rw (none_by s t _ _ (content_at c.force s t) here) (none_among c k t track ss (omega (arith, both)))

pub none_urls : (c : Common) (k : ℕ) → ((s : ℕ) → s < length c.force.sections → place_of (ids_of c.known) (id_at c.force s) ≡ k + s)
    → (t : ℕ) (tracks : List Track) → new_count c t tracks ≡ 0 → urls_told c c.force t tracks ≡ []
none_urls c k places t [] none = refl
none_urls c k places t (track ∷ tracks) none =
    let own = ap (λ (xs : List Segment). length xs) (new_is c k track t places) in
    let here : urls_of c c.force t track ≡ [] =
    urls_by c c.force c.resets (availability_start_of c.opened) k refl refl refl places t track
    ∙ none_among c k t track (sections_of c.force) (omega (arith, own)) in
    rw here (none_urls c k places (t + 1) tracks (omega arith))
