-- Periods by the times of their tracks' segments.
use Rattle.std.proofs.Common.{◌≡◌, ℕ, zero, suc, ◌+◌, ◌*◌, ◌<◌, false, List, [], ◌∷◌, length, take, drop, slice_get, sum, ◌^◌, Option, None}
use Rattle.std.proofs.{Common.{Some, option_map, option_and_then, option_to_list, refl, ap, ◌∙◌, arith}, lemmas.List.Sums.sum_by-cons}
use Rattle.presentation.specs.{declared.parts.Content.Content, declared.track.Section.Section, declared.track.Track.Track}
use Rattle.presentation.specs.Presented.{AreFilled, Presented, content_at, listed_in, window_of}
use Rattle.presentation.proofs.OwnListed.{some_at}
use Rattle.timeline.specs.{declared.window.Window.Window, Expansions.SegmentTimeline}
use Rattle.url_parts.specs.declared.address.Part.{Part}
use Rattle.dash_writer.specs.{declared.timed.TickRun.TickRun, Forms.segments_with, Lists.parts_of, Timed.{lengths, longest, sections_from}}
use Rattle.segment_forms.specs.declared.form.Form.{Form}
use Rattle.dash_writer.specs.{Timed.{timed_list, timed_lists, timed_sections}, Written.is_childless}
use Rattle.dash_writer.proofs.Origins.{place_within}

-- of so many rows the first one, and the others
pub first_row : (n m tracks : ℕ) → n ≡ suc m → n * tracks ≡ tracks + m * tracks
first_row n m tracks is = rw is (omega arith)

pub first_length : (n m tracks : ℕ) (times : List TickRun) → n ≡ suc m
    → lengths tracks n times ≡ longest (take tracks times) ∷ lengths tracks m (drop tracks times)
first_length n m tracks times is = rw is refl

sum-cons : (n : ℕ) (ns : List ℕ) → sum (n ∷ ns) ≡ n + sum ns
sum-cons n ns = sum_by-cons (λ m. m) n ns

-- the first section and the others are within what all are
pub room_first : (start tracks n m : ℕ) (times : List TickRun) → n ≡ suc m → start + sum (lengths tracks n times) < 10 ^ 19
    → start + longest (take tracks times) + sum (lengths tracks m (drop tracks times)) < 10 ^ 19
room_first start tracks n m times is room =
    omega (
      arith,
      room,
      ap sum (first_length n m tracks times is),
      sum-cons (longest (take tracks times)) (lengths tracks m (drop tracks times)),
    )

pub length-sections : (start : ℕ) (lengths : List ℕ) → length (sections_from start lengths) ≡ length lengths
length-sections start [] = refl
length-sections start (n ∷ lengths) = ap suc (length-sections (start + n) lengths)

pub length-lengths : (tracks count : ℕ) (times : List TickRun) → length (lengths tracks count times) ≡ count
length-lengths tracks zero times = refl
length-lengths tracks (suc n) times = ap suc (length-lengths tracks n (drop tracks times))

-- the list of what stands there
pub timed_is : (form : Form) (window : Window) (content : Option Content) (runs : SegmentTimeline) (part : Part) (timed : Option TickRun) (run : TickRun)
    → option_map (λ content. content.runs) content ≡ Some runs → option_map (λ content. content.initialization) content ≡ Some part
    → timed ≡ Some run
    → option_to_list (option_and_then (λ content. option_map (timed_list form window content) timed) content)
    ≡ segments_with form run.scale (Some run.offset) run.first part run.durations (parts_of runs (listed_in window runs)) ∷ []
timed_is form window None runs part timed run is is_part is_timed = absurd (cc)
timed_is form window (Some content) runs part timed run is is_part is_timed = let same : content.runs ≡ runs = cc in
    let same_part : content.initialization ≡ part = cc in
    rw is_timed (ap (λ r. segments_with form run.scale (Some run.offset) run.first content.initialization run.durations (parts_of r
    (listed_in window r)) ∷ []) same
    ∙ ap (λ i. segments_with form run.scale (Some run.offset) run.first i run.durations (parts_of runs (listed_in window runs)) ∷ []) same_part)

pub some_timed : (form : Form) (window : Window) (content : Option Content) (c : Content) (timed : Option TickRun) (run : TickRun) → content ≡ Some c
    → timed ≡ Some run
    → is_childless (option_to_list (option_and_then (λ content. option_map (timed_list form window content) timed) content)) ≡ false
some_timed form window content c timed run is is_timed = rw (is, is_timed) refl

-- each track has something in each section
pub some_timed_list : (form : Form) (p : Presented) (times : List TickRun) (section track : ℕ)
    → AreFilled (length p.sections) (length p.tracks) (length p.contents) → AreFilled (length p.sections) (length p.tracks) (length times)
    → section < length p.sections → track < length p.tracks → is_childless (timed_lists form p times section track) ≡ false
some_timed_list form p times section track filled timed in_sections in_tracks =
    let place = section * length p.tracks + track in let sections = length p.sections in let tracks = length p.tracks in
    let content = some_at p.contents place (place_within section sections tracks track (length p.contents) filled in_sections in_tracks) in
    let run = some_at times place (place_within section sections tracks track (length times) timed in_sections in_tracks) in
    some_timed form (window_of p section) (content_at p section track) content.0 (slice_get times place) run.0 content.1 run.1

pub length_timed : (p : Presented) (times : List TickRun) → length (timed_sections p times) ≡ length p.sections
length_timed p times = length-sections 0 (lengths (length p.tracks) (length p.sections) times)
    ∙ length-lengths (length p.tracks) (length p.sections) times

-- a section of such a length
abbrev pub section_of : (id : List ℕ) (start length : ℕ) → Section
section_of id start length = record { id = id; start = start; length = Some length }

pub sections_are : (p : Presented) (times given : List TickRun) (tracks : List Track) (n : ℕ) (sections : List Section)
    → sections ≡ sections_from 0 (lengths (length tracks) n given) → tracks ≡ p.tracks → n ≡ length p.sections → given ≡ times
    → sections ≡ timed_sections p times
sections_are p times given tracks n sections is are same all = is
    ∙ ap (λ xs. sections_from 0 (lengths (length xs) n given)) are
    ∙ ap (λ n. sections_from 0 (lengths (length p.tracks) n given)) same
    ∙ ap (λ xs. sections_from 0 (lengths (length p.tracks) (length p.sections) xs)) all
