-- What a presentation from playlists tells of a track in a section.
use Rattle.std.proofs.Common.{◌≡◌, ℕ, ◌+◌, ◌*◌, ◌<◌, true, false, length, Option, None, Some, option_map, option_to_list, refl, ap, ◌∙◌}
use Rattle.std.proofs.{Common.mul_comm, lemmas.Nat.mul-add-lt}
use Rattle.std.specs.Prelude.{is_some}
use Rattle.url_parts.specs.declared.address.Part.{Part}
use Rattle.timeline.specs.{declared.window.Window.Window, Expansions.SegmentTimeline}
use Rattle.presentation.specs.{declared.parts.Content.Content, Presented.{AreFilled, Presented, content_at, listed_in, window_of}}
use Rattle.presentation.proofs.OwnListed.{some_at}
use Rattle.dash_writer.specs.{Manifest.segment_lists, Forms.own_segments, Written.is_childless}
use Rattle.segment_forms.specs.declared.form.Form.{Form}

-- the segments of what stands there
pub list_is : (form : Form) (window : Window) (content : Option Content) (runs : SegmentTimeline) (part : Part)
    → option_map (λ content. content.runs) content ≡ Some runs
    → option_map (λ content. content.initialization) content ≡ Some part
    → option_map (λ content. own_segments form content.runs content.initialization (listed_in window content.runs)) content
    ≡ Some (own_segments form runs part (listed_in window runs))
list_is form window None runs part is is_part = absurd (cc)
list_is form window (Some content) runs part is is_part = let same : content.runs ≡ runs = cc in
    let same_part : content.initialization ≡ part = cc in
    ap (λ r. Some (own_segments form r content.initialization (listed_in window r))) same
    ∙ ap (λ i. Some (own_segments form runs i (listed_in window runs))) same_part

one_list : (form : Form) (window : Window) (content : Option Content) → is_some content ≡ true
    → is_childless (option_to_list (option_map (λ content. own_segments form content.runs content.initialization
    (listed_in window content.runs)) content)) ≡ false
one_list form window None some = absurd (cc)
one_list form window (Some content) some = refl

-- the place of a track in a section is one of all
pub place_within : (section sections tracks track all : ℕ) → AreFilled sections tracks all → section < sections → track < tracks
    → section * tracks + track < all
place_within section sections tracks track all filled in_sections in_tracks =
    rw (filled, mul_comm sections tracks) (mul-add-lt section tracks track sections in_sections in_tracks)

-- each track has something in each section
pub some_list : (form : Form) (p : Presented) (section track : ℕ) → AreFilled (length p.sections) (length p.tracks) (length p.contents)
    → section < length p.sections → track < length p.tracks
    → is_childless (segment_lists form p section track) ≡ false
some_list form p section track filled in_sections in_tracks =
    let within = place_within section (length p.sections) (length p.tracks) track (length p.contents) filled in_sections in_tracks in
    let found = some_at p.contents (section * length p.tracks + track) within in
    one_list form (window_of p section) (content_at p section track) (ap is_some found.1)
