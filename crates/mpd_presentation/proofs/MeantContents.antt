-- What is made of an MPD's values is what they mean.
use Rattle.template_ids.specs.Templates as templates
use Rattle.mpd_presentation.specs.Told as told
use Rattle.std.proofs.Common.{◌≡◌, ℕ, Bool, true, false, List, [], Option, None, Some, Result, Ok, Err, unwrap_or, sym, ◌∙◌, ap}
use Rattle.std.specs.Prelude.{if◌then◌else◌}
use Rattle.url_parts.specs.declared.address.Part.{Part}
use Rattle.bridge_io.proofs.AndThen.{steps_of}
use Rattle.bridge_io.specs.Answer.{and_then, told_as}
use Rattle.template_ids.specs.{declared.fault.TemplateFault.TemplateFault, Templates.{template_of, template_fault}}
use Rattle.timeline.specs.{declared.entry.End.End, declared.fault.TimeFault.TimeFault, declared.names.Names.Names}
use Rattle.timeline.specs.{Expansions.SegmentTimeline, Names.referred, SegmentTimelines.unless_fault}
use Rattle.mpd_entries.specs.declared.entry.SEntry.{SEntry}
use Rattle.mpd_levels.specs.Segments.{Segments}
use Rattle.mpd_rules.specs.declared.rows.Description.{Description}
use Rattle.presentation.specs.{declared.fault.PresentationFault.PresentationFault, declared.parts.Content.Content}
use Rattle.presentation.specs.Meanings.{part_with, address_by, deepest}
use Rattle.mpd_presentation.specs.Told.{base_of, content_of, init_of, init_reference, init_template_of, initialization_of, media_of}
use Rattle.mpd_presentation.specs.{Told.{names_of, runs_of, some_init, unless_segments}, Meanings.{content_meant, timeline_by}}
use Rattle.presentation.proofs.{Filling.ok_under, Meant.{chained, reached}}

-- ---- contents

fault_is : (o : Option TimeFault) (timeline runs : SegmentTimeline) → unless_fault o timeline ≡ Ok runs → runs ≡ timeline
fault_is None timeline runs is = (let same : timeline ≡ runs = cc in sym same)
fault_is (Some fault) timeline runs is = absurd (cc)

timed_is : (o : Option (List SEntry)) (s : Segments) (live : Bool) (end : End) (by : Names) (runs : SegmentTimeline)
    → told.timeline_by o s live end by ≡ Ok runs → runs ≡ timeline_by o s end by
timed_is (Some timeline) s live end by runs is = fault_is _ _ runs is
timed_is None s live end by runs is = fault_is _ _ runs is

text_is : (o : Option TemplateFault) (text template : List ℕ) → templates.unless_fault text o ≡ Ok template → template ≡ text
text_is None text template is = (let same : text ≡ template = cc in sym same)
text_is (Some fault) text template is = absurd (cc)

unused_is : (b : Bool) (fault : TemplateFault) (text template : List ℕ) → (if b then Err fault else Ok text) ≡ Ok template → template ≡ text
unused_is true fault text template is = absurd (cc)
unused_is false fault text template is = (let same : text ≡ template = cc in sym same)

template_is : (text template : List ℕ) → init_template_of text ≡ Ok template → template ≡ text
template_is text template is =
    let s = steps_of (template_of text) unless_segments template is in
    unused_is _ _ s.value template s.then ∙ text_is (template_fault text) text s.value s.first

init_is : (o template : Option (List ℕ)) → some_init o ≡ Ok template → template ≡ o
init_is None template is = (let same : None ≡ template = cc in sym same)
init_is (Some text) template is =
    let s = steps_of (init_template_of text) (λ template. Ok (Some template)) template is in
    let same : Some s.value ≡ template = (let h = s.then in cc) in
    sym same ∙ ap Some (template_is text s.value s.first)

initialized : (d : Description) (s : Segments) (template : Option (List ℕ)) (base : List ℕ) (part : Part)
    → initialization_of d s template base ≡ Ok part
    → part ≡ part_with s.init_range (address_by base (init_reference d s template))
initialized d s template base part is =
    let a = steps_of (told_as (told.at_url d.place) (referred base (init_reference d s template)))
    (λ address. Ok (part_with s.init_range address)) part is in
    let same : part_with s.init_range a.value ≡ part = (let h = a.then in cc) in
    sym same ∙ ap (part_with s.init_range) (reached base (init_reference d s template) a.value (ok_under _ _ a.value a.first))

abbrev with_runs : Part → SegmentTimeline → Result Content PresentationFault
with_runs initialization runs = Ok (record { initialization = initialization; runs = runs })

abbrev with_initialization : Bool → End → Description → Segments → (media base : List ℕ) → Part → Result Content PresentationFault
with_initialization live end d s media base initialization = and_then (runs_of live end d s media base) (with_runs initialization)

abbrev with_base : Bool → End → Description → Segments → List ℕ → Option (List ℕ) → List ℕ → Result Content PresentationFault
with_base live end d s media template base = and_then (initialization_of d s template base) (with_initialization live end d s media base)

abbrev with_template : List ℕ → Bool → End → Description → Segments → List ℕ → Option (List ℕ) → Result Content PresentationFault
with_template url live end d s media template = and_then (base_of url d) (with_base live end d s media template)

abbrev with_media : List ℕ → Bool → End → Description → Segments → List ℕ → Result Content PresentationFault
with_media url live end d s media = and_then (init_of d.place s) (with_template url live end d s media)

content_by : (content : Content) (i j : Part) (r q : SegmentTimeline) → record { initialization = i; runs = r } ≡ content → i ≡ j → r ≡ q
    → content ≡ record { initialization = j; runs = q }
content_by content i j r q same parts runs = sym same ∙ ap (λ x. record { initialization = x; runs = r }) parts
    ∙ ap (λ x. record { initialization = j; runs = x }) runs

pub content_is : (url : List ℕ) (live : Bool) (end : End) (d : Description) (s : Segments) (content : Content)
    → content_of url live end d s ≡ Ok content → content ≡ content_meant url end d s
unfolding content_of content_meant
content_is url live end d s content is =
    let media = steps_of (media_of d.place s) (with_media url live end d s) content is in
    let template = steps_of (init_of d.place s) (with_template url live end d s media.value) content media.then in
    let base = steps_of (base_of url d) (with_base live end d s media.value template.value) content template.then in
    let part = steps_of (initialization_of d s template.value base.value)
    (with_initialization live end d s media.value base.value) content base.then in
    let runs = steps_of (runs_of live end d s media.value base.value) (with_runs part.value) content part.then in
    let media_same : media.value ≡ unwrap_or s.media [] = text_is (template_fault (unwrap_or s.media []))
    (unwrap_or s.media []) media.value (ok_under _ _ media.value media.first) in
    let template_same : template.value ≡ s.init_template = init_is s.init_template template.value
    (ok_under _ _ template.value template.first) in
    let base_same : base.value ≡ deepest url d.bases = chained d.bases url base.value (ok_under _ _ base.value base.first) in
    let part_same = initialized d s template.value base.value part.value part.first
    ∙ ap (λ t. part_with s.init_range (address_by base.value (init_reference d s t))) template_same
    ∙ ap (λ b. part_with s.init_range (address_by b (init_reference d s s.init_template))) base_same in
    let runs_same = timed_is s.timeline s live end (names_of d s media.value base.value) runs.value (ok_under _ _ runs.value runs.first)
    ∙ ap (λ m. timeline_by s.timeline s end (names_of d s m base.value)) media_same
    ∙ ap (λ b. timeline_by s.timeline s end (names_of d s (unwrap_or s.media []) b)) base_same in
    let same : record { initialization = part.value; runs = runs.value } ≡ content = (let h = runs.then in cc) in
    content_by content part.value _ runs.value _ same part_same runs_same
