-- The segments of a Representation in a form of MPDs (ISO/IEC 23009-1, 5.3.9).
use Rattle.std.specs.Prelude.{◌≡◌, ℕ, Bool, true, false, List, [], ◌∷◌, ◌++◌, map, codes, decimal, is_none, Option, Some, None, if◌then◌else◌}
use Rattle.std.specs.{List.list_all, Prelude.string_bytes}
use Rattle.url_parts.specs.declared.address.Part.{Part}
use Rattle.timeline.specs.Expansions.{SegmentTimeline, Timing}
use Rattle.segment_forms.specs.{declared.form.Form.Form, declared.form.Form.TheVariants.{Plain, Players}, Media.{doubled, media_of}}
use Rattle.segment_forms.specs.{declared.pattern.Pattern.Pattern, Patterns.pattern_of}
use Rattle.dash_writer.specs.{Elements.{Attribute, Element, node}, Lists.{head_attributes, list_with, parts_of, timeline_with}}
use Rattle.dash_writer.specs.Segments.{duration_of}
use Rattle.dash_writer.specs.declared.template.Template.{Template}

-- ---- the pattern of a track's files

abbrev pub is_whole : Part → Bool
is_whole part = is_none part.range

abbrev pub addresses_of : List Part → List (List ℕ)
addresses_of parts = map (λ (part : Part). part.address) parts

-- given the init segment and the segments; there is none where one of them is a byte range
abbrev pub pattern_in : Part → List Part → Option Pattern
pattern_in part parts = if list_all is_whole (part ∷ parts) then pattern_of (addresses_of parts) else None

-- ---- SegmentTemplate (5.3.9.4)

abbrev pub template_attributes : (ticks : ℕ) (offset : Option ℕ) (initialization media : List ℕ) (number : ℕ) → List Attribute
template_attributes ticks offset initialization media number =
    head_attributes ticks offset
    ++ ((codes "initialization", Some initialization) ∷ (codes "media", Some media) ∷ (codes "startNumber", Some (decimal number)) ∷ [])

-- given the init segment's address, the media text and the first segment's number
abbrev pub template_with : (ticks : ℕ) (offset : Option ℕ) (first : ℕ) (initialization media : List ℕ) (number : ℕ) (durations : List ℕ)
    → Element
template_with ticks offset first initialization media number durations =
    node (codes "SegmentTemplate") (template_attributes ticks offset (doubled initialization) media number) (timeline_with true first durations ∷ [])

-- the template of a track's files
pub record IsTemplate (part : Part) (parts : List Part) (template : Template) : Type 0 where
  pub pattern : Pattern
  pub found : pattern_in part parts ≡ Some pattern
  pub media : string_bytes template.media ≡ media_of (addresses_of parts)
  pub number : template.number ≡ pattern.first_number

-- or that they have no pattern
abbrev pub Finds : Part → List Part → Option Template → Type 0
Finds part parts None = pattern_in part parts ≡ None
Finds part parts (Some template) = IsTemplate part parts template

-- ---- in a form

abbrev pub players_by : Option Pattern → (ticks : ℕ) (offset : Option ℕ) (first : ℕ) → Part → (durations : List ℕ) → List Part → Element
players_by None ticks offset first part durations parts = list_with false ticks offset first part durations parts
players_by (Some p) ticks offset first part durations parts =
    template_with ticks offset first part.address (media_of (addresses_of parts)) p.first_number durations

-- for players a template where the files have a pattern, otherwise a list with an S for each segment
abbrev pub segments_with : Form → (ticks : ℕ) (offset : Option ℕ) (first : ℕ) → Part → (durations : List ℕ) → List Part → Element
segments_with Plain ticks offset first part durations parts = list_with true ticks offset first part durations parts
segments_with Players ticks offset first part durations parts =
    players_by (pattern_in part parts) ticks offset first part durations parts

-- with their own durations, where media time begins at 0 in each Period
abbrev pub own_segments : Form → SegmentTimeline → Part → List Timing → Element
own_segments form timeline part listed =
    segments_with form timeline.ticks None 0 part (map duration_of listed) (parts_of timeline listed)
