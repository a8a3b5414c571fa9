-- What is written where a track's files have a pattern, and where they have none.
use Rattle.std.proofs.Common.{◌≡◌, ℕ, false, List, Option, None, refl}
use Rattle.std.specs.Prelude.{string_bytes}
use Rattle.url_parts.specs.declared.address.Part.{Part}
use Rattle.segment_forms.specs.declared.form.Form.TheVariants.{Players}
use Rattle.dash_writer.specs.{Forms.{IsTemplate, pattern_in, segments_with, template_with}, Lists.list_with}
use Rattle.dash_writer.specs.declared.template.Template.{Template}

module _ (ticks : ℕ) (offset : Option ℕ) (first : ℕ) (part : Part) (durations : List ℕ) (parts : List Part) where
  pub template_is : (template : Template) → IsTemplate part parts template
      → template_with ticks offset first part.address (string_bytes template.media) template.number durations
      ≡ segments_with Players ticks offset first part durations parts
  template_is template is = rw (is.found, is.media, is.number) refl

  pub list_is : pattern_in part parts ≡ None
      → list_with false ticks offset first part durations parts ≡ segments_with Players ticks offset first part durations parts
  list_is none = rw none refl
