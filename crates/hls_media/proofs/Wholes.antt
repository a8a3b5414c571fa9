-- A playlist as a whole, from its lines.
use Rattle.hls_media.specs.declared.fault.MediaFault.TheVariants as fault
use Rattle.std.proofs.Common.{◌≡◌, ℕ, Bool, true, false, List, [], ◌∷◌, ◌++◌, codes, bytes_eq, Option, Some, None, IfSome, Ok, Err, refl}
use Rattle.std.proofs.Common.{◌∙◌, ap}
use Rattle.bridge_io.specs.{Firsts.first_of, declared.place.Place.Place}
use Rattle.hls_lines.specs.Lines.{PlaylistLine, tag}
use Rattle.hls_media.specs.Media.{after_all, line_faults, is_long, long_faults, whole_faults, media_at, media_values, media_in}
use Rattle.hls_media.specs.{Media.values_or_fault, States.nothing, Values.duration_of, declared.fault.MediaFault.MediaFault}

first_of_more : (faults more : List MediaFault) (f : MediaFault) → first_of faults ≡ Some f → first_of (faults ++ more) ≡ Some f
first_of_more [] more f e = cc
first_of_more (x ∷ xs) more f e = e

module _ (end : Place) (url : List ℕ) (lines : List PlaylistLine) where
  pub media_in-line : (f : MediaFault) → first_of (line_faults url nothing lines) ≡ Some f → media_in end url lines ≡ Err f
  unfolding media_in
  media_in-line f e = ap (λ o. values_or_fault o (media_values url lines)) (first_of_more (line_faults url nothing lines) _ f e)

  pub line_told : (o : Option MediaFault) → IfSome o (λ f. first_of (line_faults url nothing lines) ≡ Some f)
      → IfSome o (λ f. media_in end url lines ≡ Err f)
  line_told None h = tt
  line_told (Some f) h = media_in-line f h

  whole : line_faults url nothing lines ≡ [] → (o : Option ℕ) → (after_all url nothing lines).target ≡ o
      → media_in end url lines ≡ values_or_fault (first_of (whole_faults end o lines)) (media_values url lines)
  unfolding media_in
  whole none o e = rw (none, e) refl

  pub media_in-no_target : line_faults url nothing lines ≡ [] → (after_all url nothing lines).target ≡ None
      → media_in end url lines ≡ Err (fault.NoTarget end)
  media_in-no_target none e = whole none None e

  pub media_in-long : (target : ℕ) (f : MediaFault) → line_faults url nothing lines ≡ []
      → (after_all url nothing lines).target ≡ Some target → first_of (long_faults target lines) ≡ Some f
      → media_in end url lines ≡ Err f
  media_in-long target f none e long = whole none (Some target) e ∙ ap (λ o. values_or_fault o (media_values url lines)) long

  pub media_in-good : (target : ℕ) → line_faults url nothing lines ≡ [] → (after_all url nothing lines).target ≡ Some target
      → first_of (long_faults target lines) ≡ None
      → media_in end url lines ≡ Ok (media_at (after_all url nothing lines))
  unfolding media_values
  media_in-good target none e short = whole none (Some target) e ∙ ap (λ o. values_or_fault o (media_values url lines)) short

-- ---- segments that are too long

pub long_here : (target : ℕ) (name rest : List ℕ) (place : Place) (lines : List PlaylistLine) → bytes_eq name (codes "EXTINF") ≡ true
    → is_long target (duration_of rest) ≡ true
    → first_of (long_faults target (tag name rest place ∷ lines)) ≡ Some (fault.LongSegment place)
long_here target name rest place lines e long = rw (e, long) refl

pub not_long : (target : ℕ) (name rest : List ℕ) (place : Place) (lines : List PlaylistLine) (named : Bool)
    → bytes_eq name (codes "EXTINF") ≡ named → (named ≡ true → is_long target (duration_of rest) ≡ false)
    → first_of (long_faults target (tag name rest place ∷ lines)) ≡ first_of (long_faults target lines)
not_long target name rest place lines true e long = rw (e, long refl) refl
not_long target name rest place lines false e long = rw e refl
