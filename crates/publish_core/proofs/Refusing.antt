-- Files that aren't taken.
use Rattle.followed_text.specs.declared.fault.FollowedFault.TheVariants as followed
use Rattle.hls_media.specs.declared.fault.MediaFault.TheVariants as media
use Rattle.std.proofs.Common.{◌≡◌, ℕ, List, Option, Some, None, IfSome, Result, Err, ap, refl, sym, ◌∙◌}
use Rattle.bridge_io.specs.Answer.{told_as}
use Rattle.followed_text.specs.{Followed.refusal, declared.{fault.FollowedFault.FollowedFault, followed.FollowedText.FollowedText}}
use Rattle.hls_media.specs.declared.fault.MediaFault.{MediaFault}
use Rattle.publish_law.specs.Plans.{refusal as publish_refusal}
use Rattle.publish_law.specs.declared.{fault.PublishFault.PublishFault, plan.Publication.Publication}
use Rattle.publish_core.specs.declared.decision.Decision.{Decision}
use Rattle.publish_core.specs.{Refusals.Named, Sides.{IsMediaRefused, of_file, refused_by}}

-- what is told where nothing is given
pub refused_with : {A : Type 0} (told : Option Named) (named : Named) (given : Result A Named) → IfSome told (λ n. n ≡ named)
    → given ≡ Err named → IfSome told (λ n. given ≡ Err n)
refused_with None named given same is = tt
refused_with (Some n) named given same is = is ∙ ap Err (sym same)

media_is : (fault : MediaFault) (read : Result FollowedText FollowedFault) → (fault ≡ media.Memory → ⊥)
    → IfSome (refusal (followed.Media fault)) (λ f. read ≡ Err f) → read ≡ Err (followed.Media fault)
media_is media.Memory read other is = absurd (other refl)
media_is fault read other is = is

-- a file that is no media playlist
pub media_refused : (told : Option Named) (name : List ℕ) (fault : MediaFault) (read : Result FollowedText FollowedFault)
    → IfSome told (IsMediaRefused name fault) → IfSome (refusal (followed.Media fault)) (λ f. read ≡ Err f)
    → IfSome told (λ n. of_file name (told_as refused_by read) ≡ Err n)
media_refused None name fault read same is = tt
media_refused (Some n) name fault read same is =
    ap (λ r. of_file name (told_as refused_by r)) (media_is fault read same.1 is) ∙ ap Err (sym same.0)

-- of what can't be published
pub fault_refused : (told : Option Named) (fault : PublishFault) (named : Named) (read : Result Publication PublishFault)
    (given : Result Decision Named) → IfSome told (λ n. (n ≡ named) × (publish_refusal fault ≡ Some fault))
    → IfSome (publish_refusal fault) (λ f. read ≡ Err f) → (read ≡ Err fault → given ≡ Err named) → IfSome told (λ n. given ≡ Err n)
fault_refused None fault named read given same is then = tt
fault_refused (Some n) fault named read given same is then =
    let told : read ≡ Err fault = rw same.1 at is in then told ∙ ap Err (sym same.0)
