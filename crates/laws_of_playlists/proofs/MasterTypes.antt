-- The types of which a master is made, by the functions on them.
use Rattle.std.proofs.Common.{◌≡◌, ℕ, Bool, true, List, [], ◌∷◌, ◌++◌, ◌⊎◌, ◌&&◌, cond, eqb, unwrap_or, None, sym, subst, inl, inr}
use Rattle.std.specs.List.{list_any}
use Rattle.audio_groups.specs.{declared.groups.Filling.TheVariants.Filled, Groups.member_of, Keys.is_same_key}
use Rattle.hls_writer.specs.{Attributes.{WrittenAttribute, autoselect, group_bytes, renditions}, Master.laid_out}
use Rattle.hls_writer.specs.{Renditions.{of_name, of_purpose, rendition_line, text_rendition}, Variants.{of_sound, of_texts, variant_lines}}

-- what a function takes
abbrev pub Taken : {A B : Type 0} → (A → B) → Type 0
Taken {A} {B} f = A

-- a track of an audio group
abbrev pub AudioTrack : Type 0
AudioTrack = Taken (member_of Filled [])

abbrev pub Key : Type 0
Key = Taken is_same_key

abbrev pub Rendition : Type 0
Rendition = Taken (rendition_line [] [])

abbrev pub Variant : Type 0
Variant = Taken (variant_lines None [] [] [])

abbrev pub RenditionGroup : Type 0
RenditionGroup = Taken group_bytes

abbrev pub RenditionName : Type 0
RenditionName = Taken (of_name [] None)

-- the group that an attribute names
abbrev pub group_in : WrittenAttribute → RenditionGroup
group_in (renditions group) = group
group_in _ = (text_rendition (laid_out None []) 0 0).group

abbrev pub audio_group : ℕ → RenditionGroup
audio_group number = group_in (of_sound number)

abbrev pub text_group : RenditionGroup
text_group = group_in (unwrap_or (of_texts (0 ∷ [])) (autoselect true))

abbrev pub Purpose : Type 0
Purpose = Taken (of_purpose text_group)

-- tracks of the same codes and rank, and of the same set
abbrev pub same_key : AudioTrack → AudioTrack → Bool
same_key one other = eqb one.codes other.codes && eqb one.rank other.rank

abbrev pub of_same_set : AudioTrack → AudioTrack → Bool
of_same_set one other = eqb one.set other.set

-- those of some tracks that are the first of their kind, behind those that were found before
abbrev pub firsts : (AudioTrack → AudioTrack → Bool) → List AudioTrack → List AudioTrack → List AudioTrack
firsts same found [] = found
firsts same found (one ∷ later) = cond (list_any (same one) found) (firsts same found later) (firsts same (found ++ one ∷ []) later)

-- a group of a master, and what is so of each
abbrev pub IsKnown : RenditionGroup → Type 0
IsKnown group = ((number : ℕ) × (group ≡ audio_group number)) ⊎ (group ≡ text_group)

pub of_known : (P : RenditionGroup → Type 0) → ((number : ℕ) → P (audio_group number)) → P text_group → (group : RenditionGroup)
    → IsKnown group → P group
of_known P audio text group (inl (number, is)) = subst P (sym is) (audio number)
of_known P audio text group (inr is) = subst P (sym is) text
