-- The numbers of an element in which no value is refused are within their bounds.
use Rattle.std.proofs.Common.{◌≡◌, ℕ, ◌^◌, Bool, true, false, List, [], ◌∷◌, Option, Some, None, All, refl, ◌∙◌, ap, inl, inr}
use Rattle.std.proofs.{lemmas.Bool.cases_Bool, lemmas.List.Elements.{All-cons, All-nil}}
use Rattle.std.specs.Prelude.{codes, filter, find, is_some, IfSome, option_map, option_and_then}
use Rattle.bridge_io.proofs.Texts.{same_bytes}
use Rattle.mpd_values.specs.{declared.blank.Blank.TheVariants.Space, Blanks.trimmed}
use Rattle.mpd_values.specs.Numbers.{has_minus, is_between, kept_if, number_between, number_of, signed_of, signed_64_of}
use Rattle.mpd_tree.specs.{Trees.Element, Views.side_by_side}
use Rattle.mpd_profile.specs.{declared.listed.Addressing.Addressing, declared.listed.Listed.Listed}
use Rattle.mpd_profile.specs.declared.listed.Listed.TheVariants.{SegmentTemplate, SegmentList, SegmentTimeline, S}
use Rattle.mpd_profile.specs.{declared.value.Value.TheVariants.{Number, Signed}, Elements.{child_of, value_of}}
use Rattle.mpd_profile.specs.{Heads.{is_named, value_named}, LeftOut.is_left_out, Sound.{IsSound, IsSoundChild, parent_of}, Values.is_value}
use Rattle.mpd_profile.specs.Visits.{Parent}
use Rattle.mpd_profile.proofs.Sound.{sound_children}
use Rattle.mpd_levels.specs.{Fits.{FitsBetween, FitsLevel, FitsRun, FitsSegments, FitsTimeline}, Levels.{list_name, template_name}}
use Rattle.mpd_levels.proofs.Choosing.{all_behind, all_first}

-- ---- one value

pub kept_whole : {X : Type 0} (test : X → Bool) (o : Option X) → is_some (kept_if test o) ≡ true → kept_if test o ≡ o
kept_whole test None some = refl
kept_whole test (Some x) some = elim (cases_Bool (test x)) [ inl passes ↦ rw passes refl | inr fails ↦ absurd (cc (rw fails at some)) ]

between_whole : (least bound : ℕ) (value : Option (List ℕ)) → ((text : List ℕ) → value ≡ Some text
    → is_value (Number least bound) text ≡ true)
    → option_and_then (number_between least bound) value ≡ option_and_then number_of value
unfolding is_value
between_whole least bound None fits = refl
between_whole least bound (Some text) fits = kept_whole (is_between least bound) (number_of text) (fits text refl)

mapped_whole : {X Y : Type 0} (f : X → Y) (test : X → Bool) (o : Option X) → is_some (option_map f (kept_if test o)) ≡ true
    → option_map f (kept_if test o) ≡ option_map f (kept_if (λ x. true) o)
mapped_whole f test None some = refl
mapped_whole f test (Some x) some = elim (cases_Bool (test x)) [ inl passes ↦ rw passes refl | inr fails ↦ absurd (cc (rw fails at some)) ]

signed_whole : (value : Option (List ℕ)) → ((text : List ℕ) → value ≡ Some text → is_value Signed text ≡ true)
    → option_and_then signed_64_of value ≡ option_and_then signed_of value
unfolding is_value signed_64_of signed_of
signed_whole None fits = refl
signed_whole (Some text) fits = elim (cases_Bool (has_minus (trimmed Space text))) [
  | inl minus ↦ rw minus (mapped_whole _ _ _ (rw minus at (fits text refl)))
  | inr plus ↦ rw plus (mapped_whole _ _ _ (rw plus at (fits text refl)))
]

-- ---- children of a name

module _ (addressing : Addressing) (parent : Parent) (l : Listed) (name : List ℕ) (Holds : Element → Type 0)
    (is : child_of addressing parent.listed name ≡ Some l)
    (kept : (c : Element) → is_left_out parent.head (Some l) c ≡ false)
    (holds : (c : Element) → IsSound addressing parent.dynamic l c → Holds c) where
  abbrev Sound : Element → Type 0
  Sound c = IsSoundChild addressing parent c

  child_holds : (c : Element) → Sound c → is_named name c ≡ true → Holds c
  child_holds c sound named =
      let same : c.head.name ≡ name = same_bytes c.head.name name named in
      holds c (sound l (ap (child_of addressing parent.listed) same ∙ is) (kept c)).sound

  found_holds : (cs : List Element) → All Sound cs → IfSome (find (is_named name) cs) Holds
  found_holds [] all = tt
  found_holds (c ∷ cs) all = elim (cases_Bool (is_named name c)) [
    | inl named ↦ rw named (child_holds c (all_first Sound c cs all) named)
    | inr other ↦ rw other (found_holds cs (all_behind Sound c cs all))
  ]

  all_hold : (cs : List Element) → All Sound cs → All Holds (filter (is_named name) cs)
  all_hold [] all = All-nil Holds
  all_hold (c ∷ cs) all = elim (cases_Bool (is_named name c)) [
    | inl named ↦ rw named (All-cons Holds c (filter (is_named name) cs) (child_holds c (all_first Sound c cs all) named)
        (all_hold cs (all_behind Sound c cs all)))
    | inr other ↦ rw other (all_hold cs (all_behind Sound c cs all))
  ]

-- ---- the elements

module _ (addressing : Addressing) (dynamic : Bool) where
  number_fits : (l : Listed) (e : Element) (name : List ℕ) (least bound : ℕ) → value_of addressing l name ≡ Some (Number least bound)
      → IsSound addressing dynamic l e → FitsBetween least bound name e.head
  number_fits l e name least bound is sound = between_whole least bound (value_named name e.head)
      (λ text there. sound.values name text (Number least bound) is there)

  run_fits : (s : Element) → IsSound addressing dynamic S s → FitsRun s
  run_fits s sound = record {
    t = number_fits S s (codes "t") 0 (2 ^ 63) refl sound;
    d = number_fits S s (codes "d") 0 (2 ^ 63) refl sound;
    r = signed_whole (value_named (codes "r") s.head) (λ text there. sound.values (codes "r") text Signed refl there);
  }

  timeline_fits : (timeline : Element) → IsSound addressing dynamic SegmentTimeline timeline → FitsTimeline timeline
  timeline_fits timeline sound =
      all_hold addressing (parent_of SegmentTimeline dynamic timeline) S (codes "S") FitsRun refl (λ c. refl) run_fits
      (side_by_side timeline.children)
      (sound_children addressing dynamic SegmentTimeline timeline sound)

  template_fits : (e : Element) → IsSound addressing dynamic SegmentTemplate e → FitsSegments e
  template_fits e sound = record {
    numbers = record {
      timescale = number_fits SegmentTemplate e (codes "timescale") 1 (2 ^ 32) refl sound;
      duration = number_fits SegmentTemplate e (codes "duration") 0 (2 ^ 63) refl sound;
      start_number = number_fits SegmentTemplate e (codes "startNumber") 0 (2 ^ 63) refl sound;
      time_offset = number_fits SegmentTemplate e (codes "presentationTimeOffset") 0 (2 ^ 63) refl sound;
    };
    timeline = found_holds addressing (parent_of SegmentTemplate dynamic e) SegmentTimeline (codes "SegmentTimeline") FitsTimeline refl
        (λ c. refl) timeline_fits
        (side_by_side e.children) (sound_children addressing dynamic SegmentTemplate e sound);
  }

  list_fits : (e : Element) → IsSound addressing dynamic SegmentList e → FitsSegments e
  list_fits e sound = record {
    numbers = record {
      timescale = number_fits SegmentList e (codes "timescale") 1 (2 ^ 32) refl sound;
      duration = number_fits SegmentList e (codes "duration") 0 (2 ^ 63) refl sound;
      start_number = number_fits SegmentList e (codes "startNumber") 0 (2 ^ 63) refl sound;
      time_offset = number_fits SegmentList e (codes "presentationTimeOffset") 0 (2 ^ 63) refl sound;
    };
    timeline = found_holds addressing (parent_of SegmentList dynamic e) SegmentTimeline (codes "SegmentTimeline") FitsTimeline refl
        (λ c. refl) timeline_fits
        (side_by_side e.children) (sound_children addressing dynamic SegmentList e sound);
  }

  -- A Period, an AdaptationSet or a Representation: the two equations are `refl` at each of them.
  pub level_fits : (listed : Listed) (level : Element) → child_of addressing listed template_name ≡ Some SegmentTemplate
      → child_of addressing listed list_name ≡ Some SegmentList
      → IsSound addressing dynamic listed level → FitsLevel level
  level_fits listed level template list sound =
      let children = sound_children addressing dynamic listed level sound in
      record {
        template = found_holds addressing (parent_of listed dynamic level) SegmentTemplate template_name FitsSegments template
            (λ c. refl) template_fits (side_by_side level.children) children;
        list = found_holds addressing (parent_of listed dynamic level) SegmentList list_name FitsSegments list (λ c. refl) list_fits
            (side_by_side level.children) children;
      }
