-- Names that tell nothing.
use Rattle.mpd_profile.specs.declared.listed.Listed.TheVariants as listed
use Rattle.std.proofs.Common.{◌≡◌, ℕ, true, false, List, Option, Some, None, refl, sym, ap, ◌∙◌, bytes_eq, nat_lt, length, inl, inr, ◌⊎◌}
use Rattle.std.proofs.{Common.{◌||◌, Bool}, lemmas.Bool.cases_Bool}
use Rattle.std.specs.Prelude.{codes}
use Rattle.bridge_io.proofs.Texts.{same_bytes}
use Rattle.mpd_tree.specs.Trees.{Attribute}
use Rattle.mpd_profile.specs.declared.listed.Listed.{Listed}
use Rattle.mpd_profile.specs.Features.{attribute_feature, is_entry_value, is_essential_in, is_segment_element, parent_feature}
use Rattle.mpd_profile.specs.{Heads.is_short, Visits.Parent}

-- ---- short names

differs : (name word : List ℕ) → nat_lt (length name) 6 ≡ true → nat_lt (length word) 6 ≡ false → bytes_eq name word ≡ false
differs name word short long = elim (cases_Bool (bytes_eq name word)) [
  | inl same ↦ absurd (cc (ap (λ text. nat_lt (length text) 6) (same_bytes name word same)))
  | inr other ↦ other
]

differs_too : (name word : List ℕ) → nat_lt (length name) 6 ≡ true → nat_lt (length word) 6 ≡ false → bytes_eq word name ≡ false
differs_too name word short long = elim (cases_Bool (bytes_eq word name)) [
  | inl same ↦ absurd (cc (ap (λ text. nat_lt (length text) 6) (same_bytes word name same)))
  | inr other ↦ other
]

module _ (name : List ℕ) (short : is_short name ≡ true) where
  pub no_segments : is_segment_element name ≡ false
  no_segments = rw (
    differs name (codes "SegmentTemplate") short refl,
    differs name (codes "SegmentList") short refl,
    differs name (codes "SegmentBase") short refl,
  ) refl

  pub no_timeline : bytes_eq name (codes "SegmentTimeline") ≡ false
  no_timeline = differs name (codes "SegmentTimeline") short refl

  pub no_initialization : bytes_eq name (codes "Initialization") ≡ false
  no_initialization = differs name (codes "Initialization") short refl

  pub no_period : bytes_eq name (codes "Period") ≡ false
  no_period = differs name (codes "Period") short refl

  no_essential : (listed : Listed) → is_essential_in listed name ≡ false
  no_essential listed.Mpd = differs name (codes "EssentialProperty") short refl
  no_essential listed.Period = differs name (codes "EssentialProperty") short refl
  no_essential listed.BaseUrl = refl
  no_essential listed.AdaptationSet = refl
  no_essential listed.Representation = refl
  no_essential listed.SegmentTemplate = refl
  no_essential listed.SegmentList = refl
  no_essential listed.SegmentBase = refl
  no_essential listed.Initialization = refl
  no_essential listed.SegmentTimeline = refl
  no_essential listed.S = refl
  no_essential listed.SegmentUrl = refl

  pub short_untold : (parent : Option Parent) (before : List _) → None ≡ parent_feature parent before name
  short_untold None before = refl
  short_untold (Some parent) before =
      rw (
        no_segments,
        no_timeline,
        no_initialization,
        no_essential parent.listed,
        differs_too name (codes "ContentProtection") short refl,
        differs_too name (codes "EventStream") short refl,
        differs_too name (codes "InbandEventStream") short refl,
        differs_too name (codes "Subset") short refl,
        differs_too name (codes "Preselection") short refl,
        differs_too name (codes "PatchLocation") short refl,
      ) refl

-- ---- the attributes that an S mostly has

pub one_of_three : (t d r : Bool) → (t || (d || r)) ≡ true → (t ≡ true) ⊎ ((d ≡ true) ⊎ (r ≡ true))
one_of_three true d r is = inl refl
one_of_three false true r is = inr (inl refl)
one_of_three false false r is = inr (inr is)

module _ (a : Attribute) where
  abbrev renamed : List ℕ → Attribute
  renamed name = record { name = name; value = a.value; place = a.place }

  by_name : (dynamic : Bool) (word : List ℕ) → bytes_eq a.name word ≡ true → None ≡ attribute_feature dynamic listed.S (renamed word)
      → None ≡ attribute_feature dynamic listed.S a
  by_name dynamic word same none = none ∙ ap (λ name. attribute_feature dynamic listed.S (renamed name)) (sym (same_bytes a.name word same))

  pub entry_untold : (dynamic : Bool) → is_entry_value a.name ≡ true → None ≡ attribute_feature dynamic listed.S a
  entry_untold true is = elim (one_of_three (bytes_eq a.name (codes "t")) (bytes_eq a.name (codes "d")) (bytes_eq a.name (codes "r")) is) [
    | inl t ↦ by_name true (codes "t") t refl
    | inr (inl d) ↦ by_name true (codes "d") d refl
    | inr (inr r) ↦ by_name true (codes "r") r refl
  ]
  entry_untold false is = elim (one_of_three (bytes_eq a.name (codes "t")) (bytes_eq a.name (codes "d")) (bytes_eq a.name (codes "r")) is) [
    | inl t ↦ by_name false (codes "t") t refl
    | inr (inl d) ↦ by_name false (codes "d") d refl
    | inr (inr r) ↦ by_name false (codes "r") r refl
  ]
