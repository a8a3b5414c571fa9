-- Names tell the sets of renditions apart.
use Rattle.std.proofs.Common.{◌≡◌, ℕ, ◌^◌, ◌<◌, true, false, not, ◌&&◌, List, codes, Option, Some, None, refl, sym, ◌∙◌, ap}
use Rattle.std.proofs.Common.{IfSome, subst, arith, inl, inr}
use Rattle.std.proofs.{lemmas.Bool.{and_parts, eqb-true, not-true, true≢false}, lemmas.Option.{get_or_from_slice_get, slice_get_within}}
use Rattle.std.proofs.lemmas.Str.{IsUtf8-from_is_utf8}
use Rattle.std.specs.{List.slice_get, Prelude.count_by, Str.is_utf8}
use Rattle.bridge_io.proofs.Texts.{equals_itself}
use Rattle.track_hints.specs.Labels.{ends_in_number, has_control, has_quote, is_fit, is_of_length}
use Rattle.track_hints.specs.declared.hints.{Hints.Hints, TrackHints.TrackHints}
use Rattle.hls_writer.specs.Attributes.{WrittenAttribute, tag_or_undetermined}
use Rattle.hls_writer.specs.Menus.{hints_in, is_labelled, label_at}
use Rattle.laws_of_playlists.specs.Master.{IsFitFor}
use Rattle.laws_of_playlists.proofs.MasterAttributes.{IsCarried, IsFine, IsSaid, carried_said, pair_of}
use Rattle.laws_of_playlists.proofs.MasterNames.{HasStem, IsLabel, IsName, name_is, name_of, named, named_ends, one_place, same_number}

-- ---- labels that can be names

pub record IsFitLabel (text : List ℕ) : Type 0 where
  pub said : IsSaid text
  pub own : ends_in_number text ≡ false

abbrev pub AreFitLabels : List TrackHints → Type 0
AreFitLabels hints = (place : ℕ) (text : List ℕ) → label_at hints place ≡ Some text → IsFitLabel text

fit_label : (text : List ℕ) → is_fit text ≡ true → IsFitLabel text
fit_label text fit =
    let utf8 = and_parts (is_utf8 text) _ fit in
    let one = and_parts (is_of_length text) _ utf8.1 in
    let two = and_parts (not (has_quote text)) (not (has_control text) && not (ends_in_number text)) one.1 in
    let three = and_parts (not (has_control text)) (not (ends_in_number text)) two.1 in
    record {
      said = record {
        plain = record { utf8 = IsUtf8-from_is_utf8 text utf8.0; free = not-true (has_control text) three.0 };
        unquoted = not-true (has_quote text) two.0;
      };
      own = not-true (ends_in_number text) three.1;
    }

pub fit_labels : (players : Option Hints) → IsFitFor players → AreFitLabels (hints_in players)
fit_labels None fit place text is = absurd (cc)
fit_labels (Some hints) fit place text is = of_hints (slice_get hints.tracks place) refl
  where
    of_hints : (o : Option TrackHints) → slice_get hints.tracks place ≡ o → IsFitLabel text
    of_hints None at = let never : ◌≡◌ {A = Option (List ℕ)} None (Some text) = rw at at is in absurd (cc)
    of_hints (Some one) at =
        let its : one.label ≡ Some text = rw at at is in
        let fits : IfSome one.label (λ text. is_fit text ≡ true) =
        subst (λ (h : TrackHints). IfSome h.label (λ text. is_fit text ≡ true)) (get_or_from_slice_get hints.tracks place one one at)
        (fit place one (slice_get_within hints.tracks place one at)) in
        fit_label text (subst (λ (o : Option (List ℕ)). IfSome o (λ text. is_fit text ≡ true)) its fits)

-- ---- names

module _ (hints : List TrackHints) (fit : AreFitLabels hints) (heads : List ℕ) where
  -- what is read of the name
  abbrev pub name_text : (language : Option (List ℕ)) → (number : ℕ) → List ℕ
  name_text language number = (pair_of (name_of hints heads language number)).1

  pub pair_is : (language : Option (List ℕ)) (number : ℕ)
      → pair_of (name_of hints heads language number) ≡ (codes "NAME", name_text language number)
  pair_is language number = of_name (name_of hints heads language number) (name_is hints heads language number)
    where
      of_name : (attribute : WrittenAttribute) → IsName hints heads language number attribute
          → pair_of attribute ≡ (codes "NAME", (pair_of attribute).1)
      of_name attribute (inl (stem, (is, told))) = rw is refl
      of_name attribute (inr (text, (is, told))) = rw is refl

  -- a language that can be written
  abbrev IsToldLanguage : Option (List ℕ) → Type 0
  IsToldLanguage language = IsCarried (tag_or_undetermined language)

  stem_said : (language stem : Option (List ℕ)) → IsToldLanguage language → HasStem hints heads language stem
      → IsSaid (tag_or_undetermined stem)
  stem_said language stem told (inl is) = rw is (carried_said (tag_or_undetermined language) told)
  stem_said language stem told (inr (place, (text, (at, is)))) = rw is (fit place text at).said

  pub name_fine : (language : Option (List ℕ)) (number : ℕ) → IsToldLanguage language → IsFine (name_of hints heads language number)
  name_fine language number told = of_name (name_of hints heads language number) (name_is hints heads language number)
    where
      of_name : (attribute : WrittenAttribute) → IsName hints heads language number attribute → IsFine attribute
      of_name attribute (inl (stem, (is, has))) = rw is (stem_said language stem told has)
      of_name attribute (inr (text, (is, label))) = rw is (fit label.place text label.is).said

  -- the same name has the same number
  pub names_apart : (one other : Option (List ℕ)) (m n : ℕ) → m < 2 ^ 64 → n < 2 ^ 64 → name_text one m ≡ name_text other n → m ≡ n
  names_apart one other m n few less e =
      both (name_of hints heads one m) (name_of hints heads other n) (name_is hints heads one m) (name_is hints heads other n) e
    where
      numbered : (stem : Option (List ℕ)) (number : ℕ) (text : List ℕ) (place : ℕ) → label_at hints place ≡ Some text
          → named stem number ≡ text → ⊥
      numbered stem number text place is e = true≢false (sym (named_ends stem number) ∙ ap ends_in_number e ∙ (fit place text is).own)

      labelled : (text : List ℕ) (number : ℕ) (label : IsLabel hints heads number text) → is_labelled hints text label.place ≡ true
      labelled text number label = rw label.is (equals_itself text)

      both : (a b : WrittenAttribute) → IsName hints heads one m a → IsName hints heads other n b → (pair_of a).1 ≡ (pair_of b).1 → m ≡ n
      both a b (inl (stem, (is, has))) (inl (stem_too, (is_too, has_too))) e =
          same_number stem stem_too m n few less (rw (is, is_too) at e)
      both a b (inl (stem, (is, has))) (inr (text, (is_too, label))) e =
          absurd (numbered stem m text label.place label.is (rw (is, is_too) at e))
      both a b (inr (text, (is, label))) (inl (stem, (is_too, has))) e =
          absurd (numbered stem n text label.place label.is (sym (rw (is, is_too) at e)))
      both a b (inr (text, (is, label))) (inr (text_too, (is_too, label_too))) e =
          let same : text ≡ text_too = rw (is, is_too) at e in
          let also : IsLabel hints heads n text = subst (λ t. IsLabel hints heads n t) (sym same) label_too in
          one_place (is_labelled hints text) heads m n label.place also.place
          (omega (arith, eqb-true (count_by (is_labelled hints text) heads) 1 label.single)) label.at also.at
          (labelled text m label) (labelled text n also)
