-- Loops over lists, one member after another.
use Rattle.std.proofs.Common.{◌≡◌, ℕ, Bool, true, false, ◌||◌, List, [], ◌∷◌, ◌++◌, Option, Some, None, refl, sym, ◌∙◌, ap, bytes_eq}
use Rattle.std.proofs.lemmas.List.Folds.{list_any-append}
use Rattle.bridge_io.specs.Texts.{is_among}
use Rattle.hls_master.specs.{Masters.{first_place, is_known, names_unknown_group}, Texts.SameTexts, Variants.VariantValue}

-- two tests that agree
pub first_place-same : (one other : VariantValue → Bool) → ((variant : VariantValue) → one variant ≡ other variant)
    → (variants : List VariantValue) → first_place one variants ≡ first_place other variants
first_place-same one other same [] = refl
first_place-same one other same (variant ∷ variants) = rw (same variant, first_place-same one other same variants) refl

is_known-same : (one other : List (List ℕ)) → SameTexts one other → (group : Option (List ℕ)) → is_known one group ≡ is_known other group
is_known-same one other is None = refl
is_known-same one other is (Some group) = is.same group

pub names_unknown-same : (one other text texts : List (List ℕ)) → SameTexts one other → SameTexts text texts → (variant : VariantValue)
    → names_unknown_group one text variant ≡ names_unknown_group other texts variant
names_unknown-same one other text texts audio subtitles variant = rw (
  is_known-same one other audio variant.audio,
  is_known-same text texts subtitles variant.subtitles,
) refl

or_end : (a b : Bool) → (a || b) ≡ (b || (a || false))
or_end true true = refl
or_end true false = refl
or_end false true = refl
or_end false false = refl

-- one text more, at the end
pub same_texts_more : (texts more known : List (List ℕ)) (text : List ℕ) → SameTexts more (text ∷ texts) → SameTexts texts known
    → SameTexts more (known ++ text ∷ [])
same_texts_more texts more known text one is = record {
  same = λ q.
      one.same q ∙ ap (λ b. bytes_eq q text || b) (is.same q) ∙ or_end (bytes_eq q text) (is_among q known)
      ∙ sym (list_any-append (bytes_eq q) known (text ∷ []));
}
