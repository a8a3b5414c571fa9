-- Tracks that stand in order stay where they are.
use Rattle.std.proofs.Common.{◌≡◌, true, List, [], ◌∷◌, ◌++◌, map, filter, refl, ap}
use Rattle.bridge_io.specs.{declared.media.Kind.Kind, declared.media.Kind.TheVariants.{Video, Audio, Text}}
use Rattle.presentation.specs.Order.{by_kind, is_of}
use Rattle.laws_of_mpds.specs.Meant.{are_audio_then_text, are_in_order, are_text}

abbrev those : {X : Type 0} → (X → Kind) → Kind → List X → List X
those kind k xs = filter (λ x. is_of k (kind x)) xs

abbrev OnlyText : {X : Type 0} → (X → Kind) → List X → Type 0
OnlyText kind xs = (those kind Video xs ≡ []) × (those kind Audio xs ≡ []) × (those kind Text xs ≡ xs)

text_before : {X : Type 0} (kind : X → Kind) (x : X) (xs : List X) (k : Kind) → kind x ≡ k → are_text (k ∷ map kind xs) ≡ true
    → (are_text (map kind xs) ≡ true → OnlyText kind xs) → OnlyText kind (x ∷ xs)
text_before kind x xs Text is all later = let rest = later all in (rw is rest.0, rw is rest.1, rw is (ap (λ ys. x ∷ ys) rest.2))
text_before kind x xs Video is all later = absurd (cc)
text_before kind x xs Audio is all later = absurd (cc)

texts : {X : Type 0} (kind : X → Kind) (xs : List X) → are_text (map kind xs) ≡ true → OnlyText kind xs
texts kind [] all = (refl, refl, refl)
texts kind (x ∷ xs) all = text_before kind x xs (kind x) refl all (texts kind xs)

abbrev NoVideo : {X : Type 0} → (X → Kind) → List X → Type 0
NoVideo kind xs = (those kind Video xs ≡ []) × (those kind Audio xs ++ those kind Text xs ≡ xs)

audio_before : {X : Type 0} (kind : X → Kind) (x : X) (xs : List X) (k : Kind) → kind x ≡ k → are_audio_then_text (k ∷ map kind xs) ≡ true
    → (are_audio_then_text (map kind xs) ≡ true → NoVideo kind xs) → NoVideo kind (x ∷ xs)
audio_before kind x xs Audio is all later = let rest = later all in (rw is rest.0, rw is (ap (λ ys. x ∷ ys) rest.1))
audio_before kind x xs Text is all later = let rest = texts kind xs all in (rw is rest.0, rw (is, rest.1) (ap (λ ys. x ∷ ys) rest.2))
audio_before kind x xs Video is all later = absurd (cc)

audios : {X : Type 0} (kind : X → Kind) (xs : List X) → are_audio_then_text (map kind xs) ≡ true → NoVideo kind xs
audios kind [] all = (refl, refl)
audios kind (x ∷ xs) all = audio_before kind x xs (kind x) refl all (audios kind xs)

one_before : {X : Type 0} (kind : X → Kind) (x : X) (xs : List X) (k : Kind) → kind x ≡ k → are_in_order (k ∷ map kind xs) ≡ true
    → (are_in_order (map kind xs) ≡ true → by_kind kind xs ≡ xs) → by_kind kind (x ∷ xs) ≡ x ∷ xs
one_before kind x xs Video is all later = rw is (ap (λ ys. x ∷ ys) (later all))
one_before kind x xs Audio is all later = let rest = audios kind xs all in rw (is, rest.0) (ap (λ ys. x ∷ ys) rest.1)
one_before kind x xs Text is all later = let rest = texts kind xs all in rw (is, rest.0, rest.1) (ap (λ ys. x ∷ ys) rest.2)

pub in_order_already : {X : Type 0} (kind : X → Kind) (xs : List X) → are_in_order (map kind xs) ≡ true → by_kind kind xs ≡ xs
in_order_already kind [] all = refl
in_order_already kind (x ∷ xs) all = one_before kind x xs (kind x) refl all (in_order_already kind xs)
