-- Texts by number.
use Rattle.std.specs.Prelude.{◌≡◌, ◌<◌, ℕ, Bool, false, List, [], ◌++◌, map, length, get_or, slice_get, Option, Some, is_some, All}
use Rattle.std.specs.{Option.option_map_or, Borrow.Bor, BTreeMap.{BTreeMap, get_by}, Cmp.Lexicographic.slice_cmp, Ordering.nat_cmp}
use Rattle.bridge_io.specs.Texts.{is_among}

-- the number that a map has for a text
abbrev pub number_in : BTreeMap (Bor (List ℕ)) ℕ → List ℕ → Option ℕ
number_in numbers text = get_by (λ key. slice_cmp nat_cmp text key.now) numbers

-- a map has the texts of a list by their indices, and no text is repeated
pub record IsNumbered (numbers : BTreeMap (Bor (List ℕ)) ℕ) (texts : List (List ℕ)) : Type 0 where
  pub there : (text : List ℕ) → is_some (number_in numbers text) ≡ is_among text texts
  pub at : (text : List ℕ) (n : ℕ) → number_in numbers text ≡ Some n → slice_get texts n ≡ Some text
  pub number : (text : List ℕ) (n : ℕ) → slice_get texts n ≡ Some text → number_in numbers text ≡ Some n

-- no text is repeated
pub record IsOnce (texts : List (List ℕ)) : Type 0 where
  pub same : (text : List ℕ) (m n : ℕ) → slice_get texts m ≡ Some text → slice_get texts n ≡ Some text → m ≡ n

-- texts were added after those of a list
pub record Grows (old new : List (List ℕ)) : Type 0 where
  pub more : List (List ℕ)
  pub is : new ≡ old ++ more

-- the text of a number, and an empty one where there is none
abbrev pub text_by : List (List ℕ) → ℕ → List ℕ
text_by texts number = get_or texts number []

abbrev pub texts_by : List (List ℕ) → (numbers : List ℕ) → List (List ℕ)
texts_by texts numbers = map (text_by texts) numbers

-- the numbers of the list at an index, and none where there is no list
abbrev pub numbers_at : {V : Type 0} → (V → List ℕ) → List V → ℕ → List ℕ
numbers_at items lists place = option_map_or items (slice_get lists place) []

abbrev pub AreBelow : List (List ℕ) → (numbers : List ℕ) → Type 0
AreBelow texts numbers = All (λ n. n < length texts) numbers

-- of the numbered texts, those that were found are marked
pub record IsMarked (texts : List (List ℕ)) (seen : List Bool) (found : List (List ℕ)) : Type 0 where
  pub room : length seen ≡ length texts
  pub marks : (n : ℕ) → n < length texts → get_or seen n false ≡ is_among (text_by texts n) found
