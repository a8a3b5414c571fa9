-- What is related by a relation on times is related by each wider one.
use Rattle.std.proofs.Common.{◌≡◌, suc, length, List, [], ◌∷◌, Option, Some, None, refl, ap}
use Rattle.exact_time.specs.Time.{Time}
use Rattle.meaning.specs.{Meanings.{Entry, Meaning}, Same.{Pairwise, SameEntries, Same}}

pub Pairwise-wider : {A B : Type 0} (R S : A → B → Type 0) → ((a : A) (b : B) → R a b → S a b) → (xs : List A) (ys : List B)
    → Pairwise R xs ys → Pairwise S xs ys
Pairwise-wider R S wider [] [] h = h
Pairwise-wider R S wider (a ∷ xs) (b ∷ ys) h = (wider a b h.0, Pairwise-wider R S wider xs ys h.1)
Pairwise-wider R S wider [] (b ∷ ys) h = h
Pairwise-wider R S wider (a ∷ xs) [] h = h

pub Pairwise-length : {A B : Type 0} (R : A → B → Type 0) → (xs : List A) (ys : List B) → Pairwise R xs ys → length xs ≡ length ys
Pairwise-length R [] [] h = refl
Pairwise-length R (a ∷ xs) (b ∷ ys) h = ap suc (Pairwise-length R xs ys h.1)
Pairwise-length R [] (b ∷ ys) h = absurd h
Pairwise-length R (a ∷ xs) [] h = absurd h

pub Pairwise-self : {A : Type 0} (R : A → A → Type 0) → ((a : A) → R a a) → (xs : List A) → Pairwise R xs xs
Pairwise-self R each [] = tt
Pairwise-self R each (a ∷ xs) = (each a, Pairwise-self R each xs)

module _ (Alike Wider : Time → Time → Type 0) (wider : (x y : Time) → Alike x y → Wider x y) where
  SameEntries-wider : (a b : Option Entry) → SameEntries Alike a b → SameEntries Wider a b
  SameEntries-wider None None h = h
  SameEntries-wider (Some a) (Some b) h = record {
    initialization = h.initialization;
    segments = Pairwise-wider _ _ (λ x y same. record { part = same.part; time = wider _ _ same.time }) a.segments b.segments h.segments;
  }
  SameEntries-wider None (Some b) h = h
  SameEntries-wider (Some a) None h = h

  pub Same-wider : (a b : Meaning) → Same Alike a b → Same Wider a b
  Same-wider a b h = record {
    sections = h.sections;
    tracks = Pairwise-wider _ _ (λ x y same. record {
      kind = same.kind;
      language = same.language;
      entries = Pairwise-wider _ _ SameEntries-wider x.entries y.entries same.entries;
    }) a.tracks b.tracks h.tracks;
  }

module _ (Alike : Time → Time → Type 0) (alike : (x : Time) → Alike x x) where
  SameEntries-self : (a : Option Entry) → SameEntries Alike a a
  SameEntries-self None = tt
  SameEntries-self (Some a) = record {
    initialization = refl;
    segments = Pairwise-self _ (λ x. record { part = refl; time = alike _ }) a.segments;
  }

  pub Same-self : (a : Meaning) → Same Alike a a
  Same-self a = record {
    sections = refl;
    tracks = Pairwise-self _ (λ x. record { kind = refl; language = refl; entries = Pairwise-self _ SameEntries-self x.entries }) a.tracks;
  }
