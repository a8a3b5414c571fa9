-- Lists element by element, and tracks as they are changed one after another.
use Rattle.std.proofs.Common.{◌≡◌, ℕ, suc, ◌+◌, ◌<◌, ◌≤◌, List, [], ◌∷◌, map, length, drop, All, Some, refl, sym, ◌∙◌, ap, inl, inr, arith}
use Rattle.std.proofs.lemmas.{Bool.{cases_eq, cases_lt}, List.{drop-drop, length-set}}
use Rattle.std.proofs.lemmas.{Option.{same_Some, slice_get-get_or, slice_get-map, slice_get_within}, Simd.map-map}
use Rattle.std.specs.Prelude.{get_or, option_map, slice_get, slice_set}
use Rattle.circular_buffer.proofs.Places.{slice_get-drop, slice_get-set_other, slice_get-set_same, slice_get-some}
use Rattle.presentation.proofs.Grids.{All-at}
use Rattle.live_judge.specs.{declared.track.LiveTrack.LiveTrack, Shown.track_shown}
use Rattle.live_session.specs.{declared.made.MadeTrack.MadeTrack, Growth.{HaveRoom, grown, inside_of}, Kept.{HasRoom, with_all}}
use Rattle.live_session.specs.{Made.all_made, Making.all_kept}

pub mapped_at : {X Y : Type 0} (f : X → Y) (xs : List X) (t : ℕ) (x : X) → slice_get xs t ≡ Some x → slice_get (map f xs) t ≡ Some (f x)
mapped_at f xs t x at = slice_get-map f xs t ∙ ap (option_map f) at

-- what holds at each place, and of what is shown of each
pub at_all : {X : Type 0} (P : X → Type 0) (xs : List X) → ((t : ℕ) (x : X) → slice_get xs t ≡ Some x → P x) → All P xs
at_all P xs each = λ k d within. each k (get_or xs k d) (slice_get-get_or xs k d within)

pub of_shown : {X Y : Type 0} (P : Y → Type 0) (show : X → Y) (xs : List X) → All P (map show xs) → All (λ x. P (show x)) xs
of_shown P show xs all = at_all (λ x. P (show x)) xs (λ t x at. All-at P (map show xs) t (show x) all (mapped_at show xs t x at))

-- lists of which the same is shown
pub same_by : {X Y Z : Type 0} (f : X → Y) (g : Y → Z) (xs ys : List X) → map f xs ≡ map f ys
    → map (λ x. g (f x)) xs ≡ map (λ x. g (f x)) ys
same_by f g xs ys same = sym (map-map g f xs) ∙ ap (map g) same ∙ map-map g f ys

-- ---- the first ones are changed, each as it should be

pub record AreChanged {X : Type 0} (Is : ℕ → X → X → Type 0) (old new : List X) (k : ℕ) : Type 0 where
  pub many : length new ≡ length old
  pub done : (i : ℕ) (x y : X) → i < k → slice_get old i ≡ Some x → slice_get new i ≡ Some y → Is i x y
  pub later : (i : ℕ) → k ≤ i → slice_get new i ≡ slice_get old i

pub none_changed : {X : Type 0} (Is : ℕ → X → X → Type 0) (xs : List X) → AreChanged Is xs xs 0
none_changed Is xs = record { many = refl; done = λ i x y less _ _. absurd (omega arith); later = λ i least. refl }

maps_alike : {X Z : Type 0} (f g : X → Z) (old new : List X) → length new ≡ length old
    → ((i : ℕ) (x y : X) → slice_get old i ≡ Some x → slice_get new i ≡ Some y → f y ≡ g x) → map f new ≡ map g old
maps_alike f g [] [] many each = refl
maps_alike f g [] (y ∷ new) many each = absurd (omega arith)
maps_alike f g (x ∷ old) [] many each = absurd (omega arith)
maps_alike f g (x ∷ old) (y ∷ new) many each =
    rw (each 0 x y refl refl, maps_alike f g old new (omega arith) (λ i a b. each (suc i) a b)) refl

module _ {X : Type 0} {Is : ℕ → X → X → Type 0} {old new : List X} {k : ℕ} (are : AreChanged Is old new k) where
  pub still_at : (x : X) → k < length new → x ≡ get_or new k x → slice_get old k ≡ Some x
  still_at x within at = sym (are.later k (omega arith)) ∙ slice_get-get_or new k x within ∙ ap Some (sym at)

  pub changed_next : (x y : X) → k < length new → x ≡ get_or new k x → Is k x y → AreChanged Is old (slice_set new k y) (k + 1)
  changed_next x y within at is = record {
    many = length-set new k y ∙ are.many;
    done = λ i a b less old_at new_at. elim (cases_eq i k) [
      | inl same ↦
          let one : x ≡ a = same_Some x a (sym (still_at x within at) ∙ ap (slice_get old) (sym same) ∙ old_at) in
          let other : y ≡ b = same_Some y b (sym (slice_get-set_same new k y within)
          ∙ ap (slice_get (slice_set new k y)) (sym same) ∙ new_at) in
          rw (same, ← one, ← other) is
      | inr other ↦ are.done i a b (omega (arith, other)) old_at (sym (slice_get-set_other new k i y other) ∙ new_at)
    ];
    later = λ i least. slice_get-set_other new k i y (λ e. omega arith) ∙ are.later i (omega arith);
  }

  pub all_alike : {Z : Type 0} (f : X → Z) → ((i : ℕ) (x y : X) → Is i x y → f y ≡ f x) → map f new ≡ map f old
  all_alike f each = maps_alike f f old new are.many (λ i x y at new_at. elim (cases_lt i k) [
    | inl less ↦ each i x y (are.done i x y less at new_at)
    | inr least ↦ ap f (same_Some y x (sym new_at ∙ are.later i least ∙ at))
  ])

  pub all_changed : {Z : Type 0} (f : X → Z) (g : Z → Z) → ((i : ℕ) (x y : X) → Is i x y → f y ≡ g (f x)) → length old ≤ k
      → map f new ≡ map g (map f old)
  all_changed f g each least =
      maps_alike f (λ x. g (f x)) old new are.many (λ i x y at new_at. each i x y (are.done i x y (omega
      (arith, slice_get_within old i x at)) at new_at)) ∙ sym (map-map g f old)

-- ---- room, and what is added

-- a track has room for what was made of it, and is as it was otherwise
abbrev pub IsReserved : List MadeTrack → ℕ → LiveTrack → LiveTrack → Type 0
IsReserved made i x y =
    (inside_of y ≡ inside_of x) × ((m : MadeTrack) → slice_get made i ≡ Some m → HasRoom (length m.segments.items) y)

pub same_inside : (old new : LiveTrack) → new.items.items ≡ old.items.items → new.facts.items ≡ old.facts.items → new.first ≡ old.first
    → new.begin ≡ old.begin → inside_of new ≡ inside_of old
same_inside old new items facts first begin = rw (items, facts, first, begin) refl

pub have_room : {old new : List LiveTrack} {k : ℕ} (made : List MadeTrack) → AreChanged (IsReserved made) old new k → length made ≤ k
    → length made ≤ length old → HaveRoom new made
have_room {old} made are least few t track m at made_at =
    let within = slice_get_within made t m made_at in
    let found = slice_get-some old t (omega (arith, within)) in
    (are.done t found.0 track (omega (arith, within)) found.1 at).1 m made_at

-- what was made of it is added to it
abbrev pub IsGrown : List MadeTrack → ℕ → LiveTrack → LiveTrack → Type 0
IsGrown made i x y = (m : MadeTrack) → slice_get made i ≡ Some m → track_shown y ≡ with_all (track_shown x) (all_made m.segments.items)

grown_alike : (old new : List LiveTrack) (made : List MadeTrack) → length new ≡ length old
    → ((i : ℕ) (x y : LiveTrack) → slice_get old i ≡ Some x → slice_get new i ≡ Some y → IsGrown made i x y)
    → ((i : ℕ) → length made ≤ i → slice_get new i ≡ slice_get old i)
    → map track_shown new ≡ grown (map track_shown old) (all_kept made)
grown_alike old new [] many each later =
    maps_alike track_shown track_shown old new many
    (λ i a b at new_at. ap track_shown (same_Some b a (sym new_at ∙ later i (omega arith) ∙ at)))
grown_alike [] [] (m ∷ made) many each later = refl
grown_alike [] (y ∷ new) (m ∷ made) many each later = absurd (omega arith)
grown_alike (x ∷ old) [] (m ∷ made) many each later = absurd (omega arith)
grown_alike (x ∷ old) (y ∷ new) (m ∷ made) many each later =
    let rest = grown_alike old new made (omega arith) (λ i a b. each (suc i) a b) (λ i least. later (suc i) (omega arith)) in
    rw (each 0 x y refl refl m refl, rest) refl

pub all_grown : {old new : List LiveTrack} {k : ℕ} (made : List MadeTrack) → AreChanged (IsGrown made) old new k → k ≡ length made
    → map track_shown new ≡ grown (map track_shown old) (all_kept made)
all_grown {old} {new} made are end =
    grown_alike old new made are.many
    (λ i x y at new_at m made_at. are.done i x y (omega (arith, slice_get_within made i m made_at)) at new_at m made_at)
    (λ i least. are.later i (omega arith))

pub drop_next : {X : Type 0} (k : ℕ) (xs ys : List X) (y : X) → y ∷ ys ≡ drop k xs → (ys ≡ drop (k + 1) xs) × (slice_get xs k ≡ Some y)
drop_next k xs ys y is = (
  ap (drop 1) is ∙ drop-drop 1 k xs,
  sym (slice_get-drop k xs 0 k (omega arith)) ∙ ap (λ zs. slice_get zs 0) (sym is),
)
