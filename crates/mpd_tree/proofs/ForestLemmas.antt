-- The elements that rows show.
use Rattle.std.proofs.Common.{◌≡◌, ℕ, suc, zero, ◌+◌, ◌<◌, ◌≤◌, List, [], ◌∷◌, ◌++◌, length, ◌⊎◌, refl, ap, sym, ◌∙◌, inl, inr, arith}
use Rattle.std.proofs.{Common.{append_assoc, Some}, lemmas.Bool.Decides.nat_tests}
use Rattle.std.proofs.lemmas.List.{append-nil, get_or_append_left, get_or-append-add, length-append, length-map}
use Rattle.std.proofs.lemmas.Option.{slice_get_within}
use Rattle.std.specs.List.{slice_get, slice_index_or}
use Rattle.mpd_tree.specs.{declared.tree.ElementRow.ElementRow, declared.tree.AttributeRow.AttributeRow}
use Rattle.mpd_tree.specs.{Roots.{HasOneRoot, first_of, forest_of, no_element, root_shown, rows_shown}, Views.in_order}
use Rattle.mpd_tree.specs.{Forests.{Shown, flat, shown_of}, Trees.{Forest, nothing, element, Element}}

-- rows before those that are asked for
pub skip : (inner ss : List Shown) (a b from end : ℕ) → b ≡ a + length inner → b ≤ from
    → forest_of (inner ++ ss) a from end ≡ forest_of ss b from end
skip [] ss a b from end e h = grind (arith, e)
skip (r ∷ rs) ss a b from end e h = grind (arith, nat_tests, skip rs ss (suc a) b from end (omega (arith, e)) h)

-- what is asked for is all of them, whatever rows stand behind
pub shown : (f : Forest) (at end : ℕ) (beyond : List Shown) → end ≡ at + length (flat at f) → forest_of (flat at f ++ beyond) at at end ≡ f
shown nothing at end [] e = refl
shown nothing at end (s ∷ ss) e = grind (arith, nat_tests)
shown (element h children others) at end beyond e =
    let inner = flat (suc at) children in
    let next : ℕ = suc at + length inner in
    let outer = flat next others in
    rw (append_assoc inner outer beyond) (grind (
      arith,
      nat_tests,
      shown children (suc at) next (outer ++ beyond) refl,
      skip inner (outer ++ beyond) (suc at) next next end refl (omega arith),
      shown others next end beyond (omega (arith, e, length-append inner outer)),
    ))

pub all_shown : (f : Forest) (end : ℕ) → end ≡ length (flat 0 f) → forest_of (flat 0 f) 0 0 end ≡ f
all_shown f end e = ap (λ ss. forest_of ss 0 0 end) (sym (append-nil (flat 0 f))) ∙ shown f 0 end [] (omega (arith, e))

-- rows that show one element show it as their root
pub root_is : (source read : List ℕ) (elements : List ElementRow) (attributes : List AttributeRow) (root : Element)
    → rows_shown source read elements attributes ≡ flat 0 (element root.head root.children nothing)
    → root_shown source read elements attributes ≡ root
root_is source read elements attributes root is =
    let count : length elements ≡ length (rows_shown source read elements attributes) =
    grind (arith, length-map elements (shown_of source (source ++ read) attributes)) in
    let all = all_shown (element root.head root.children nothing) (length elements) (count ∙ ap length is) in
    ap (λ ss. first_of (forest_of ss 0 0 (length elements)) no_element) is ∙ ap (λ g. first_of g no_element) all

pub has_one_root : (source read : List ℕ) (elements : List ElementRow) (attributes : List AttributeRow) (root : Element)
    → rows_shown source read elements attributes ≡ flat 0 (element root.head root.children nothing)
    → HasOneRoot source read elements attributes
has_one_root source read elements attributes root is =
    is ∙ ap (λ r. flat 0 (element r.head r.children nothing)) (sym (root_is source read elements attributes root is))

-- a row of two parts is one of the first, or of the second
in_parts : (xs ys : List Shown) (k : ℕ) (s : Shown) → slice_get (xs ++ ys) k ≡ Some s
    → (slice_get xs k ≡ Some s) ⊎ ((j : ℕ) × (k ≡ length xs + j) × (slice_get ys j ≡ Some s))
in_parts [] ys k s g = inr (k, omega arith, g)
in_parts (x ∷ xs) ys zero s g = inl g
in_parts (x ∷ xs) ys (suc k) s g = elim (in_parts xs ys k s g) [ inl h ↦ inl h | inr h ↦ inr (h.0, omega (arith, h.1), h.2) ]

as_many : (f : Forest) (at : ℕ) → length (in_order f) ≡ length (flat at f)
as_many nothing at = refl
as_many (element h children others) at =
    let inner = flat (suc at) children in
    grind (
      arith,
      length-append inner (flat (suc at + length inner) others),
      length-append (in_order children) (in_order others),
      as_many children (suc at),
      as_many others (suc at + length inner),
    )

-- the row at a place, its element, and the elements inside it
pub record IsShownAt (f : Forest) (at : ℕ) (beyond : List Shown) (k from : ℕ) (s : Shown) : Type 0 where
  pub after : from < s.next
  pub within : s.next ≤ at + length (flat at f)
  pub shows : slice_index_or (in_order f) k no_element
      ≡ record { head = s.head; children = forest_of (flat at f ++ beyond) at (suc from) s.next }

pub shown_at : (f : Forest) (at : ℕ) (beyond : List Shown) (k from : ℕ) (s : Shown) → slice_get (flat at f) k ≡ Some s → from ≡ at + k
    → IsShownAt f at beyond k from s
shown_at nothing at beyond k from s got e = cc
shown_at (element h children others) at beyond zero from s got e =
    let inner = flat (suc at) children in
    let next : ℕ = suc at + length inner in
    let outer = flat next others in
    let same : record { head = h; next = next } ≡ s = cc in
    let here : from ≡ at = omega (arith, e) in
    record {
      after = rw (← same) (omega (arith, e));
      within = rw (← same) (omega (arith, length-append inner outer));
      shows = rw (← same, append_assoc inner outer beyond, here)
          (grind (arith, nat_tests, shown children (suc at) next (outer ++ beyond) refl));
    }
shown_at (element h children others) at beyond (suc k) from s got e =
    let inner = flat (suc at) children in
    let next : ℕ = suc at + length inner in
    let outer = flat next others in
    let many = as_many children (suc at) in
    let count = length-append inner outer in
    elim (in_parts inner outer k s got) [
      | inl i ↦
          let m = shown_at children (suc at) (outer ++ beyond) k from s i (omega (arith, e)) in
          let left : k < length (in_order children) = omega (arith, many, slice_get_within inner k s i) in
          record {
            after = m.after;
            within = omega (arith, m.within, count);
            shows = rw (append_assoc inner outer beyond) (grind (
              arith,
              nat_tests,
              m.shows,
              get_or_append_left (in_order children) (in_order others) no_element k left,
            ));
          }
      | inr o ↦
          let m = shown_at others next beyond o.0 from s o.2 (omega (arith, e, o.1)) in
          let place : k ≡ length (in_order children) + o.0 = omega (arith, many, o.1) in
          record {
            after = m.after;
            within = omega (arith, m.within, count);
            shows = rw (append_assoc inner outer beyond, place) (grind (
              arith,
              nat_tests,
              m.shows,
              get_or-append-add (in_order children) (in_order others) o.0 no_element,
              skip inner (outer ++ beyond) (suc at) next (suc from) s.next refl (omega (arith, e, o.1)),
            ));
          }
    ]

-- an element that stands at the front, and those inside and behind it
pub forest_here : (ss : List Shown) (at k from end : ℕ) (s : Shown) → slice_get ss k ≡ Some s → from ≡ at + k → from < end → from < s.next
    → forest_of ss at from end ≡ element s.head (forest_of ss at (suc from) s.next) (forest_of ss at s.next end)
forest_here [] at k from end s is place before after = cc
forest_here (r ∷ ss) at zero from end s is place before after =
    let same : r ≡ s = cc in
    let here : from ≡ at = omega (arith, place) in
    rw (here, same) (grind (arith, nat_tests))
forest_here (r ∷ ss) at (suc k) from end s is place before after =
    grind (arith, nat_tests, forest_here ss (suc at) k from end s is (omega arith) before after)

pub forest_none : (ss : List Shown) (at from end : ℕ) → end ≤ from → forest_of ss at from end ≡ nothing
forest_none [] at from end past = refl
forest_none (s ∷ ss) at from end past = grind (arith, nat_tests, forest_none ss (suc at) from end past)
