-- Elements in parts, and one after another.
use Rattle.std.proofs.Common.{◌≡◌, ℕ, List, [], ◌∷◌, ◌++◌, Bool, codes, flat_map, Result, Ok, Err, IsErrAnd, Option, None, Some, refl}
use Rattle.std.proofs.{Common.{sym, ap, ◌∙◌}, lemmas.List.{append_assoc, append-nil}}
use Rattle.std.specs.Borrow.{Bor}
use Rattle.bridge_io.specs.{Adding.Adds, declared.outside.Fail.Fail, declared.outside.Store.Ghosts, declared.sheet.Sheet.Sheet}
use Rattle.bridge_io.proofs.Adding.{adds_same, adds_stop, adds_stop_at, adds_then}
use Rattle.mpd_tree.specs.{Escapes.escape_all, Markup.{attribute_text, enclosed, opening, printed}}
use Rattle.dash_writer.specs.Elements.{Attribute, Element, attributes_of, node, tag_of, with_attribute}
use Rattle.dash_writer.specs.Written.{all_told, attributes_text, element_text, elements_text, end_text, is_childless, known_text}
use Rattle.dash_writer.specs.{Written.{start_text, told}, declared.attribute.Value.Value}

-- ---- attributes

more_attributes : (name : List ℕ) (value : Option (List ℕ)) (others : List (List ℕ × List ℕ))
    → attributes_text (with_attribute name value others) ≡ attributes_text (with_attribute name value []) ++ attributes_text others
more_attributes name None others = refl
more_attributes name (Some value) others = ap (λ t. t ++ attributes_text others) (sym (append-nil (attribute_text (name, value))))

pub each_attribute : (attributes : List (Bor (List ℕ) × Option Value)) → flat_map (λ a. known_text (told a)) attributes
    ≡ attributes_text (attributes_of (all_told attributes))
each_attribute [] = refl
each_attribute (a ∷ attributes) =
    ap (λ t. known_text (told a) ++ t) (each_attribute attributes)
    ∙ sym (more_attributes (told a).0 (told a).1 (attributes_of (all_told attributes)))

pub attribute_parts : (name value : List ℕ) → 32 ∷ (name ++ (61 ∷ 34 ∷ [])) ++ escape_all value ++ (34 ∷ [])
    ≡ attributes_text ((name, value) ∷ [])
attribute_parts name value = sym (append-nil (attribute_text (name, value)))

-- ---- elements

pub opening_parts : (name attributes : List ℕ) → 60 ∷ (name ++ []) ++ attributes ≡ codes "<" ++ name ++ attributes
opening_parts name attributes = ap (λ t. 60 ∷ t ++ attributes) (append-nil name)

pub elements-cons : (x : Element) (xs : List Element) → elements_text (x ∷ xs) ≡ element_text x ++ elements_text xs
elements-cons x xs = sym (append_assoc (enclosed x.0 x.1 (printed x.1)) (codes "\n") (elements_text xs))

pub one_element : (x : Element) → element_text x ≡ elements_text (x ∷ [])
one_element x = sym (append-nil (element_text x)) ∙ sym (elements-cons x [])

pub elements-append : (xs ys : List Element) → elements_text (xs ++ ys) ≡ elements_text xs ++ elements_text ys
elements-append [] ys = refl
elements-append (x ∷ xs) ys = let text = enclosed x.0 x.1 (printed x.1) in
    ap (λ t. text ++ (codes "\n" ++ t)) (elements-append xs ys)
    ∙ sym (append_assoc text (codes "\n" ++ elements_text xs) (elements_text ys))

enclosed_parts : (text inside name : List ℕ) → text ++ (62 ∷ 10 ∷ []) ++ inside ++ (60 ∷ 47 ∷ (name ++ (62 ∷ 10 ∷ [])))
    ≡ text ++ (62 ∷ []) ++ (10 ∷ inside) ++ (60 ∷ 47 ∷ (name ++ (62 ∷ []))) ++ (10 ∷ [])
enclosed_parts text inside name = simp append_assoc

module _ (name : List ℕ) (attributes : List Attribute) where
  node_parts : (children : List Element)
      → start_text (tag_of name attributes) (is_childless children) ++ elements_text children ++ end_text name (is_childless children)
      ≡ element_text (node name attributes children)
  node_parts [] = let text = opening (tag_of name attributes) in
      append-nil (text ++ codes "/>\n" ++ []) ∙ append-nil (text ++ codes "/>\n") ∙ sym (append_assoc text (codes "/>") (codes "\n"))
  node_parts (x ∷ xs) = enclosed_parts (opening (tag_of name attributes)) (elements_text (x ∷ xs)) name

  parts : (children : List Element) (childless : Bool) → is_childless children ≡ childless
      → start_text (tag_of name attributes) childless ++ elements_text children ++ end_text name childless
      ≡ element_text (node name attributes children)
  parts children childless is = rw (← is) (node_parts children)

  module _ {T F : Type 0} {store : Ghosts F} (children : List Element) {childless : Bool} (is : is_childless children ≡ childless)
      {old mid : Sheet F} where
    -- the start fails
    pub stops_at_start : {fail : Fail} (result : Result T Fail) → IsErrAnd result (λ e. e ≡ fail)
        → Adds {T = Unit {0}} store (start_text (tag_of name attributes) childless) old mid (Err fail)
        → Adds store (element_text (node name attributes children)) old mid result
    stops_at_start result handed one = adds_same (parts children childless is)
        (adds_stop_at _ result handed (adds_stop {T = Unit {0}} _ one))

    module _ {new : Sheet F} (one : Adds {T = Unit {0}} store (start_text (tag_of name attributes) childless) old mid (Ok tt)) where
      -- the children fail
      pub stops_at_children : {fail : Fail} (result : Result T Fail) → IsErrAnd result (λ e. e ≡ fail)
          → Adds {T = Unit {0}} store (elements_text children) mid new (Err fail)
          → Adds store (element_text (node name attributes children)) old new result
      stops_at_children result handed two = adds_same (parts children childless is) (adds_stop_at _ result handed (adds_then _ one two))

      -- the end is added, or fails
      pub adds_node : {end : Sheet F} {result : Result T Fail}
          → Adds {T = Unit {0}} store (elements_text children) mid new (Ok tt)
          → Adds store (end_text name childless) new end result
          → Adds store (element_text (node name attributes children)) old end result
      adds_node two three = adds_same (parts children childless is) (adds_then _ (adds_then _ one two) three)

-- one element more is added to what goes on to a whole text
pub one_more : (x : Element) (xs : List Element) (done whole : List ℕ) → done ++ elements_text (x ∷ xs) ≡ whole
    → done ++ element_text x ++ elements_text xs ≡ whole
one_more x xs done whole goes = append_assoc done (element_text x) (elements_text xs) ∙ ap (λ t. done ++ t) (sym (elements-cons x xs))
    ∙ goes

pub some_more : (xs ys : List Element) (done whole : List ℕ) → done ++ elements_text (xs ++ ys) ≡ whole
    → done ++ elements_text xs ++ elements_text ys ≡ whole
some_more xs ys done whole goes = append_assoc done (elements_text xs) (elements_text ys)
    ∙ ap (λ t. done ++ t) (sym (elements-append xs ys)) ∙ goes

pub three_parts : (x y : Element) (xs : List Element) → element_text x ++ element_text y ++ elements_text xs ≡ elements_text (x ∷ y ∷ xs)
three_parts x y xs = append_assoc (element_text x) (element_text y) (elements_text xs)
    ∙ ap (λ t. element_text x ++ t) (sym (elements-cons y xs)) ∙ sym (elements-cons x (y ∷ xs))

-- a failure is handed on
pub adds_fails : {S T F : Type 0} {store : Ghosts F} {text : List ℕ} {old mid : Sheet F} {fail : Fail} (result : Result T Fail)
    → IsErrAnd result (λ e. e ≡ fail) → Adds {T = S} store text old mid (Err fail) → Adds {T = T} store text old mid result
adds_fails {text = text} result handed one = adds_same (append-nil text) (adds_stop_at [] result handed one)
