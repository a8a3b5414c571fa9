-- Values put together.
use Rattle.std.proofs.{Common.{◌≡◌, List, [], ◌∷◌, ◌++◌, map, ap, ◌∙◌, append_assoc, Result, Ok, Err, OnOk}, lemmas.List.map-append}
use Rattle.mpd_tree.specs.Trees.{Element}
use Rattle.mpd_levels.specs.{declared.level.Level.Level, declared.tables.Tables.Tables, Shown.{Grows, Says}}
use Rattle.mpd_levels.proofs.Showing.{Shows-grows}

-- what a level says stays as tables grow
pub Says-grows : {old new : Tables} {level : Level} {levels : List Element} → Grows old new → Says old level levels → Says new level levels
Says-grows grows says = record {
  means = says.means;
  template = Shows-grows grows says.template;
  list = Shows-grows grows says.list;
  base = says.base;
}

-- one more row, and what is left
pub one_pushed : {A B : Type 0} (f : A → B) (old new : List A) (x : A) (y : B) (rest all : List B) → new ≡ old ++ x ∷ [] → f x ≡ y
    → map f old ++ y ∷ rest ≡ all → map f new ++ rest ≡ all
one_pushed f old new x y rest all is shows whole =
    ap (λ xs. map f xs ++ rest) is ∙ ap (λ ys. ys ++ rest) (map-append f old (x ∷ [])) ∙ append_assoc (map f old) (f x ∷ []) rest
    ∙ ap (λ z. map f old ++ z ∷ rest) shows ∙ whole

pub on_ok : {T E P : Type 0} (r : Result T E) → P → OnOk r P
on_ok (Ok x) p = p
on_ok (Err e) p = tt
