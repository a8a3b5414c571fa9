-- A pass over what stands in an element.
use Rattle.std.proofs.Common.{◌≡◌, ℕ, ◌<◌, max, suc, true, false, List, [], ◌∷◌, ◌++◌, Option, Some, None, Result, Ok, Err, IfSome, refl}
use Rattle.std.proofs.{Common.{sym, ◌∙◌, ap, subst, arith}, lemmas.List.Concat.flat_map-append}
use Rattle.std.proofs.lemmas.List.Elements.{All-cons, All-head, All-nil, All-tail, All-weaker}
use Rattle.std.specs.{Prelude.{flat_map, if◌then◌else◌}, List.All}
use Rattle.bridge_io.specs.{Answer.Gives, Firsts.first_fault}
use Rattle.mpd_tree.specs.{Trees.{Head, Forest, nothing, element, Element, depth}, Views.side_by_side}
use Rattle.mpd_profile.specs.declared.fault.RuleFault.{RuleFault}
use Rattle.mpd_profile.specs.declared.fault.RuleFault.TheVariants.{Root, Namespace, Missing, Value, NoStart, PeriodOrder, Encryption}
use Rattle.mpd_profile.specs.declared.fault.RuleFault.TheVariants.{Events, LowLatency, Remote, Essential, Unsupported, IndexNeeded}
use Rattle.mpd_profile.specs.{declared.fault.RuleFault.TheVariants.{NoTracks, Memory}, declared.listed.Listed.Listed}
use Rattle.mpd_profile.specs.{declared.siblings.Siblings.Siblings, declared.visit.Pass.Pass, Behind.IsBehind, Elements.child_of}
use Rattle.mpd_profile.specs.LeftOut.{is_left_out, is_left_out_by, type_of}
use Rattle.mpd_profile.specs.{Passes.{addressing_of, refused_along, refused_child, refused_in, refused_inside, told_by}, Refusals.refusal}
use Rattle.mpd_profile.specs.Visits.{Parent, Visit, inside, parent_in, root_parent, root_visit, unless_empty, visit_in, visits_in}

-- what a call answers of these refusals
abbrev pub Tells : Result (Unit {0}) RuleFault → List RuleFault → Type 0
Tells result faults = Gives (λ u. u) refusal result (first_fault faults)

-- nothing before, something before
pub first_behind : (xs ys : List RuleFault) → first_fault xs ≡ Ok tt → first_fault (xs ++ ys) ≡ first_fault ys
first_behind [] ys none = refl
first_behind (x ∷ xs) ys none = absurd (cc)

first_before : (xs ys : List RuleFault) (fault : RuleFault) → first_fault xs ≡ Err fault → first_fault (xs ++ ys) ≡ Err fault
first_before [] ys fault some = absurd (cc)
first_before (x ∷ xs) ys fault some = some

-- a refusal that isn't want of memory is told as it is
pub is_told : (answer : Result (Unit {0}) RuleFault) (fault : RuleFault) → answer ≡ Err fault
    → Gives {X = Unit {0}} (λ u. u) refusal (Err fault) answer
is_told answer Memory is = tt
is_told answer (Root place) is = is
is_told answer (Namespace place) is = is
is_told answer (Missing place) is = is
is_told answer (Value place) is = is
is_told answer (NoStart place) is = is
is_told answer (PeriodOrder place) is = is
is_told answer (Encryption place) is = is
is_told answer (Events place) is = is
is_told answer (LowLatency place) is = is
is_told answer (Remote place) is = is
is_told answer (Essential place) is = is
is_told answer (Unsupported place) is = is
is_told answer (IndexNeeded place) is = is
is_told answer (NoTracks place) is = is

pub told_before : (xs ys : List RuleFault) (fault : RuleFault) → Tells (Err fault) xs → Tells (Err fault) (xs ++ ys)
told_before xs ys fault told = seen (refusal fault) told
  where
    seen : (o : Option RuleFault) → IfSome o (λ f. first_fault xs ≡ Err f) → IfSome o (λ f. first_fault (xs ++ ys) ≡ Err f)
    seen None told = tt
    seen (Some f) told = first_before xs ys f told

pub told_behind : (xs ys : List RuleFault) (result : Result (Unit {0}) RuleFault) → Tells (Ok tt) xs → Tells result ys
    → Tells result (xs ++ ys)
told_behind xs ys result none told = subst (λ answer. Gives (λ u. u) refusal result answer) (sym (first_behind xs ys none)) told

-- elements one after the other are those of a forest
along_is : (pass : Pass) (parent : Parent) (before : List Head) (children : Forest)
    → refused_along pass parent before (side_by_side children) ≡ refused_inside pass parent before children
unfolding refused_along refused_inside refused_child visits_in
along_is pass parent before nothing = refl
along_is pass parent before (element head children others) =
    let e : Element = record { head = head; children = children } in
    let addressing = addressing_of pass in
    let o = child_of addressing parent.listed head.name in
    let first = if is_left_out parent.head o e then []
    else visit_in addressing parent before head ∷ inside o (λ listed. visits_in addressing (parent_in parent listed head) [] children) in
    let rest = visits_in addressing parent (before ++ head ∷ []) others in
    ap (λ faults. flat_map (told_by pass) first ++ faults) (along_is pass parent (before ++ head ∷ []) others)
    ∙ sym (flat_map-append (told_by pass) first rest)

-- what stands in an element is less deep
all_smaller : (children : Forest) → All (λ e. depth e.children < depth children) (side_by_side children)
all_smaller nothing = All-nil (λ e. depth e.children < 0)
all_smaller (element head children others) =
    All-cons (λ e. depth e.children < max (suc (depth children)) (depth others)) (record { head = head; children = children })
    (side_by_side others) (omega arith)
    (All-weaker (λ e. depth e.children < depth others) (λ e. depth e.children < max (suc (depth children)) (depth others))
    (λ e less. omega arith) (side_by_side others) (all_smaller others))

-- ---- the loop over an element's children

pub record IsAt (pass : Pass) (parent : Parent) (children : Forest) (siblings : Siblings) (left : List Element) : Type 0 where
  pub before : List Head
  pub behind : IsBehind siblings parent.dynamic before
  pub rest : first_fault (refused_along pass parent before left) ≡ first_fault (refused_inside pass parent [] children)
  pub smaller : All (λ e. depth e.children < depth children) left

module _ (pass : Pass) (parent : Parent) (children : Forest) (siblings : Siblings) where
  pub at_first : (left : List Element) → IsBehind siblings parent.dynamic [] → left ≡ side_by_side children
      → IsAt pass parent children siblings left
  at_first left behind is = record {
    before = [];
    behind = behind;
    rest = ap (λ left. first_fault (refused_along pass parent [] left)) is ∙ ap first_fault (along_is pass parent [] children);
    smaller = subst (λ left. All (λ e. depth e.children < depth children) left) (sym is) (all_smaller children);
  }

  pub at_end : (left : List Element) → IsAt pass parent children siblings left → left ≡ []
      → Tells (Ok tt) (refused_inside pass parent [] children)
  unfolding refused_along
  at_end left at is = sym at.rest ∙ ap (λ left. first_fault (refused_along pass parent at.before left)) is

  pub is_less : (left others : List Element) (e : Element) → IsAt pass parent children siblings left → left ≡ e ∷ others
      → depth e.children < depth children
  is_less left others e at is = All-head (λ e. depth e.children < depth children) e others
      (subst (λ left. All (λ e. depth e.children < depth children) left) is at.smaller)

  pub told_here : (left others : List Element) (e : Element) (fault : RuleFault) → (at : IsAt pass parent children siblings left)
      → left ≡ e ∷ others
      → Tells (Err fault) (refused_child pass parent at.before e) → Tells (Err fault) (refused_inside pass parent [] children)
  unfolding refused_along
  told_here left others e fault at is told =
      subst (λ answer. Gives {X = Unit {0}} (λ u. u) refusal (Err fault) answer)
      (sym (ap (λ left. first_fault (refused_along pass parent at.before left)) is) ∙ at.rest)
      (told_before (refused_child pass parent at.before e) (refused_along pass parent (at.before ++ e.head ∷ []) others) fault told)

  pub at_next : (left others : List Element) (e : Element) (more : Siblings) → (at : IsAt pass parent children siblings left)
      → left ≡ e ∷ others
      → Tells (Ok tt) (refused_child pass parent at.before e) → IsBehind more parent.dynamic (at.before ++ e.head ∷ [])
      → IsAt pass parent children more others
  unfolding refused_along
  at_next left others e more at is none behind = record {
    before = at.before ++ e.head ∷ [];
    behind = behind;
    rest = sym (first_behind (refused_child pass parent at.before e) (refused_along pass parent (at.before ++ e.head ∷ []) others) none)
        ∙ sym (ap (λ left. first_fault (refused_along pass parent at.before left)) is) ∙ at.rest;
    smaller = All-tail (λ e. depth e.children < depth children) e others
        (subst (λ left. All (λ e. depth e.children < depth children) left) is at.smaller);
  }

-- ---- one element

module _ (pass : Pass) (parent : Parent) (before : List Head) (e : Element) where
  -- the visit to one that is read as `o`
  abbrev pub visit_as : Option Listed → Visit
  visit_as o = record { parent = Some parent; before = before; listed = o; head = e.head; dynamic = parent.dynamic }

  abbrev told_inside : Option Listed → List RuleFault
  told_inside o = flat_map (told_by pass) (inside o (λ listed. visits_in (addressing_of pass) (parent_in parent listed e.head)
      [] e.children))

  -- what it is read as, and the media type that its parent says
  pub record IsRead (o : Option Listed) (type : Option (List ℕ)) : Type 0 where
    pub listed : o ≡ child_of (addressing_of pass) parent.listed e.head.name
    pub typed : type ≡ type_of parent.head

  pub nothing_told : (o : Option Listed) (type : Option (List ℕ)) → IsRead o type → is_left_out_by type o e ≡ true
      → Tells (Ok tt) (refused_child pass parent before e)
  unfolding refused_child
  nothing_told o type read left_out = rw (← read.listed, ← read.typed, left_out) refl

  kept_is : (o : Option Listed) (type : Option (List ℕ)) → IsRead o type → is_left_out_by type o e ≡ false
      → refused_child pass parent before e ≡ told_by pass (visit_as o) ++ told_inside o
  unfolding refused_child
  kept_is o type read kept = rw (← read.listed, ← read.typed, kept) refl

  pub itself_told : (o : Option Listed) (type : Option (List ℕ)) (fault : RuleFault) → IsRead o type → is_left_out_by type o e ≡ false
      → Err fault ≡ first_fault (told_by pass (visit_as o)) → Tells (Err fault) (refused_child pass parent before e)
  itself_told o type fault read kept told =
      rw (kept_is o type read kept) (told_before (told_by pass (visit_as o)) (told_inside o) fault
      (is_told (first_fault (told_by pass (visit_as o))) fault (sym told)))

  pub inside_told : (o : Option Listed) (type : Option (List ℕ)) (l : Listed) (result : Result (Unit {0}) RuleFault) → IsRead o type
      → is_left_out_by type o e ≡ false → o ≡ Some l
      → Ok tt ≡ first_fault (told_by pass (visit_as o)) → Tells result (refused_inside pass (parent_in parent l e.head) [] e.children)
      → Tells result (refused_child pass parent before e)
  unfolding refused_inside
  inside_told o type l result read kept is none told =
      rw (kept_is o type read kept) (told_behind (told_by pass (visit_as o)) (told_inside o) result (sym none) (rw is told))

  empty_told : (o : Option Listed) (children : Forest) → unless_empty children o ≡ None
      → flat_map (told_by pass) (inside o (λ listed. visits_in (addressing_of pass) (parent_in parent listed e.head) [] children)) ≡ []
  unfolding visits_in
  empty_told None nothing none = refl
  empty_told (Some l) nothing none = refl
  empty_told o (element head children others) none = rw none refl

  pub nothing_inside : (o : Option Listed) (type : Option (List ℕ)) → IsRead o type → is_left_out_by type o e ≡ false
      → unless_empty e.children o ≡ None
      → Ok tt ≡ first_fault (told_by pass (visit_as o)) → Tells (Ok tt) (refused_child pass parent before e)
  nothing_inside o type read kept is none =
      rw (kept_is o type read kept) (told_behind (told_by pass (visit_as o)) (told_inside o) (Ok tt) (sym none)
      (rw (empty_told o e.children is) refl))

pub around_is : (o : Option Listed) (l : Listed) (children : Forest) → unless_empty children o ≡ Some l → o ≡ Some l
around_is o l nothing is = absurd (cc)
around_is o l (element head children others) is = is

pub none_around : (o : Option Listed) (children : Forest) → side_by_side children ≡ [] → None ≡ unless_empty children o
none_around o nothing none = refl
none_around o (element head children others) none = absurd (cc)

pub some_around : (o : Option Listed) (children : Forest) (e : Element) (others : List Element) → side_by_side children ≡ e ∷ others
    → o ≡ unless_empty children o
some_around o nothing e others some = absurd (cc)
some_around o (element head children others) e rest some = refl

-- ---- an MPD

in_is : (pass : Pass) (root : Element) → refused_in pass root ≡ told_by pass (root_visit root.head)
    ++ refused_inside pass (root_parent root.head) [] root.children
unfolding refused_in refused_inside
in_is pass root = refl

pub root_told : (pass : Pass) (root : Element) (fault : RuleFault) → Err fault ≡ first_fault (told_by pass (root_visit root.head))
    → Tells (Err fault) (refused_in pass root)
root_told pass root fault told =
    let here = told_by pass (root_visit root.head) in
    rw (in_is pass root) (told_before here (refused_inside pass (root_parent root.head) [] root.children) fault
    (is_told (first_fault here) fault (sym told)))

pub root_untold : (pass : Pass) (root : Element) (result : Result (Unit {0}) RuleFault)
    → Ok tt ≡ first_fault (told_by pass (root_visit root.head))
    → Tells result (refused_inside pass (root_parent root.head) [] root.children) → Tells result (refused_in pass root)
root_untold pass root result none told = rw (in_is pass root) (told_behind (told_by pass (root_visit root.head))
    (refused_inside pass (root_parent root.head) [] root.children) result (sym none) told)
