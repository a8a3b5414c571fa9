-- The lines one after another.
use Rattle.hls_media.specs.declared.tag.Tag.TheVariants as tags
use Rattle.std.proofs.Common.{◌≡◌, ◌≤◌, ◌+◌, ◌^◌, ◌<◌, ℕ, true, List, [], ◌∷◌, length, nat_lt, count_by, fold, cond, Option, Some, None}
use Rattle.std.proofs.{Common.{IfSome, refl, sym, ◌∙◌, ap, arith}, lemmas.Bool.Decides.nat_tests}
use Rattle.std.specs.List.{list_any}
use Rattle.bridge_io.specs.{Firsts.first_of, declared.place.Place.Place}
use Rattle.hls_lines.specs.Lines.{PlaylistLine, tag, uri, is_uri}
use Rattle.hls_media.specs.{Media.{after_tag, after, after_all, tag_fault, line_fault, line_faults, with_fault}, States.{State, nothing}}
use Rattle.hls_media.specs.{Tags.tag_of, declared.fault.MediaFault.MediaFault, declared.tag.Tag.Tag}

at_least : (n : ℕ) (lines : List PlaylistLine) → n ≤ fold (λ (a : ℕ) (x : PlaylistLine). a + cond (is_uri x) 1 0) n lines
at_least n [] = omega arith
at_least n (x ∷ xs) = omega (arith, at_least (n + cond (is_uri x) 1 0) xs)

above_none : (n : ℕ) → 1 ≤ n → true ≡ nat_lt 0 n
above_none n h = sym (grind (arith, nat_tests))

-- a URI is among lines
pub uri_among : (lines : List PlaylistLine) → list_any is_uri lines ≡ nat_lt 0 (count_by is_uri lines)
uri_among [] = refl
uri_among (tag name rest place ∷ lines) = uri_among lines
uri_among (uri text place ∷ lines) = above_none (count_by is_uri (uri text place ∷ lines)) (at_least 1 lines)

tag_few : (url : List ℕ) (s : State) (t : Tag) (rest : List ℕ) (place : Place)
    → (after_tag url s t rest place).discontinuities ≤ s.discontinuities + 1
tag_few url s tags.Discontinuity rest place = omega arith
tag_few url s _ rest place = omega arith

after_few : (url : List ℕ) (s : State) (line : PlaylistLine) → (after url s line).discontinuities ≤ s.discontinuities + 1
after_few url s (tag name rest place) = tag_few url s (tag_of name) rest place
after_few url s (uri text place) = omega arith

-- a state before the lines that are left of all lines
pub record IsBefore (url : List ℕ) (all lines : List PlaylistLine) (s : State) : Type 0 where
  pub states : after_all url s lines ≡ after_all url nothing all
  pub faults : line_faults url s lines ≡ line_faults url nothing all
  pub few : s.discontinuities + length lines ≤ 2 ^ 63

pub IsBefore-begin : (url : List ℕ) (all : List PlaylistLine) → length all ≤ 2 ^ 63 → IsBefore url all all nothing
IsBefore-begin url all few = record { states = refl; faults = refl; few = omega arith }

module _ (url : List ℕ) (all : List PlaylistLine) (line : PlaylistLine) (lines : List PlaylistLine) (s : State)
    (is : IsBefore url all (line ∷ lines) s) where
  pub IsBefore-next : line_fault url s line (list_any is_uri lines) ≡ None → IsBefore url all lines (after url s line)
  IsBefore-next none = record {
    states = is.states;
    faults = ap (λ f. with_fault f (line_faults url (after url s line) lines)) (sym none) ∙ is.faults;
    few = omega (arith, is.few, after_few url s line);
  }

  pub told_first : (f : MediaFault) → line_fault url s line (list_any is_uri lines) ≡ Some f
      → first_of (line_faults url nothing all) ≡ Some f
  told_first f e = ap first_of (sym is.faults) ∙ ap (λ o. first_of (with_fault o (line_faults url (after url s line) lines))) e

  pub few_before : s.discontinuities < 2 ^ 63
  few_before = omega (arith, is.few)

-- a tag without a fault, and one at fault
module _ (url : List ℕ) (all lines next : List PlaylistLine) (s : State) (name rest : List ℕ) (place : Place) (t : Tag) (uris : ℕ)
    (first : lines ≡ tag name rest place ∷ next) (t_is : t ≡ tag_of name) (uris_are : uris ≡ count_by is_uri lines)
    (is : IsBefore url all lines s) where
  left : uris ≡ count_by is_uri next
  left = rw first at uris_are

  before : IsBefore url all (tag name rest place ∷ next) s
  before = rw first at is

  same_fault : line_fault url s (tag name rest place) (list_any is_uri next) ≡ tag_fault url s t rest place (nat_lt 0 uris)
  same_fault = ap (λ follows. tag_fault url s (tag_of name) rest place follows) (uri_among next ∙ ap (nat_lt 0) (sym left))
      ∙ ap (λ tag. tag_fault url s tag rest place (nat_lt 0 uris)) (sym t_is)

  pub tag_turn : (later : State) → tag_fault url s t rest place (nat_lt 0 uris) ≡ None → later ≡ after_tag url s t rest place
      → (uris ≡ count_by is_uri next) × IsBefore url all next later
  tag_turn later none e = (
    left,
    rw (e, t_is) (IsBefore-next url all (tag name rest place) next s before (same_fault ∙ none)),
  )

  pub tag_told : (f : MediaFault) → tag_fault url s t rest place (nat_lt 0 uris) ≡ Some f → first_of (line_faults url nothing all) ≡ Some f
  tag_told f e = told_first url all (tag name rest place) next s before f (same_fault ∙ e)

-- each fault that is told is told for another reason
pub each_told : {A B : Option MediaFault} (o : Option MediaFault) → IfSome o (λ f. A ≡ Some f)
    → ((f : MediaFault) → A ≡ Some f → B ≡ Some f) → IfSome o (λ f. B ≡ Some f)
each_told None h more = tt
each_told (Some f) h more = more f h
