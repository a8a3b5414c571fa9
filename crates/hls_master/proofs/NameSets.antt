-- Kinds, groups and names of renditions in an ordered set.
use Rattle.std.proofs.Common.{◌≡◌, ℕ, Bool, true, false, cond, ◌||◌, ◌&&◌, ◌==◌, List, [], ◌∷◌, ◌++◌, refl, sym, ◌∙◌, ap, Bor, bytes_eq}
use Rattle.std.proofs.{Common.{Less, Equal, Greater, Ordering, arith}, lemmas.Map.Text.is_eq-slice_cmp, lemmas.List.Folds.list_any-append}
use Rattle.std.proofs.lemmas.Bool.Decides.{nat_tests}
use Rattle.std.specs.{List.list_any, Ordering.{nat_cmp, is_eq, ordering_then}, Cmp.Lexicographic.slice_cmp, BTreeMap.is_at}
use Rattle.std.specs.BTreeSet.{BTreeSet, UpdatesBy}
use Rattle.bridge_io.proofs.Texts.{bytes_eq_sym}
use Rattle.bridge_io.specs.{declared.media.Kind.Kind, declared.media.Kind.TheVariants.{Video, Audio, Text}}
use Rattle.hls_master.specs.{Names.{is_key, number_of}, Renditions.{RenditionValue, has_name_of, same_kind}}

abbrev pub Key : Type 0
Key = ℕ × Bor (List ℕ) × Bor (List ℕ)

abbrev pub by_key : Key → Key → Ordering
by_key x y = ordering_then (ordering_then (nat_cmp x.0 y.0) (slice_cmp nat_cmp x.1.now y.1.now)) (slice_cmp nat_cmp x.2.now y.2.now)

is_eq-then : (a b : Ordering) → is_eq (ordering_then a b) ≡ (is_eq a && is_eq b)
is_eq-then Less b = refl
is_eq-then Equal b = refl
is_eq-then Greater b = refl

is_eq-nat : (a b : ℕ) → is_eq (nat_cmp a b) ≡ (a == b)
is_eq-nat a b = grind (arith, nat_tests)

same_number : (a b : Kind) → (number_of a == number_of b) ≡ same_kind b a
same_number Video Video = refl
same_number Video Audio = refl
same_number Video Text = refl
same_number Audio Video = refl
same_number Audio Audio = refl
same_number Audio Text = refl
same_number Text Video = refl
same_number Text Audio = refl
same_number Text Text = refl

or_last : (a b : Bool) → cond a true b ≡ (b || (a || false))
or_last true true = refl
or_last true false = refl
or_last false true = refl
or_last false false = refl

abbrev pub key_of : RenditionValue → Key
key_of one = (number_of one.kind, record { ref_ptr = (0, 0); now = one.group }, record { ref_ptr = (0, 0); now = one.name })

is_at-key : (x y : Key) → is_at (by_key x) y ≡ (x.0 == y.0 && bytes_eq x.1.now y.1.now && bytes_eq x.2.now y.2.now)
is_at-key x y = is_eq-then (ordering_then (nat_cmp x.0 y.0) (slice_cmp nat_cmp x.1.now y.1.now)) (slice_cmp nat_cmp x.2.now y.2.now)
    ∙ rw (
      is_eq-then (nat_cmp x.0 y.0) (slice_cmp nat_cmp x.1.now y.1.now),
      is_eq-nat x.0 y.0,
      is_eq-slice_cmp x.1.now y.1.now,
      is_eq-slice_cmp x.2.now y.2.now,
    ) refl

pub has_name : (keys : List Key) (x : Key) (one : RenditionValue) → x.0 ≡ number_of one.kind → x.1.now ≡ one.group → x.2.now ≡ one.name
    → list_any (is_at (by_key x)) keys ≡ list_any (is_key one) keys
has_name [] x one k g n = refl
has_name (key ∷ keys) x one k g n = ap (λ b. b || list_any (is_at (by_key x)) keys) (rw (← k, ← g, ← n) (is_at-key x key))
    ∙ ap (λ b. is_key one key || b) (has_name keys x one k g n)

same_names : (x : Key) (one new : RenditionValue) → x.0 ≡ number_of new.kind → x.1.now ≡ new.group → x.2.now ≡ new.name
    → is_at (by_key x) (key_of one) ≡ has_name_of one new
same_names x one new k g n = is_at-key x (key_of one)
    ∙ rw (k, g, n, bytes_eq_sym new.group one.group, bytes_eq_sym new.name one.name, same_number new.kind one.kind) refl

pub named_one_more : (old new : BTreeSet Key) (x : Key) (added : RenditionValue) → x.0 ≡ number_of added.kind → x.1.now ≡ added.group
    → x.2.now ≡ added.name → UpdatesBy by_key (by_key x) old new true
    → (before : List RenditionValue) → ((one : RenditionValue) → list_any (is_key one) old.keys ≡ list_any (has_name_of one) before)
    → (one : RenditionValue) → list_any (is_key one) new.keys ≡ list_any (has_name_of one) (before ++ added ∷ [])
named_one_more old new x added k g n h before same one =
    sym (has_name new.keys (key_of one) one refl refl refl) ∙ h.0 (key_of one)
    ∙ ap (λ b. cond b true (list_any (is_at (by_key (key_of one))) old.keys)) (same_names x one added k g n)
    ∙ ap (λ b. cond (has_name_of one added) true b) (has_name old.keys (key_of one) one refl refl refl ∙ same one)
    ∙ or_last (has_name_of one added) (list_any (has_name_of one) before) ∙ sym (list_any-append (has_name_of one) before (added ∷ []))
