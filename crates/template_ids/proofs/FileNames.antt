-- Where the greatest number and time give the name of a file, each number and each time do.
use Rattle.std.proofs.Common.{◌≡◌, ◌⊎◌, ℕ, zero, suc, ◌-◌, ◌<◌, ◌≤◌, ◌^◌, ◌==◌, Bool, true, false, List, [], ◌∷◌, ◌++◌, length, replicate}
use Rattle.std.proofs.Common.{Result, Ok, Err, arith, sym, refl, ap, ◌∙◌, subst, inl, inr, ⊎_elim, append_assoc, append-nil, length-append}
use Rattle.std.proofs.{Common.lit<, lemmas.Bool.{and_parts, and_from, and_left, and_right, cases_Bool, true≢false}}
use Rattle.std.proofs.{lemmas.Bool.Decides.nat_tests, lemmas.List.length-replicate, lemmas.List.Folds.list_all-append}
use Rattle.std.proofs.{lemmas.Str.Parse.{numerals_by_value, tells_all_ascii_digits}, lemmas.Fmt.{length-decimal-le, decimal_nonempty}}
use Rattle.std.proofs.lemmas.Fmt.{digits_decimal}
use Rattle.std.specs.{Prelude.{codes, decimal, nat_le}, List.list_all, Char.is_ascii_digit, Fmt.digits, Str.all_ascii_digits}
use Rattle.bridge_io.specs.Names.{is_name_byte, is_proper_part, parts_after, is_name}
use Rattle.template_ids.specs.{declared.fault.TemplateFault.TemplateFault, declared.identifier.Identifier.Identifier}
use Rattle.template_ids.specs.declared.identifier.Identifier.TheVariants.{Dollar, RepresentationId, Padded}
use Rattle.template_ids.specs.{declared.identifier.Quantity.TheVariants.{Number, Time, Bandwidth}, declared.ids.Ids.Ids}
use Rattle.template_ids.specs.{Identifiers.identifier_of, Templates.{parts_of, padded, value_if_ok, replaced}, FileNames.with_greatest}
use Rattle.template_ids.specs.FileNames.{FilesAreNamed}

abbrev is_dot : ℕ → Bool
is_dot b = b == 46

abbrev HasProperParts : List ℕ → List ℕ → Type 0
HasProperParts front text = list_all is_proper_part (parts_after front text) ≡ true

-- the fronts of two parts: the same, or the other one isn't of dots alone
abbrev IsLike : List ℕ → List ℕ → Type 0
IsLike front other = (front ≡ other) ⊎ (list_all is_dot other ≡ false)

-- a text has what makes a name where another one does, and is no longer than it
record Follows (great small : List ℕ) : Type 0 where
  bytes : list_all is_name_byte great ≡ true → list_all is_name_byte small ≡ true
  short : length small ≤ length great
  proper : (front other : List ℕ) → IsLike front other → HasProperParts front great → HasProperParts other small

like_is_proper : (front other : List ℕ) → IsLike front other → is_proper_part front ≡ true → is_proper_part other ≡ true
like_is_proper front other (inl same) proper = subst (λ f. is_proper_part f ≡ true) same proper
like_is_proper front other (inr no_dots) proper = rw (and_right (nat_le (length other) 2) _ no_dots) refl

like_grows : (front other more : List ℕ) → IsLike front other → IsLike (front ++ more) (other ++ more)
like_grows front other more (inl same) = inl (ap (λ f. f ++ more) same)
like_grows front other more (inr no_dots) = inr (list_all-append is_dot other more ∙ and_left _ _ no_dots)

follows_nothing : Follows [] []
follows_nothing = record {
  bytes = λ named. named;
  short = omega arith;
  proper = λ front other like h. rw (like_is_proper front other like (and_parts _ _ h).0) refl;
}

-- ---- digits

digit_is : (d : ℕ) → is_ascii_digit d ≡ true → (is_name_byte d ≡ true) × ((d == 46) ≡ false) × ((d == 47) ≡ false)
digit_is d digit = (grind (arith, nat_tests), grind (arith, nat_tests), grind (arith, nat_tests))

digits_are_named : (ds : List ℕ) → all_ascii_digits ds ≡ true → list_all is_name_byte ds ≡ true
digits_are_named [] are = refl
digits_are_named (d ∷ ds) are = let both = and_parts (is_ascii_digit d) (all_ascii_digits ds) are in
    and_from (is_name_byte d) _ (digit_is d both.0).0 (digits_are_named ds both.1)

digits_are_no_dots : (ds front : List ℕ) → 0 < length ds → all_ascii_digits ds ≡ true → list_all is_dot (front ++ ds) ≡ false
digits_are_no_dots [] front some are = absurd (omega arith)
digits_are_no_dots (d ∷ ds) front some are = let both = and_parts (is_ascii_digit d) (all_ascii_digits ds) are in
    list_all-append is_dot front (d ∷ ds) ∙ and_right _ _ (and_left _ _ (digit_is d both.0).1)

parts_behind_digits : (ds front text : List ℕ) → all_ascii_digits ds ≡ true → parts_after front (ds ++ text)
    ≡ parts_after (front ++ ds) text
parts_behind_digits [] front text are = ap (λ f. parts_after f text) (sym (append-nil front))
parts_behind_digits (d ∷ ds) front text are = let both = and_parts (is_ascii_digit d) (all_ascii_digits ds) are in
    rw (digit_is d both.0).2 (parts_behind_digits ds (front ++ d ∷ []) text both.1
    ∙ ap (λ f. parts_after f text) (append_assoc front (d ∷ []) ds))

-- ---- behind the same bytes, or digits

module _ (great small : List ℕ) (rest : Follows great small) where
  proper_behind_byte : (b : ℕ) (front other : List ℕ) → IsLike front other → HasProperParts front (b ∷ great)
      → HasProperParts other (b ∷ small)
  proper_behind_byte b front other like h = ⊎_elim
      (λ slash. let both = and_parts (is_proper_part front) (list_all is_proper_part (parts_after [] great)) (rw slash at h) in
      rw slash (and_from (is_proper_part other) _ (like_is_proper front other like both.0) (rest.proper [] [] (inl refl) both.1)))
      (λ none. rw none (rest.proper (front ++ b ∷ []) (other ++ b ∷ []) (like_grows front other (b ∷ []) like) (rw none at h)))
      (cases_Bool (b == 47))

  behind_byte : (b : ℕ) → Follows (b ∷ great) (b ∷ small)
  behind_byte b = record {
    bytes = λ h. let both = and_parts (is_name_byte b) (list_all is_name_byte great) h in
        and_from (is_name_byte b) _ both.0 (rest.bytes both.1);
    short = let shorter = rest.short in omega arith;
    proper = proper_behind_byte b;
  }

  behind_digits : (more ds : List ℕ) → all_ascii_digits more ≡ true → all_ascii_digits ds ≡ true → 0 < length ds → length ds ≤ length more
      → Follows (more ++ great) (ds ++ small)
  behind_digits more ds more_are are some fewer = record {
    bytes = λ h. let both = and_parts _ _ (sym (list_all-append is_name_byte more great) ∙ h) in
        list_all-append is_name_byte ds small ∙ rw (digits_are_named ds are) (rest.bytes both.1);
    short = omega (arith, rest.short, length-append more great, length-append ds small);
    proper = λ front other like h. let here = rw (parts_behind_digits more front great more_are) at h in
        rw (parts_behind_digits ds other small are) (rest.proper (front ++ more) (other ++ ds)
        (inr (digits_are_no_dots ds other some are)) here);
  }

behind : (text great small : List ℕ) → Follows great small → Follows (text ++ great) (text ++ small)
behind [] great small rest = rest
behind (b ∷ text) great small rest = behind_byte _ _ (behind text great small rest) b

-- ---- what identifiers are replaced by

pub zeros_are_digits : (k : ℕ) (ds : List ℕ) → all_ascii_digits ds ≡ true → all_ascii_digits (replicate k 48 ++ ds) ≡ true
zeros_are_digits zero ds are = are
zeros_are_digits (suc k) ds are = zeros_are_digits k ds are

behind_number : (width n : ℕ) (great small : List ℕ) → n < 2 ^ 64 → Follows great small
    → Follows (padded width (decimal (2 ^ 64 - 1)) ++ great) (padded width (decimal n) ++ small)
unfolding digits
behind_number width n great small h rest =
    let own = numerals_by_value (λ ds. all_ascii_digits ds ≡ true) tells_all_ascii_digits in
    let are : (m : ℕ) → m < 2 ^ 64 → all_ascii_digits (padded width (decimal m)) ≡ true =
    λ m below. zeros_are_digits (width - length (decimal m)) (decimal m) (digits_decimal own m below) in
    let greatest : length (decimal (2 ^ 64 - 1)) ≡ 20 = refl in
    let some = decimal_nonempty n h in
    let few = length-decimal-le 20 n (lit< tt) (omega arith) h in
    behind_digits great small rest _ _ (are (2 ^ 64 - 1) (lit< tt)) (are n h)
    (simp (length-append, length-replicate) (omega arith)) (simp (length-append, length-replicate) (omega arith))

module _ (ids : Ids) (number : ids.number < 2 ^ 64) (time : ids.time < 2 ^ 64) where
  behind_value : (identifier : Result Identifier TemplateFault) (great small : List ℕ) → Follows great small
      → Follows (value_if_ok (with_greatest ids) identifier ++ great) (value_if_ok ids identifier ++ small)
  behind_value (Ok Dollar) great small rest = behind (codes "$") great small rest
  behind_value (Ok RepresentationId) great small rest = behind ids.id great small rest
  behind_value (Ok (Padded Number width)) great small rest = behind_number width ids.number great small number rest
  behind_value (Ok (Padded Time width)) great small rest = behind_number width ids.time great small time rest
  behind_value (Ok (Padded Bandwidth width)) great small rest = behind (padded width (decimal ids.bandwidth)) great small rest
  behind_value (Err fault) great small rest = rest

  replaced_follows : (parts : List (List ℕ)) → Follows (replaced (with_greatest ids) parts) (replaced ids parts)
  replaced_follows [] = follows_nothing
  replaced_follows (literal ∷ []) = subst (λ text. Follows text text) (append-nil literal) (behind literal [] [] follows_nothing)
  replaced_follows (literal ∷ identifier ∷ parts) =
      behind literal _ _ (behind_value (identifier_of identifier) _ _ (replaced_follows parts))

-- an empty text has an empty part
nonempty : (text : List ℕ) → HasProperParts [] text → nat_le 1 (length text) ≡ true
nonempty [] h = absurd (true≢false (sym h))
nonempty (b ∷ text) h = grind (arith, nat_tests)

name_follows : (great small : List ℕ) → Follows great small → is_name great ≡ true → is_name small ≡ true
name_follows great small follows is =
    let all = and_parts _ _ is in
    let but_parts = and_parts _ _ all.0 in
    let lengths = and_parts (nat_le 1 (length great)) (nat_le (length great) 255) but_parts.0 in
    let parts = follows.proper [] [] (inl refl) all.1 in
    let limit : nat_le (length small) 255 ≡ true = let shorter = follows.short in let bound = lengths.1 in grind (arith, nat_tests) in
    rw (nonempty small parts, limit, follows.bytes but_parts.1) parts

pub each_names : FilesAreNamed
each_names text ids number time is = name_follows _ _ (replaced_follows ids number time (parts_of text)) is
