-- Shorter templates give the same URLs.
use Rattle.std.proofs.Common.{◌≡◌, ℕ, ◌+◌, ◌-◌, ◌<◌, ◌^◌, ◌==◌, Bool, true, false, List, [], ◌∷◌, ◌++◌, length, All, get_or, IsUtf8}
use Rattle.std.proofs.Common.{Result, Ok, Err, subst}
use Rattle.std.proofs.Common.{sym, refl, ap, ◌∙◌, ⊎_elim, append_assoc, length-append, arith, Option, None, Some, count_by}
use Rattle.std.proofs.Common.{◌%◌}
use Rattle.std.proofs.{lemmas.Bool.{and_from, and_parts, cases_Bool, cond-false, cond-true, true≢false}, lemmas.Bool.Decides.nat_tests}
use Rattle.std.proofs.lemmas.List.{get_or-take, Folds.{list_all-append, list_any_at, list_any_none}}
use Rattle.std.proofs.lemmas.List.Splits.{slice_split_at, slice_split_first, slice_split_none, slice_split-cons_no, slice_split-cons_yes}
use Rattle.std.proofs.{lemmas.List.Splits.length-slice_split, lemmas.List.Sums.{fails_before_first, split_at_first, passes_at_first}}
use Rattle.std.proofs.lemmas.{Fmt.decimal_nonempty, Grind.common_steps, Str.{IsCharBoundary-after_ascii, IsUtf8-drop}}
use Rattle.bridge_io.specs.declared.no_memory.NoMemory.{NoMemory}
use Rattle.std.specs.Prelude.{IfOk, IfSome, decimal, if◌then◌else◌, replicate, slice_index, ◌&&◌}
use Rattle.std.specs.List.{after_first, before_first, list_all, list_any, onto_first, position_or_len}
use Rattle.template_ids.specs.{declared.ids.Ids.Ids, declared.fault.TemplateFault.TemplateFault, Filled.ids_with}
use Rattle.template_ids.specs.declared.identifier.Identifier.{Identifier}
use Rattle.template_ids.specs.declared.identifier.Identifier.TheVariants.{Dollar, Padded, RepresentationId}
use Rattle.template_ids.specs.declared.identifier.Quantity.{Quantity}
use Rattle.template_ids.specs.declared.identifier.Quantity.TheVariants.{Number, Time, Bandwidth}
use Rattle.template_ids.specs.declared.fault.TemplateFault.TheVariants.{Both, LoneDollar}
use Rattle.template_ids.specs.{Identifiers.identifier_of, Long.IsSegment}
use Rattle.template_ids.specs.Templates.{earlier_fault, identifier_fault, identifiers_of, is_dollar, named, odd_parts, padded, parts_of}
use Rattle.template_ids.specs.Templates.{quantity, replaced, template_fault, template_of, unless_fault, uses_number, uses_time, value_if_ok}
use Rattle.template_ids.proofs.LongNames.{number_is_segment}
use Rattle.url_parts.specs.{Addresses.{resolve, IsBase}, Alike.IsReadAs, Paths.{IsPath, is_path_byte, is_segment_byte}}
use Rattle.url_parts.proofs.ReadAlike.{read_on, resolve_read}
use Rattle.url_parts.proofs.InLine.{resolve_in_line}
use Rattle.timeline.specs.{Makers.{IsFilledBy, IsShortened}, declared.filled_names.FilledNames.FilledNames}
use Rattle.timeline.specs.MediaTemplates.{GivesSame, IsLineOf, IsShortFor}
use Rattle.timeline.specs.ShorterTemplates.{AreNamesShortened, HasLiteral, HasNoDollar}
use Rattle.timeline.proofs.ShortNames.{again, both}

-- ---- a text that is cut at its `$`

no_dollars : (text : List ℕ) → HasNoDollar text → All (λ b. is_dollar b ≡ false) text
no_dollars text none k d below = ⊎_elim (λ yes. absurd (true≢false (sym (list_any_at is_dollar text k d below yes) ∙ none))) (λ no. no)
    (cases_Bool (is_dollar (get_or text k d)))

plain_named : (ids : Ids) (text : List ℕ) → HasNoDollar text → named text ids ≡ text
plain_named ids text none = ap (replaced ids) (slice_split_none is_dollar text (no_dollars text none))

named_cut : (ids : Ids) (literal identifier rest : List ℕ) → HasNoDollar literal → HasNoDollar identifier
    → named (literal ++ 36 ∷ (identifier ++ 36 ∷ rest)) ids ≡ literal ++ (value_if_ok ids (identifier_of identifier) ++ named rest ids)
named_cut ids literal identifier rest none none_too =
    ap (replaced ids) (slice_split_at is_dollar literal 36 (identifier ++ 36 ∷ rest) (no_dollars literal none) refl
    ∙ ap (λ parts. literal ∷ parts) (slice_split_at is_dollar identifier 36 rest (no_dollars identifier none_too) refl))

before_plain : (text : List ℕ) → HasNoDollar (before_first is_dollar text)
before_plain text = list_any_none is_dollar (before_first is_dollar text) (λ k d below.
    let n : ℕ = position_or_len is_dollar text in
    let inside : k < n = grind (arith, common_steps) in
    ap is_dollar (get_or-take n text k d inside) ∙ fails_before_first is_dollar text k d inside)

-- what `split_once` says where there is a `$`
pub record IsCut (text front back : List ℕ) : Type 0 where
  pub at : position_or_len is_dollar text < length text
  pub front_is : front ≡ before_first is_dollar text
  pub back_is : back ≡ after_first is_dollar text

pub cut_plain : (text front back : List ℕ) → IsCut text front back → HasNoDollar front
cut_plain text front back cut = rw cut.front_is (before_plain text)

cut_text : (text front back : List ℕ) → IsCut text front back → text ≡ front ++ 36 ∷ back
cut_text text front back cut =
    let dollar : get_or text (position_or_len is_dollar text) 0 ≡ 36 = let here = passes_at_first is_dollar text 0 cut.at in
    grind (arith, nat_tests) in
    rw (cut.front_is, cut.back_is) (split_at_first is_dollar text 0 cut.at
    ∙ ap (λ b. before_first is_dollar text ++ b ∷ after_first is_dollar text) dollar)

pub cut_utf8 : (text front back : List ℕ) → IsCut text front back → IsUtf8 text → IsUtf8 back
cut_utf8 text front back cut utf8 =
    let at : ℕ = position_or_len is_dollar text in
    let here = passes_at_first is_dollar text 0 cut.at in
    let dollar : get_or text at 0 ≡ 36 = grind (arith, nat_tests) in
    rw cut.back_is (IsUtf8-drop text (at + 1) utf8 (IsCharBoundary-after_ascii text at utf8 cut.at (omega arith)))

pub rest_plain : (text : List ℕ) → position_or_len is_dollar text ≡ length text → HasNoDollar text
rest_plain text none = list_any_none is_dollar text (λ k d below. fails_before_first is_dollar text k d (omega arith))

-- ---- a shorter text that is made literal by literal

on : (in_path : Bool) (a b c : List ℕ) → IsShortened in_path a b → IsShortened in_path b c → IsShortened in_path a c
on true a b c first next = read_on a b c first next
on false a b c first next = first ∙ next

-- what is made of a text up to a rest
pub record IsMade (in_path : Bool) (text made rest : List ℕ) : Type 0 where
  pub opened : Ids → List ℕ
  pub begins : (ids : Ids) (more : List ℕ) → named (made ++ more) ids ≡ opened ids ++ named more ids
  pub alike : (ids : Ids) → IsShortened in_path (named text ids) (opened ids ++ named rest ids)

pub none_made : (in_path : Bool) (text : List ℕ) → IsMade in_path text [] text
none_made in_path text = record {
  opened = λ ids. [];
  begins = λ ids more. refl;
  alike = λ ids. again in_path (named text ids);
}

module _ (in_path : Bool) (text made rest literal after identifier next : List ℕ) (is : IsMade in_path text made rest)
    (one : IsCut rest literal after) (two : IsCut after identifier next) (before longer : List ℕ)
    (has : HasLiteral in_path literal made before) (longer_is : longer ≡ before ++ 36 ∷ (identifier ++ 36 ∷ [])) where
  abbrev value : Ids → List ℕ
  value ids = value_if_ok ids (identifier_of identifier)

  abbrev opened : Ids → List ℕ
  opened ids = is.opened ids ++ (has.added ++ value ids)

  made_begins : (ids : Ids) (more : List ℕ) → named (longer ++ more) ids ≡ opened ids ++ named more ids
  made_begins ids more =
      let whole : longer ++ more ≡ made ++ (has.added ++ 36 ∷ (identifier ++ 36 ∷ more)) =
      rw (longer_is, has.whole) (grind (arith, common_steps)) in
      ap (λ t. named t ids) whole ∙ is.begins ids (has.added ++ 36 ∷ (identifier ++ 36 ∷ more))
      ∙ ap (λ t. is.opened ids ++ t) (named_cut ids has.added identifier more has.plain (cut_plain after identifier next two)
      ∙ sym (append_assoc has.added (value ids) (named more ids)))
      ∙ sym (append_assoc (is.opened ids) (has.added ++ value ids) (named more ids))

  made_alike : (ids : Ids) → IsShortened in_path (named text ids) (opened ids ++ named next ids)
  made_alike ids =
      let rest_is : rest ≡ literal ++ 36 ∷ (identifier ++ 36 ∷ next) =
      cut_text rest literal after one ∙ ap (λ t. literal ++ 36 ∷ t) (cut_text after identifier next two) in
      let names : named rest ids ≡ literal ++ (value ids ++ named next ids) =
      ap (λ t. named t ids) rest_is
      ∙ named_cut ids literal identifier next (cut_plain rest literal after one) (cut_plain after identifier next two) in
      let behind : List ℕ = value ids ++ named next ids in
      let step : IsShortened in_path (is.opened ids ++ (literal ++ behind)) (is.opened ids ++ (has.added ++ behind)) =
      both in_path (is.opened ids) (is.opened ids) (literal ++ behind) (has.added ++ behind) (again in_path (is.opened ids))
      (both in_path literal has.added behind behind has.alike (again in_path behind)) in
      let whole : is.opened ids ++ (has.added ++ behind) ≡ opened ids ++ named next ids =
      ap (λ t. is.opened ids ++ t) (sym (append_assoc has.added (value ids) (named next ids)))
      ∙ sym (append_assoc (is.opened ids) (has.added ++ value ids) (named next ids)) in
      subst (λ t. IsShortened in_path (named text ids) t) whole
      (on in_path (named text ids) (is.opened ids ++ (literal ++ behind)) (is.opened ids ++ (has.added ++ behind))
      (subst (λ t. IsShortened in_path (named text ids) (is.opened ids ++ t)) names (is.alike ids)) step)

  pub more_made : IsMade in_path text longer next
  more_made = record { opened = opened; begins = made_begins; alike = made_alike }

pub all_made : (in_path : Bool) (text made rest whole : List ℕ) → IsMade in_path text made rest → HasNoDollar rest
    → HasLiteral in_path rest made whole → AreNamesShortened in_path text whole
all_made in_path text made rest whole is plain has ids =
    let names : named whole ids ≡ is.opened ids ++ has.added =
    ap (λ t. named t ids) has.whole ∙ is.begins ids has.added ∙ ap (λ t. is.opened ids ++ t) (plain_named ids has.added has.plain) in
    subst (λ t. IsShortened in_path (named text ids) t) (sym names)
    (on in_path (named text ids) (is.opened ids ++ rest) (is.opened ids ++ has.added)
    (subst (λ t. IsShortened in_path (named text ids) (is.opened ids ++ t)) (plain_named ids rest plain) (is.alike ids))
    (both in_path (is.opened ids) (is.opened ids) rest has.added (again in_path (is.opened ids)) has.alike))

pub unchanged : (in_path : Bool) (text : List ℕ) → AreNamesShortened in_path text text
unchanged in_path text ids = again in_path (named text ids)

-- two templates that are paths, the names of the one standing for those of the other one
pub record AreWithPaths (media short : List ℕ) : Type 0 where
  pub alike : AreNamesShortened true media short
  pub path : IsPath media
  pub path_too : IsPath short
  pub read : template_of media ≡ Ok media
  pub read_too : template_of short ≡ Ok short

-- ---- the names of a template that is a path are paths

onto_path : (b : ℕ) (parts : List (List ℕ)) → is_path_byte b ≡ true → list_all (list_all is_path_byte) parts ≡ true
    → list_all (list_all is_path_byte) (onto_first b parts) ≡ true
onto_path b [] byte are = and_from _ true (and_from (is_path_byte b) true byte refl) refl
onto_path b (part ∷ parts) byte are = let split = and_parts (list_all is_path_byte part) (list_all (list_all is_path_byte) parts) are in
    and_from _ _ (and_from (is_path_byte b) _ byte split.0) split.1

parts_path : (text : List ℕ) → list_all is_path_byte text ≡ true → list_all (list_all is_path_byte) (parts_of text) ≡ true
parts_path [] are = refl
parts_path (b ∷ bs) are = let split = and_parts (is_path_byte b) (list_all is_path_byte bs) are in
    ⊎_elim
    (λ yes. rw (slice_split-cons_yes is_dollar b bs yes) (parts_path bs split.1))
    (λ no. rw (slice_split-cons_no is_dollar b bs no) (onto_path b (parts_of bs) split.0 (parts_path bs split.1)))
    (cases_Bool (is_dollar b))

segment_path : (text : List ℕ) → list_all is_segment_byte text ≡ true → list_all is_path_byte text ≡ true
segment_path [] are = refl
segment_path (b ∷ bs) are = let split = and_parts (is_segment_byte b) (list_all is_segment_byte bs) are in
    and_from (is_path_byte b) _ (let here = split.0 in grind (arith, nat_tests)) (segment_path bs split.1)

path_begins : (text more : List ℕ) → 0 < length text → (slice_index text 0 == 47) ≡ false → (slice_index (text ++ more) 0 == 47) ≡ false
path_begins [] more some first = absurd (omega arith)
path_begins (b ∷ bs) more some first = first

segment_begins : (text : List ℕ) → 0 < length text → list_all is_segment_byte text ≡ true → (slice_index text 0 == 47) ≡ false
segment_begins [] some are = absurd (omega arith)
segment_begins (b ∷ bs) some are = let here = (and_parts (is_segment_byte b) (list_all is_segment_byte bs) are).0 in grind (arith, nat_tests)

-- ---- a template has no invalid identifier

abbrev both_of : List ℕ → Option TemplateFault
both_of text = if uses_number text && uses_time text then Some Both else None

no_fault : (text : List ℕ) (fault : Option TemplateFault) → unless_fault text fault ≡ Ok text → fault ≡ None
no_fault text None read = refl
no_fault text (Some fault) read = absurd (cc)

identifiers_told : (text : List ℕ) → template_of text ≡ Ok text → identifier_fault (identifiers_of text) (both_of text) ≡ None
identifiers_told text read =
    let none = no_fault text (template_fault text) read in
    ⊎_elim (λ odd. absurd (let some = sym (cond-true _ _ _ odd) ∙ none in cc)) (λ even. sym (cond-false _ _ _ even) ∙ none)
    (cases_Bool (count_by is_dollar text % 2 == 1))

-- a text that isn't empty and begins with no slash
record Begins (text : List ℕ) : Type 0 where
  some : 0 < length text
  first : (slice_index text 0 == 47) ≡ false

module _ (id : List ℕ) (bandwidth number time : ℕ) (slow : bandwidth < 2 ^ 64) (low : number < 2 ^ 64) (early : time < 2 ^ 64)
    (path : IsPath id) where
  abbrev ids : Ids
  ids = ids_with id bandwidth number time

  below : (q : Quantity) → quantity ids q < 2 ^ 64
  below Number = low
  below Time = early
  below Bandwidth = slow

  value_path : (found : Result Identifier TemplateFault) → list_all is_path_byte (value_if_ok ids found) ≡ true
  value_path (Ok Dollar) = refl
  value_path (Ok RepresentationId) = path.bytes
  value_path (Ok (Padded q width)) = segment_path (padded width (decimal (quantity ids q)))
      (number_is_segment id bandwidth number time width q slow low early)
  value_path (Err fault) = refl

  replaced_path : (parts : List (List ℕ)) → list_all (list_all is_path_byte) parts ≡ true
      → list_all is_path_byte (replaced ids parts) ≡ true
  replaced_path [] are = refl
  replaced_path (literal ∷ []) are = (and_parts (list_all is_path_byte literal) true are).0
  replaced_path (literal ∷ identifier ∷ parts) are =
      let split = and_parts (list_all is_path_byte literal) _ are in
      let later = and_parts (list_all is_path_byte identifier) (list_all (list_all is_path_byte) parts) split.1 in
      let value : List ℕ = value_if_ok ids (identifier_of identifier) in
      let rest : List ℕ = replaced ids parts in
      list_all-append is_path_byte literal (value ++ rest)
      ∙ and_from _ _ split.0 (list_all-append is_path_byte value rest
      ∙ and_from _ _ (value_path (identifier_of identifier)) (replaced_path parts later.1))

  value_begins : (found : Result Identifier TemplateFault) (later : Option TemplateFault) (more : List ℕ) → earlier_fault found later ≡ None
      → Begins (value_if_ok ids found ++ more)
  value_begins (Ok Dollar) later more none = record { some = omega arith; first = refl }
  value_begins (Ok RepresentationId) later more none = record {
    some = omega (arith, path.some, length-append id more);
    first = path_begins id more path.some path.first;
  }
  value_begins (Ok (Padded q width)) later more none =
      let digits : List ℕ = decimal (quantity ids q) in
      let some : 0 < length (padded width digits) = omega (
        arith,
        decimal_nonempty (quantity ids q) (below q),
        length-append (replicate (width - length digits) 48) digits,
      ) in
      record {
        some = omega (arith, some, length-append (padded width digits) more);
        first = path_begins (padded width digits) more some (segment_begins (padded width digits) some
            (number_is_segment id bandwidth number time width q slow low early));
      }
  value_begins (Err fault) later more none = absurd (cc)

  opening : (parts : List (List ℕ)) (later : Option TemplateFault) → 0 < length parts → identifier_fault (odd_parts ([] ∷ parts)) later ≡ None
      → Begins (replaced ids ([] ∷ parts))
  opening [] later some none = absurd (omega arith)
  opening (identifier ∷ parts) later some none = value_begins (identifier_of identifier) (identifier_fault (odd_parts parts) later)
      (replaced ids parts) none

  onto_replaced : (b : ℕ) (parts : List (List ℕ)) → replaced ids (onto_first b parts)
      ≡ b ∷ replaced ids parts
  onto_replaced b [] = refl
  onto_replaced b (literal ∷ []) = refl
  onto_replaced b (literal ∷ identifier ∷ parts) = refl

  named_begins : (text : List ℕ) (later : Option TemplateFault) → IsPath text → identifier_fault (identifiers_of text) later ≡ None
      → Begins (named text ids)
  named_begins [] later is none = absurd (let some = is.some in omega arith)
  named_begins (b ∷ bs) later is none = ⊎_elim
      (λ yes. let cut = slice_split-cons_yes is_dollar b bs yes in
      rw cut (opening (parts_of bs) later (omega (arith, length-slice_split is_dollar bs)) (rw cut at none)))
      (λ no. let begins = ap (replaced ids) (slice_split-cons_no is_dollar b bs no)
      ∙ onto_replaced b (parts_of bs) in
      rw begins (record { some = omega arith; first = is.first }))
      (cases_Bool (is_dollar b))

  named_path : (text : List ℕ) → IsPath text → template_of text ≡ Ok text → IsPath (named text ids)
  named_path text is read =
      let begins = named_begins text (both_of text) is (identifiers_told text read) in
      record {
        bytes = replaced_path (parts_of text) (parts_path text is.bytes);
        some = begins.some;
        first = begins.first;
      }

  pub same_with_paths : (media short base : List ℕ) → IsBase base → AreWithPaths media short
      → resolve base (named short ids) ≡ resolve base (named media ids)
  same_with_paths media short base is are =
      sym (resolve_read base (named media ids) (named short ids) is
      (named_path media are.path are.read) (named_path short are.path_too are.read_too) (are.alike ids))

-- ---- what is kept of a template

told_whole : (text short : List ℕ) (fault : Option TemplateFault) → unless_fault text fault ≡ Ok short → text ≡ short
told_whole text short None read = cc
told_whole text short (Some fault) read = absurd (cc)

pub read_whole : (text short : List ℕ) → template_of text ≡ Ok short → text ≡ short
read_whole text short read = told_whole text short (template_fault text) read

pub line_from : (media : List ℕ) (line : Option (List ℕ)) → IfSome line (AreNamesShortened false media) → IfSome line (IsLineOf media)
line_from media None alike = tt
line_from media (Some line) alike = λ id base bandwidth number time is slow low early. let ids = ids_with id bandwidth number time in
    sym (resolve_in_line base (named media ids) (named line ids) (alike ids))

pub short_from : (media short : List ℕ) → AreWithPaths media short → IsShortFor media short
short_from media short are id path base bandwidth number time is slow low early =
    same_with_paths id bandwidth number time slow low early path media short base is are

pub short_behind : (media line : List ℕ) (short : Result (Option (List ℕ)) NoMemory) → IsLineOf media line
    → IfOk short (λ short. IfSome short (IsShortFor line)) → IfOk short (λ short. IfSome short (IsShortFor media))
short_behind media line (Ok (Some short)) same are = λ id path base bandwidth number time is slow low early.
    are id path base bandwidth number time is slow low early ∙ same id base bandwidth number time is slow low early
short_behind media line (Ok None) same are = tt
short_behind media line (Err fault) same are = tt

pub filled_same : (media id short base : List ℕ) (bandwidth : ℕ) (filled : FilledNames) → IsBase base → bandwidth < 2 ^ 64
    → GivesSame media id short → IsFilledBy short id bandwidth base filled → IsFilledBy media id bandwidth base filled
filled_same media id short base bandwidth filled is slow same gives number time low early =
    gives number time low early ∙ same base bandwidth number time is slow low early
