-- A text cut step by step: the pieces so far, and the rest of the text, which begins with a literal.
use Rattle.std.proofs.Common.{◌≡◌, ℕ, ◌+◌, ◌-◌, ◌%◌, ◌<◌, ◌≤◌, ◌||◌, Bool, true, false, lit<, List, [], ◌∷◌, ◌++◌, length, drop, get_or}
use Rattle.std.proofs.Common.{Option, Some, Ok, Err, count_by, flat_map, All, arith, IsUtf8, IsCharBoundary, IfSome, refl, sym, ◌∙◌, ap}
use Rattle.std.proofs.{Common.{append_assoc, length-append}, lemmas.List.{append-nil, take-append-drop, drop_more, get_or_at, take_at}}
use Rattle.std.proofs.{lemmas.List.drop_at, lemmas.List.Splits.{slice_split_first, slice_split_none, length-slice_split}}
use Rattle.std.proofs.{lemmas.List.Concat.flat_map-append, lemmas.List.Elements.All-push, lemmas.List.Folds.list_any-append}
use Rattle.std.proofs.{lemmas.List.Sums.{passes_at_first, fails_before_first}, lemmas.Bool.Decides.nat_tests, lemmas.Grind.common_steps}
use Rattle.std.proofs.lemmas.Str.{IsCharBoundary-from_drop, IsCharBoundary-from_rest, IsUtf8-drop, IsCharBoundary-before_ascii}
use Rattle.std.proofs.lemmas.Str.{IsCharBoundary-after_ascii, IsCharBoundary-end}
use Rattle.std.specs.List.{list_any, position_or_len, before_first, after_first}
use Rattle.template_ids.specs.{declared.identifier.Identifier.Identifier, declared.identifier.Quantity.Quantity, declared.piece.Piece.Piece}
use Rattle.template_ids.specs.{declared.piece.Piece.TheVariants.{Literal, Value}, declared.fault.TemplateFault.TemplateFault}
use Rattle.template_ids.specs.declared.fault.TemplateFault.TheVariants.{LoneDollar, Unknown, Width, Both, SubNumber, Memory}
use Rattle.template_ids.specs.{declared.ids.Ids.Ids, Identifiers.{identifier_of, HasWidth}, Templates.{is_dollar, is_padded, parts_of}}
use Rattle.template_ids.specs.{Templates.{odd_parts, replaced, named, uses, identifiers_of, identifier_fault, refusal}, Pieces.piece_text}
use Rattle.template_ids.specs.Pieces.{is_quantity, IsPieceOf, PiecesOf, IsFirstFault}

pub record Reads (text : List ℕ) (pieces : List Piece) (rest : List ℕ) : Type 0 where
  pub place : (front : List ℕ) × (text ≡ front ++ rest)
  pub even : count_by is_dollar rest % 2 ≡ 0
  pub cut : All (IsPieceOf text) pieces
  pub names : (ids : Ids) → flat_map (piece_text text ids) pieces ++ replaced ids (parts_of rest) ≡ named text ids
  pub counts : (q : Quantity) → (list_any (is_quantity q) pieces || list_any (λ identifier. is_padded q (identifier_of identifier))
      (odd_parts (parts_of rest))) ≡ uses q text
  pub faults : (later : Option TemplateFault) → identifier_fault (odd_parts (parts_of rest)) later
      ≡ identifier_fault (identifiers_of text) later

-- what `split_once` says where there is a `$`
pub record IsCut (text front back : List ℕ) : Type 0 where
  pub at : position_or_len is_dollar text < length text
  pub front_is : front ≡ before_first is_dollar text
  pub back_is : back ≡ after_first is_dollar text

parts_of_cut : (text front back : List ℕ) → IsCut text front back → parts_of text ≡ front ∷ parts_of back
parts_of_cut text front back h = rw (h.front_is, h.back_is) (slice_split_first is_dollar text 0 h.at)

text_of_cut : (text front back : List ℕ) → IsCut text front back → text ≡ front ++ (36 ∷ back)
text_of_cut text front back h = let at : ℕ = position_or_len is_dollar text in
    let here = passes_at_first is_dollar text 0 h.at in
    let more = drop_more text at 0 h.at in
    let whole = take-append-drop at text in
    grind (arith, common_steps)

pub IsUtf8-cut : (text front back : List ℕ) → IsCut text front back → IsUtf8 text → IsUtf8 back
IsUtf8-cut text front back h utf8 = let at : ℕ = position_or_len is_dollar text in
    let here = passes_at_first is_dollar text 0 h.at in
    let dollar : get_or text at 0 ≡ 36 = grind (arith, nat_tests) in
    rw h.back_is (IsUtf8-drop text (at + 1) utf8 (IsCharBoundary-after_ascii text at utf8 h.at (omega arith)))

-- two cuts in a row take off a literal and an identifier
parts_of_cuts : (rest literal after identifier next : List ℕ) → IsCut rest literal after → IsCut after identifier next
    → parts_of rest ≡ literal ∷ (identifier ∷ parts_of next)
parts_of_cuts rest literal after identifier next one two = parts_of_cut rest literal after one
    ∙ ap (λ parts. literal ∷ parts) (parts_of_cut after identifier next two)

or_regroup : (a b r : Bool) → (((a || false) || (b || false)) || r) ≡ (a || (b || r))
or_regroup true b r = refl
or_regroup false true r = refl
or_regroup false false r = refl

IfSome-refusal : (fault : TemplateFault) (P : TemplateFault → Type 0) → P fault → IfSome (refusal fault) P
IfSome-refusal LoneDollar P h = h
IfSome-refusal Unknown P h = h
IfSome-refusal Width P h = h
IfSome-refusal Both P h = h
IfSome-refusal SubNumber P h = h
IfSome-refusal Memory P h = tt

-- a literal at the front of what is left of a text, which can be cut after it
module _ (text front rest literal tail : List ℕ) (start end : ℕ) (whole : text ≡ front ++ rest) (rest_is : rest ≡ literal ++ tail)
    (start_is : start ≡ length text - length rest) (end_is : end ≡ start + length literal) where
  start_at : start ≡ length front
  start_at = let n = ap length whole in omega (arith, length-append front rest)

  IsPieceOf-literal : IsUtf8 rest → IsCharBoundary rest (length literal) → IsPieceOf text (Literal start end)
  IsPieceOf-literal utf8 cut = let at = start_at in
      let place : start ≤ length text = omega arith in
      let back : drop start text ≡ rest = rw (whole, at) (drop_at front rest (length front) refl) in (
        omega arith,
        IsCharBoundary-from_drop text start place (rw back utf8),
        rw end_is (IsCharBoundary-from_rest text start (length literal) place (rw back cut)),
      )

  piece_text-literal : (ids : Ids) → piece_text text ids (Literal start end) ≡ literal
  piece_text-literal ids = let at = start_at in
      let back : drop start text ≡ rest = rw (whole, at) (drop_at front rest (length front) refl) in
      rw (back, rest_is) (take_at literal tail (end - start) (omega arith))

module _ (text : List ℕ) (pieces : List Piece) (rest literal after identifier next : List ℕ) (reads : Reads text pieces rest)
    (one : IsCut rest literal after) (two : IsCut after identifier next) where
  -- an identifier at fault is the first one
  pub first_at_fault : (fault : TemplateFault) → identifier_of identifier ≡ Err fault → IsFirstFault text fault
  first_at_fault fault bad = IfSome-refusal fault (λ f. (later : Option TemplateFault)
      → identifier_fault (identifiers_of text) later ≡ Some f)
      (λ later. sym (rw (parts_of_cuts rest literal after identifier next one two, bad) at reads.faults later))

  pub step : (found : Identifier) (start end : ℕ) → identifier_of identifier ≡ Ok found → HasWidth found → IsUtf8 rest
      → start ≡ length text - length rest → end ≡ start + length literal
      → Reads text (pieces ++ Literal start end ∷ [] ++ Value found ∷ []) next
  step found start end good width utf8 start_is end_is =
      let parts = parts_of_cuts rest literal after identifier next one two in
      let front = reads.place.0 in
      let rest_is = text_of_cut rest literal after one in
      let after_is = text_of_cut after identifier next two in
      let cut : IsCharBoundary rest (length literal) = IsCharBoundary-before_ascii rest (length literal) (let n = ap length rest_is in
      omega (arith, length-append literal (36 ∷ after))) (let dollar = get_or_at literal 36 after 0 (length literal) refl in
      rw (rest_is, dollar) (lit< tt)) in
      record {
        place = (
          front ++ (literal ++ (36 ∷ (identifier ++ (36 ∷ [])))),
          rw (reads.place.1, rest_is, after_is) (grind (arith, common_steps)),
        );
        even = omega (arith, reads.even, length-slice_split is_dollar rest, length-slice_split is_dollar next, ap length parts);
        cut = All-push (IsPieceOf text) _ _ (All-push (IsPieceOf text) _ _ reads.cut
            (IsPieceOf-literal text front rest literal (36 ∷ after) start end reads.place.1 rest_is start_is end_is utf8 cut)) width;
        names = λ ids. let text_is = piece_text-literal text front rest literal
            (36 ∷ after) start end reads.place.1 rest_is start_is end_is ids in
            let was = rw (parts, good) at reads.names ids in
            simp (flat_map-append, text_is, append_assoc) was;
        counts = λ q. let was = rw (parts, good) at reads.counts q in
            simp list_any-append (or_regroup (list_any (is_quantity q) pieces) (is_quantity q (Value found))
            (list_any (λ part. is_padded q (identifier_of part)) (odd_parts (parts_of next))) ∙ was);
        faults = λ later. rw (parts, good) at reads.faults later;
      }

-- no `$` is left
module _ (text : List ℕ) (pieces : List Piece) (rest : List ℕ) (none : position_or_len is_dollar rest ≡ length rest) where
  last_part : parts_of rest ≡ rest ∷ []
  last_part = slice_split_none is_dollar rest (λ k d h. fails_before_first is_dollar rest k d (omega arith))

  pub finish : (start end : ℕ) → Reads text pieces rest → IsUtf8 rest → start ≡ length text - length rest → end ≡ length text
      → PiecesOf text (pieces ++ Literal start end ∷ [])
  finish start end reads utf8 start_is end_is =
      let front = reads.place.0 in
      let rest_is = sym (append-nil rest) in
      let n = ap length reads.place.1 in
      let end_at : end ≡ start + length rest = omega (arith, length-append front rest) in (
        record {
          cut = All-push (IsPieceOf text) _ _ reads.cut (IsPieceOf-literal text front rest rest
              [] start end reads.place.1 rest_is start_is end_at utf8 (IsCharBoundary-end rest));
          names = λ ids. let text_is = piece_text-literal text front rest rest [] start end reads.place.1 rest_is start_is end_at ids in
              let was = rw last_part at reads.names ids in
              simp (flat_map-append, text_is, append-nil) was;
          counts = λ q. let was = rw last_part at reads.counts q in simp list_any-append was;
        },
        λ later. sym (rw last_part at reads.faults later),
      )

  -- a text with an even number of `$` has no lone one
  pub never_lone : (before literal : List ℕ) → Reads text pieces before → IsCut before literal rest → ⊥
  never_lone before literal reads one = let parts = parts_of_cut before literal rest one ∙ ap (λ more. literal ∷ more) last_part in
      absurd (omega (arith, reads.even, length-slice_split is_dollar before, ap length parts))
