-- Which texts are segment templates, and what each names: ISO/IEC 23009-1, 5.3.9.4.4.
use Rattle.std.specs.Prelude.{ℕ, ◌-◌, ◌%◌, ◌==◌, ◌&&◌, Bool, true, false, List, [], ◌∷◌, ◌++◌, length, replicate, count_by, codes, decimal}
use Rattle.std.specs.{Prelude.{if◌then◌else◌, Result, Ok, Err, Option, Some, None}, List.{list_any, slice_split}}
use Rattle.template_ids.specs.{declared.identifier.Identifier.Identifier, declared.identifier.Identifier.TheVariants.Dollar}
use Rattle.template_ids.specs.{declared.identifier.Identifier.TheVariants.{RepresentationId, Padded}, declared.identifier.Quantity.Quantity}
use Rattle.template_ids.specs.declared.identifier.Quantity.TheVariants.{Number, Time, Bandwidth}
use Rattle.template_ids.specs.{declared.fault.TemplateFault.TemplateFault, declared.fault.TemplateFault.TheVariants.{LoneDollar, Both}}
use Rattle.template_ids.specs.{declared.fault.TemplateFault.TheVariants.Memory, declared.ids.Ids.Ids, declared.ids.BorrowedIds.BorrowedIds}
use Rattle.template_ids.specs.Identifiers.{identifier_of}

abbrev pub is_dollar : ℕ → Bool
is_dollar b = b == 36

-- the parts between the `$`: those with even indices, counted from 0, stand for themselves, those with odd indices are
-- identifiers
abbrev pub parts_of : List ℕ → List (List ℕ)
parts_of text = slice_split is_dollar text

-- the parts with odd indices
abbrev pub odd_parts : List (List ℕ) → List (List ℕ)
odd_parts [] = []
odd_parts (literal ∷ []) = []
odd_parts (literal ∷ identifier ∷ parts) = identifier ∷ odd_parts parts

abbrev pub identifiers_of : List ℕ → List (List ℕ)
identifiers_of text = odd_parts (parts_of text)

-- the first fault of two
abbrev pub earlier_fault : Result Identifier TemplateFault → Option TemplateFault → Option TemplateFault
earlier_fault (Ok identifier) later = later
earlier_fault (Err fault) later = Some fault

-- the fault of the first invalid identifier, or else a later fault
abbrev pub identifier_fault : List (List ℕ) → Option TemplateFault → Option TemplateFault
identifier_fault [] later = later
identifier_fault (identifier ∷ identifiers) later = earlier_fault (identifier_of identifier) (identifier_fault identifiers later)

abbrev pub same_quantity : Quantity → Quantity → Bool
same_quantity Number Number = true
same_quantity Time Time = true
same_quantity Bandwidth Bandwidth = true
same_quantity _ _ = false

-- whether an identifier is this number
abbrev pub is_padded : Quantity → Result Identifier TemplateFault → Bool
is_padded quantity (Ok (Padded other width)) = same_quantity quantity other
is_padded quantity _ = false

-- whether some identifier is this number
abbrev pub uses : Quantity → List ℕ → Bool
uses quantity text = list_any (λ identifier. is_padded quantity (identifier_of identifier)) (identifiers_of text)

abbrev pub uses_number : List ℕ → Bool
uses_number text = uses Number text

abbrev pub uses_time : List ℕ → Bool
uses_time text = uses Time text

-- why the text isn't a template: an unpaired `$`, then the first invalid identifier, then `Number` with `Time`
abbrev pub template_fault : List ℕ → Option TemplateFault
template_fault text = if count_by is_dollar text % 2 == 1 then Some LoneDollar
    else identifier_fault (identifiers_of text) (if uses_number text && uses_time text then Some Both else None)

abbrev pub unless_fault : List ℕ → Option TemplateFault → Result (List ℕ) TemplateFault
unless_fault text None = Ok text
unless_fault text (Some fault) = Err fault

-- a text read as a template
abbrev pub template_of : List ℕ → Result (List ℕ) TemplateFault
template_of text = unless_fault text (template_fault text)

-- out of memory says nothing about the text
abbrev pub refusal : TemplateFault → Option TemplateFault
refusal Memory = None
refusal fault = Some fault

abbrev pub ids_of : BorrowedIds → Ids
ids_of ids = record { id = ids.id.now; bandwidth = ids.bandwidth; number = ids.number; time = ids.time }

abbrev pub quantity : Ids → Quantity → ℕ
quantity ids Number = ids.number
quantity ids Time = ids.time
quantity ids Bandwidth = ids.bandwidth

-- padded with zeros to a width, and never truncated
abbrev pub padded : ℕ → List ℕ → List ℕ
padded width digits = replicate (width - length digits) 48 ++ digits

-- what replaces an identifier
abbrev pub value_of : Ids → Identifier → List ℕ
value_of ids Dollar = codes "$"
value_of ids RepresentationId = ids.id
value_of ids (Padded q width) = padded width (decimal (quantity ids q))

abbrev pub value_if_ok : Ids → Result Identifier TemplateFault → List ℕ
value_if_ok ids (Ok identifier) = value_of ids identifier
value_if_ok ids (Err fault) = []

-- the parts in a row, the identifiers among them replaced
abbrev pub replaced : Ids → List (List ℕ) → List ℕ
replaced ids [] = []
replaced ids (literal ∷ []) = literal
replaced ids (literal ∷ identifier ∷ parts) = literal ++ (value_if_ok ids (identifier_of identifier) ++ replaced ids parts)

-- what a template names
abbrev pub named : List ℕ → Ids → List ℕ
named text ids = replaced ids (parts_of text)
