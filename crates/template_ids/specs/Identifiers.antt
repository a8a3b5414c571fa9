-- What the identifiers of a segment template are: ISO/IEC 23009-1, 5.3.9.4.4.
use Rattle.std.specs.Prelude.{⊤, ℕ, ◌≤◌, ◌+◌, ◌-◌, ◌==◌, ◌&&◌, nat_le, Bool, List, [], ◌++◌, length, take, drop, position, codes, bytes_eq}
use Rattle.std.specs.{Prelude.{if◌then◌else◌, Result, Ok, Err, Option, Some, None}, Str.all_ascii_digits, Str.Parse.digits_value}
use Rattle.template_ids.specs.{declared.identifier.Identifier.Identifier, declared.identifier.Identifier.TheVariants.Dollar}
use Rattle.template_ids.specs.{declared.identifier.Identifier.TheVariants.{RepresentationId, Padded}, declared.identifier.Quantity.Quantity}
use Rattle.template_ids.specs.declared.identifier.Quantity.TheVariants.{Number, Time, Bandwidth}
use Rattle.template_ids.specs.{declared.fault.TemplateFault.TemplateFault, declared.fault.TemplateFault.TheVariants.{Unknown, Width}}
use Rattle.template_ids.specs.declared.fault.TemplateFault.TheVariants.{SubNumber}

abbrev pub is_percent : ℕ → Bool
is_percent b = b == 37

-- the number that a name stands for
abbrev pub quantity_of : List ℕ → Option Quantity
quantity_of name = if bytes_eq name (codes "Number") then Some Number
    else (if bytes_eq name (codes "Time") then Some Time
    else (if bytes_eq name (codes "Bandwidth") then Some Bandwidth else None))

-- the `w` of a format `%0wd`, given what follows the `%`
abbrev pub width_digits : List ℕ → List ℕ
width_digits format = take (length format - 2) (drop 1 format)

-- 1 to 3 digits with a value of 1 to 20
abbrev pub is_width : List ℕ → Bool
is_width digits = all_ascii_digits digits && nat_le 1 (length digits) && nat_le (length digits) 3
    && nat_le 1 (digits_value 10 digits) && nat_le (digits_value 10 digits) 20

-- the width of a format, given what follows the `%`
abbrev pub width_of : List ℕ → Option ℕ
width_of format = let digits = width_digits format in
    if bytes_eq format (codes "0" ++ (digits ++ codes "d")) && is_width digits then Some (digits_value 10 digits) else None

-- a number, padded to a width
abbrev pub padded_identifier : Option Quantity → Option ℕ → Result Identifier TemplateFault
padded_identifier None width = Err Unknown
padded_identifier (Some quantity) None = Err Width
padded_identifier (Some quantity) (Some width) = Ok (Padded quantity width)

-- an identifier without a `%`, which is its name alone
abbrev pub plain_identifier : List ℕ → Result Identifier TemplateFault
plain_identifier name = if bytes_eq name [] then Ok Dollar
    else (if bytes_eq name (codes "RepresentationID") then Ok RepresentationId
    else (if bytes_eq name (codes "SubNumber") then Err SubNumber
    else padded_identifier (quantity_of name) (Some 1)))

-- an identifier with a `%`, which separates its name from its format
abbrev pub formatted_identifier : List ℕ → List ℕ → Result Identifier TemplateFault
formatted_identifier name format = if bytes_eq name (codes "RepresentationID") then Err Width
    else padded_identifier (quantity_of name) (width_of format)

-- the same, given the index of the first `%`
abbrev pub identifier_at : List ℕ → Option ℕ → Result Identifier TemplateFault
identifier_at text None = plain_identifier text
identifier_at text (Some percent) = formatted_identifier (take percent text) (drop (percent + 1) text)

-- what is between two `$`, read as an identifier
abbrev pub identifier_of : List ℕ → Result Identifier TemplateFault
identifier_of text = identifier_at text (position is_percent text)

-- a number is padded to no more than 20 digits
abbrev pub HasWidth : Identifier → Type 0
HasWidth (Padded q width) = width ≤ 20
HasWidth _ = ⊤
