-- The positions up to which a text can be continued, and the faults of what can't follow there. A position is given by the
-- number of bytes left from it.
use Rattle.std.specs.Prelude.{ℕ, ◌-◌, ◌==◌, ◌&&◌, Bool, List, [], ◌∷◌, length, if◌then◌else◌}
use Rattle.bridge_io.specs.{declared.place.Place.Place, Places.place_of}
use Rattle.mpd_tree.specs.{declared.stop.Fault.Fault, declared.stop.Wrong.Wrong}
use Rattle.mpd_tree.specs.declared.stop.Wrong.TheVariants.{Syntax, TagMismatch, DoubleAttribute, Entity, Doctype, Cdata, Instruction}
use Rattle.mpd_tree.specs.{declared.stop.Wrong.TheVariants.Depth, Characters.starts_name}

-- the kind of a position, by the fault of a byte there that can't follow
pub data Kind : Type 0 where
  anywhere : Kind
  -- after a `<`, and whether the greatest nesting depth is reached
  behind_less_than : Bool → Kind
  -- after `<!`
  behind_exclamation : Kind
  -- after `<?`, or as much of `<?xml` as is there
  in_instruction : Kind
  -- after a repeated attribute name in a tag
  behind_repeated : Kind
  -- after a name in an end tag that isn't the element's
  behind_other_name : Kind
  -- after as much of a reference as is there
  in_reference : Kind

-- how many bytes are left from where the position began, and the bytes after it
pub record Position : Type 0 where
  pub kind : Kind
  pub start : ℕ
  pub rest : List ℕ

abbrev pub here : List ℕ → Position
here rest = record { kind = anywhere; start = 0; rest = rest }

-- the position from which a number of bytes of the whole are left
abbrev pub place_before : List ℕ → ℕ → Place
place_before whole left = place_of whole (length whole - left)

-- reported where so many bytes are left, and decided by the first of these; where there is none the text is truncated
abbrev pub fault : Wrong → ℕ → List ℕ → Fault
fault wrong told [] = record { wrong = Syntax; told = 0; decided = 0 }
fault wrong told (b ∷ bs) = record { wrong = wrong; told = told; decided = length (b ∷ bs) }

-- the first of the bytes isn't allowed there
abbrev pub syntax : List ℕ → Fault
syntax bytes = fault Syntax (length bytes) bytes

-- the fault of a byte that can't follow at a position, reported where that began or at the byte
abbrev pub fault_by : Kind → ℕ → List ℕ → Fault
fault_by anywhere start bytes = syntax bytes
fault_by (behind_less_than is_full) start [] = syntax []
fault_by (behind_less_than is_full) start (b ∷ bs) =
    if b == 63 then fault Instruction start (b ∷ bs)
    else if is_full && starts_name b then fault Depth start (b ∷ bs)
    else syntax (b ∷ bs)
fault_by behind_exclamation start [] = syntax []
fault_by behind_exclamation start (b ∷ bs) =
    if b == 68 then fault Doctype start (b ∷ bs)
    else if b == 91 then fault Cdata start (b ∷ bs)
    else syntax (b ∷ bs)
fault_by in_instruction start bytes = fault Instruction start bytes
fault_by behind_repeated start bytes = fault DoubleAttribute start bytes
fault_by behind_other_name start bytes = fault TagMismatch start bytes
fault_by in_reference start bytes = fault Entity start bytes

abbrev pub fault_at : Position → Fault
fault_at p = fault_by p.kind p.start p.rest
