-- A rendition is read by its TYPE, and then by its other attributes.
use Rattle.std.proofs.Common.{◌≡◌, ℕ, List, codes, Option, Some, None, Ok, refl, sym}
use Rattle.bridge_io.specs.{Firsts.first_some, declared.media.Kind.Kind, declared.place.Place.Place}
use Rattle.hls_lines.specs.Attributes.{NameValue, value_of}
use Rattle.hls_master.specs.{Faults.{answer, mapped}, Renditions.{type_fault, kind_in, rendition_fault, rendition_faults, rendition_value}}
use Rattle.hls_master.specs.Renditions.{rendition_with}
use Rattle.hls_master.proofs.Answers.{no_fault, value_is}

mapped_answer : {X F : Type 0} (fault : Option F) (value : X) → answer fault (Some value) ≡ mapped Some (answer fault value)
mapped_answer None value = refl
mapped_answer (Some f) value = refl

pub of_kind : (master : List ℕ) (place : Place) (attributes : List NameValue) (kind : Kind)
    → Ok (Some kind) ≡ answer (type_fault place (value_of (codes "TYPE") attributes)) (kind_in attributes)
    → answer (rendition_fault master place (Ok attributes)) (rendition_value master (Ok attributes))
    ≡ mapped Some (answer (first_some (rendition_faults master place attributes kind)) (rendition_with master attributes kind))
of_kind master place attributes kind e =
    let none = no_fault (type_fault place (value_of (codes "TYPE") attributes)) (kind_in attributes) (Some kind) (sym e) in
    let is = value_is (type_fault place (value_of (codes "TYPE") attributes)) (kind_in attributes) (Some kind) (sym e) in
    rw (none, is) (mapped_answer (first_some (rendition_faults master place attributes kind)) (rendition_with master attributes kind))
