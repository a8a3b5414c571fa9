-- What is read of a part tells what all of it would.
use Rattle.std.proofs.Common.{◌≡◌, ◌<◌, ◌≤◌, ◌+◌, ℕ, List, ◌++◌, length, take, drop, Option, Some, None, Result}
use Rattle.std.proofs.{Common.{Ok, Err, IfOk, IfSome, refl, sym, ap, ◌∙◌, arith}}
use Rattle.std.proofs.{lemmas.List.{drop-drop, length-take, take_all}, Math.Seq.take-add}
use Rattle.bridge_io.specs.{Answer.{Gives, and_then, told_as}, Outside.Files}
use Rattle.box_reader.specs.{Boxes.{Found, Left}, Parts.{part_of, refusal}}
use Rattle.box_reader.specs.{declared.part.PartFault.PartFault}
use Rattle.box_reader.specs.declared.part.PartFault.TheVariants.{Absent, Fault, Memory}
use Rattle.box_reader.proofs.Fronts.{take_less}
use Rattle.url_parts.specs.{declared.address.Part.Part, declared.range.Range.Range}
use Rattle.presentation.proofs.Printing.{if_some}
use Rattle.layer_faults.specs.declared.times.FileFault.{FileFault}
use Rattle.layer_faults.specs.declared.times.FileFault.TheVariants.{Absent as NoFile}
use Rattle.fragment_times.specs.{declared.fault.TimesFault.TimesFault, declared.fault.TimesFault.TheVariants.File}
use Rattle.fragment_times.specs.declared.part.Reach.{Reach}
use Rattle.fragment_times.specs.Parts.{IsFound, IsPassed, box_by, box_from, box_of, box_past, byte_limit, end_at, end_in}
use Rattle.fragment_times.specs.Parts.{end_named, file_of, first_byte, told_at, told_of}
use Rattle.fragment_times.specs.{Refusals.{part_told, refusal as refused}, Told.{end_of, first_box, value_of}}
use Rattle.fragment_times.specs.declared.told.Stated.{Stated}

-- ---- bytes

-- a list that is shorter than its front may be is whole in it
short_front : (limit most : ℕ) (bytes : List ℕ) → most ≤ limit → length (take most bytes) < most → take limit bytes ≡ take most bytes
short_front limit most bytes within short =
    let few : length bytes < most = omega (arith, length-take most bytes, short) in
    take_all limit bytes (omega (arith, few, within)) ∙ sym (take_all most bytes (omega (arith, few)))

-- a part of a file, and as many more bytes of it
pub joined : (first most more : ℕ) (file : Option (List ℕ)) (front rest : List ℕ) → part_of first most file ≡ Ok front
    → part_of (first + most) more file ≡ Ok rest → part_of first (most + more) file ≡ Ok (front ++ rest)
joined first most more None front rest read later = absurd (cc)
joined first most more (Some whole) front rest read later =
    let one : take most (drop first whole) ≡ front = cc in
    let other : take more (drop (first + most) whole) ≡ rest = cc in
    ap Ok (take-add most more (drop first whole)
    ∙ ap (λ later. take most (drop first whole) ++ take more later) (drop-drop most first whole)
    ∙ ap (λ a. a ++ take more (drop (first + most) whole)) one ∙ ap (λ b. front ++ b) other)

-- ---- the first box of a type

module _ (kind : List ℕ) (reach : Reach) where
  -- by all bytes that may be read, of which some are passed by
  pub all_tell : (from : ℕ) (file : Option (List ℕ)) (bytes : List ℕ) → IsPassed kind reach.first from bytes
      → part_of reach.first reach.limit file ≡ Ok bytes → box_of kind reach file ≡ Ok (box_past kind reach.first from bytes)
  all_tell from file bytes passed read =
      ap (box_by kind reach.first) read ∙ ap Ok (passed (length bytes) bytes (take_all (length bytes) bytes (omega arith)))

  -- by a file that ends before these
  pub short_tells : (from most : ℕ) (file : Option (List ℕ)) (bytes : List ℕ) → IsPassed kind reach.first from bytes → most ≤ reach.limit
      → part_of reach.first most file ≡ Ok bytes → length bytes < most → box_of kind reach file ≡ Ok (box_past kind reach.first from bytes)
  short_tells from most None bytes passed within read short = absurd (cc)
  short_tells from most (Some whole) bytes passed within read short =
      let same : take most (drop reach.first whole) ≡ bytes = cc in
      all_tell from (Some whole) bytes passed
      (ap Ok (short_front reach.limit most (drop reach.first whole) within (rw same short) ∙ same))

  -- by a box that ends within some of them
  pub front_tells : (from most : ℕ) (file : Option (List ℕ)) (bytes : List ℕ) → IsPassed kind reach.first from bytes
      → IsFound kind reach.first from bytes → most ≤ reach.limit → part_of reach.first most file ≡ Ok bytes
      → box_of kind reach file ≡ Ok (box_past kind reach.first from bytes)
  front_tells from most None bytes passed found less read = absurd (cc)
  front_tells from most (Some whole) bytes passed found less read =
      let all = take reach.limit (drop reach.first whole) in
      let front : take most all ≡ bytes = take_less most reach.limit (drop reach.first whole) less ∙ (cc) in
      ap Ok (passed most all front ∙ found most all front)

  -- a file that isn't there has no box
  pub no_box : (first limit : ℕ) (file : Option (List ℕ)) (fault : PartFault)
      → IfSome (refusal fault) (λ f. part_of first limit file ≡ Err f)
      → IfSome (refusal fault) (λ f. box_of kind reach file ≡ Err f)
  no_box first limit None fault told =
      if_some (refusal fault) (λ f. part_of first limit None ≡ Err f) (λ f. box_of kind reach None ≡ Err f)
      (λ f is. let same : Absent ≡ f = cc in ap Err same) told
  no_box first limit (Some whole) fault told =
      if_some (refusal fault) (λ f. part_of first limit (Some whole) ≡ Err f) (λ f. box_of kind reach (Some whole) ≡ Err f)
      (λ f is. absurd (cc)) told

-- ---- what it tells

module _ (kind : List ℕ) (range : Option Range) (reach : Reach)
    (first : reach.first ≡ first_byte range) (limit : reach.limit ≡ byte_limit range) where
  pub as_whole : (by : Found → Result ℕ FileFault) (file : Option (List ℕ)) (found : Result Found FileFault)
      → box_of kind reach file ≡ Ok found → told_of (λ left. and_then (first_box kind left) by) range file ≡ and_then found by
  as_whole by None found is = absurd (cc)
  as_whole by (Some whole) found is =
      let same : box_from kind reach.first (take reach.limit (drop reach.first whole)) ≡ found = cc in
      ap (λ n. and_then (first_box kind (record { at = n; bytes = take (byte_limit range) (drop n whole) })) by) (sym first)
      ∙ ap (λ n. and_then (first_box kind (record { at = reach.first; bytes = take n (drop reach.first whole) })) by) (sym limit)
      ∙ ap (λ told. and_then told by) same

  pub ends_in : (file : Option (List ℕ)) (found : Result Found FileFault) → box_of kind reach file ≡ Ok found
      → end_in kind range file ≡ end_of reach.first found
  ends_in None found is = absurd (cc)
  ends_in (Some whole) found is =
      let same : box_from kind reach.first (take reach.limit (drop reach.first whole)) ≡ found = cc in
      ap (λ n. end_of n (first_box kind (record { at = n; bytes = take (byte_limit range) (drop n whole) }))) (sym first)
      ∙ ap (λ n. end_of reach.first (first_box kind (record { at = reach.first; bytes = take n (drop reach.first whole) }))) (sym limit)
      ∙ ap (λ told. end_of reach.first told) same

  pub as_absent : (tell : Left → Result ℕ FileFault) (file : Option (List ℕ)) → box_of kind reach file ≡ Err Absent
      → told_of tell range file ≡ Err NoFile
  as_absent tell None is = refl
  as_absent tell (Some whole) is = absurd (cc)

-- ---- and what is told of the part

pub part_is : (tell : Left → Result ℕ FileFault) (folder : List ℕ) (files : Files) (part : Part) (file : List ℕ)
    (told : Result ℕ FileFault)
    → file_of folder part ≡ Ok file → told_of tell part.range (files file) ≡ told
    → told_at tell folder files part ≡ told_as (File file) told
part_is tell folder files part file told named is =
    ap (λ name. and_then name (λ file. told_as (File file) (told_of tell part.range (files file)))) named ∙ ap (told_as (File file)) is

pub file_told : (file : List ℕ) (told : Result (Stated ℕ) FileFault) (meaning : Result ℕ TimesFault)
    → meaning ≡ told_as (File file) (value_of told) → Gives (λ (s : Stated ℕ). s.value) refused (told_as (File file) told) meaning
file_told file (Ok x) meaning is = is
file_told file (Err _) meaning is = is

pub ends_as_told : (kind : List ℕ) (reach : Reach) (folder : List ℕ) (files : Files) (part : Part) (file : List ℕ)
    (found : Result Found FileFault) (told : Result (Stated ℕ) FileFault)
    → reach.first ≡ first_byte part.range → reach.limit ≡ byte_limit part.range → file_of folder part ≡ Ok file
    → box_of kind reach (files file) ≡ Ok found → IfOk told (λ (s : Stated ℕ). s.end ≡ end_of reach.first found)
    → IfOk (told_as (File file) told) (λ (s : Stated ℕ). s.end ≡ end_at kind folder files part)
unfolding end_at
ends_as_told kind reach folder files part file found (Err fault) first limit named is ends = tt
ends_as_told kind reach folder files part file found (Ok s) first limit named is ends =
    ends ∙ sym (ap (λ name. end_named kind files part.range name) named ∙ ends_in kind part.range reach first limit (files file) found is)

pub unread : (kind : List ℕ) (reach : Reach) (tell : Left → Result ℕ FileFault) (folder : List ℕ) (files : Files) (part : Part)
    (file : List ℕ) (fault : PartFault)
    → reach.first ≡ first_byte part.range → reach.limit ≡ byte_limit part.range → file_of folder part ≡ Ok file
    → IfSome (refusal fault) (λ f. box_of kind reach (files file) ≡ Err f)
    → IfSome (refused (part_told file fault)) (λ f. told_at tell folder files part ≡ Err f)
unread kind reach tell folder files part file Absent first limit named found =
    part_is tell folder files part file (Err NoFile) named (as_absent kind part.range reach first limit tell (files file) found)
unread kind reach tell folder files part file Fault first limit named found = tt
unread kind reach tell folder files part file Memory first limit named found = tt
