-- The addresses of segments.
use Rattle.std.proofs.Common.{◌≡◌, ℕ, List, Option, Result, Ok, Err, ap, sym, ◌≤◌, ◌++◌, true, length, ◌∙◌, arith, length-append, false}
use Rattle.std.proofs.{lemmas.Bool.Decides.nat_tests, lemmas.List.length-take, lemmas.Bool.{and_parts, cond-false}}
use Rattle.std.specs.{Prelude.{IfSome, nat_le, nat_lt, None}, Result.{IsErr, IsErrAnd}}
use Rattle.bridge_io.specs.{Answer.Gives, Names.is_name}
use Rattle.url_parts.specs.{Addresses.{refusal, resolve, IsAddress, IsBase, folder_of}, declared.address.Part.Part}
use Rattle.url_parts.specs.{declared.range.Range.Range, declared.fault.UrlFault.UrlFault, declared.fault.UrlFault.TheVariants.Memory}
use Rattle.timeline.specs.{declared.fault.ListFault.ListFault, declared.names.Names.{Names, TheVariants.{Template, List as Listed, Shared, Addresses}}, Names.list_refusal}
use Rattle.timeline.specs.{Names.{list_fault_of, part_at}, FileNames.{AreInFolder, AreNames, are_files}}
use Rattle.template_ids.specs.Templates.{named}
use Rattle.template_ids.proofs.FileNames.{each_names}
use Rattle.url_parts.proofs.{Bases.folder_of-take, Relative.resolve_name}

-- an address that is its own base
pub resolve_own : (text : List ℕ) → IsAddress text → resolve text text ≡ Ok text
unfolding resolve
resolve_own text is = rw is.web is.normal

refused : (range : Option Range) (address : Result (List ℕ) UrlFault) (e : UrlFault) → IfSome (refusal e) (λ f. address ≡ Err f) →
    IfSome (list_refusal (list_fault_of e)) (λ f. part_at range address ≡ Err f)
refused range address Memory h = tt
refused range address e h = ap (part_at range) h

pub gives_refusal : (range : Option Range) (address : Result (List ℕ) UrlFault) (e : UrlFault) (r : Result Part ListFault)
    → IsErr r × IsErrAnd r (λ fault. fault ≡ list_fault_of e) →
    IfSome (refusal e) (λ f. address ≡ Err f) → Gives (λ part. part) list_refusal r (part_at range address)
gives_refusal range address e (Ok part) h k = cc
gives_refusal range address e (Err fault) h k = rw h.1 (refused range address e k)

-- ---- names of files in one folder have addresses

short : (base : List ℕ) → length (folder_of base) ≤ length base
short base = omega (arith, sym (length-take (length (folder_of base)) base) ∙ ap length (folder_of-take base))

pub in_folder : (media id : List ℕ) (bandwidth : ℕ) (base : List ℕ) → IsBase base → are_files (Template media id bandwidth base) ≡ true
    → AreInFolder (Template media id bandwidth base)
in_folder media id bandwidth base is files place number time low early =
    let both = and_parts _ _ files in
    let name = named media (record { id = id; bandwidth = bandwidth; number = number; time = time }) in
    let is_file : is_name name ≡ true =
    each_names media (record { id = id; bandwidth = bandwidth; number = number; time = time }) low early both.1 in
    let small : nat_le (length name) 255 ≡ true = (and_parts _ _ (and_parts _ _ (and_parts _ _ is_file).0).0).1 in
    let fits : nat_lt 2048 (length (folder_of base ++ name)) ≡ false = let shorter = short base in let room = both.0 in
    let sum = length-append (folder_of base) name in grind (arith, nat_tests) in
    ap (part_at None) (resolve_name base name is is_file ∙ cond-false _ _ _ fits)

-- they are valid file names
pub names_valid : (names : Names) → are_files names ≡ true → AreNames names
names_valid (Template media id bandwidth base) files = λ number time low early.
    each_names media (record { id = id; bandwidth = bandwidth; number = number; time = time }) low early (and_parts _ _ files).1
names_valid (Listed parts base) files = cc
names_valid (Shared parts base) files = cc
names_valid (Addresses parts) files = cc
