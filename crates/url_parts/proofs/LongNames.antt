-- A segment that is longer than any URL gives none.
use Rattle.std.proofs.Common.{◌≡◌, ℕ, ◌<◌, true, List, ◌++◌, length, Err, arith, ◌∙◌, length-append}
use Rattle.std.proofs.{lemmas.Bool.{cond-true, or_right, and_from}, lemmas.Bool.Decides.nat_tests}
use Rattle.std.specs.{Prelude.nat_lt, List.list_all}
use Rattle.bridge_io.specs.Names.{is_name}
use Rattle.url_parts.specs.{Addresses.{folder_of, resolve, IsBase}, Paths.{is_plain, is_segment_byte}}
use Rattle.url_parts.specs.declared.fault.UrlFault.TheVariants.{TooLong}
use Rattle.url_parts.proofs.Relative.{resolve_plain}

pub long_segment : (base name : List ℕ) → IsBase base → list_all is_segment_byte name ≡ true → 2048 < length name
    → resolve base name ≡ Err TooLong
long_segment base name is bytes long =
    let more : nat_lt 255 (length name) ≡ true = grind (arith, nat_tests) in
    let plain : is_plain name ≡ true = or_right (is_name name) _ (and_from _ _ more bytes) in
    let sum = length-append (folder_of base) name in
    let past : nat_lt 2048 (length (folder_of base ++ name)) ≡ true = grind (arith, nat_tests) in
    resolve_plain base name is plain ∙ cond-true _ _ _ past
