-- The timescale that a file states is a number of 32 bits above 0.
use Rattle.std.proofs.Common.{◌≡◌, ℕ, ◌+◌, ◌%◌, ◌<◌, ◌^◌, ◌==◌, nat_lt, Bool, true, false, List, length, Option, Some, None}
use Rattle.std.proofs.Common.{Result, Ok, Err}
use Rattle.std.proofs.{Common.{codes, if◌then◌else◌, refl, subst, arith}, Math.Nat.mod-lt, lemmas.Bool.Decides.nat_tests}
use Rattle.bridge_io.proofs.AndThen.{steps_of}
use Rattle.bridge_io.specs.Outside.{Files}
use Rattle.box_reader.specs.{Boxes.{Found, boxes_of}, Numbers.u32_at}
use Rattle.url_parts.specs.{declared.address.Part.Part, declared.range.Range.Range}
use Rattle.presentation.proofs.Filling.{ok_under}
use Rattle.layer_faults.specs.declared.times.FileFault.{FileFault}
use Rattle.layer_faults.specs.declared.times.FileFault.TheVariants.{Scale}
use Rattle.fragment_times.specs.{declared.fault.TimesFault.TheVariants.File, Parts.{bytes_of, file_of, scale_at, told_of}}
use Rattle.fragment_times.specs.Told.{alone, child_of, fault_among, first_box, inside, media_scale_of, scale_by, scale_in, short}
use Rattle.fragment_times.specs.Told.{track_scale, u32_in, unless_among, unless_none, version_of}

-- a second has ticks, by a number of 32 bits
pub record IsScale (scale : ℕ) : Type 0 where
  pub positive : 0 < scale
  pub small : scale < 2 ^ 32

told_alone : (fault : Option FileFault) (told : Result ℕ FileFault) (n : ℕ) → unless_among fault told ≡ Ok n → told ≡ Ok n
told_alone None told n is = is
told_alone (Some fault) (Ok x) n is = absurd (cc)
told_alone (Some fault) (Err other) n is = absurd (cc)

number_by : (place : ℕ) (found : Found) (n : ℕ) (b : Bool) → nat_lt (length found.body) (place + 4) ≡ b → u32_in place found ≡ Ok n
    → n < 2 ^ 32
number_by place found n true is told = absurd (let h : u32_in place found ≡ Err (short found) = rw is refl in cc)
number_by place found n false is told =
    let h : u32_in place found ≡ Ok (u32_at place found.body % 2 ^ 32) = rw is refl in
    let same : u32_at place found.body % 2 ^ 32 ≡ n = cc in
    subst (λ n. n < 2 ^ 32) same (mod-lt (u32_at place found.body) (omega arith))

above : (n scale : ℕ) (none : Bool) → (n == 0) ≡ none → n < 2 ^ 32 → unless_none n ≡ Ok scale → IsScale scale
above n scale true is small told = absurd (let h : unless_none n ≡ Err Scale = rw is refl in cc)
above n scale false is small told =
    let h : unless_none n ≡ Ok n = rw is refl in
    let same : n ≡ scale = cc in
    let some : 0 < n = grind (arith, nat_tests) in
    subst IsScale same (record { positive = some; small = small })

mdhd_scale : (mdhd : Found) (n scale : ℕ) → scale_in mdhd ≡ Ok n → unless_none n ≡ Ok scale → IsScale scale
mdhd_scale mdhd n scale is told =
    let version = steps_of (version_of mdhd) (λ version. u32_in (if version == 1 then 20 else 12) mdhd) n is in
    let place = if version.value == 1 then 20 else 12 in
    above n scale (n == 0) refl (number_by place mdhd n (nat_lt (length mdhd.body) (place + 4)) refl version.then) told

moov_scale : (moov : Found) (scale : ℕ) → scale_by moov ≡ Ok scale → IsScale scale
moov_scale moov scale is =
    let made = steps_of (alone (codes "trak") moov (track_scale moov)) unless_none scale is in
    let told = told_alone (fault_among (codes "trak") (boxes_of (inside moov))) (track_scale moov) made.value made.first in
    let trak = steps_of (child_of (codes "trak") moov) _ made.value told in
    let mdia = steps_of (child_of (codes "mdia") trak.value) _ made.value trak.then in
    let mdhd = steps_of (child_of (codes "mdhd") mdia.value) scale_in made.value mdia.then in
    mdhd_scale mdhd.value made.value scale mdhd.then made.then

file_scale : (range : Option Range) (file : Option (List ℕ)) (scale : ℕ) → told_of media_scale_of range file ≡ Ok scale → IsScale scale
unfolding media_scale_of
file_scale range None scale is = absurd (cc)
file_scale range (Some bytes) scale is =
    let moov = steps_of (first_box (codes "moov") (bytes_of range bytes)) scale_by scale is in
    moov_scale moov.value scale moov.then

pub scale_is : (folder : List ℕ) (files : Files) (part : Part) (scale : ℕ) → scale_at folder files part ≡ Ok scale → IsScale scale
unfolding scale_at
scale_is folder files part scale is =
    let file = steps_of (file_of folder part) _ scale is in
    file_scale part.range (files file.value) scale (ok_under (File file.value) (told_of media_scale_of part.range (files file.value)) scale
    file.then)
