-- The timescales that files state aren't 0.
use Rattle.std.proofs.Common.{◌≡◌, ◌==◌, ◌<◌, ℕ, Bool, true, false, List, [], ◌∷◌, All, Option, Some, None, Result, Ok, Err}
use Rattle.std.proofs.{Common.{if◌then◌else◌, refl, arith}, lemmas.Bool.Decides.nat_tests}
use Rattle.std.proofs.lemmas.List.Elements.{All-cons, All-nil}
use Rattle.std.specs.{Option.option_map_or, Prelude.codes}
use Rattle.bridge_io.proofs.AndThen.{steps_of}
use Rattle.bridge_io.specs.{Outside.Files}
use Rattle.url_parts.specs.{declared.address.Part.Part, declared.range.Range.Range}
use Rattle.timeline.specs.declared.window.Window.{Window}
use Rattle.presentation.specs.{declared.parts.Content.Content, Counting.{sections_of, tracks_of}}
use Rattle.presentation.proofs.Filling.{all_gathered, ok_under}
use Rattle.presentation.specs.Presented.{Presented, content_at, window_of}
use Rattle.layer_faults.specs.declared.times.FileFault.{FileFault}
use Rattle.fragment_times.specs.{declared.fault.TimesFault.TimesFault, declared.fault.TimesFault.TheVariants.File}
use Rattle.fragment_times.specs.{declared.times.SegmentTimes.SegmentTimes, Parts.{file_of, scale_at, told_of}}
use Rattle.fragment_times.specs.Told.{alone as alone_in, first_box, media_scale_of, scale_by, track_scale, unless_none}
use Rattle.fragment_times.specs.Times.{IsScaled, TimesAreScaled, alone, content_times, section_times, times_at, times_of, times_with}

-- ---- of a file

unless_is : (b : Bool) (why : FileFault) (n m : ℕ) → (if b then Err why else Ok n) ≡ Ok m → (b ≡ false) × (n ≡ m)
unless_is true why n m is = absurd (cc)
unless_is false why n m is = (refl, (let same : n ≡ m = cc in same))

unless_zero : (n m : ℕ) → unless_none n ≡ Ok m → 0 < m
unless_zero n m is = (let some = unless_is (n == 0) _ n m is in rw (← some.1) (grind (arith, nat_tests, some.0)))

in_file : (range : Option Range) (file : Option (List ℕ)) (n : ℕ) → told_of media_scale_of range file ≡ Ok n → 0 < n
unfolding media_scale_of
in_file range None n is = absurd (cc)
in_file range (Some file) n is =
    let moov = steps_of (first_box (codes "moov") _) scale_by n is in
    let scale = steps_of (alone_in (codes "trak") moov.value (track_scale moov.value)) unless_none n moov.then in
    unless_zero scale.value n scale.then

pub in_part : (folder : List ℕ) (files : Files) (part : Part) (n : ℕ) → scale_at folder files part ≡ Ok n → 0 < n
unfolding scale_at
in_part folder files part n is =
    let file = steps_of (file_of folder part) _ n is in
    in_file part.range (files file.value) n (ok_under (File file.value) _ n file.then)

-- ---- of all files

one_given : {Y : Type 0} (P : Y → Type 0) (told : Result Y TimesFault) → ((y : Y) → told ≡ Ok y → P y) → (ys : List Y)
    → alone told ≡ Ok ys → All P ys
one_given P told given ys is =
    let own = steps_of told _ ys is in
    let whole : own.value ∷ [] ≡ ys = (let e = own.then in cc) in
    rw (← whole) (All-cons P own.value [] (given own.value own.first) (All-nil P))

module _ (folder : List ℕ) (files : Files) where
  content_scaled : (window : Window) (o : Option Content) (own : SegmentTimes)
      → option_map_or (content_times folder files window) o (Ok (times_with 1 [])) ≡ Ok own → IsScaled own
  content_scaled window None own is = (let same : times_with 1 [] ≡ own = cc in rw (← same) (omega arith))
  content_scaled window (Some content) own is =
      let scale = steps_of (scale_at folder files content.initialization) _ own is in
      let starts = steps_of _ (λ starts. Ok (times_with scale.value starts)) own scale.then in
      let same : times_with scale.value starts.value ≡ own = (let e = starts.then in cc) in
      rw (← same) (in_part folder files content.initialization scale.value scale.first)

  own_scaled : (p : Presented) (s t : ℕ) (own : SegmentTimes) → times_at folder files p s t ≡ Ok own → IsScaled own
  unfolding times_at
  own_scaled p s t own is = content_scaled (window_of p s) (content_at p s t) own is

pub times_are_scaled : TimesAreScaled
unfolding times_of
times_are_scaled folder files p times is =
    all_gathered (section_times folder files p) IsScaled (λ s own told.
    all_gathered (λ t. alone (times_at folder files p s t)) IsScaled (λ t one given.
    one_given IsScaled (times_at folder files p s t) (own_scaled folder files p s t) one given) (tracks_of p) own told)
    (sections_of p) times is
