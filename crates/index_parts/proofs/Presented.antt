-- A presentation that is made track by track is the one that is meant.
use Rattle.std.proofs.Common.{◌≡◌, ℕ, suc, Bool, true, false, nat_lt, List, [], ◌∷◌, ◌++◌, cond, filter, length, map, if◌then◌else◌}
use Rattle.std.proofs.{Common.{Result, Ok, Err, refl, sym, ◌∙◌, ap}, lemmas.List.length-map}
use Rattle.bridge_io.proofs.AndThen.{steps_of}
use Rattle.bridge_io.specs.{Answer.and_then, declared.media.Kind.Kind, declared.media.Kind.TheVariants.{Video, Audio, Text}, Outside.Files}
use Rattle.presentation.specs.{declared.fault.PresentationFault.TheVariants.Limit, declared.track.Track.Track, Presented.Presented}
use Rattle.presentation.specs.Order.{is_of}
use Rattle.mpd_presentation.specs.Rows.{in_order, track_of}
use Rattle.index_parts.specs.{declared.fault.IndexFault.IndexFault, declared.fault.IndexFault.TheVariants.Presentation}
use Rattle.index_parts.specs.{declared.located.Listed.Listed, declared.parts.Gathering.Gathering}
use Rattle.index_parts.specs.Kept.{all_gathered, all_kept, keep, kept_with, kind_kept, none_kept, presented_kept, presented_of}
use Rattle.index_parts.specs.{Located.track_parts, Presented.{all_parts, few_segments, presented_in, presented_with}, Rows.{Period, Row}}
use Rattle.index_parts.proofs.Kept.{finished, keep_all}

then_same : {X Y : Type 0} (r : Result X IndexFault) (f g : X → Result Y IndexFault) → ((x : X) → f x ≡ g x) → and_then r f ≡ and_then r g
then_same (Ok x) f g same = same x
then_same (Err e) f g same = refl

then_moved : {X Y Z : Type 0} (r : Result X IndexFault) (f : X → Result Y IndexFault) (g : Y → Result Z IndexFault)
    → and_then (and_then r f) g ≡ and_then r (λ x. and_then (f x) g)
then_moved (Ok x) f g = refl
then_moved (Err e) f g = refl

module _ (url folder : List ℕ) (files : Files) where
  abbrev kept_of : Gathering → List Row → Result Gathering IndexFault
  kept_of g [] = Ok g
  kept_of g (row ∷ rows) = and_then (kept_with url folder files g row) (λ next. kept_of next rows)

  abbrev of : Kind → List Row → List Row
  of kind rows = filter (λ row. is_of kind row.description.kind) rows

  -- ---- kinds one after another

  kind_step : (kind : Kind) (g : Gathering) (row : Row) (rows : List Row) (b : Bool)
      → ((g : Gathering) → kind_kept url folder files kind g rows ≡ kept_of g (of kind rows))
      → and_then (if b then kept_with url folder files g row else Ok g) (λ next. kind_kept url folder files kind next rows)
      ≡ kept_of g (cond b (row ∷ of kind rows) (of kind rows))
  kind_step kind g row rows true later = then_same (kept_with url folder files g row) _ _ later
  kind_step kind g row rows false later = later g

  kind_filtered : (kind : Kind) (g : Gathering) (rows : List Row) → kind_kept url folder files kind g rows ≡ kept_of g (of kind rows)
  kind_filtered kind g [] = refl
  kind_filtered kind g (row ∷ rows) = kind_step kind g row rows (is_of kind row.description.kind) (λ g. kind_filtered kind g rows)

  kept_append : (g : Gathering) (xs ys : List Row) → kept_of g (xs ++ ys) ≡ and_then (kept_of g xs) (λ next. kept_of next ys)
  kept_append g [] ys = refl
  kept_append g (x ∷ xs) ys =
      then_same (kept_with url folder files g x) _ _ (λ next. kept_append next xs ys)
      ∙ sym (then_moved (kept_with url folder files g x) (λ next. kept_of next xs) (λ next. kept_of next ys))

  kinds_in_order : (rows : List Row) → all_gathered url folder files rows ≡ kept_of none_kept (in_order rows)
  unfolding all_gathered
  kinds_in_order rows =
      ap (λ r. and_then r (λ video.
      and_then (kind_kept url folder files Audio video rows) (λ audio. kind_kept url folder files Text audio rows)))
      (kind_filtered Video none_kept rows)
      ∙ then_same (kept_of none_kept (of Video rows)) _ _ (λ video.
      ap (λ r. and_then r (λ audio. kind_kept url folder files Text audio rows)) (kind_filtered Audio video rows)
      ∙ then_same (kept_of video (of Audio rows)) _ _ (λ audio. kind_filtered Text audio rows)
      ∙ sym (kept_append video (of Audio rows) (of Text rows)))
      ∙ sym (kept_append none_kept (of Video rows) (of Audio rows ++ of Text rows))

  -- ---- what all have

  moved : (g : Gathering) (track : Listed) (r : Result (List Listed) IndexFault)
      → and_then r (λ tracks. Ok (keep_all (keep g track) tracks))
      ≡ and_then (and_then r (λ later. Ok (track ∷ later))) (λ tracks. Ok (keep_all g tracks))
  moved g track (Ok tracks) = refl
  moved g track (Err e) = refl

  all_step : (g : Gathering) (rows : List Row) (r : Result Listed IndexFault)
      → ((g : Gathering) → kept_of g rows ≡ and_then (all_parts url folder files rows) (λ tracks. Ok (keep_all g tracks)))
      → and_then (and_then r (λ track. Ok (keep g track))) (λ next. kept_of next rows)
      ≡ and_then (and_then r (λ one. and_then (all_parts url folder files rows) (λ later. Ok (one ∷ later))))
      (λ tracks. Ok (keep_all g tracks))
  all_step g rows (Ok track) later = later (keep g track) ∙ moved g track (all_parts url folder files rows)
  all_step g rows (Err e) later = refl

  all_of_them : (g : Gathering) (rows : List Row)
      → kept_of g rows ≡ and_then (all_parts url folder files rows) (λ tracks. Ok (keep_all g tracks))
  unfolding kept_with
  all_of_them g [] = refl
  all_of_them g (row ∷ rows) = all_step g rows (track_parts url folder files row) (λ g. all_of_them g rows)

  as_many : (rows : List Row) (tracks : List Listed) → all_parts url folder files rows ≡ Ok tracks → length tracks ≡ length rows
  as_many [] tracks is = (let none : [] ≡ tracks = cc in ap length (sym none))
  as_many (row ∷ rows) tracks is =
      let one = steps_of (track_parts url folder files row) _ tracks is in
      let later = steps_of (all_parts url folder files rows) _ tracks one.then in
      let same : one.value ∷ later.value ≡ tracks = (let h = later.then in cc) in
      ap length (sym same) ∙ ap suc (as_many rows later.value later.first)

  -- ---- the presentation

  module _ (left_out : ℕ) (period : Period) (tracks : List Track) where
    with_all : (rows : List Row) (r : Result (List Listed) IndexFault) → length tracks ≡ length rows → all_parts url folder files rows ≡ r
        → and_then (and_then r (λ told. Ok (keep_all none_kept told))) (presented_of left_out period tracks)
        ≡ and_then (and_then r few_segments) (λ contents. Ok (presented_with left_out period tracks contents))
    with_all rows (Ok told) many is =
        let count : length tracks ≡ length told = many ∙ sym (as_many rows told is) in
        ap (λ r. and_then r (λ contents. Ok (presented_with left_out period tracks contents)))
        (ap (λ n. all_kept n (keep_all none_kept told).contents) count ∙ finished told)
    with_all rows (Err e) many is = refl

    with_tracks : length tracks ≡ length (in_order period.tracks)
        → and_then (all_gathered url folder files period.tracks) (presented_of left_out period tracks)
        ≡ and_then (and_then (all_parts url folder files (in_order period.tracks)) few_segments)
        (λ contents. Ok (presented_with left_out period tracks contents))
    with_tracks many =
        ap (λ r. and_then r (presented_of left_out period tracks))
        (kinds_in_order period.tracks ∙ all_of_them none_kept (in_order period.tracks))
        ∙ with_all (in_order period.tracks) (all_parts url folder files (in_order period.tracks)) many refl

  if_few : (b : Bool) (tracks : List Track) (f g : List Track → Result Presented IndexFault) → f tracks ≡ g tracks
      → and_then (if b then Err (Presentation Limit) else Ok tracks) f ≡ and_then (if b then Err (Presentation Limit) else Ok tracks) g
  if_few true tracks f g same = refl
  if_few false tracks f g same = same

  pub as_presented : (left_out : ℕ) (period : Period)
      → presented_kept url folder files left_out period ≡ presented_in url folder files left_out period
  unfolding presented_kept presented_in
  as_presented left_out period =
      let tracks : List Track = map track_of (in_order period.tracks) in
      if_few (nat_lt 200 (length tracks)) tracks _ _ (with_tracks left_out period tracks (length-map (in_order period.tracks) track_of))
