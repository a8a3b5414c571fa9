-- An MPD lists the segments of the last playlists with their files' times.
use Rattle.hls_follow.specs.TimedPeriods as periods
use Rattle.layer_faults.specs.declared.times.FileFault.TheVariants as file
use Rattle.std.proofs.Common.{◌≡◌, ℕ, suc, ◌+◌, ◌-◌, ◌*◌, ◌≤◌, Bool, true, false, leb, ltb, List, [], ◌∷◌, ◌++◌, length, map, take, drop}
use Rattle.std.proofs.Common.{All, Some, Result, Ok, Err, get_or, refl, sym, ◌∙◌, ap, subst, arith}
use Rattle.std.proofs.{Math.Seq.{drop-nil, take-nil}, lemmas.List.{length-take, map-append}, lemmas.List.Elements.{All-head, All-tail}, lemmas.Bool.{leb-false}}
use Rattle.bridge_io.specs.{Answer.and_then, Outside.Files}
use Rattle.bridge_io.proofs.AndThen.{steps_of}
use Rattle.url_parts.specs.declared.address.Part.{Part}
use Rattle.hls_media.specs.declared.media.MediaSegment.{MediaSegment}
use Rattle.hls_presentation.specs.Presenting.{flattened}
use Rattle.dash_writer.specs.{declared.live.LivePeriod.LivePeriod, declared.live.LiveRun.LiveRun}
use Rattle.fragment_times.specs.{declared.fault.TimesFault.TimesFault}
use Rattle.fragment_times.specs.{declared.lasting.Clock.Clock, Parts.start_at}
use Rattle.fragment_times.specs.Durations.{begun_at, last_ticks_of, next_begun, ticks_behind, ticks_from, ticks_of}
use Rattle.hls_follow.specs.OwnTimes.{Snapshot, each, new_start, of_times, part_of}
use Rattle.hls_follow.specs.OwnTimes.{starts_of as own_starts}
use Rattle.hls_follow.specs.{Stretches.{Stretch, new_in, stretches_from}}
use Rattle.hls_follow.specs.TimedListed.{AreOwn, OwnListed, OwnPlaced, own_listed_as, own_listed_of, own_placed_as}
use Rattle.fragment_times.specs.{declared.fault.TimesFault.TheVariants.Segment}
use Rattle.hls_follow.specs.Ticks.{clock_with}
use Rattle.hls_follow.proofs.{CellFacts.{cell_last, cell_offset, cell_spot, facts_of}, Cells.{Cell, IsCell, placed_by, starts_of}}

-- where a segment begins
abbrev Taken : {A B : Type 0} → (A → B) → Type 0
Taken {A} {B} f = A

abbrev Begun : Type 0
Begun = Taken next_begun

-- ---- the times of a section's segments

pub times_ok : {X : Type 0} (r : Result X TimesFault) (x : X) → of_times r ≡ Ok x → r ≡ Ok x
times_ok (Ok y) x is = (let same : y ≡ x = cc in ap Ok same)
times_ok (Err e) x is = absurd (cc)

module _ (folder : List ℕ) (files : Files) where
  -- those of new segments
  new_own : (segments : List MediaSegment) (times : List ℕ) → each (new_start folder files) segments ≡ Ok times
      → AreOwn folder files [] segments times
  new_own [] times is = subst (AreOwn folder files [] []) (let none : [] ≡ times = cc in none) tt
  new_own (s ∷ segments) times is =
      let a = steps_of (and_then (new_start folder files s) (λ t. Ok (t ∷ []))) _ times is in
      let b = steps_of (new_start folder files s) _ a.value a.first in
      let one : b.value ∷ [] ≡ a.value = (let h = b.then in cc) in
      let c = steps_of (each (new_start folder files) segments) _ times a.then in
      let whole : b.value ∷ c.value ≡ times =
      ap (λ (front : List ℕ). front ++ c.value) one ∙ (let h : a.value ++ c.value ≡ times = (let h = c.then in cc) in h) in
      subst (AreOwn folder files [] (s ∷ segments)) whole
      (times_ok (start_at folder files (part_of s)) b.value b.first, new_own segments c.value c.first)

  -- behind those that are known
  known_own : (known : List ℕ) (segments : List MediaSegment) (times : List ℕ) → length known ≤ length segments
      → AreOwn folder files [] (drop (length known) segments) times → AreOwn folder files known segments (known ++ times)
  known_own [] segments times fit own = own
  known_own (k ∷ known) [] times fit own = absurd (omega (arith, fit))
  known_own (k ∷ known) (s ∷ segments) times fit own = (refl, known_own known segments times (omega (arith, fit)) own)

  section_own : (s : Stretch) (times : List ℕ) → length s.known ≤ length s.segments → own_starts folder files s ≡ Ok times
      → AreOwn folder files s.known s.segments times
  section_own s times fit is =
      let a = steps_of (each (new_start folder files) (new_in s)) _ times is in
      let whole : s.known ++ a.value ≡ times = (let h = a.then in cc) in
      subst (AreOwn folder files s.known s.segments) whole
      (known_own s.known s.segments a.value fit (new_own (new_in s) a.value a.first))

  pub own_length : (known : List ℕ) (segments : List MediaSegment) (times : List ℕ) → AreOwn folder files known segments times
      → length times ≡ length segments
  own_length known [] [] own = refl
  own_length known [] (t ∷ times) own = absurd own
  own_length [] (s ∷ segments) [] own = absurd own
  own_length (k ∷ known) (s ∷ segments) [] own = absurd own
  own_length [] (s ∷ segments) (t ∷ times) own = ap suc (own_length [] segments times own.1)
  own_length (k ∷ known) (s ∷ segments) (t ∷ times) own = ap suc (own_length known segments times own.1)

  -- one section behind another
  own_append : (known : List ℕ) (group rest : List MediaSegment) (times later : List ℕ)
      → AreOwn folder files (take (length group) known) group times → AreOwn folder files (drop (length group) known) rest later
      → AreOwn folder files known (group ++ rest) (times ++ later)
  own_append known [] rest [] later one two = two
  own_append known [] rest (t ∷ times) later one two = absurd one
  own_append [] (s ∷ group) rest [] later one two = absurd one
  own_append (k ∷ known) (s ∷ group) rest [] later one two = absurd one
  own_append [] (s ∷ group) rest (t ∷ times) later one two = (
    one.0,
    own_append [] group rest times later (subst (λ known. AreOwn folder files known group times) (sym (take-nil (length group))) one.1)
        (subst (λ known. AreOwn folder files known rest later) (sym (drop-nil (length group))) two),
  )
  own_append (k ∷ known) (s ∷ group) rest (t ∷ times) later one two = (one.0, own_append known group rest times later one.1 two)

-- ---- the segments of a section

pub behind_is : (scale former : ℕ) (begun : Begun) (ticks : ℕ) → ticks_behind scale former begun ≡ Ok ticks → former + ticks ≡ begun.start
behind_is scale former begun ticks is = by (leb begun.start former) (ltb (1000000 * scale) (begun.start - former)) refl refl
  where
    by : (a b : Bool) → leb begun.start former ≡ a → ltb (1000000 * scale) (begun.start - former) ≡ b → former + ticks ≡ begun.start
    by true b one two = absurd (let h : ticks_behind scale former begun ≡ Err (Segment begun.at file.Order) = rw one refl in cc)
    by false true one two = absurd (let h : ticks_behind scale former begun ≡ Err (Segment begun.at file.Range) = rw (one, two) refl in cc)
    by false false one two =
        (let h : ticks_behind scale former begun ≡ Ok (begun.start - former) = rw (one, two) refl in
        let same : begun.start - former ≡ ticks = cc in
        let less = leb-false begun.start former one in
        omega (arith, same, less))

-- a group of segments of a section, with its init segment
pub record IsGroup (number : ℕ) (map : Part) (group : List MediaSegment) : Type 0 where
  pub sections : All (λ (s : MediaSegment). s.section ≡ number) group
  pub maps : All (λ (s : MediaSegment). s.map ≡ Some map) group

module _ (period : LivePeriod) (run : LiveRun) where
  listed_from : (clock : Clock) (last : ℕ) (begun : Begun) (starts durations : List ℕ) (segments : List MediaSegment)
      → ticks_from clock last begun starts ≡ Ok durations → length segments ≡ suc (length starts)
      → IsGroup period.number run.initialization segments
      → map (λ (p : OwnPlaced). p.listed) (map (own_placed_as period run) (periods.segments_from begun.start durations segments))
      ≡ own_listed_of segments (begun.start ∷ starts)
  listed_from clock last begun starts durations [] is many group = absurd (omega (arith, many))
  listed_from clock last begun [] durations (s ∷ []) is many group =
      let x = steps_of (last_ticks_of clock last begun) _ durations is in
      let whole : x.value ∷ [] ≡ durations = (let h = x.then in cc) in
      let section = All-head (λ (s : MediaSegment). s.section ≡ period.number) s [] group.sections in
      let of = All-head (λ (s : MediaSegment). s.map ≡ Some run.initialization) s [] group.maps in
      rw (← whole, section, of) refl
  listed_from clock last begun [] durations (s ∷ t ∷ segments) is many group = absurd (omega (arith, many))
  listed_from clock last begun (start ∷ starts) durations (s ∷ segments) is many group =
      let x = steps_of (ticks_behind clock.scale begun.start (next_begun begun start)) _ durations is in
      let y = steps_of (ticks_from clock last (next_begun begun start) starts) _ durations x.then in
      let whole : x.value ∷ y.value ≡ durations = (let h = y.then in cc) in
      let section = All-head (λ (s : MediaSegment). s.section ≡ period.number) s segments group.sections in
      let of = All-head (λ (s : MediaSegment). s.map ≡ Some run.initialization) s segments group.maps in
      let next : begun.start + x.value ≡ start = behind_is clock.scale begun.start (next_begun begun start) x.value x.first in
      let later = listed_from clock last (next_begun begun start) starts y.value segments y.first (omega (arith, many)) (record {
        sections = All-tail (λ (s : MediaSegment). s.section ≡ period.number) s segments group.sections;
        maps = All-tail (λ (s : MediaSegment). s.map ≡ Some run.initialization) s segments group.maps;
      }) in
      let head : OwnListed = record {
        section = period.number;
        initialization = Some run.initialization;
        part = part_of s;
        time = begun.start;
      } in
      rw (← whole, section, of, next) (ap (λ (ls : List OwnListed). head ∷ ls) later)

module _ (s : Snapshot) (files : Files) (p : ℕ) (c : Cell) (is : IsCell s files p c) where
  cell_own : length c.stretch.known ≤ length c.stretch.segments
      → AreOwn s.folder files c.stretch.known c.stretch.segments c.times.starts
  cell_own fit = section_own s.folder files c.stretch c.times.starts fit (facts_of s files p c is).starts

  cell_listed : length c.times.starts ≡ length c.stretch.segments → IsGroup c.period.number c.live.initialization c.stretch.segments
      → map (λ (p : OwnPlaced). p.listed) (map (own_placed_as c.period c.live) c.live.segments)
      ≡ own_listed_of c.stretch.segments c.times.starts
  cell_listed many group =
      let f = facts_of s files p c is in
      rw f.live_segments (by c.times.starts f.durations c.stretch.segments f.ticks many group)
    where
      by : (starts durations : List ℕ) (segments : List MediaSegment)
          → ticks_of (cell_spot s files p c) (clock_with c.times.scale (cell_offset s files p c)) (cell_last s files p c) starts ≡ Ok durations
          → length starts ≡ length segments → IsGroup c.period.number c.live.initialization segments
          → map (λ (p : OwnPlaced). p.listed) (map (own_placed_as c.period c.live)
          (periods.segments_from (get_or starts 0 0) durations segments)) ≡ own_listed_of segments starts
      by [] durations [] ticks many group = refl
      by [] durations (x ∷ segments) ticks many group = absurd (omega (arith, many))
      by (start ∷ starts) durations segments ticks many group =
          listed_from c.period c.live (clock_with c.times.scale (cell_offset s files p c)) (cell_last s files p c)
          (begun_at (cell_spot s files p c) start) starts durations segments ticks (sym many) group

-- ---- all sections of a track

module _ (s : Snapshot) (files : Files) (p : ℕ) where
  -- groups of segments that are those of cells
  abbrev pub AreGroups : List Cell → List (List MediaSegment) → Type 0
  AreGroups [] [] = Unit {0}
  AreGroups [] (group ∷ groups) = ⊥
  AreGroups (c ∷ cells) [] = ⊥
  AreGroups (c ∷ cells) (group ∷ groups) =
      (c.stretch.segments ≡ group) × (IsGroup c.period.number c.live.initialization group × AreGroups cells groups)

  pub cells_own : (known : List ℕ) (groups : List (List MediaSegment)) (cells : List Cell) → All (IsCell s files p) cells
      → map (λ (c : Cell). c.stretch) cells ≡ stretches_from known groups
      → AreOwn s.folder files known (flattened groups) (starts_of cells)
  cells_own known [] [] each are = tt
  cells_own known [] (c ∷ cells) each are = absurd (cc)
  cells_own known (group ∷ groups) [] each are = absurd (cc)
  cells_own known (group ∷ groups) (c ∷ cells) each are =
      let first : c.stretch ≡ record { segments = group; known = take (length group) known } = cc in
      let later : map (λ (c : Cell). c.stretch) cells ≡ stretches_from (drop (length group) known) groups = cc in
      let few : length (take (length group) known) ≤ length group = rw (length-take (length group) known) (omega arith) in
      let fit : length c.stretch.known ≤ length c.stretch.segments = rw first few in
      let own = cell_own s files p c (All-head (IsCell s files p) c cells each) fit in
      let one : AreOwn s.folder files (take (length group) known) group c.times.starts =
      subst (λ (st : Stretch). AreOwn s.folder files st.known st.segments c.times.starts) first own in
      own_append s.folder files known group (flattened groups) c.times.starts (starts_of cells) one
      (cells_own (drop (length group) known) groups cells (All-tail (IsCell s files p) c cells each) later)

  listed_append : (xs ys : List MediaSegment) (ts us : List ℕ) → length ts ≡ length xs
      → own_listed_of xs ts ++ own_listed_of ys us ≡ own_listed_of (xs ++ ys) (ts ++ us)
  listed_append [] ys [] us many = refl
  listed_append [] ys (t ∷ ts) us many = absurd (omega (arith, many))
  listed_append (x ∷ xs) ys [] us many = absurd (omega (arith, many))
  listed_append (x ∷ xs) ys (t ∷ ts) us many =
      ap (λ (ls : List OwnListed). own_listed_as x t ∷ ls) (listed_append xs ys ts us (omega (arith, many)))

  pub cells_listed : (known : List ℕ) (groups : List (List MediaSegment)) (cells : List Cell) → All (IsCell s files p) cells
      → map (λ (c : Cell). c.stretch) cells ≡ stretches_from known groups → AreGroups cells groups
      → map (λ (p : OwnPlaced). p.listed) (placed_by cells) ≡ own_listed_of (flattened groups) (starts_of cells)
  cells_listed known [] [] each are grouped = refl
  cells_listed known [] (c ∷ cells) each are grouped = absurd grouped
  cells_listed known (group ∷ groups) [] each are grouped = absurd grouped
  cells_listed known (group ∷ groups) (c ∷ cells) each are grouped =
      let first : c.stretch ≡ record { segments = group; known = take (length group) known } = cc in
      let later : map (λ (c : Cell). c.stretch) cells ≡ stretches_from (drop (length group) known) groups = cc in
      let few : length (take (length group) known) ≤ length group = rw (length-take (length group) known) (omega arith) in
      let fit : length c.stretch.known ≤ length c.stretch.segments = rw first few in
      let cell = All-head (IsCell s files p) c cells each in
      let many : length c.times.starts ≡ length c.stretch.segments =
      own_length s.folder files c.stretch.known c.stretch.segments c.times.starts (cell_own s files p c cell fit) in
      let here = cell_listed s files p c cell many (subst (IsGroup c.period.number c.live.initialization) (sym grouped.0) grouped.1.0) in
      map-append (λ (p : OwnPlaced). p.listed) (map (own_placed_as c.period c.live) c.live.segments) (placed_by cells)
      ∙ ap (λ (ls : List OwnListed). ls ++ map (λ (p : OwnPlaced). p.listed) (placed_by cells)) here
      ∙ ap (λ (ss : List MediaSegment). own_listed_of ss c.times.starts ++ map (λ (p : OwnPlaced). p.listed) (placed_by cells)) grouped.0
      ∙ ap (λ (ls : List OwnListed). own_listed_of group c.times.starts ++ ls)
      (cells_listed (drop (length group) known) groups cells (All-tail (IsCell s files p) c cells each) later grouped.1.1)
      ∙ listed_append group (flattened groups) c.times.starts (starts_of cells) (many ∙ ap (λ (ss : List MediaSegment). length ss) grouped.0)
