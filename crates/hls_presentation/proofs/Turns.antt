-- Steps of loops over plain values.
use Rattle.std.proofs.Common.{◌≡◌, ℕ, ◌+◌, ◌-◌, ◌<◌, ◌≤◌, List, [], ◌∷◌, ◌++◌, map, length, take, drop, get_or, slice_get, All, Some}
use Rattle.std.proofs.{Common.{Result, Ok, Err, IfOk, IfSome, refl, sym, ◌∙◌, ap, append_assoc}, lemmas.List.{append-nil, map-append}}
use Rattle.std.proofs.{lemmas.List.drop_more, lemmas.Option.IfSome_then}
use Rattle.std.specs.Borrow.{Bor}
use Rattle.bridge_io.specs.Answer.{Gives, and_then}
use Rattle.hls_master.specs.declared.track.MasterTrack.{MasterTrack}
use Rattle.hls_media.specs.{declared.media.Media.Media, declared.media.MediaSegment.MediaSegment}
use Rattle.presentation.specs.{declared.parts.Content.Content, declared.track.Section.Section, declared.track.Track.Track}
use Rattle.presentation.specs.{Origins.CameFromPlaylists, Presented.{Presented, AreFilled, of_parts}}
use Rattle.hls_presentation.specs.Origins.{IsSilentTrack}
use Rattle.hls_presentation.specs.Presenting.{behind, content_of, contents_of}
use Rattle.layer_faults.specs.declared.hls.HlsFault.{HlsFault}
use Rattle.hls_presentation.specs.Presenting.{flattened, gathered, hls_presented_of, nanos_by_tick, parts_with, presented_from, refusal}
use Rattle.hls_presentation.specs.{Presenting.{sections_from, track_of}, Sections.{group_at, groups_in, groups_of, row_at, row_length}}
use Rattle.hls_presentation.specs.{Sections.{rows_from, rows_of}, Tracks.Source}
use Rattle.hls_presentation.proofs.{Came.{all_filled, came}, Cutting.{count_like, front}, Gathering.{goes_on, row_goes_on, row_stops}}
use Rattle.hls_presentation.proofs.Rows.{no_rows, row_next}

-- a group is cut off
pub cut_off : (groups : List (Bor (List MediaSegment))) (group : Bor (List MediaSegment)) (n : ℕ) (rest later all : List MediaSegment)
    (first : MediaSegment)
    → slice_get rest 0 ≡ Some first → n ≡ count_like first rest → group.now ≡ take n rest → later ≡ drop n rest
    → map (λ (g : Bor (List MediaSegment)). g.now) groups ++ groups_of rest ≡ groups_of all
    → map (λ (g : Bor (List MediaSegment)). g.now) (groups ++ group ∷ []) ++ groups_of later ≡ groups_of all
cut_off groups group n rest later all first is count one other so_far =
    let f = front rest first is in
    let pieces : group.now ∷ groups_of later ≡ groups_of rest = rw (one, other, count) (sym f.groups) in
    ap (λ xs. xs ++ groups_of later) (map-append (λ (g : Bor (List MediaSegment)). g.now) groups (group ∷ []))
    ∙ append_assoc (map (λ (g : Bor (List MediaSegment)). g.now) groups) (group.now ∷ []) (groups_of later)
    ∙ ap (λ gs. map (λ (g : Bor (List MediaSegment)). g.now) groups ++ gs) pieces ∙ so_far

-- one track more of a row
pub row_turn : {Y : Type 0} (give : List MediaSegment → Result Y HlsFault) (tracks : List (List (List MediaSegment))) (i place : ℕ)
    (track : List (List MediaSegment)) (before : List Y) (y : Y)
    → i < length tracks → get_or tracks i track ≡ track → give (group_at place track) ≡ Ok y
    → behind before (gathered give (row_at (drop i tracks) place)) ≡ behind (before ++ y ∷ [])
    (gathered give (row_at (drop (i + 1) tracks) place))
row_turn give tracks i place track before y within at is =
    let e = drop_more tracks i track within in
    ap (λ ts. behind before (gathered give (row_at ts place))) (e ∙ ap (λ t. t ∷ drop (i + 1) tracks) at)
    ∙ goes_on give (group_at place track) (row_at (drop (i + 1) tracks) place) before y is

-- one row more
pub rows_turn : {Y : Type 0} (give : List MediaSegment → Result Y HlsFault) (tracks : List (List (List MediaSegment))) (place count : ℕ)
    (before after : List Y)
    → place < count → behind before (gathered give (row_at tracks place)) ≡ Ok after
    → behind before (gathered give (flattened (rows_from tracks place (count - place))))
    ≡ behind after (gathered give (flattened (rows_from tracks (place + 1) (count - (place + 1)))))
rows_turn give tracks place count before after within is =
    ap (λ rows. behind before (gathered give (flattened rows))) (row_next tracks place count within)
    ∙ row_goes_on give (row_at tracks place) (flattened (rows_from tracks (place + 1) (count - (place + 1)))) before after is

pub rows_stop : {Y : Type 0} (give : List MediaSegment → Result Y HlsFault) (tracks : List (List (List MediaSegment))) (place count : ℕ)
    (before : List Y) (fault : HlsFault)
    → place < count → IfSome (refusal fault) (λ f. behind before (gathered give (row_at tracks place)) ≡ Err f)
    → IfSome (refusal fault) (λ f. behind before (gathered give (flattened (rows_from tracks place (count - place)))) ≡ Err f)
rows_stop give tracks place count before fault within told =
    IfSome_then (refusal fault) (row_stops give (row_at tracks place)
    (flattened (rows_from tracks (place + 1) (count - (place + 1)))) before fault told)
    (λ f is. ap (λ rows. behind before (gathered give (flattened rows))) (row_next tracks place count within) ∙ is)

-- what a row gives that is refused
pub contents_stop : (nanos : ℕ) (tracks : List (List (List MediaSegment))) (place count : ℕ) (before : List Content)
    (all : Result (List Content) HlsFault) (fault : HlsFault)
    → place < count → IfSome (refusal fault) (λ f. behind before (gathered (content_of nanos) (row_at tracks place)) ≡ Err f)
    → behind before (contents_of nanos (rows_from tracks place (count - place))) ≡ all → IfSome (refusal fault) (λ f. all ≡ Err f)
contents_stop nanos tracks place count before all fault within told so_far =
    IfSome_then (refusal fault) (rows_stop (content_of nanos) tracks place count before fault within told) (λ f is. sym so_far ∙ is)

-- all rows are done
pub contents_done : (nanos : ℕ) (tracks : List (List (List MediaSegment))) (place count : ℕ) (contents : List Content)
    (all : Result (List Content) HlsFault)
    → count ≤ place → behind contents (contents_of nanos (rows_from tracks place (count - place))) ≡ all → all ≡ Ok contents
contents_done nanos tracks place count contents all past so_far =
    sym so_far ∙ ap (λ rows. behind contents (contents_of nanos rows)) (no_rows tracks place count past) ∙ ap Ok (append-nil contents)

-- one section more
pub sections_turn : (tracks : List (List (List MediaSegment))) (place count start : ℕ) (before : List Section) (all : List Section)
    → place < count
    → before ++ sections_from place start (rows_from tracks place (count - place)) ≡ all
    → (before ++ record { id = Rattle.std.specs.Prelude.decimal place; start = start; length = Some (row_length (row_at tracks place)) }
    ∷ []) ++ sections_from (place + 1) (start + row_length (row_at tracks place)) (rows_from tracks (place + 1) (count - (place + 1))) ≡ all
sections_turn tracks place count start before all within so_far =
    append_assoc before _ _ ∙ ap (λ rows. before ++ sections_from place start rows) (sym (row_next tracks place count within)) ∙ so_far

-- a step that is refused refuses what stands behind it
pub step_told : {X Y : Type 0} (r : Result X HlsFault) (next : X → Result Y HlsFault) (fault : HlsFault)
    → IfSome (refusal fault) (λ f. r ≡ Err f) → IfSome (refusal fault) (λ f. and_then r next ≡ Err f)
step_told r next fault told = IfSome_then (refusal fault) told (λ f is. rw is refl)

-- ---- the whole

pub filled_by : (nanos : ℕ) (kept : List Source) (groups : List (List (List MediaSegment))) (tracks : List Track) (sections : List Section)
    (contents : List Content)
    → groups ≡ map groups_in kept → tracks ≡ map track_of kept → sections ≡ sections_from 0 0 (rows_of groups)
    → contents_of nanos (rows_of groups) ≡ Ok contents
    → AreFilled (length sections) (length tracks) (length contents)
filled_by nanos kept groups tracks sections contents same one other is =
    rw (one, other, same) (all_filled nanos kept contents (rw same at is))

pub presented_by : (nanos : ℕ) (ours : List Source) (others : ℕ) (rows : List (List (List MediaSegment))) (contents : List Content)
    → nanos ≡ nanos_by_tick ours → contents_of nanos rows ≡ Ok contents → presented_from ours others rows
    ≡ Ok (of_parts (parts_with ours others rows contents))
unfolding presented_from
presented_by nanos ours others rows contents ticks is = rw (rw ticks at is) refl

pub presented_as : (nanos : ℕ) (ours : List Source) (others : ℕ) (rows : List (List (List MediaSegment))) (contents : List Content)
    (tracks : List Track) (sections : List Section) (p : Presented)
    → nanos ≡ nanos_by_tick ours → contents_of nanos rows ≡ Ok contents → tracks ≡ map track_of ours → sections ≡ sections_from 0 0 rows
    → p ≡ of_parts (record { tracks = tracks; sections = sections; contents = contents; left_out = others })
    → presented_from ours others rows ≡ Ok p
presented_as nanos ours others rows contents tracks sections p ticks is one other whole =
    presented_by nanos ours others rows contents ticks is ∙ ap Ok (sym (rw (one, other) at whole))

pub refused_by : (nanos : ℕ) (ours : List Source) (others : ℕ) (rows : List (List (List MediaSegment))) (fault : HlsFault)
    → nanos ≡ nanos_by_tick ours → IfSome (refusal fault) (λ f. contents_of nanos rows ≡ Err f)
    → IfSome (refusal fault) (λ f. presented_from ours others rows ≡ Err f)
unfolding presented_from
refused_by nanos ours others rows fault ticks told = IfSome_then (refusal fault) told (λ f is. rw (rw ticks at is) refl)

pub came_if : (r : Result Presented HlsFault) (tracks : List MasterTrack) (medias : List Media)
    → Gives (λ p. p) refusal r (hls_presented_of tracks medias) → All IsSilentTrack tracks → IfOk r CameFromPlaylists
came_if (Ok p) tracks medias is silent = came tracks medias p is silent
came_if (Err fault) tracks medias is silent = tt
