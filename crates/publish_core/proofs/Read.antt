-- A folder is read whose files are there.
use Rattle.std.proofs.Common.{◌≡◌, ℕ, ◌≤◌, true, List, [], ◌∷◌, ◌++◌, All, length, Some, Result, Ok, Err}
use Rattle.std.proofs.Common.{refl, sym, ◌∙◌, ap, subst, append_assoc, arith}
use Rattle.std.proofs.lemmas.{Bool.{and_parts, le-ltb}, List.append-nil, List.Elements.{All-head, All-tail}}
use Rattle.std.proofs.lemmas.List.Sums.{sum_by-append, sum_by-cons}
use Rattle.bridge_io.specs.{Answer.and_then, Outside.Files}
use Rattle.bridge_io.proofs.AndThen.{steps_of}
use Rattle.hls_master.specs.declared.track.MasterTrack.{MasterTrack}
use Rattle.publish_core.specs.{Laws.IsReadAs, Names.name_in, Refusals.Named}
use Rattle.publish_core.specs.Sides.{FileName, are_same_tracks, content_of, master_in, names_in, segment_limit, segments_of, side_of}
use Rattle.publish_core.specs.Sides.{side_by, side_with, track_at, tracks_from, tracks_with}
use Rattle.publish_core.specs.Taken.{are_found, are_found_by, is_found, is_read_alike, is_read_by}
use Rattle.publish_core.specs.declared.side.{Side.Side, SideTrack.SideTrack}
use Rattle.publish_core.proofs.Alike.{found_as, found_too}

-- a track's file is there, and is read as its list
pub record IsThere (folder : List ℕ) (files : Files) (track : SideTrack) : Type 0 where
  pub name : name_in folder track.file ≡ Some track.name
  pub list : IsReadAs files track.name track.list

abbrev pub count_of : SideTrack → ℕ
count_of track = length track.list.items

-- ---- the tracks

pub fewer : (tracks : List SideTrack) (track : SideTrack) (more : List SideTrack)
    → segments_of (tracks ++ track ∷ []) ≤ segments_of (tracks ++ track ∷ more)
fewer tracks track more =
    omega (
      arith,
      sum_by-append count_of tracks (track ∷ []),
      sum_by-append count_of tracks (track ∷ more),
      sum_by-cons count_of track [],
      sum_by-cons count_of track more,
    )

module _ (folder file : List ℕ) (files : Files) where
  track_read : (track : SideTrack) (other : MasterTrack) (name : FileName) → is_found track other name ≡ true → IsThere folder files track
      → track_at folder file files other name ≡ Ok track
  track_read track other name is there =
      let found = found_as track other name is in
      rw (found.name, there.name, there.list other.address, found.kind, found.language) refl

  one_read : (lists : List SideTrack) (track : SideTrack) (other : MasterTrack) (name : FileName) → is_found track other name ≡ true
      → IsThere folder files track → segments_of (lists ++ track ∷ []) ≤ segment_limit
      → tracks_with folder file files lists other name ≡ Ok (lists ++ track ∷ [])
  unfolding tracks_with
  one_read lists track other name is there few =
      rw (track_read track other name is there, le-ltb segment_limit (segments_of (lists ++ track ∷ [])) few) refl

  tracks_read : (lists tracks : List SideTrack) (found : List MasterTrack) (names : List FileName) → are_found tracks found names ≡ true
      → All (IsThere folder files) tracks → segments_of (lists ++ tracks) ≤ segment_limit
      → tracks_from folder file files lists found names ≡ Ok (lists ++ tracks)
  tracks_read lists [] [] names is all few = ap Ok (sym (append-nil lists))
  tracks_read lists [] (other ∷ found) names is all few = absurd (cc)
  tracks_read lists (track ∷ tracks) [] names is all few = absurd (cc)
  tracks_read lists (track ∷ tracks) (other ∷ found) [] is all few = absurd (cc)
  tracks_read lists (track ∷ tracks) (other ∷ found) (name ∷ names) is all few =
      let parts = and_parts (is_found track other name) (are_found tracks found names) is in
      let front = fewer lists track tracks in
      let whole = append_assoc lists (track ∷ []) tracks in
      let one = one_read lists track other name parts.0 (All-head (IsThere folder files) track tracks all) (omega (arith, front, few)) in
      let rest = tracks_read (lists ++ track ∷ []) tracks found names parts.1 (All-tail (IsThere folder files) track tracks all)
      (rw whole few) in
      ap (λ (r : Result (List SideTrack) Named). and_then r (λ next. tracks_from folder file files next found names)) one
      ∙ rest ∙ ap Ok whole

  -- step by step
  pub side_by_steps : (text : List ℕ) (found : List MasterTrack) (names : List FileName) (tracks : List SideTrack)
      → content_of file files ≡ Ok text → master_in file text ≡ Ok found → names_in folder file found ≡ Ok names
      → tracks_from folder file files [] found names ≡ Ok tracks → side_of folder file files ≡ Ok (side_with file text tracks)
  unfolding side_of
  side_by_steps text found names tracks content master named read = rw (content, master, named, read) refl

-- the steps by which a folder was read
pub record IsReading (folder file : List ℕ) (files : Files) (side : Side) : Type 0 where
  pub file_is : side.file ≡ file
  pub content : content_of file files ≡ Ok side.text
  pub found : List MasterTrack
  pub master : master_in file side.text ≡ Ok found
  pub names : List FileName
  pub named : names_in folder file found ≡ Ok names
  pub tracks : tracks_from folder file files [] found names ≡ Ok side.tracks

module _ (folder file : List ℕ) (files : Files) (side : Side) where
  by_text : (text : List ℕ) → content_of file files ≡ Ok text → side_by folder file files text ≡ Ok side → IsReading folder file files side
  by_text text content is =
      let masters = steps_of (master_in file text) (λ master. and_then (names_in folder file master)
      (λ names. and_then (tracks_from folder file files [] master names) (λ tracks. Ok (side_with file text tracks)))) side is in
      let names = steps_of (names_in folder file masters.value)
      (λ names. and_then (tracks_from folder file files [] masters.value names) (λ tracks. Ok (side_with file text tracks))) side
      masters.then in
      let tracks = steps_of (tracks_from folder file files [] masters.value names.value) (λ tracks. Ok (side_with file text tracks)) side
      names.then in
      let same : side_with file text tracks.value ≡ side = (let e = tracks.then in cc) in
      subst (IsReading folder file files) same (record {
        file_is = refl;
        content = content;
        found = masters.value;
        master = masters.first;
        names = names.value;
        named = names.first;
        tracks = tracks.first;
      })

  pub reading_of : side_of folder file files ≡ Ok side → IsReading folder file files side
  unfolding side_of
  reading_of is = let steps = steps_of (content_of file files) (side_by folder file files) side is in
      by_text steps.value steps.first steps.then

-- ---- the master

-- a master is read in a folder as that of a side
pub record IsReadAlike (folder file : List ℕ) (new : Side) : Type 0 where
  pub found : List MasterTrack
  pub master : master_in file new.text ≡ Ok found
  pub names : List FileName
  pub named : names_in folder file found ≡ Ok names
  pub are : are_found new.tracks found names ≡ true

module _ (folder file : List ℕ) (new : Side) where
  by_names : (found : List MasterTrack) → master_in file new.text ≡ Ok found → (r : Result (List FileName) Named)
      → names_in folder file found ≡ r → are_found_by new.tracks found r ≡ true → IsReadAlike folder file new
  by_names found master (Err named) of is = absurd (cc)
  by_names found master (Ok names) of is = record { found = found; master = master; names = names; named = of; are = is }

  by_master : (r : Result (List MasterTrack) Named) → master_in file new.text ≡ r → is_read_by folder file new.tracks r ≡ true
      → IsReadAlike folder file new
  by_master (Err named) of is = absurd (cc)
  by_master (Ok found) of is = by_names found of (names_in folder file found) refl is

  pub read_alike : is_read_alike folder file new ≡ true → IsReadAlike folder file new
  read_alike is = by_master (master_in file new.text) refl is

  -- the folder is read as this side with other lists
  pub side_read : (files : Files) (tracks : List SideTrack) → IsReadAlike folder file new → content_of file files ≡ Ok new.text
      → are_same_tracks new.tracks tracks ≡ true → All (IsThere folder files) tracks → segments_of tracks ≤ segment_limit
      → side_of folder file files ≡ Ok (side_with file new.text tracks)
  side_read files tracks alike content same all few =
      side_by_steps folder file files new.text alike.found alike.names tracks content alike.master alike.named
      (tracks_read folder file files [] tracks alike.found alike.names
      (found_too new.tracks tracks alike.found alike.names same alike.are) all few)
