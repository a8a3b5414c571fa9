-- The lines without a fault, and the whole behind them.
use Rattle.std.proofs.Common.{◌≡◌, ℕ, Bool, true, false, cond, nat_lt, length, List, [], Option, Some, None, Result, Ok, Err, refl, ap}
use Rattle.bridge_io.specs.{Firsts.first_some, declared.place.Place.Place}
use Rattle.hls_lines.specs.Lines.{PlaylistLine}
use Rattle.hls_master.specs.{declared.fault.MasterFault.MasterFault, declared.fault.MasterFault.TheVariants.Limit, Entries.known_lines}
use Rattle.hls_master.specs.{Entries.entries_of, Faults.answer, Masters.{above_limit, master_in, whole_of, end_faults, mentions_in}}
use Rattle.hls_master.specs.{Mentions.{MentionsValue, nothing, reading, entry_faults}, Tracks.{Mentioned, TrackValue, few, firsts_of}}
use Rattle.hls_master.specs.Tracks.{tracks_among, tracks_of}
use Rattle.hls_master.proofs.Answers.{no_fault, value_is, fault_is, behind_none, before_more}

module _ (master : List ℕ) (end : Place) (lines : List PlaylistLine) where
  abbrev read : Result MentionsValue MasterFault
  read = reading master nothing (entries_of (known_lines lines))

  abbrev line_faults : List (Option MasterFault)
  line_faults = entry_faults master [] (entries_of (known_lines lines))

  pub line_fault : (fault : MasterFault) → read ≡ Err fault → master_in master end lines ≡ Err fault
  unfolding master_in reading
  line_fault fault e = let first = before_more line_faults (end_faults end (mentions_in master lines)) fault
      (fault_is (first_some line_faults) _ _ e) in rw first refl

  pub whole_is : (mentions : MentionsValue) → read ≡ Ok mentions → master_in master end lines ≡ whole_of end mentions
  unfolding master_in reading whole_of
  whole_is mentions e =
      let none = behind_none line_faults (end_faults end (mentions_in master lines)) (no_fault (first_some line_faults) _ _ e) in
      let is = value_is (first_some line_faults) (mentions_in master lines) mentions e in
      rw none (ap (λ m. answer (first_some (end_faults end m)) (tracks_of m)) is)

-- at most 200 first mentions, and more
within : (b : Bool) (end : Place) (all firsts : List Mentioned) → Some firsts ≡ cond b None (Some all)
    → (cond b (Some (Limit end)) None ≡ None) × (firsts ≡ all)
within true end all firsts e = cc
within false end all firsts e = (refl, cc)

above : (b : Bool) (end : Place) (all : List Mentioned) → None ≡ cond b None (Some all) → cond b (Some (Limit end)) None ≡ Some (Limit end)
above true end all e = refl
above false end all e = cc

module _ (end : Place) (mentions : MentionsValue) where
  pub few_are : (firsts : List Mentioned) (tracks : List TrackValue) → Some firsts ≡ few (firsts_of mentions)
      → tracks ≡ tracks_among mentions.variants firsts
      → answer (above_limit end mentions) (tracks_of mentions) ≡ Ok tracks
  unfolding tracks_of
  few_are firsts tracks e is =
      let w = within (nat_lt 200 (length (firsts_of mentions))) end (firsts_of mentions) firsts e in
      rw (w.0, is, w.1) refl

  pub too_many : None ≡ few (firsts_of mentions) → answer (above_limit end mentions) (tracks_of mentions) ≡ Err (Limit end)
  too_many e = let w = above (nat_lt 200 (length (firsts_of mentions))) end (firsts_of mentions) e in rw w refl
