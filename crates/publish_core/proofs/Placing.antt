-- Files that take their places one after another.
use Rattle.std.proofs.Common.{◌≡◌, ℕ, List, [], ◌∷◌, ◌++◌, take, Option, None, Some, option_map, refl, ap, sym, ◌∙◌}
use Rattle.std.proofs.Common.{inl, inr}
use Rattle.bridge_io.specs.{Outside.{Changes, Files, MayEmpty, put}, Written.HasFront}
use Rattle.bridge_ends.specs.Moved.{moved}
use Rattle.publish_core.specs.{Placed.{MayChange, all_placed, placed}, declared.decision.NewFile.NewFile}

placed-append : (pending : List ℕ) (files : List NewFile) (file : NewFile) (all : Files)
    → all_placed pending (files ++ file ∷ []) all ≡ placed pending file (all_placed pending files all)
placed-append pending [] file all = refl
placed-append pending (first ∷ files) file all = placed-append pending files file (placed pending first all)

-- after some files one more takes its place
pub place_next : (pending : List ℕ) (files : List NewFile) (file : NewFile) (before mid after : Option Files)
    → Changes (all_placed pending files) before mid → Changes (placed pending file) mid after
    → Changes (all_placed pending (files ++ file ∷ [])) before after
place_next pending files file None mid after were places = places ∙ ap (option_map (placed pending file)) were
place_next pending files file (Some all) mid after were places = places ∙ ap (option_map (placed pending file)) were
    ∙ ap Some (sym (placed-append pending files file all))

-- a file that was written takes its place
pub take_place : (pending : List ℕ) (file : NewFile) (before mid after : Option Files) → Changes (put pending file.text) before mid
    → Changes (moved pending file.name) mid after → Changes (placed pending file) before after
take_place pending file None mid after puts moves = moves ∙ ap (option_map (moved pending file.name)) puts
take_place pending file (Some all) mid after puts moves = moves ∙ ap (option_map (moved pending file.name)) puts

-- what a write leaves that fails
pub emptied : (name : List ℕ) (before after : Option Files) → MayEmpty name before after → MayChange name before after
emptied name before after (inl same) = inl same
emptied name before after (inr puts) = inr (Some [], puts)

pub begun : (name text : List ℕ) (before after : Option Files) → HasFront name text before after → MayChange name before after
begun name text before after (n, puts) = inr (Some (take n text), puts)

pub unplaced : (name text : List ℕ) (before mid after : Option Files) → Changes (put name text) before mid → after ≡ mid
    → MayChange name before after
unplaced name text before mid after puts same = inr (Some text, same ∙ puts)
