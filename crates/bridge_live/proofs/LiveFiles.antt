-- The files of a followed presentation.
use Rattle.std.proofs.Common.{◌≡◌, [], ◌∷◌, ◌++◌, ◌==◌, if◌then◌else◌, Option, ap}
use Rattle.live_meaning.specs.States.{State}
use Rattle.bridge_steps.specs.Playlists.{OutputPlace}
use Rattle.track_hints.specs.declared.hints.Hints.{Hints}
use Rattle.bridge_live.specs.LiveMpds.{live_files, track_files, master_file}

-- the master is behind the playlists at first
pub files_first : (output : OutputPlace) (players : Option Hints) (s : State) → s.common.accepted ≡ 1
    → live_files output players s ≡ track_files output s ++ master_file output.folder players s ∷ []
files_first output players s is =
    ap (λ n. track_files output s ++ (if n == 1 then master_file output.folder players s ∷ [] else [])) is
