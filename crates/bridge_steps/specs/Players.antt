-- What an MPD says for players, where that is asked for.
use Rattle.std.specs.{Prelude.{ℕ, List, Option, Some, None, option_and_then}, Result.result_ok}
use Rattle.mpd_hints.specs.{Hints.hints_of, declared.starts.Sap.Sap}
use Rattle.mpd_tree.specs.{Meaning.reading_of, Trees.Element}
use Rattle.segment_forms.specs.declared.form.Form.{Form, TheVariants.{Plain, Players}}
use Rattle.track_hints.specs.declared.hints.Hints.{Hints}

-- the plain form takes nothing of it
abbrev pub players_of : Form → Sap → Element → Option Hints
players_of Plain sap root = None
players_of Players sap root = Some (hints_of sap root)

-- of the bytes of an MPD
abbrev pub players_in : Form → Sap → (bytes : List ℕ) → Option Hints
players_in form sap bytes = option_and_then (players_of form sap) (result_ok (reading_of bytes))
