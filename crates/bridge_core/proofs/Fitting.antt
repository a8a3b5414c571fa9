-- What an MPD says for players can be written.
use Rattle.std.proofs.Common.{List, ℕ, Option, None, Some, Result, Ok, Err}
use Rattle.std.specs.{Option.option_and_then, Result.result_ok}
use Rattle.bridge_steps.specs.Players.{players_in, players_of}
use Rattle.laws_of_playlists.specs.Master.{IsFitFor}
use Rattle.mpd_hints.specs.{Laws.ToldLabelsAreFit, declared.starts.Sap.Sap}
use Rattle.mpd_tree.specs.{Meaning.reading_of, Trees.Element, declared.fault.TextFault.TextFault}
use Rattle.segment_forms.specs.declared.form.Form.{Form, TheVariants.{Plain, Players}}

module _ (fit : ToldLabelsAreFit) (sap : Sap) where
  of_reading : (form : Form) (reading : Result Element TextFault)
      → IsFitFor (option_and_then (players_of form sap) (result_ok reading))
  of_reading Plain (Ok root) = tt
  of_reading Players (Ok root) = fit sap root
  of_reading form (Err fault) = tt

  pub players_fit : (form : Form) (bytes : List ℕ) → IsFitFor (players_in form sap bytes)
  players_fit form bytes = of_reading form (reading_of bytes)
