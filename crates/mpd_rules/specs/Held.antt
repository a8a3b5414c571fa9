-- An MPD's values, with the segments of each Representation as a row whose keys refer to timelines and lists in tables.
use Rattle.std.specs.Prelude.{ℕ, List, map}
use Rattle.mpd_levels.specs.declared.tables.Tables.{Tables}
use Rattle.mpd_rules.specs.{declared.facts.Facts.Facts, declared.rows.PeriodRow.PeriodRow, Typed.{TypedMpd, period_with}}

-- a row together with the tables that its keys are of
pub record Keyed (X : Type 0) : Type 0 where
  pub tables : Tables
  pub row : X

abbrev pub keyed : {X : Type 0} → Tables → X → Keyed X
keyed tables row = record { tables = tables; row = row }

pub record Held (X : Type 0) : Type 0 where
  pub tables : Tables
  pub values : TypedMpd (Keyed X)

abbrev pub held_of : {X : Type 0} → Tables → Facts → ℕ → List (PeriodRow X) → Held X
held_of tables facts left_out periods = record {
  tables = tables;
  values = record { facts = facts; left_out = left_out; periods = map (period_with (keyed tables)) periods };
}
