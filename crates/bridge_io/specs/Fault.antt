-- An I/O error has a cause: a count of the object that was passed in rose.
use Rattle.std.specs.Prelude.{◌⊎◌, ℕ, ◌-◌, ◌^◌, ◌<◌, ◌≤◌, Result, IsErrOf}

-- a count is higher after than before, or a counter is at its last value
abbrev pub Rose : ℕ → ℕ → Type 0
Rose before after = (before < after) ⊎ (2 ^ 64 - 1 ≤ after)

-- this error comes only where the count rose in the call, and the count never falls
pub record HasCause {T E : Type 0} (fault : E) (before after : ℕ) (result : Result T E) : Type 0 where
  pub never_falls : before ≤ after
  pub rose : IsErrOf result fault → Rose before after
