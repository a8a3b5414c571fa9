-- What a store has of a file that was put.
use Rattle.std.proofs.Common.{◌≡◌, ℕ, List, Some, refl}
use Rattle.std.proofs.lemmas.Option.{same_Some}
use Rattle.bridge_io.specs.Outside.{Changes, Files, content_of, put}
use Rattle.bridge_io.proofs.Texts.{equals_itself}

pub content_put : (name text : List ℕ) (before after : Files) → Changes (put name text) (Some before) (Some after)
    → content_of after name ≡ text
content_put name text before after changes = rw (same_Some after (put name text before) changes, equals_itself name) refl
