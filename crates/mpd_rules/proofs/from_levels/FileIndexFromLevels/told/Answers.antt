use Rattle.mpd_rules.proofs.from_levels.FileIndexFromLevels.told.Goals as goal
use Rattle.std.proofs.Common.{◌≡◌, refl, ap, sym, ◌∙◌, subst, Bool, true, false, IfSome, Option, Some, None}
use Rattle.std.specs.Prelude.{if◌then◌else◌}
use Rattle.mpd_levels.specs.{Indexed.lacks_index, declared.indexed.IndexRow.IndexRow}
use Rattle.mpd_rules.proofs.Ranges.{HasBytes, index_bytes}

lacking : (b : Bool) (row : IndexRow) → None ≡ (if b then None else Some row) → b ≡ true
lacking true row is = refl
lacking false row is = absurd (cc)

whole : (b : Bool) (row kept : IndexRow) → Some kept ≡ (if b then None else Some row) → (b ≡ false) × (row ≡ kept)
whole true row kept is = absurd (cc)
whole false row kept is = (refl, cc)

pub of-requires : goal.of-requires
of-requires c = let says = c.requires in
    subst (λ (o : Option IndexRow). IfSome o HasBytes) (sym (c.in_ok-row.ensures says.0 says.1 says.2) ∙ c.in-Some.is) (index_bytes says.1)

pub returns-in_default-clause-refused : goal.returns-in_default-clause-refused
returns-in_default-clause-refused c = λ tables levels says. rw (sym (c.in_ok-row.ensures tables levels says), c.in_default.is) refl

pub returns-in-Some-of-clause-refused : goal.returns-in-Some-of-clause-refused
returns-in-Some-of-clause-refused c = λ tables levels says.
    rw (
      sym (c.in_ok-row.ensures tables levels says),
      c.in-Some.is,
      (whole (lacks_index c.in-Some.row) c.in-Some.row c.in-Some-of.index.row c.in-Some-of.ensures).0,
    ) refl

pub returns-in-Some-of-clause-row : goal.returns-in-Some-of-clause-row
returns-in-Some-of-clause-row c = λ tables levels says.
    sym (c.in_ok-row.ensures tables levels says) ∙ c.in-Some.is
    ∙ ap Some (whole (lacks_index c.in-Some.row) c.in-Some.row c.in-Some-of.index.row c.in-Some-of.ensures).1

pub returns-in-None-clause-refused : goal.returns-in-None-clause-refused
returns-in-None-clause-refused c = λ tables levels says.
    rw (
      sym (c.in_ok-row.ensures tables levels says),
      c.in-Some.is,
      lacking (lacks_index c.in-Some.row) c.in-Some.row c.in-None.ensures,
    ) refl
