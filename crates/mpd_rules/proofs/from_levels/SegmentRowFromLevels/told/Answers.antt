use Rattle.std.proofs.Common.{refl, ap, sym, ◌∙◌, Some}
use Rattle.mpd_levels.proofs.Showing.{tells_shown}
use Rattle.mpd_rules.proofs.from_levels.SegmentRowFromLevels.told.Goals as goal

pub returns-in-None-clause-refused : goal.returns-in-None-clause-refused
returns-in-None-clause-refused c = λ tables levels says. rw (rw c.in-None.is at (c.in_ok-segments.ensures tables levels says)) refl

pub returns-in-Some-clause-refused : goal.returns-in-Some-clause-refused
returns-in-Some-clause-refused c = λ tables levels says.
    let told = rw c.in-Some.is at (c.in_ok-segments.ensures tables levels says) in
    rw (told.1, sym (c.is_incomplete.ensures tables told.0 told.2), c.if-is_incomplete.true) refl

pub returns-in-Some-2-clause-refused : goal.returns-in-Some-2-clause-refused
returns-in-Some-2-clause-refused c = λ tables levels says.
    let told = rw c.in-Some.is at (c.in_ok-segments.ensures tables levels says) in
    rw (told.1, sym (c.is_incomplete.ensures tables told.0 told.2), c.if-is_incomplete.false) refl

pub returns-in-Some-2-clause-row : goal.returns-in-Some-2-clause-row
returns-in-Some-2-clause-row c = λ tables levels says.
    let told = rw c.in-Some.is at (c.in_ok-segments.ensures tables levels says) in
    told.1 ∙ ap Some (tells_shown tables c.in-Some.row told.0 told.2)
