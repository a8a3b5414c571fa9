use Rattle.timeline.proofs.names.Names.are_files.Goals as goal
use Rattle.std.proofs.{Common.{◌≡◌, ◌∙◌, sym, true, length, arith, refl}, lemmas.Bool.Decides.nat_tests}
use Rattle.std.specs.Prelude.{nat_le}
use Rattle.timeline.specs.{FileNames.are_files, declared.names.Names.TheVariants.Template}
use Rattle.timeline.proofs.Naming.{in_folder}

told : (c : goal.Then-as_str-le-MAX_BASE_LEN) → c.in_ok-files-in-Template.files
    ≡ are_files (Template c.in-Template.media c.in-Template.id c.in-Template.bandwidth c.in-Template.base)
told c = let room = rw c.as_str-in-Template.ensures.text at c.if-as_str-le-MAX_BASE_LEN.true in
    let names = rw (c.template.ensures, c.as_str.ensures) at c.in_ok-files-in-Template.ensures in
    let fits : nat_le (length c.in-Template.base) 1793 ≡ true = grind (arith, nat_tests) in
    rw (names, fits) refl

pub returns-then-as_str-le-MAX_BASE_LEN-clause-told : goal.returns-then-as_str-le-MAX_BASE_LEN-clause-told
returns-then-as_str-le-MAX_BASE_LEN-clause-told c = rw c.in-Template.is (told c)

pub returns-then-as_str-le-MAX_BASE_LEN-clause-named : goal.returns-then-as_str-le-MAX_BASE_LEN-clause-named
returns-then-as_str-le-MAX_BASE_LEN-clause-named c files = let t = c.in-Template in
    rw t.is (in_folder t.media t.id t.bandwidth t.base c.as_str-in-Template.ensures.base (sym (told c) ∙ files))
