use Rattle.mpd_levels.proofs.tables.read_timeline.Goals as goal
use Rattle.std.proofs.Common.{◌≡◌, true}
use Rattle.std.specs.Prelude.{codes}
use Rattle.mpd_tree.specs.Nodes.{element_of, elements_left}
use Rattle.mpd_profile.specs.Heads.{is_named}
use Rattle.mpd_levels.specs.{Fits.FitsRun, Segments.run_of}
use Rattle.mpd_levels.proofs.Choosing.{first_holds, one_passes, rest_holds}

pub read_run-requires : goal.read_run-requires
read_run-requires c =
    let named : is_named (codes "S") (element_of c.in-Some.child) ≡ true = rw (← c.name.ensures, ← c.eq.ensures) c.if-eq.true in
    first_holds FitsRun (is_named (codes "S")) (element_of c.in-Some.child) (elements_left c.next.new.self) named
    (rw c.in-Some.ensures.steps at c.loop-child.invariant.fits)

pub loop-child-preserved-in-Continue-branch-2 : goal.loop-child-preserved-in-Continue-branch-2
loop-child-preserved-in-Continue-branch-2 c =
    let named : is_named (codes "S") (element_of c.in-Some.child) ≡ true = rw (← c.name.ensures, ← c.eq.ensures) c.if-eq.true in
    record {
      can_next = tt;
      finite = tt;
      so_far = rw (c.in_ok-push.ensures.items, c.read_run.ensures)
          (one_passes (is_named (codes "S")) run_of _ (element_of c.in-Some.child) (elements_left c.next.new.self) _ named
          (rw c.in-Some.ensures.steps at c.loop-child.invariant.so_far));
      fits = rest_holds FitsRun (is_named (codes "S")) (element_of c.in-Some.child) (elements_left c.next.new.self)
          (rw c.in-Some.ensures.steps at c.loop-child.invariant.fits);
    }
