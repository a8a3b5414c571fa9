use Rattle.exact_time.proofs.rounder.Rounder.resume.Goals as goal

pub invariant_of-result : goal.invariant_of-result
invariant_of-result c = record {
  low = c.requires.low;
  high = c.requires.high;
  begun = c.requires.begun;
  floor_is = c.floor_unit.ensures.value;
}
