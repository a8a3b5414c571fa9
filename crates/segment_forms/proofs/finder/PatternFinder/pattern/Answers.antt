use Rattle.segment_forms.proofs.finder.PatternFinder.pattern.Goals as goal

pub pattern_so_far-requires : goal.pattern_so_far-requires
pattern_so_far-requires c = rw c.as_str.ensures.value c.self.invariant.placed
