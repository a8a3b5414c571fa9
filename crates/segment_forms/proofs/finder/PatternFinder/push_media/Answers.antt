use Rattle.segment_forms.proofs.finder.PatternFinder.push_media.Goals as goal

pub pattern_so_far-pattern-requires : goal.pattern_so_far-pattern-requires
pattern_so_far-pattern-requires c = rw c.as_str-first.ensures.value c.self.invariant.placed
