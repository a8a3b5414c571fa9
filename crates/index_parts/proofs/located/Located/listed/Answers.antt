use Rattle.index_parts.specs.Located.{listed_at, read_of}
use Rattle.index_parts.proofs.located.Located.listed.Goals as goal

pub returns-in-Ok-clause-listed : goal.returns-in-Ok-clause-listed
unfolding listed_at read_of
returns-in-Ok-clause-listed g c = λ files told. rw (c.in-Ok.ensures.part files told, ← c.as_slice.ensures) c.listed_in.ensures.listed
