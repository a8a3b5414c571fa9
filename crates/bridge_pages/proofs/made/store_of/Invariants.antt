-- the files so far with those to come are all
use Rattle.std.proofs.Common.{◌≡◌, drop}
use Rattle.bridge_pages.specs.Files.{files_at}
use Rattle.bridge_pages.specs.Runs.{with_sources, files_read}
use Rattle.bridge_pages.proofs.made.store_of.Given as goal

abbrev pub invariant-loop-source : goal.invariant-loop-source
invariant-loop-source l = with_sources (drop l.source-index l.sources) (files_at l.store) ≡ files_read l.sources
