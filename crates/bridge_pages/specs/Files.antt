-- The contents of the store and the report of a run in memory.
use Rattle.std.specs.Prelude.{ℕ, List}
use Rattle.bridge_ends.specs.InMemory.{files_in, written_to}
use Rattle.bridge_io.specs.Outside.{Files}
use Rattle.bridge_pages.specs.declared.ends.{PageStore.PageStore, Report.Report}

abbrev pub files_at : PageStore → Files
files_at store = files_in store.files

abbrev pub report_at : Report → List ℕ
report_at report = written_to report.text
