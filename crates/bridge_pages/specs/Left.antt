-- The result of a run.
use Rattle.std.specs.Prelude.{ℕ, List}
use Rattle.bridge_pages.specs.declared.made.Made.{Made}
use Rattle.bridge_pages.specs.{Files.{files_at, report_at}, Runs.page_left}
use Rattle.page_server.specs.Pages.{Page}

-- the page under a name
abbrev pub page_at : Made → (file : List ℕ) → Page
page_at made file = page_left made.is_done (files_at made.store) (report_at made.report) file
