-- How the bridge makes pages, and what it holds.
use Rattle.std.specs.Prelude.{ℕ, Bool, List, Option, Some, None}
use Rattle.page_server.specs.Pages.{Making, Page, Missing}
use Rattle.bridge_pages.specs.declared.made.Made.{Made}
use Rattle.bridge_pages.specs.{Left.page_at, Runs.{page_of_manifest, verb_of}, Sources.sources_of}

-- for MPDs whose media files have a `sidx`, or for others, and for live ones at a time
abbrev pub making_of : (indexed : Bool) → (now : Option (List ℕ)) → Making
making_of indexed now = record {
  sources_of = λ base manifest files. sources_of (verb_of indexed manifest) base manifest files;
  page_of = λ manifest file. page_of_manifest indexed now manifest file;
}

-- the page under a name, of what was made last
abbrev pub held : Option Made → (file : List ℕ) → Page
held (Some made) file = page_at made file
held None file = Missing
