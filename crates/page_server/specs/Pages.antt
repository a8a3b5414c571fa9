-- What is read for a manifest, and the pages that are made from it.
use Rattle.page_server.specs.declared.maker.Page.TheVariants as told
use Rattle.page_server.specs.declared.workshop.Held.TheVariants as kept
use Rattle.std.specs.Prelude.{ℕ, List, Result}
use Rattle.bridge_io.specs.{Outside.Files, Slurped.Unread}
use Rattle.page_server.specs.declared.maker.{Manifest.Manifest, Page.Page as Told, SourceFile.SourceFile}
use Rattle.page_server.specs.declared.workshop.Held.{Held}

-- what is made under one name: a text, nothing, or a line that says why the manifest is rejected
pub data Page : Type 0 where
  Text : List ℕ → Page
  Missing : Page
  Refused : List ℕ → Page
  deriving IsSet as Page-set

abbrev pub shown : Told → Page
shown (told.Text text) = Text text.now
shown told.Missing = Missing
shown (told.Refused line) = Refused line.now

abbrev pub held : Held → Page
held (kept.Text text) = Text text
held kept.Missing = Missing
held (kept.Refused line) = Refused line

-- how pages are made: what is read of the files for a manifest under a base, and the page under a name that is made from it
pub record Making : Type 0 where
  pub sources_of : (base manifest : List ℕ) → Files → Result (List SourceFile) Unread
  pub page_of : Manifest → (file : List ℕ) → Page
