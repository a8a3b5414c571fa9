-- The contents of a shelf.
use Rattle.std.specs.Prelude.{◌≡◌, ℕ, List, IfSome}
use Rattle.std.specs.BTreeMap.{get_by_text}
use Rattle.bridge_io.specs.Outside.{Files}
use Rattle.page_server.specs.declared.shelf.Shelf.{Shelf}
use Rattle.page_server.specs.Pages.{Page, Text}

abbrev pub on : Shelf → Files
on shelf file = get_by_text shelf.texts file

-- each text there is the page of its name
abbrev pub AreOf : (pages : List ℕ → Page) → Files → Type 0
AreOf pages texts = (file : List ℕ) → IfSome (texts file) (λ text. pages file ≡ Text text)
