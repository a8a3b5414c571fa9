-- Leading attributes of a text.
use Rattle.std.specs.Prelude.{ℕ, List}
use Rattle.hls_lines.specs.{Attributes.NameValue, declared.attributes.Found.Found}

abbrev pub found_of : Found → NameValue × List ℕ
found_of found = ((found.name.now, found.value.now), found.rest.now)
