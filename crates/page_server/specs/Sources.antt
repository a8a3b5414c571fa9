-- Whether two readings are the same.
use Rattle.std.specs.Prelude.{◌&&◌, Bool, true, false, List, [], ◌∷◌, bytes_eq}
use Rattle.page_server.specs.declared.maker.{Manifest.Manifest, SourceFile.SourceFile}

abbrev pub is_same : SourceFile → SourceFile → Bool
is_same a b = bytes_eq a.name b.name && bytes_eq a.bytes b.bytes

abbrev pub are_same : List SourceFile → List SourceFile → Bool
are_same [] [] = true
are_same [] (b ∷ others) = false
are_same (a ∷ rest) [] = false
are_same (a ∷ rest) (b ∷ others) = is_same a b && are_same rest others

-- a manifest was read as another one was
abbrev pub is_same_manifest : Manifest → Manifest → Bool
is_same_manifest a b = bytes_eq a.base b.base && bytes_eq a.name b.name && are_same a.files b.files
