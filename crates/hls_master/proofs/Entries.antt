-- Entries of lines that are read one by one.
use Rattle.std.proofs.Common.{◌≡◌, ℕ, List, [], ◌∷◌, Option, Some, None, IfNone, option_map, refl, ap}
use Rattle.hls_lines.specs.Lines.{PlaylistLine}
use Rattle.bridge_io.specs.declared.place.Place.{Place}
use Rattle.hls_master.specs.{declared.fault.MasterFault.TheVariants.Misplaced, Entries.{KnownLine, media, stream, address, refused}}
use Rattle.hls_master.specs.{Entries.{with_known, uri_in, MasterEntry, stray, known_lines, entries_of}, declared.entry.Known.Known}
use Rattle.hls_master.specs.Seen.{line_seen}

-- what follows a variant's tag is no URI
pub no_uri : (rest : List ℕ) (place : Place) (found : Option KnownLine) (before after : List KnownLine) → before ≡ with_known found after
    → (found ≡ None → after ≡ []) → None ≡ uri_in found
    → (others : List MasterEntry) × (entries_of (stream rest place ∷ before) ≡ stray (Misplaced place) ∷ others)
no_uri rest place None before after e end none = let nothing = end refl in ([], rw (e, nothing) refl)
no_uri rest place (Some (media r p)) before after e end none = (entries_of (media r p ∷ after), rw e refl)
no_uri rest place (Some (stream r p)) before after e end none = (entries_of (stream r p ∷ after), rw e refl)
no_uri rest place (Some (refused f)) before after e end none = (entries_of (refused f ∷ after), rw e refl)
no_uri rest place (Some (address t p)) before after e end none = cc

-- where no known line was found, none is left
pub none_left : (found : Option Known) (lines : List PlaylistLine) → IfNone found (lines ≡ []) → option_map line_seen found ≡ None
    → known_lines lines ≡ []
none_left None lines end e = ap known_lines end
none_left (Some known) lines end e = cc
