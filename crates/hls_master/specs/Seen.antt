-- The meanings of values in memory.
use Rattle.std.specs.{Prelude.{ℕ, List}, Borrow.Bor}
use Rattle.bridge_io.specs.declared.place.Place.{Place}
use Rattle.hls_master.specs.Entries.{KnownLine, media, stream, address, refused, MasterEntry, rendition, variant, stray}
use Rattle.hls_master.specs.{declared.entry.Known.Known, declared.entry.Known.TheVariants.{Media, Stream, Uri, Refused}}
use Rattle.hls_master.specs.{declared.entry.Entry.Entry, declared.entry.Entry.TheVariants.{Rendition, Variant, Stray}}

abbrev pub line_seen : Known → KnownLine
line_seen (Media rest place) = media rest.now place
line_seen (Stream rest place) = stream rest.now place
line_seen (Uri text place) = address text.now place
line_seen (Refused fault) = refused fault

abbrev pub uri_seen : Bor (List ℕ) × Place → List ℕ × Place
uri_seen uri = (uri.0.now, uri.1)

abbrev pub entry_seen : Entry → MasterEntry
entry_seen (Rendition rest place) = rendition rest.now place
entry_seen (Variant rest place uri uri_place) = variant rest.now place uri.now uri_place
entry_seen (Stray fault) = stray fault
