-- Dates that are read can be written.
use Rattle.std.proofs.Common.{ℕ, ℤ, zero, suc, List, [], ◌∷◌, All, Option, Some, None, option_map, arith}
use Rattle.jiff_core.proofs.SignedLemmas.{signed_arith}
use Rattle.iso_time.specs.Instant.{IsReadable, IsWritable}
use Rattle.url_parts.specs.declared.address.Part.{Part}
use Rattle.hls_media.specs.declared.media.MediaSegment.{MediaSegment}
use Rattle.hls_writer.specs.declared.items.MediaItem.{MediaItem}
use Rattle.followed_text.specs.Followed.{item_with, items_of, with_item}

abbrev IsDated : MediaItem → Type 0
IsDated item = IsWritable item.date

writable : (date : ℤ) → IsReadable date → IsWritable date
writable date readable = (omega (arith, signed_arith, readable.0), omega (arith, signed_arith, readable.1))

with_first : (item : MediaItem) (items : List MediaItem) → IsDated item → All IsDated items → All IsDated (item ∷ items)
with_first item items first others zero d few = first
with_first item items first others (suc k) d few = others k d (omega arith)

with_map : (digits : ℕ) (segment : MediaSegment) (date : ℤ) (map : Option Part) (items : List MediaItem) → IsWritable date
    → All IsDated items → All IsDated (with_item (option_map (item_with digits segment date) map) items)
with_map digits segment date None items first others = others
with_map digits segment date (Some map) items first others = with_first (item_with digits segment date map) items first others

pub all_writable : (digits : ℕ) (segments : List MediaSegment) (dates : List ℤ) → All IsReadable dates
    → All (λ (item : MediaItem). IsWritable item.date) (items_of digits segments dates)
all_writable digits [] dates readable = λ k d few. absurd (omega arith)
all_writable digits (segment ∷ segments) [] readable = λ k d few. absurd (omega arith)
all_writable digits (segment ∷ segments) (date ∷ dates) readable =
    with_map digits segment date segment.map (items_of digits segments dates) (writable date (readable zero date (omega arith)))
    (all_writable digits segments dates (λ k d few. readable (suc k) d (omega arith)))
