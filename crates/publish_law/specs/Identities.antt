-- Which segments a playlist has, by an ordered search.
use Rattle.std.specs.Prelude.{◌≡◌, ℕ, not, Bool, List, Option, option_map}
use Rattle.std.specs.{BTreeSet.contains, Cmp.Lexicographic.slice_cmp, List.list_any, Option.option_cmp, Ordering.{int_cmp, nat_cmp}}
use Rattle.std.specs.{declared.cmp.Ordering.Ordering, Ordering.ordering_then}
use Rattle.url_parts.specs.declared.range.Range.{Range}
use Rattle.hls_writer.specs.declared.items.MediaItem.{MediaItem}
use Rattle.publish_law.specs.{Joints.same_item, declared.listed.{Identity.Identity, Listed.Listed}}

-- the two numbers of a range
abbrev pub numbers_of : Option Range → Option (ℕ × ℕ)
numbers_of range = option_map (λ (r : Range). (r.first, r.count)) range

-- what makes a segment the same as another
pub record IsIdentity (item : MediaItem) (identity : Identity) : Type 0 where
  pub date : identity.date ≡ item.date
  pub address : identity.address.now ≡ item.address
  pub range : identity.range ≡ numbers_of item.range
  pub map : identity.map.now ≡ item.map.address
  pub map_range : identity.map_range ≡ numbers_of item.map.range

abbrev pub identity_of : MediaItem → Identity
identity_of item = record {
  date = item.date;
  address = record { ref_ptr = (0, 0); now = item.address };
  range = numbers_of item.range;
  map = record { ref_ptr = (0, 0); now = item.map.address };
  map_range = numbers_of item.map.range;
}

abbrev pub by_numbers : ℕ × ℕ → ℕ × ℕ → Ordering
by_numbers a b = ordering_then (nat_cmp a.0 b.0) (nat_cmp a.1 b.1)

-- the order of identities: by one field after another
abbrev pub by_identity : Identity → Identity → Ordering
by_identity a b = ordering_then (int_cmp a.date b.date) (ordering_then (slice_cmp nat_cmp a.address.now b.address.now)
    (ordering_then (option_cmp by_numbers a.range b.range) (ordering_then (slice_cmp nat_cmp a.map.now b.map.now)
    (option_cmp by_numbers a.map_range b.map_range))))

-- whether a segment is the same as one of them
abbrev pub has : Listed → MediaItem → Bool
has listed item = contains by_identity listed.identities (identity_of item)

abbrev pub is_new : Listed → MediaItem → Bool
is_new listed item = not (has listed item)

-- those of a playlist
pub record AreListed (listed : Listed) (items : List MediaItem) : Type 0 where
  pub same : (item : MediaItem) → has listed item ≡ list_any (same_item item) items
