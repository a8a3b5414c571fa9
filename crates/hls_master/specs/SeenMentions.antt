-- The meanings of mentions in memory.
use Rattle.std.specs.Prelude.{map}
use Rattle.hls_master.specs.{Mentions.MentionsValue, SeenTags.{rendition_seen, variant_seen}, declared.mentions.Mentions.Mentions}

abbrev pub mentions_seen : Mentions → MentionsValue
mentions_seen mentions = record {
  renditions = map rendition_seen mentions.renditions.items;
  variants = map variant_seen mentions.variants.items;
}
