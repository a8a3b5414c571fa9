-- The meanings of mentions and tracks in memory.
use Rattle.hls_master.specs.{SeenTags.{rate_seen, rendition_seen, variant_seen}, Tracks.{Mentioned, by_rendition, by_variant, TrackValue}}
use Rattle.hls_master.specs.{declared.mention.Mention.Mention, declared.mention.Mention.TheVariants.{Rendition, Variant}}
use Rattle.hls_master.specs.declared.track.MasterTrack.{MasterTrack}

abbrev pub mention_seen : Mention → Mentioned
mention_seen (Rendition one) = by_rendition (rendition_seen one.now)
mention_seen (Variant one) = by_variant (variant_seen one.now)

abbrev pub track_seen : MasterTrack → TrackValue
track_seen one = record {
  kind = one.kind;
  set = one.set;
  address = one.address;
  language = one.language;
  codecs = one.codecs;
  bandwidth = one.bandwidth;
  size = one.size;
  frame_rate = rate_seen one.frame_rate;
}
