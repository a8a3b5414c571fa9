-- The meanings of renditions and variants in memory.
use Rattle.std.specs.{Prelude.{ℕ, List, Option, option_map}, Borrow.Bor}
use Rattle.bridge_io.specs.declared.media.Ratio.{Ratio}
use Rattle.hls_master.specs.{Renditions.RenditionValue, Variants.{ShownValue, VariantValue}, declared.rendition.Rendition.Rendition}
use Rattle.hls_master.specs.{declared.variant.Shown.Shown, declared.variant.Variant.Variant}

abbrev pub text_seen : Option (Bor (List ℕ)) → Option (List ℕ)
text_seen text = option_map (λ text. text.now) text

abbrev pub rate_seen : Option Ratio → Option (ℕ × ℕ)
rate_seen rate = option_map (λ rate. (rate.n, rate.m)) rate

abbrev pub shown_seen : Shown → ShownValue
shown_seen one = record {
  codecs = text_seen one.codecs;
  size = one.size;
  frame_rate = rate_seen one.frame_rate;
}

abbrev pub rendition_seen : Rendition → RenditionValue
rendition_seen one = record {
  kind = one.kind;
  group = one.group.now;
  name = one.name.now;
  language = text_seen one.language;
  address = one.address;
}

abbrev pub variant_seen : Variant → VariantValue
variant_seen one = record {
  place = one.place;
  bandwidth = one.bandwidth;
  shown = shown_seen one.shown;
  audio = text_seen one.audio;
  subtitles = text_seen one.subtitles;
  address = one.address;
}
