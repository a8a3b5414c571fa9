-- What renditions and variants are made of, as the code has it.
use Rattle.std.specs.Prelude.{ℕ, List, Option, option_map}
use Rattle.track_hints.specs.declared.hints.Hints.{Hints}
use Rattle.presentation.specs.declared.track.Track.{Track}
use Rattle.hls_writer.specs.{Renditions.LaidOut, declared.master.Parts.Parts, declared.renditions.Layout.Layout}
use Rattle.hls_writer.specs.{Variants.{coded_text, variant_text}, declared.variants.Cast.Cast, declared.variants.Variant.Variant}

abbrev pub laid : Layout → LaidOut
laid layout = record {
  players = option_map (λ h. h.now) layout.players;
  tracks = layout.tracks.now;
  grouped = layout.grouped.now;
  keys = layout.keys.now;
  groups = layout.groups.now;
  members = layout.members.now;
  heads = layout.heads.now;
  texts = layout.texts.now;
}

-- the same of its parts
abbrev pub laid_by : Option Hints → (tracks grouped : List Track) → Parts → LaidOut
laid_by players tracks grouped parts = record {
  players = players;
  tracks = tracks;
  grouped = grouped;
  keys = parts.keys.items;
  groups = parts.groups;
  members = parts.members;
  heads = parts.heads.items;
  texts = parts.texts.items;
}

-- what is told for players
abbrev pub told_in : Cast → Option Hints
told_in cast = option_map (λ h. h.now) cast.players

-- the text of a variant
abbrev pub cast_text : Cast → Variant → List ℕ
cast_text cast v = variant_text (told_in cast) cast.tracks.now cast.groups.now cast.texts.now v

-- the same, given the codecs of its tracks
abbrev pub coded_cast_text : Cast → Option (List (List ℕ)) → Variant → List ℕ
coded_cast_text cast codes v = coded_text (told_in cast) cast.tracks.now cast.groups.now cast.texts.now codes v
