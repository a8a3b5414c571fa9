-- Closed captions in video streams, by the schemes of Accessibility for CEA-608 and CEA-708: SCTE 214-1.
use Rattle.std.specs.{Prelude.{◌&&◌, ◌||◌, Bool, codes, Option, None}, List.list_any}
use Rattle.bridge_io.specs.{declared.media.Kind.Kind, declared.media.Kind.TheVariants.Video}
use Rattle.mpd_tree.specs.{Trees.Element, Views.side_by_side}
use Rattle.mpd_profile.specs.Heads.{is_named}
use Rattle.mpd_rules.specs.{Kept.{periods_of, representations_of, sets_of}, Typed.kind_in}
use Rattle.presentation.specs.Order.{is_of}
use Rattle.mpd_hints.specs.Tracks.{has_scheme, kind_over}

abbrev pub is_caption : Element → Bool
is_caption e =
    is_named (codes "Accessibility") e
    && (has_scheme (codes "urn:scte:dash:cc:cea-608:2015") e || has_scheme (codes "urn:scte:dash:cc:cea-708:2015") e)

abbrev pub is_video : Option Kind → (representation : Element) → Bool
is_video kind e = is_of Video (kind_over kind e)

-- a kept Representation of the set is video
abbrev pub has_video : (set : Element) → Bool
has_video set = list_any (is_video (kind_in None set)) (representations_of set)

abbrev pub is_captioned : (set : Element) → Bool
is_captioned set = list_any is_caption (side_by_side set.children) && has_video set

abbrev pub has_captions_in : (period : Element) → Bool
has_captions_in period = list_any is_captioned (sets_of period)

abbrev pub has_captions : (mpd : Element) → Bool
has_captions mpd = list_any has_captions_in (periods_of mpd)
