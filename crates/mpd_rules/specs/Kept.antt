-- The kept Periods, AdaptationSets and Representations, in document order, and what is dropped.
use Rattle.mpd_profile.specs.declared.listed.Listed.TheVariants as listed
use Rattle.std.specs.Prelude.{ℕ, ◌+◌, ◌&&◌, not, Bool, List, [], ◌∷◌, ◌++◌, map, filter, sum_by, count_by, codes, Some}
use Rattle.mpd_tree.specs.{Trees.{Head, Element}, Views.side_by_side}
use Rattle.mpd_profile.specs.{declared.listed.Listed.Listed, Heads.is_named, LeftOut.is_left_out}

-- ---- the children of one name

abbrev pub is_kept : Listed → List ℕ → Head → Element → Bool
is_kept listed name parent e = is_named name e && not (is_left_out parent (Some listed) e)

abbrev pub is_left : Listed → List ℕ → Head → Element → Bool
is_left listed name parent e = is_named name e && is_left_out parent (Some listed) e

abbrev pub kept_children : Listed → List ℕ → Element → List Element
kept_children listed name parent = filter (is_kept listed name parent.head) (side_by_side parent.children)

abbrev pub left_children : Listed → List ℕ → Element → ℕ
left_children listed name parent = count_by (is_left listed name parent.head) (side_by_side parent.children)

abbrev pub periods_of : Element → List Element
periods_of mpd = kept_children listed.Period (codes "Period") mpd

abbrev pub sets_of : Element → List Element
sets_of period = kept_children listed.AdaptationSet (codes "AdaptationSet") period

abbrev pub representations_of : Element → List Element
representations_of set = kept_children listed.Representation (codes "Representation") set

-- ---- Representations with their context

-- a Representation in its Period and its AdaptationSet, with the latter's index among the kept ones
pub record Path : Type 0 where
  pub mpd : Element
  pub period : Element
  pub set : Element
  pub place : ℕ
  pub representation : Element

-- from the lowest one on
abbrev pub levels_of : Path → List Element
levels_of path = path.representation ∷ path.set ∷ path.period ∷ []

abbrev pub path_in : (mpd period set : Element) → ℕ → Element → Path
path_in mpd period set place representation = record {
  mpd = mpd;
  period = period;
  set = set;
  place = place;
  representation = representation;
}

abbrev pub paths_in : (mpd period : Element) → ℕ → List Element → List Path
paths_in mpd period place [] = []
paths_in mpd period place (set ∷ sets) = map (path_in mpd period set place) (representations_of set) ++ paths_in mpd period (place + 1) sets

-- those of a Period
abbrev pub paths_of : (mpd period : Element) → List Path
paths_of mpd period = paths_in mpd period 0 (sets_of period)

-- ---- what is dropped: each AdaptationSet once, and each Representation of a kept AdaptationSet once

abbrev pub left_in_set : Element → ℕ
left_in_set set = left_children listed.Representation (codes "Representation") set

abbrev pub left_in_period : Element → ℕ
left_in_period period = left_children listed.AdaptationSet (codes "AdaptationSet") period + sum_by left_in_set (sets_of period)

abbrev pub left_out_in : Element → ℕ
left_out_in mpd = sum_by left_in_period (periods_of mpd)
