-- What means the same deviates from another alike.
use Rattle.differences.specs.declared.deviation.How.TheVariants as how
use Rattle.std.specs.Prelude.{◌≡◌, ℕ, false, List, map}
use Rattle.meaning.specs.{Meanings.Meaning, Same.SameTimed}
use Rattle.differences.specs.{Deviating.{deviations, tracks_greatest}, declared.deviation.Deviation.Deviation, declared.deviation.How.How}

-- how something differs, without the starts of segments, of which equal ends say nothing
abbrev pub without_start : How → How
without_start (how.Times start end) = how.Times (record { later = false; nanoseconds = 0 }) end
without_start other = other

abbrev pub without_starts : List Deviation → List Deviation
without_starts found = map (λ (d : Deviation). record d { how = without_start d.how }) found

-- Of two presentations with equal and valid times both differ from a third one at the same places and in the same way, apart from the
-- starts.
abbrev pub SameDeviateAlike : Type 0
SameDeviateAlike = (within unit : ℕ) (a b c : Meaning) → SameTimed b c
    → without_starts (deviations within unit a b) ≡ without_starts (deviations within unit a c)

-- and the ends of their segments by as much
abbrev pub SameGreatest : Type 0
SameGreatest = (a b c : Meaning) → SameTimed b c → tracks_greatest a.tracks b.tracks ≡ tracks_greatest a.tracks c.tracks
