-- What is kept of a track, side by side.
use Rattle.std.proofs.{Common.{◌≡◌, ℕ, zero, suc, List, [], ◌∷◌, length, Option, Some, None, refl, ap, arith}, lemmas.Grind.common_steps}
use Rattle.std.specs.Prelude.{slice_get}
use Rattle.hls_writer.specs.declared.items.MediaItem.{MediaItem}
use Rattle.live_meaning.specs.Segments.{Kept}
use Rattle.live_judge.specs.{declared.track.Fact.Fact, Shown.{kept_of, kepts_of}}

abbrev pub of_both : Option MediaItem → Option Fact → Option Kept
of_both None fact = None
of_both (Some item) None = None
of_both (Some item) (Some fact) = Some (kept_of item fact)

pub kept_there : (items : List MediaItem) (facts : List Fact) (k : ℕ) → slice_get (kepts_of items facts) k
    ≡ of_both (slice_get items k) (slice_get facts k)
kept_there [] facts k = refl
kept_there (i ∷ items) [] zero = refl
kept_there (i ∷ items) [] (suc k) = grind arith
kept_there (i ∷ items) (f ∷ facts) zero = refl
kept_there (i ∷ items) (f ∷ facts) (suc k) = kept_there items facts k

pub length-kepts : (items : List MediaItem) (facts : List Fact) → length items ≡ length facts → length (kepts_of items facts) ≡ length facts
length-kepts [] [] same = refl
length-kepts [] (f ∷ facts) same = absurd (omega (arith, same))
length-kepts (i ∷ items) [] same = refl
length-kepts (i ∷ items) (f ∷ facts) same = ap suc (length-kepts items facts (omega (arith, same)))

pub ruleset side_by_side = (common_steps, kept_there, length-kepts)
