use Rattle.hls_master.proofs.codes.has_code.Goals as goal
use Rattle.std.proofs.Common.{◌∙◌, ◌≡◌, ◌==◌, ◌||◌, Bool, List, [], ◌∷◌, map, refl, ap, rules, tests, lit<, sym}
use Rattle.std.proofs.{lemmas.Iterator.Splits.YieldsList-from_str_split, lemmas.Iterator.Search.any_from_yields_List}
use Rattle.std.specs.List.{slice_split, list_any}
use Rattle.mpd_values.specs.{declared.blank.Blank.TheVariants.Space, Blanks.trimmed, Codecs.codes_of}
use Rattle.hls_master.specs.Codes.{has_code, is_of}

list_any-map : {X Y : Type 0} (p : X → Bool) (h : Y → X) (ys : List Y) → list_any p (map h ys) ≡ list_any (λ y. p (h y)) ys
list_any-map p h [] = refl
list_any-map p h (y ∷ ys) = ap (λ some. p (h y) || some) (list_any-map p h ys)

pub returns : goal.returns
unfolding codes_of has_code
returns c =
    any_from_yields_List (λ code. is_of c.args.kind (trimmed Space code)) _ _ _ c.any.ensures.ran
    (YieldsList-from_str_split 44 c.args.codes.now (lit< tt) c.split.ensures.text c.split.ensures.has_more c.split.ensures.pattern)
    (λ x b q k. search (rules, tests))
    ∙ sym (list_any-map (is_of c.args.kind) (trimmed Space) (slice_split (λ b. b == 44) c.args.codes.now))
