use Rattle.std.proofs.Common.{◌≡◌, ℕ, ◌<◌, Bool, true, false, ◌&&◌, ◌||◌, List, length, refl, sym, ◌∙◌, arith}
use Rattle.std.proofs.{lemmas.Bool.true≢false, lemmas.Bool.Decides.nat_tests}
use Rattle.std.specs.{Prelude.nat_lt, List.list_all}
use Rattle.bridge_io.specs.Names.{is_name}
use Rattle.url_parts.specs.Paths.{is_plain, is_segment_byte}
use Rattle.url_parts.proofs.base.is_plain.Goals as goal

second : (x y z : Bool) → x ≡ false → y ≡ true → (x || (y && z)) ≡ z
second true y z isnt is = absurd (true≢false isnt)
second false true z isnt is = refl
second false false z isnt is = absurd (true≢false (sym is))

long_is : (text : List ℕ) → is_name text ≡ false → nat_lt 255 (length text) ≡ true → list_all is_segment_byte text ≡ is_plain text
long_is text named long = sym (second (is_name text) (nat_lt 255 (length text)) (list_all is_segment_byte text) named long)

pub returns-then-text-gt-MAX_NAME_LEN : goal.returns-then-text-gt-MAX_NAME_LEN
returns-then-text-gt-MAX_NAME_LEN c =
    let above : 255 < length c.args.text.now = omega arith in
    let long : nat_lt 255 (length c.args.text.now) ≡ true = grind (arith, nat_tests) in
    c.has_segment_bytes.ensures ∙ long_is c.args.text.now (sym c.is_name.ensures ∙ c.if-is_name.false) long
