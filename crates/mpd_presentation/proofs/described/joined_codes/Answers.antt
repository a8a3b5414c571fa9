use Rattle.mpd_presentation.proofs.described.joined_codes.Goals as goal
use Rattle.std.proofs.{Common.{◌≡◌, ◌++◌, ◌∷◌, [], map, ap, ◌∙◌, sym, lit<, rules, true, false, if◌then◌else◌}, lemmas.Str.encode_ascii}
use Rattle.std.proofs.{lemmas.Iterator.Splits.YieldsList-from_str_split, lemmas.Iterator.Consumers.YieldsList-end}
use Rattle.std.specs.String.{string_bytes}
use Rattle.mpd_values.specs.{declared.blank.Blank.TheVariants.Space, Blanks.trimmed, Codecs.codes_of}
use Rattle.mpd_presentation.specs.Rows.{with_commas}
use Rattle.mpd_presentation.proofs.Joining.{code_pushed, is_nil, not_nil, seen_twice}
use Rattle.mpd_presentation.proofs.described.joined_codes.Goals.{then-not-is_first+in_ok-push, else-not-is_first}

pub loop-code-preserved : goal.loop-code-preserved
loop-code-preserved c =
    let old = string_bytes c.loop-code.joined in
    let before : string_bytes c.if-not-is_first.joined ≡ (if is_nil c.loop-code.yielded then old else old ++ 44 ∷ []) =
    rw (← c.loop-code.invariant.first) (elim c.if-not-is_first.branch [
      | then-not-is_first+in_ok-push w ↦
          (let first : c.loop-code.is_first ≡ false = search rules in
          rw first (ap string_bytes w.joined-is ∙ w.in_ok-push.ensures.bytes
          ∙ ap (λ xs. string_bytes c.loop-code.joined ++ xs) (encode_ascii 44 (lit< tt))))
      | else-not-is_first w ↦
          (let first : c.loop-code.is_first ≡ true = search rules in rw first (ap string_bytes w.joined-is))
    ]) in
    record {
      joined = code_pushed (λ text. trimmed Space text.now) c.loop-code.yielded c.in-Some.code old _ c.loop-code.invariant.joined
          (c.in_ok-push_str.ensures.bytes ∙ ap (λ xs. xs ++ c.trimmed.result.now) before
          ∙ ap (λ xs. (if is_nil c.loop-code.yielded then old else old ++ 44 ∷ []) ++ xs) c.trimmed.ensures);
      first = sym (not_nil c.loop-code.yielded c.in-Some.code);
    }

pub returns : goal.returns
unfolding codes_of
returns c =
    let end = YieldsList-end (YieldsList-from_str_split {s = c.into_iter-code-iterator.result} 44 c.args.codecs.now (lit< tt) (cc) (cc)
    (cc)) c.loop-code.yielded _ c.loop-code.yielded_by _ _ c.in-None.is c.next.ensures.steps in
    c.from.ensures ∙ c.loop-code.invariant.joined ∙ ap with_commas (seen_twice (trimmed Space) (λ text. text.now) c.loop-code.yielded
    ∙ ap (map (trimmed Space)) end.0)
