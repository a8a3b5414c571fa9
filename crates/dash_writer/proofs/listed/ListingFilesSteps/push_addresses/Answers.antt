use Rattle.dash_writer.proofs.listed.ListingFilesSteps.push_addresses.Goals as goal
use Rattle.std.proofs.Common.{List, [], ◌∷◌, ◌++◌, ap, sym, ◌∙◌, append_assoc}
use Rattle.std.specs.{List.list_all, Prelude.is_some}
use Rattle.url_parts.specs.declared.address.Part.{Part}
use Rattle.timeline.specs.Listed.{IsMade}
use Rattle.dash_writer.specs.Forms.{addresses_of, is_whole}
use Rattle.dash_writer.proofs.Urls.{first_part, first_whole, parts_left, still_addressed}

pub loop-segment-preserved : goal.loop-segment-preserved
loop-segment-preserved g c = let l = c.loop-segment in let new = c.next_segment.new.listing in let made = c.in-Some.segment in
    let next : IsMade l.self made new = rw c.in-Some.is at c.in_ok-segment.ensures in
    let parts = first_part l.self new made next in let rest = parts_left new in
    let whole = ap is_some (sym c.range.ensures) ∙ sym c.is_some.ensures ∙ c.if-is_some.false in
    record {
      addressed = still_addressed l.self new made next l.invariant.addressed;
      whole = sym (ap (list_all is_whole) parts ∙ first_whole made.part rest whole) ∙ l.invariant.whole;
      given = rw c.in_ok-push.ensures.ok (append_assoc l.finder (c.as_str.result.now ∷ []) (addresses_of rest)
          ∙ ap (λ address. l.finder ++ (address ∷ addresses_of rest)) (c.as_str.ensures.text ∙ c.address.ensures)
          ∙ sym (ap (λ (ps : List Part). l.finder ++ addresses_of ps) parts) ∙ l.invariant.given);
    }
