use Rattle.std.proofs.Common.{◌≡◌, suc, ◌+◌, ◌-◌, ◌++◌, ◌∷◌, [], ◌∙◌, append_assoc, ap, arith, length, rules, sym}
use Rattle.std.proofs.lemmas.List.{append-nil}
use Rattle.differences.specs.Collecting.{of_next_track}
use Rattle.differences.specs.Contents.{contents_noted, greatest_of, tracks_of_both}
use Rattle.differences.proofs.Places.{greatest_is, next_track}
use Rattle.differences.proofs.contents.Both.add_tracks.Goals as goal

pub returns-clause-greatest : goal.returns-clause-greatest
returns-clause-greatest g c =
    let both = c.args.self.now in let n = tracks_of_both both in let t = c.loop-track.track in
    let none : n - t ≡ 0 = omega (arith, ap length c.tracks.ensures, ap length c.tracks-2.ensures) in
    sym (c.loop-track.invariant.greatest ∙ ap (λ k. c.loop-track.greatest ++ greatest_of both t k) none ∙ append-nil c.loop-track.greatest)

pub returns-clause-found : goal.returns-clause-found
returns-clause-found g c =
    let both = c.args.self.now in let n = tracks_of_both both in let t = c.loop-track.track in
    let none : n - t ≡ 0 = omega (arith, ap length c.tracks.ensures, ap length c.tracks-2.ensures) in
    sym (c.loop-track.invariant.found ∙ ap (λ k. contents_noted both t k c.loop-track.found) none)

pub loop-track-preserved : goal.loop-track-preserved
loop-track-preserved g c =
    let both = c.args.self.now in let n = tracks_of_both both in let t = c.loop-track.track in let m = n - (t + 1) in
    let before = c.loop-track.found in let sides = c.requires.sides in let none = c.loop-track.invariant.none in
    let split : n - t ≡ suc m = omega (arith, ap length c.tracks.ensures, ap length c.tracks-2.ensures) in
    let pushed : c.push.new.self ≡ c.loop-track.greatest ++ c.take_greatest.result ∷ [] = search rules in
    let taken = c.take_greatest.ensures.greatest ∙ ap (λ d. d.greatest) c.in_ok-add_track.ensures
    ∙ greatest_is both sides t m before none in
    record {
      found = c.loop-track.invariant.found ∙ ap (λ k. contents_noted both t k before) split ∙ next_track both sides t m before none
          ∙ ap (contents_noted both (t + 1) m) (sym (c.take_greatest.ensures.next ∙ ap of_next_track c.in_ok-add_track.ensures));
      greatest = c.loop-track.invariant.greatest ∙ ap (λ k. c.loop-track.greatest ++ greatest_of both t k) split
          ∙ ap (λ x. c.loop-track.greatest ++ x ∷ greatest_of both (t + 1) m) (sym taken)
          ∙ sym (append_assoc c.loop-track.greatest (c.take_greatest.result ∷ []) (greatest_of both (t + 1) m))
          ∙ ap (λ xs. xs ++ greatest_of both (t + 1) m) (sym pushed);
      none = ap (λ d. d.greatest) c.take_greatest.ensures.next;
    }
