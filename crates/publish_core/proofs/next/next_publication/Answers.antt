use Rattle.publish_core.specs.declared.refusal.Stop.TheVariants.{ReadFault}
use Rattle.std.proofs.Common.{◌≡◌, ◌∙◌, true, rules, refl}
use Rattle.publish_law.specs.Plans.{published}
use Rattle.publish_core.specs.{Decisions.{named_fault, names_of, next_of, paired}, Refusals.stopped, Sides.are_same_tracks}
use Rattle.publish_core.proofs.{Refusing.fault_refused, Writable.writable_pairs}
use Rattle.publish_core.proofs.next.next_publication.Goals as goal

pub published_of-requires : goal.published_of-requires
published_of-requires c =
    let tracks : c.as_slice-5.result.now ≡ paired c.args.new.tracks c.args.served.tracks =
    c.as_slice-5.ensures ∙ c.in_ok-both.ensures.tracks in
    rw tracks (writable_pairs c.args.new.tracks c.args.served.tracks c.requires.new c.requires.served)

pub returns-in-Err-clause-decision : goal.returns-in-Err-clause-decision
unfolding next_of
returns-in-Err-clause-decision c =
    let new = c.args.new.tracks in
    let served = c.args.served.tracks in
    let names : c.as_slice-in-Err.result.now ≡ names_of new served = c.as_slice-in-Err.ensures ∙ c.in_ok-both.ensures.names in
    let tracks : c.as_slice-5.result.now ≡ paired new served = c.as_slice-5.ensures ∙ c.in_ok-both.ensures.tracks in
    let same : are_same_tracks new served ≡ true = search rules in
    fault_refused (stopped c.stop_of.result) c.in-Err.fault (named_fault c.args.new.file (names_of new served) c.in-Err.fault)
    (published c.args.job.now.options (paired new served)) (next_of c.args.job.now c.args.new c.args.served)
    (rw names at c.stop_of.ensures.told) (rw tracks at c.in-Err.ensures.publication) (λ read. rw (same, read) refl)

pub returns-in-Err-clause-no_fault : goal.returns-in-Err-clause-no_fault
returns-in-Err-clause-no_fault c = λ is. let same : c.stop_of.result ≡ ReadFault = cc in c.stop_of.ensures.no_fault same
