-- A publication in which no list changes.
use Rattle.publish_law.specs.declared.fault.PublishFault.TheVariants as fault
use Rattle.std.proofs.Common.{◌≡◌, ◌⊎◌, ℕ, ◌≤◌, Bool, true, false, ◌&&◌, not, List, [], ◌∷◌, All}
use Rattle.std.proofs.Common.{Option, Some, None, Result, Ok, Err, refl, sym, ◌∙◌, ap, inl, inr, arith}
use Rattle.std.proofs.lemmas.{Bool.{and_parts, cases_Bool, le-ltb}, Slice.Eq.bytes_eq-Decides, List.Elements.{All-head, All-tail}}
use Rattle.std.proofs.lemmas.List.Sums.{sum_by-cons}
use Rattle.std.specs.List.{list_all, list_any}
use Rattle.bridge_io.specs.{Answer.and_then, Outside.Files}
use Rattle.publish_law.specs.declared.{fault.PublishFault.PublishFault, plan.{Options.Options, Plan.Plan, Publication.Publication}}
use Rattle.publish_law.specs.declared.track.{Change.Change, Track.Track}
use Rattle.publish_law.specs.{Plans.{first_place, has_other_digits, is_back, is_served_ended, long_from}}
use Rattle.publish_law.specs.Plans.{plan_after, plan_live, plan_of, published, published_by, unless_long}
use Rattle.laws_of_publishing.specs.Laws.{StaysAsItIs}
use Rattle.laws_of_publishing.proofs.Planned.{planned_of}
use Rattle.publish_core.specs.Decisions.{all_ended, changed_files, decision_of, is_there, names_of, next_of, paired}
use Rattle.publish_core.specs.Decisions.{segments_after}
use Rattle.publish_core.specs.{Laws.nothing_new, Names.{master_file, name_in}, Taken.is_taken}
use Rattle.publish_core.specs.Sides.{are_same_tracks, is_same_track, segment_limit, segments_of, side_at}
use Rattle.publish_core.specs.declared.{decision.NewFile.NewFile, job.PublishJob.PublishJob, next.FileNames.FileNames}
use Rattle.publish_core.specs.declared.side.{Side.Side, SideTrack.SideTrack}
use Rattle.publish_core.proofs.{Read.{count_of, reading_of}, Served.content}

-- ---- lists that are ended

module _ (options : Options) (tracks : List Track) where
  live_ended : plan_live options tracks ≡ Err fault.Ended → list_all is_served_ended tracks ≡ true
  live_ended is = elim (cases_Bool (list_all is_served_ended tracks)) [
    | inl ended ↦ ended
    | inr not_all ↦ elim (cases_Bool (list_any is_served_ended tracks)) [
      | inl some ↦ let never = rw (not_all, some) at is in absurd (cc)
      | inr going ↦ elim (cases_Bool (list_all is_back tracks && not options.back)) [
        | inl back ↦ let never = rw (not_all, going, back) at is in absurd (cc)
        | inr on ↦ let never = rw (not_all, going, on) at is in absurd (cc)
      ]
    ]
  ]

  after_ended : (place : Option ℕ) → plan_after options tracks place ≡ Err fault.Ended → list_all is_served_ended tracks ≡ true
  after_ended (Some track) is = absurd (cc)
  after_ended None is = live_ended is

  not_long : (long : Option (ℕ × ℕ)) (plan : Plan) → unless_long long plan tracks ≡ Err fault.Ended → ⊥
  not_long None plan is = cc
  not_long (Some at) plan is = cc

  plan_ended : (r : Result Plan PublishFault) → plan_of options tracks ≡ r → and_then r (published_by tracks) ≡ Err fault.Ended
      → list_all is_served_ended tracks ≡ true
  unfolding plan_of
  plan_ended (Ok plan) of is = absurd (not_long (long_from plan 0 tracks) plan is)
  plan_ended (Err f) of is = let same : f ≡ fault.Ended = cc in
      after_ended (first_place has_other_digits 0 tracks) (of ∙ ap Err same)

  all_are_ended : published options tracks ≡ Err fault.Ended → list_all is_served_ended tracks ≡ true
  unfolding published
  all_are_ended is = plan_ended (plan_of options tracks) refl is

  pub refused_ended : first_place has_other_digits 0 tracks ≡ None → list_all is_served_ended tracks ≡ true
      → published options tracks ≡ Err fault.Ended
  unfolding published plan_of
  refused_ended digits ended = rw (digits, ended) refl

  not_ended : (publication : Publication) → published options tracks ≡ Ok publication → list_all is_served_ended tracks ≡ false
  not_ended publication is = elim (cases_Bool (list_all is_served_ended tracks)) [
    | inr some ↦ some
    | inl ended ↦
        let never = sym is ∙ refused_ended (planned_of options tracks publication is).digits ended in absurd (cc)
  ]

ended_pairs : (news olds : List SideTrack) → are_same_tracks news olds ≡ true
    → list_all is_served_ended (paired news olds) ≡ all_ended olds
ended_pairs [] [] same = refl
ended_pairs [] (old ∷ olds) same = absurd (cc)
ended_pairs (new ∷ news) [] same = absurd (cc)
ended_pairs (new ∷ news) (old ∷ olds) same =
    ap (λ (b : Bool). old.list.head.ended && b)
    (ended_pairs news olds (and_parts (is_same_track new old) (are_same_tracks news olds) same).1)

-- ---- no list changes

none_changed : (files : List NewFile) (names : List FileNames) (changes : List Change) → All StaysAsItIs changes
    → changed_files files names changes ≡ Ok files
none_changed files [] changes all = refl
none_changed files (n ∷ names) [] all = refl
none_changed files (n ∷ names) (change ∷ changes) all =
    let none : change.list ≡ None = All-head StaysAsItIs change changes all in
    rw none (none_changed files names changes (All-tail StaysAsItIs change changes all))

none_more : (news olds : List SideTrack) (changes : List Change) → All StaysAsItIs changes
    → segments_after (paired news olds) changes ≤ segments_of olds
none_more [] olds changes all = omega arith
none_more (new ∷ news) [] changes all = omega arith
none_more (new ∷ news) (old ∷ olds) [] all = omega arith
none_more (new ∷ news) (old ∷ olds) (change ∷ changes) all =
    let none : change.list ≡ None = All-head StaysAsItIs change changes all in
    let rest = none_more news olds changes (All-tail StaysAsItIs change changes all) in
    rw none (omega (arith, rest, sum_by-cons count_of old olds))

-- the lists are ended, or none changes
abbrev pub IsStill : Options → List Track → Type 0
IsStill options tracks = (published options tracks ≡ Err fault.Ended)
    ⊎ ((again : Publication) × ((published options tracks ≡ Ok again) × All StaysAsItIs again.changes))

module _ (job : PublishJob) (new served : Side) (same : are_same_tracks new.tracks served.tracks ≡ true) where
  when_ended : published job.options (paired new.tracks served.tracks) ≡ Err fault.Ended
      → next_of job new served ≡ nothing_new new served.tracks
  unfolding next_of
  when_ended is =
      let ended = sym (ended_pairs new.tracks served.tracks same) ∙ all_are_ended job.options (paired new.tracks served.tracks) is in
      rw (same, is, ended) refl

  when_still : (again : Publication) → published job.options (paired new.tracks served.tracks) ≡ Ok again → All StaysAsItIs again.changes
      → new.text ≡ served.text → segments_of served.tracks ≤ segment_limit → next_of job new served ≡ nothing_new new served.tracks
  unfolding next_of
  when_still again is still text few =
      let going = sym (ended_pairs new.tracks served.tracks same) ∙ not_ended job.options (paired new.tracks served.tracks) again is in
      let none = none_changed [] (names_of new.tracks served.tracks) again.changes still in
      let count = segments_after (paired new.tracks served.tracks) again.changes in
      let less : count ≤ segment_limit = omega (arith, few, none_more new.tracks served.tracks again.changes still) in
      rw (same, is, going, none, le-ltb segment_limit count less, (bytes_eq-Decides new.text served.text).1 text) refl

  pub next_again : new.text ≡ served.text → segments_of served.tracks ≤ segment_limit
      → IsStill job.options (paired new.tracks served.tracks) → next_of job new served ≡ nothing_new new served.tracks
  next_again text few (inl ended) = when_ended ended
  next_again text few (inr again) = when_still again.0 again.1.0 again.1.1 text few

-- ---- the decision

pub is_where_read : (folder : List ℕ) (files : Files) (file : Option (List ℕ)) (side : Side) → side_at folder files file ≡ Ok side
    → is_there files file ≡ true
is_where_read folder files None side is = absurd (cc)
is_where_read folder files (Some file) side is =
    let read = reading_of folder file files side is in
    rw (content file files side.text read.content).there refl

pub decides : (job : PublishJob) (files : Files) (new served : Side) → side_at job.new files (name_in job.new master_file) ≡ Ok new
    → is_taken job new ≡ true → side_at job.served files (name_in job.served master_file) ≡ Ok served
    → decision_of job files ≡ next_of job new served
unfolding decision_of
decides job files new served new_is taken served_is =
    let there = is_where_read job.served files (name_in job.served master_file) served served_is in
    rw (new_is, taken, there, served_is) refl
