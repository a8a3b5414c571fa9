-- After a first publication the same one changes nothing.
use Rattle.std.proofs.Common.{◌≡◌, ℕ, ◌+◌, ◌-◌, ◌<◌, Bool, true, false, ◌&&◌, List, [], ◌∷◌, All, length, map, get_or}
use Rattle.std.proofs.Common.{None, Ok, refl, sym, ◌∙◌, ap, subst, arith, inl, inr}
use Rattle.std.proofs.{lemmas.Bool.{cases_Bool, eq-eqb}, Math.Seq.drop-length}
use Rattle.std.proofs.lemmas.List.{Elements.{All-append, All-cons, All-head, All-map, All-nil, All-tail}}
use Rattle.std.proofs.lemmas.List.Sums.{list_all-from_AllPass}
use Rattle.std.specs.List.{list_all, list_any}
use Rattle.hls_writer.specs.declared.items.MediaItem.{MediaItem}
use Rattle.publish_law.specs.declared.{plan.{Options.Options, Plan.Plan}, track.Track.Track}
use Rattle.publish_law.specs.{Joints.joint_of, Plans.{change_of, first_place, has_other_digits, is_back}}
use Rattle.publish_law.specs.Plans.{is_new_ended, is_served_ended, long_from, plan_of, plan_with, published, share_of}
use Rattle.laws_of_publishing.specs.Laws.{StaysAsItIs}
use Rattle.laws_of_publishing.proofs.{Again.none_joined, Running.{last_there, same_itself}}
use Rattle.laws_of_mpds.specs.Written.{TracksAreOfBytes}
use Rattle.publish_core.specs.Decisions.{all_ended, new_file, paired}
use Rattle.publish_core.specs.Laws.{DecidedFirst, FirstAgainIsUnchanged, FirstFoldersAreRead, first_side}
use Rattle.publish_core.specs.{Names.{is_track_file, master_file, name_in}, Placed.all_placed}
use Rattle.publish_core.specs.declared.{job.PublishJob.PublishJob, side.SideTrack.SideTrack}
use Rattle.publish_core.proofs.{Elsewhere.{IsFileIn, others_kept, flat_track}, Few.few_in, FirstRead.{decided_first, track_files}}
use Rattle.publish_core.proofs.FirstFiles.{FirstParts, file_of_first, first, first_parts, same_first}
use Rattle.publish_core.proofs.{Going.new_taken, InOrder.side_in_order, Ordered.{IsInOrder, ReadIsInOrder}}
use Rattle.publish_core.proofs.Repeated.{IsStill, decides, next_again, refused_ended}
use Rattle.publish_core.proofs.{Stays.stays, Whole.{of_bytes, side_is}}

-- ---- a list with itself

-- nothing of a list is fresh where the same segments are served
module _ (items : List MediaItem) (some : 0 < length items) where
  pub nothing_fresh : ((joint_of items items).fresh ≡ 0) × ((joint_of items items).met ≡ true)
  nothing_fresh =
      let last = last_there items some in
      none_joined items items last.0 last.1.0 last.1.1 last.0 last.1.0 last.1.1 some some (same_itself last.0 last.0.section)

-- ---- tracks in which nothing is fresh

-- nothing is fresh in the track, whose served list is ended as all others are
pub record IsLevel (ended : Bool) (track : Track) : Type 0 where
  pub fresh : track.joint.fresh ≡ 0
  pub met : track.joint.met ≡ true
  pub digits : track.served.head.digits ≡ track.new.head.digits
  pub end : track.served.head.ended ≡ ended

module _ (ended : Bool) where
  same_digits : (place : ℕ) (tracks : List Track) → All (IsLevel ended) tracks → first_place has_other_digits place tracks ≡ None
  same_digits place [] all = refl
  same_digits place (track ∷ tracks) all =
      let here = All-head (IsLevel ended) track tracks all in
      rw (eq-eqb track.served.head.digits track.new.head.digits here.digits)
      (same_digits (place + 1) tracks (All-tail (IsLevel ended) track tracks all))

  none_long : (plan : Plan) (place : ℕ) (tracks : List Track) → (plan.cut ≡ false) → (plan.all ≡ false) → All (IsLevel ended) tracks
      → long_from plan place tracks ≡ None
  none_long plan place [] whole few all = refl
  none_long plan place (track ∷ tracks) whole few all =
      let here = All-head (IsLevel ended) track tracks all in
      let zero_is : length track.new.items - 0 ≡ length track.new.items = omega arith in
      rw (whole, few, here.fresh, zero_is, drop-length track.new.items)
      (none_long plan (place + 1) tracks whole few (All-tail (IsLevel ended) track tracks all))

  none_ended : (tracks : List Track) → ended ≡ false → All (IsLevel ended) tracks → list_any is_served_ended tracks ≡ false
  none_ended [] going all = refl
  none_ended (track ∷ tracks) going all =
      let here = (All-head (IsLevel ended) track tracks all).end ∙ going in
      rw here (none_ended tracks going (All-tail (IsLevel ended) track tracks all))

  not_back : (tracks : List Track) → list_all is_served_ended tracks ≡ false → All (IsLevel ended) tracks
      → list_all is_back tracks ≡ false
  not_back [] not_all all = absurd (cc)
  not_back (track ∷ tracks) not_all all = rw ((All-head (IsLevel ended) track tracks all).met) refl

stays_still : (plan : Plan) (track : Track) → plan.cut ≡ false → plan.all ≡ false → plan.ending ≡ false → track.joint.fresh ≡ 0
    → StaysAsItIs (change_of plan track)
stays_still plan track whole few going none = rw (whole, few, none, going) refl

-- a publication in which nothing comes
abbrev plan_still : List Track → Plan
plan_still tracks = plan_with false false (share_of false tracks)

module _ (options : Options) (tracks : List Track) (ended : Bool) (all : All (IsLevel ended) tracks)
    (ending : (options.end && list_all is_new_ended tracks) ≡ ended) where
  going_on : list_all is_served_ended tracks ≡ false → ended ≡ false
  going_on not_all = elim (cases_Bool ended) [
    | inr going ↦ going
    | inl ends ↦
        let each = list_all-from_AllPass is_served_ended tracks (λ k d within. (all k d within).end ∙ ends) in
        let never : true ≡ false = sym each ∙ not_all in absurd (cc)
  ]

  on_still : list_all is_served_ended tracks ≡ false → published options tracks ≡ Ok (record {
    course = (plan_still tracks).share.course;
    changes = map (change_of (plan_still tracks)) tracks;
  })
  unfolding published plan_of
  on_still not_all =
      let going = going_on not_all in
      rw (
        same_digits ended 0 tracks all,
        not_all,
        none_ended ended tracks going all,
        not_back ended tracks not_all all,
        ending,
        going,
        none_long ended (plan_still tracks) 0 tracks refl refl all,
      ) refl

  pub are_still : IsStill options tracks
  are_still = elim (cases_Bool (list_all is_served_ended tracks)) [
    | inl ends ↦ inl (refused_ended options tracks (same_digits ended 0 tracks all) ends)
    | inr not_all ↦ inr (
      _,
      (
        on_still not_all,
        All-map StaysAsItIs (change_of (plan_still tracks)) tracks
            (λ k d within. stays_still (plan_still tracks) (get_or tracks k d) refl refl refl (all k d within).fresh),
      ),
    )
  ]

-- ---- what is served first

module _ (job : PublishJob) (ended : Bool) where
  all_level : (tracks : List SideTrack) → All (λ (t : SideTrack). IsInOrder t.list) tracks
      → All (IsLevel ended) (paired tracks (map (first job ended) tracks))
  all_level [] order = All-nil (IsLevel ended)
  all_level (track ∷ tracks) order =
      let here = nothing_fresh track.list.items (All-head (λ (t : SideTrack). IsInOrder t.list) track tracks order).some in
      All-cons (IsLevel ended) _ _ (record { fresh = here.0; met = here.1; digits = refl; end = refl })
      (all_level tracks (All-tail (λ (t : SideTrack). IsInOrder t.list) track tracks order))

  new_ends : (tracks : List SideTrack) → list_all is_new_ended (paired tracks (map (first job ended) tracks)) ≡ all_ended tracks
  new_ends [] = refl
  new_ends (track ∷ tracks) = ap (λ (b : Bool). track.list.head.ended && b) (new_ends tracks)

-- ---- the same publication

files_in : (p : DecidedFirst) (parts : FirstParts p) → All (λ (t : SideTrack). is_track_file t.file ≡ true) p.new.tracks
    → All (IsFileIn p.job.served) p.decision.files
files_in p parts own =
    let ended = p.job.options.end && all_ended p.new.tracks in
    subst (All (IsFileIn p.job.served)) (sym parts.files)
    (All-append (IsFileIn p.job.served) (map (file_of_first p.job ended) p.new.tracks) (new_file parts.file p.new.text ∷ [])
    (All-map (IsFileIn p.job.served) (file_of_first p.job ended) p.new.tracks (λ k d within. record {
      own = (get_or p.new.tracks k d).file;
      flat = flat_track (get_or p.new.tracks k d).file (own k d within);
      name = (parts.each k d within).name;
    }))
    (All-cons (IsFileIn p.job.served) (new_file parts.file p.new.text) []
    (record { own = master_file; flat = refl; name = parts.file_is }) (All-nil (IsFileIn p.job.served))))

pub first_unchanged : ReadIsInOrder → TracksAreOfBytes → FirstFoldersAreRead → FirstAgainIsUnchanged
first_unchanged order tracks reads p pending proper pending_is =
    let ended = p.job.options.end && all_ended p.new.tracks in
    let parts = first_parts p (decided_first p) in
    let news = side_is (of_bytes tracks) p.job.new p.files p.new (name_in p.job.new master_file) refl p.new_is in
    let after = all_placed pending p.decision.files p.files in
    let served = first_side p.job p.new in
    let served_is = reads p pending proper.target pending_is in
    let kept = others_kept p.job.served p.job.new pending p.decision.files p.files proper.apart pending_is
    (files_in p parts (track_files p.new.tracks news.is.apart)) in
    let new_is = stays p.job.new p.files after kept (name_in p.job.new master_file) p.new refl p.new_is in
    let level = all_level p.job ended p.new.tracks (side_in_order order p.job.new p.files (name_in p.job.new master_file) p.new p.new_is) in
    let still = are_still p.job.options (paired p.new.tracks served.tracks) ended level
    (ap (λ (b : Bool). p.job.options.end && b) (new_ends p.job ended p.new.tracks)) in
    decides p.job after p.new served new_is (new_taken p.job p.files p.new p.decision p.new_is p.is).holds served_is
    ∙ next_again p.job p.new served (same_first p.job ended p.new.tracks) refl
    (few_in p.job.served after (name_in p.job.served master_file) served served_is) still
