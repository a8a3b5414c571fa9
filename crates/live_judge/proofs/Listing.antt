-- An update whose MPD is judged.
use Rattle.live_judge.specs.declared.coming.Coming.TheVariants as comes
use Rattle.std.proofs.Common.{◌≡◌, ℕ, suc, ◌≤◌, ◌||◌, Bool, true, false, ℤ, pos, List, [], ◌∷◌, ◌++◌, length, map, Option, Some, None, Ok}
use Rattle.std.proofs.{Common.{Err, Result, refl, sym, ◌∙◌, ap, subst, arith}, lemmas.Bool.and_parts, lemmas.Int.ints}
use Rattle.std.proofs.{lemmas.List.{length-map, append-nil, append_assoc}, lemmas.Option.cond_some}
use Rattle.std.specs.{Prelude.{IfSome, IsSome, flat_map, int_lt, option_map, unwrap_or, if◌then◌else◌, is_some}, Option.option_map_or}
use Rattle.mpd_rules.specs.Views.{segments_mpd}
use Rattle.presentation.specs.{declared.fault.PresentationFault.PresentationFault, declared.track.Track.Track as Described}
use Rattle.presentation.specs.Counting.{count_at, range_at, range_by, range_faults, range_faults_of, sections_of, tracks_of, unless_any}
use Rattle.presentation.specs.{Presented.{Following, Presented, at_instant, looked_at, is_finished}, Laws.EndsAreCounted}
use Rattle.mpd_presentation.specs.{PresentedLaws.{PresentedAreFew, PresentedAreFollowed}, Told.presented_of}
use Rattle.timeline.specs.declared.fault.TimeFault.{TimeFault}
use Rattle.live_meaning.specs.{Updates.{Values, is_reset, mpd_of, Refresh, Reset, Tick, Update}, Known.{Known, ids_of, known_with}}
use Rattle.live_meaning.specs.Histories.{Common, availability_start_of, common_with}
use Rattle.live_meaning.specs.{Refusals.{Presentation, Refusal, are_alike, ids_in, is_alike}, States.State}
use Rattle.live_judge.specs.{declared.coming.Coming.Coming, declared.standing.Standing.Standing, declared.track.LiveTrack.LiveTrack}
use Rattle.live_judge.specs.Changed.{IsPlaceBy, IsPlaceOf, listed_told, AreUnmoved}
use Rattle.live_judge.specs.Coming.{Comes, update_of, IsNext, IsQuiet, p_of, timed_told, told_before}
use Rattle.live_judge.specs.{Faults.{Tells, of_presentation, told}, Known.StandsAt, Shown.{common_shown, track_shown, in_force}}
use Rattle.live_judge.specs.{Sound.{IsLive, StartsAt}, declared.coming.Next.Next, Rewriting.kept_told}
use Rattle.live_judge.proofs.Places.{first_within, new_stand, same_stand}

-- ---- open ends

pub none_far : (faults : List PresentationFault) (done : Unit {0}) → Ok done ≡ unless_any faults tt → map Presentation faults ≡ []
none_far [] done is = refl
none_far (fault ∷ faults) done is = absurd (cc)

abbrev IsTold : PresentationFault → Type 0
IsTold fault = told (of_presentation fault) ≡ Some (Presentation fault)

abbrev AreTold : List PresentationFault → Type 0
AreTold [] = Unit {0}
AreTold (fault ∷ faults) = IsTold fault × AreTold faults

both_told : (xs ys : List PresentationFault) → AreTold xs → AreTold ys → AreTold (xs ++ ys)
both_told [] ys first later = later
both_told (x ∷ xs) ys first later = (first.0, both_told xs ys first.1 later)

all_told : (list : ℕ → List PresentationFault) → ((s : ℕ) → AreTold (list s)) → (xs : List ℕ) → AreTold (flat_map list xs)
all_told list each [] = tt
all_told list each (x ∷ xs) = both_told (list x) (flat_map list xs) (each x) (all_told list each xs)

range_told : (p : Presented) (t s : ℕ) (o : Result ℕ TimeFault) → AreTold (range_by p t s o)
range_told p t s (Ok n) = tt
range_told p t s (Err fault) = (refl, tt)

ranges_told : (p : Presented) → AreTold (range_faults p)
ranges_told p = all_told (range_faults_of p) (λ t. all_told (range_at p t) (λ s. range_told p t s (count_at p t s)) (sections_of p))
    (tracks_of p)

first_far : (faults : List PresentationFault) (fault : PresentationFault) (later : List Refusal) → AreTold faults
    → unless_any {X = Unit {0}} faults tt ≡ Err fault
    → Tells (of_presentation fault) (map Presentation faults ++ later)
first_far [] fault later all is = absurd (cc)
first_far (f ∷ faults) fault later all is =
    let same : f ≡ fault = cc in
    let here : told (of_presentation fault) ≡ Some (Presentation fault) = subst IsTold same all.0 in
    (ap (λ g. Some (Presentation g)) same ∙ sym here, subst IsSome (sym here) refl)

pub far_told : (p : Presented) (fault : PresentationFault) (later : List Refusal)
    → unless_any {X = Unit {0}} (range_faults p) tt ≡ Err fault
    → Tells (of_presentation fault) (map Presentation (range_faults p) ++ later)
far_told p fault later is = first_far (range_faults p) fault later (ranges_told p) is

-- ---- when segments begin to be available

same_start : (start own : ℤ) → (int_lt start own || int_lt own start) ≡ false → start ≡ own
same_start start own is = grind (arith, ints, is)

pub starts_by : (o : Option ℤ) (live : Bool) (depth : Option ℕ) (at now own : ℤ)
    → option_map_or (λ start. int_lt start own || int_lt own start) o live ≡ false
    → IfSome (option_map (at_instant now) (if live
    then Some (record { instant = at; availability_start = unwrap_or o (pos 0); depth = depth }) else None))
    (λ f. f.availability_start ≡ own)
starts_by o false depth at now own is = tt
starts_by None true depth at now own is = absurd (cc)
starts_by (Some start) true depth at now own is = same_start start own is

alike_many : (ones others : List Described) → are_alike ones others ≡ true → length ones ≡ length others
alike_many [] [] is = refl
alike_many [] (other ∷ others) is = absurd (cc)
alike_many (one ∷ ones) [] is = absurd (cc)
alike_many (one ∷ ones) (other ∷ others) is = ap suc (alike_many ones others (and_parts (is_alike one other) (are_alike ones others) is).1)

-- ---- what is so of it

pub record IsListed (s : Standing) (tracks : List LiveTrack) (p : Presented) (place : ℕ) : Type 0 where
  pub alike : length p.tracks ≡ length tracks
  pub few : length p.sections ≤ 1000
  pub within : place ≤ length s.known
  pub stands : StandsAt (ids_of (known_with s.known p)) (ids_in p) place
  pub follows : StartsAt (availability_start_of s.opened) p

module _ (few : PresentedAreFew) (followed : PresentedAreFollowed) (s : Standing) (tracks : List LiveTrack) (live : IsLive s tracks) where
  many : length (map track_shown tracks) ≡ length tracks
  many = length-map tracks track_shown

  module _ (mpd : Values) (force : Presented) (now : ℤ) (place : ℕ) (made : presented_of mpd s.base (Some now) ≡ Ok force) where
    few_new : length force.sections ≤ 1000
    few_new = (few mpd s.base (Some now) force made).0

    new_listed : IsPlaceOf (common_shown s) mpd force place → IsListed s tracks (looked_at now force) place
    new_listed is =
        let at = cond_some _ _ _ is.among in
        record {
          alike = omega (arith, alike_many s.opened.tracks force.tracks is.alike, live.sound.opened, many);
          few = few_new;
          within = omega (arith, at.1, first_within (ids_of s.known) (ids_in force), length-map s.known (λ (k : Known). k.id));
          stands = new_stand s.known force place live.stands.once is.among;
          follows =
              subst (λ (o : Option Following). IfSome (option_map (at_instant now) o) (λ f. f.availability_start
              ≡ availability_start_of s.opened)) (sym (followed mpd s.base (Some now) force made))
              (starts_by mpd.facts.availability_start mpd.facts.live mpd.facts.depth now now (availability_start_of s.opened) is.starts);
        }

  abbrev standing : Presented
  standing = unwrap_or s.newest s.opened

  same_follows : (o : Option Following) (now : ℤ)
      → IfSome (option_map (at_instant s.instant) o) (λ f. f.availability_start ≡ availability_start_of s.opened)
      → IfSome (option_map (at_instant now) o) (λ f. f.availability_start ≡ availability_start_of s.opened)
  same_follows None now is = tt
  same_follows (Some f) now is = is

  same_listed : (now : ℤ) → IsListed s tracks (looked_at now standing) s.place
  same_listed now = record {
    alike = live.sound.alike ∙ many;
    few = live.sound.few;
    within = omega (arith, live.stands.within, length-map s.known (λ (k : Known). k.id));
    stands = same_stand s.known standing s.place live.stands;
    follows = same_follows standing.following now live.sound.follows;
  }

  pub listed : (coming : Coming) (force : Presented) (now : ℤ) (place : ℕ) → Comes s coming force now
      → IsPlaceBy (mpd_of (update_of coming (pos 0))) (common_shown s) s.place force place → IsListed s tracks (looked_at now force) place
  listed (comes.Refresh mpd) force now place made is = new_listed (segments_mpd mpd.now) force now place made is
  listed (comes.Reset mpd) force now place made is = new_listed (segments_mpd mpd.now) force now place made is
  listed comes.Tick force now place same is =
      subst (λ (p : Presented). IsListed s tracks (looked_at now p) place) (sym same)
      (subst (IsListed s tracks (looked_at now standing)) (sym is) (same_listed now))

-- what comes doesn't depend on the instant
pub mpd_at : (coming : Coming) (now : ℤ) → mpd_of (update_of coming now) ≡ mpd_of (update_of coming (pos 0))
mpd_at (comes.Refresh mpd) now = refl
mpd_at (comes.Reset mpd) now = refl
mpd_at comes.Tick now = refl

-- nor does whether a new section begins
pub reset_at : (coming : Coming) (now : ℤ) → is_reset (update_of coming now) ≡ is_reset (update_of coming (pos 0))
reset_at (comes.Refresh mpd) now = refl
reset_at (comes.Reset mpd) now = refl
reset_at comes.Tick now = refl

-- what an MPD breaks doesn't depend on the instant at which it is looked at
pub told_looked : (c : Common) (o : Option Values) (p : Presented) (now : ℤ) → listed_told c o p ≡ listed_told c o (looked_at now p)
told_looked c None p now = refl
told_looked c (Some mpd) p now = refl

-- ---- all refusals before those of addresses

-- all refusals in the order in which they are tried
pub parts : (s : State) (u : Update) (p : Presented) → told_before s u p
    ≡ map Presentation (range_faults p) ++ (listed_told s.common (mpd_of u) p ++ (kept_told s.common (mpd_of u) p s.tracks
    ++ timed_told (is_reset u) (common_with s.common u p) s.tracks))
parts s (Refresh mpd now) p = simp append_assoc
parts s (Reset mpd now) p = simp append_assoc
parts s (Tick now) p = simp append-nil

-- what an MPD breaks doesn't depend on the instant
pub looked : (c : Common) (coming : Coming) (force : Presented) (now : ℤ)
    → listed_told c (mpd_of (update_of coming (pos 0))) force ≡ listed_told c (mpd_of (update_of coming now)) (looked_at now force)
looked c coming force now =
    told_looked c (mpd_of (update_of coming (pos 0))) force now
    ∙ ap (λ (o : Option Values). listed_told c o (looked_at now force)) (sym (mpd_at coming now))

-- known Periods begin where they did
pub unmoved_there : (o : Option Values) (c : Common) (former : ℕ) (p : Presented) (place : ℕ) → IsPlaceBy o c former p place
    → is_some o ≡ true → AreUnmoved c.known p place
unmoved_there None c former p place is some = absurd (cc)
unmoved_there (Some mpd) c former p place is some = is.unmoved

-- what is judged is what it should be
pub next_is : PresentedAreFew → PresentedAreFollowed → EndsAreCounted → (n : Next) (done : Unit {0}) → IsLive n.standing.now n.tracks.now
    → is_finished (in_force n.standing.now) ≡ false → int_lt n.now (n.standing.now).instant ≡ false
    → Comes n.standing.now n.coming n.force.now n.now → Ok done ≡ unless_any (range_faults (p_of n)) tt
    → IsPlaceBy (mpd_of (update_of n.coming (pos 0))) (common_shown n.standing.now) (n.standing.now).place n.force.now n.place
    → (n.is_quiet ≡ true → IsQuiet n) → IsNext n
next_is few followed ends n done live unended forward comes far place quiet =
    let is = listed few followed n.standing.now n.tracks.now live n.coming n.force.now n.now n.place comes place in
    record {
      live = live;
      unended = unended;
      forward = forward;
      counted = λ s t in_sections in_tracks. ends (p_of n) done s t (sym far) in_sections in_tracks;
      alike = is.alike;
      few = is.few;
      within = is.within;
      stands = is.stands;
      follows = is.follows;
      quiet = quiet;
    }
