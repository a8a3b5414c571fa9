-- MPDs that are read, and static ones, whose presentations are finished.
use Rattle.std.proofs.Common.{◌≡◌, ◌∙◌, ℕ, ℤ, Bool, true, false, List, Option, None, Some, IsTrue, Ok, Err, if◌then◌else◌, refl, ap}
use Rattle.std.specs.Prelude.{is_some}
use Rattle.bridge_io.proofs.AndThen.{steps_of}
use Rattle.mpd_levels.specs.Segments.{Segments}
use Rattle.mpd_rules.specs.{Rules.typed_mpd_of, Typed.TypedMpd}
use Rattle.mpd_tree.specs.{Meaning.reading_of, Trees.Element}
use Rattle.presentation.proofs.Filling.{ok_under}
use Rattle.presentation.specs.{Listable.AreListable, Presented.{Presented, is_finished}, Verifying.verified}
use Rattle.mpd_presentation.specs.{Listable.VerifiedAreListable, Origins.{CameFromStaticMpd, StaticAreFinished}, Told.presented_of}
use Rattle.bridge_io.specs.Answer.{told_as}
use Rattle.bridge_report.specs.declared.refusal.Refusal.{Refusal}
use Rattle.bridge_steps.specs.Manifests.{checked, checked_presentation, mpd_of, ready_of, unless_live, values_of}

-- ---- what bytes spell

-- the values of an MPD, of which no rule refuses anything
pub record IsSpelled (bytes : List ℕ) (mpd : TypedMpd (Option Segments)) : Type 0 where
  pub tree : Element
  pub reading : reading_of bytes ≡ Ok tree
  pub typed : typed_mpd_of tree ≡ Ok mpd

pub spelled_of : (bytes : List ℕ) (mpd : TypedMpd (Option Segments)) → values_of bytes ≡ Ok mpd → IsSpelled bytes mpd
unfolding values_of
spelled_of bytes mpd is =
    let read = steps_of (told_as _ (reading_of bytes)) (λ root. told_as _ (typed_mpd_of root)) mpd is in
    record {
      tree = read.value;
      reading = ok_under _ (reading_of bytes) read.value read.first;
      typed = ok_under _ (typed_mpd_of read.value) mpd read.then;
    }

-- ---- a presentation whose segments all have addresses

pub record IsReady (unit : ℕ) (url : List ℕ) (now : Option ℤ) (mpd : TypedMpd (Option Segments)) (p : Presented) : Type 0 where
  pub presented : presented_of mpd url now ≡ Ok p
  pub longest : List ℕ
  pub all : verified p unit ≡ Ok longest

pub ready_is : (unit : ℕ) (url : List ℕ) (now : Option ℤ) (mpd : TypedMpd (Option Segments)) (p : Presented)
    → ready_of unit url now mpd ≡ Ok p
    → IsReady unit url now mpd p
unfolding ready_of checked
ready_is unit url now mpd p is =
    let presented = steps_of (told_as _ (presented_of mpd url now)) (checked unit) p is in
    let found = steps_of (told_as _ (verified presented.value unit)) (λ longest. Ok presented.value) p presented.then in
    let same : presented.value ≡ p = cc in
    rw (← same) (record {
      presented = ok_under _ (presented_of mpd url now) presented.value presented.first;
      longest = found.value;
      all = ok_under _ (verified presented.value unit) found.value found.first;
    })

-- ---- of a static MPD

-- a static MPD, what its bytes spell, and its presentation
pub record IsStatic (unit : ℕ) (bytes url : List ℕ) (now : Option ℤ) (p : Presented) : Type 0 where
  pub came : CameFromStaticMpd p
  pub spelled : reading_of bytes ≡ Ok came.tree
  pub at : came.url ≡ url
  pub instant : came.now ≡ now
  pub longest : List ℕ
  pub all : verified p unit ≡ Ok longest

pub static_ready : (unit : ℕ) (bytes url : List ℕ) (now : Option ℤ) (mpd : TypedMpd (Option Segments)) (p : Presented)
    → values_of bytes ≡ Ok mpd → mpd.facts.live ≡ false → ready_of unit url now mpd ≡ Ok p → IsStatic unit bytes url now p
static_ready unit bytes url now mpd p values static is =
    let spelled = spelled_of bytes mpd values in let ready = ready_is unit url now mpd p is in
    record {
      came = record {
        tree = spelled.tree;
        mpd = mpd;
        url = url;
        now = now;
        typed = spelled.typed;
        static = static;
        presented = ready.presented;
      };
      spelled = spelled.reading;
      at = refl;
      instant = refl;
      longest = ready.longest;
      all = ready.all;
    }

static_of : (why : Refusal) (b : Bool) (mpd read : TypedMpd (Option Segments)) → (if b then Err why else Ok mpd) ≡ Ok read
    → (b ≡ false) × (mpd ≡ read)
static_of why true mpd read is = absurd (cc)
static_of why false mpd read is = (refl, (let same : mpd ≡ read = cc in same))

-- where a live MPD is refused
pub static_read : (live : Refusal) (unit : ℕ) (url : List ℕ) (now : Option ℤ) (bytes : List ℕ) (p : Presented)
    → checked_presentation (Some live) unit url now bytes ≡ Ok p → IsStatic unit bytes url now p
unfolding checked_presentation mpd_of
static_read live unit url now bytes p is =
    let told = steps_of (mpd_of (Some live) bytes) (ready_of unit url now) p is in
    let values = steps_of (values_of bytes) (unless_live (Some live)) told.value told.first in
    let static = static_of live values.value.facts.live values.value told.value values.then in
    static_ready unit bytes url now told.value p (values.first ∙ ap Ok static.1) (rw (← static.1) static.0) told.then

-- there the presentation of another is finished
pub finished_read : StaticAreFinished → (live : Option Refusal) (unit : ℕ) (url : List ℕ) (now : Option ℤ) (bytes : List ℕ) (p : Presented)
    → checked_presentation live unit url now bytes ≡ Ok p → IsTrue (is_some live) → is_finished p ≡ true
finished_read are_finished None unit url now bytes p is some = absurd (let e = some in cc)
finished_read are_finished (Some live) unit url now bytes p is some = are_finished p (static_read live unit url now bytes p is).came

-- and its segments can be gone over
pub listable_read : VerifiedAreListable → (live : Option Refusal) (unit : ℕ) (url : List ℕ) (now : Option ℤ) (bytes : List ℕ)
    (p : Presented)
    → checked_presentation live unit url now bytes ≡ Ok p → IsTrue (is_some live) → AreListable p
listable_read are_listable None unit url now bytes p is some = absurd (let e = some in cc)
listable_read are_listable (Some live) unit url now bytes p is some =
    let static = static_read live unit url now bytes p is in are_listable p unit static.longest static.came static.all
