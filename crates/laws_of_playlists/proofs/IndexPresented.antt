-- What the presentation of an MPD and its media files is made of.
use Rattle.index_parts.specs.declared.fault.IndexFault.TheVariants as fault
use Rattle.std.proofs.Common.{◌≡◌, ℕ, ◌≤◌, nat_lt, Bool, true, false, List, [], ◌∷◌, length, map, All, Ok, Err, refl, ◌∙◌, ap, subst}
use Rattle.std.proofs.{Common.arith, lemmas.Bool.Decides.nat_tests, lemmas.List.Elements.{All-cons, All-head, All-nil, All-tail}}
use Rattle.std.specs.Prelude.{if◌then◌else◌}
use Rattle.bridge_io.proofs.AndThen.{steps_of}
use Rattle.bridge_io.specs.{Answer.and_then, Outside.Files}
use Rattle.presentation.specs.{declared.fault.PresentationFault.TheVariants.Limit, declared.parts.Content.Content, Presented.Presented}
use Rattle.mpd_presentation.specs.Rows.{in_order, track_of}
use Rattle.index_parts.specs.{declared.fault.IndexFault.IndexFault, Located.track_parts}
use Rattle.index_parts.specs.Presented.{all_parts, contents_in, few_segments, few_tracks, nothing, presented_by, presented_in}
use Rattle.index_parts.specs.{Presented.{presented_with, total}, Rows.{Period, Row}}
use Rattle.laws_of_playlists.proofs.IndexEntries.{Listed}

unless : {X : Type 0} (many : Bool) (e : IndexFault) (x y : X) → (if many then Err e else Ok x) ≡ Ok y → (many ≡ false) × (x ≡ y)
unless true e x y is = absurd (cc)
unless false e x y is = (refl, cc)

no_more : (tracks : ℕ) → nat_lt 200 tracks ≡ false → tracks ≤ 200
no_more tracks is = grind (arith, nat_tests)

module _ (url folder : List ℕ) (files : Files) where
  -- what each row has
  pub record IsPresented (left_out : ℕ) (period : Period) (p : Presented) : Type 0 where
    pub tracks : List Listed
    pub told : all_parts url folder files (in_order period.tracks) ≡ Ok tracks
    pub few : length (map track_of (in_order period.tracks)) ≤ 200
    pub is : presented_with left_out period (map track_of (in_order period.tracks)) (contents_in tracks) ≡ p

  pub is_presented : (left_out : ℕ) (period : Period) (p : Presented) → presented_in url folder files left_out period ≡ Ok p
      → IsPresented left_out period p
  unfolding presented_in
  is_presented left_out period p is =
      let rows = in_order period.tracks in
      let a = steps_of (few_tracks (map track_of rows)) _ p is in
      let b = steps_of (and_then (all_parts url folder files rows) few_segments) _ p a.then in
      let c = steps_of (all_parts url folder files rows) few_segments b.value b.first in
      let tracks = unless (nat_lt 200 (length (map track_of rows))) (fault.Presentation Limit) (map track_of rows) a.value a.first in
      let contents = unless (nat_lt 500000 (total c.value)) (fault.Presentation Limit) (contents_in c.value) b.value c.then in
      let same : presented_with left_out period a.value b.value ≡ p = (let h = b.then in cc) in
      record {
        tracks = c.value;
        told = c.first;
        few = no_more (length (map track_of rows)) tracks.0;
        is = ap (λ ts. presented_with left_out period ts (contents_in c.value)) tracks.1
            ∙ ap (presented_with left_out period a.value) contents.1 ∙ same;
      }

  -- what holds of an empty presentation, and of that of each Period
  pub of_first : (R : Period → Type 0) (P : Presented → Type 0) (left_out : ℕ) → P (nothing left_out)
      → ((period : Period) (p : Presented) → R period → IsPresented left_out period p → P p) → (periods : List Period) (p : Presented)
      → All R periods → presented_by url folder files left_out periods ≡ Ok p → P p
  of_first R P left_out none each [] p all is = (let same : nothing left_out ≡ p = cc in subst P same none)
  of_first R P left_out none each (period ∷ later) p all is =
      each period p (All-head R period later all) (is_presented left_out period p is)

  -- what holds of what each row has holds of all contents
  pub all_have : (Q : Row → Type 0) (P : Content → Type 0)
      → ((row : Row) (listed : Listed) → Q row → track_parts url folder files row ≡ Ok listed → P listed.content)
      → (rows : List Row) (tracks : List Listed) → All Q rows → all_parts url folder files rows ≡ Ok tracks → All P (contents_in tracks)
  all_have Q P each [] tracks all is = (let none : [] ≡ tracks = cc in subst (λ ts. All P (contents_in ts)) none (All-nil P))
  all_have Q P each (row ∷ rows) tracks all is =
      let one = steps_of (track_parts url folder files row) _ tracks is in
      let later = steps_of (all_parts url folder files rows) _ tracks one.then in
      let same : one.value ∷ later.value ≡ tracks = (let h = later.then in cc) in
      subst (λ ts. All P (contents_in ts)) same
      (All-cons P one.value.content (contents_in later.value) (each row one.value (All-head Q row rows all) one.first)
      (all_have Q P each rows later.value (All-tail Q row rows all) later.first))
