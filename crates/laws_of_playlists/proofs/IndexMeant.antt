-- The presentation of an MPD and its media files means what they mean.
use Rattle.presentation.specs.Meanings as presentation
use Rattle.std.proofs.Common.{◌≡◌, ℕ, ◌+◌, ◌*◌, ◌<◌, List, [], ◌∷◌, length, map, slice_get, Option, Some, option_map, Ok, refl, sym, ◌∙◌}
use Rattle.std.proofs.{Common.{ap, subst, arith, zero-add}, lemmas.List.length-map, lemmas.List.FromFn.length-map-range_with_len}
use Rattle.std.proofs.lemmas.Option.{slice_get-map}
use Rattle.std.specs.{Prelude.option_and_then, Result.result_ok}
use Rattle.bridge_io.proofs.AndThen.{steps_of}
use Rattle.bridge_io.specs.Outside.{Files}
use Rattle.meaning.specs.Meanings.{Entry}
use Rattle.mpd_levels.specs.declared.indexed.IndexRow.{IndexRow}
use Rattle.mpd_profile.specs.declared.fault.RuleFault.{RuleFault}
use Rattle.mpd_rules.specs.{Rules.{all_index_refusals, index_values, indexed_mpd_of, unless_refused}, Typed.TypedMpd}
use Rattle.presentation.specs.{declared.parts.Content.Content, declared.track.Track.Track, Meanings.{meaning_with, row_at}}
use Rattle.presentation.specs.Presented.{Presented, whole_window}
use Rattle.mpd_presentation.specs.Rows.{in_order, track_of}
use Rattle.presentation.proofs.{Allowed.each_at, Grids.{found, same_members}}
use Rattle.mpd_presentation.proofs.Joining.{seen_twice}
use Rattle.index_parts.specs.Located.{track_parts}
use Rattle.index_parts.specs.Meanings.{all_of, entry_of, head_of, indexed_meaning, meaning_by, meaning_of, meaning_over, with_first}
use Rattle.index_parts.specs.{Presented.{all_parts, contents_in, indexed_of, nothing, presented_by, presented_with}, Rows.{Period, Row}}
use Rattle.laws_of_playlists.specs.IndexMeant.{IndexedAreMeant, IndexedTextsAreMeant}
use Rattle.laws_of_playlists.proofs.{IndexEntries.{Listed, track_meant}, IndexPresented.{IsPresented, is_presented}}

-- ---- one section, track by track

abbrev entry_told : Content → Option Entry
entry_told content = presentation.entry_of whole_window content

module _ (left_out : ℕ) (period : Period) (tracks : List Track) (contents : List Content) (many : length contents ≡ length tracks) where
  abbrev p : Presented
  p = presented_with left_out period tracks contents

  entry_there : (t : ℕ) → t < length tracks → slice_get (row_at p 0) t ≡ slice_get (map entry_told contents) t
  entry_there t within =
      let place : 0 * length tracks + t ≡ t = omega arith in
      let content = found contents t (omega (arith, within, many)) in
      each_at (presentation.entry_at p 0) 0 (length tracks) t within ∙ ap (λ k. Some (presentation.entry_at p 0 k)) (zero-add t)
      ∙ ap (λ k. Some (option_and_then entry_told (slice_get contents k))) place
      ∙ ap (λ o. Some (option_and_then entry_told o)) content.1
      ∙ sym (slice_get-map entry_told contents t ∙ ap (option_map entry_told) content.1)

  row_there : row_at p 0 ≡ map entry_told contents
  row_there =
      let long : length (row_at p 0) ≡ length tracks = length-map-range_with_len (presentation.entry_at p 0) 0 (length tracks) in
      same_members (row_at p 0) (map entry_told contents) (long ∙ sym (length-map contents entry_told ∙ many))
      (λ t below. entry_there t (subst (λ n. t < n) long below))

  pub means_them : presentation.meaning_of p ≡ meaning_with (map presentation.head_of tracks) (map entry_told contents ∷ [])
  unfolding presentation.meaning_of
  means_them = ap (λ row. meaning_with (map presentation.head_of tracks) (row ∷ [])) row_there

-- ---- all tracks

module _ (url folder : List ℕ) (files : Files) where
  abbrev AreMeant : List Row → List Listed → Type 0
  AreMeant rows tracks =
      (all_of (entry_of url folder files) rows ≡ Some (map entry_told (contents_in tracks)))
      × (length (contents_in tracks) ≡ length rows)

  all_meant : (rows : List Row) (tracks : List Listed) → all_parts url folder files rows ≡ Ok tracks → AreMeant rows tracks
  all_meant [] tracks is = (let none : [] ≡ tracks = cc in subst (AreMeant []) none (refl, refl))
  all_meant (row ∷ rows) tracks is =
      let one = steps_of (track_parts url folder files row) _ tracks is in
      let later = steps_of (all_parts url folder files rows) _ tracks one.then in
      let same : one.value ∷ later.value ≡ tracks = (let h = later.then in cc) in
      let rest = all_meant rows later.value later.first in
      subst (AreMeant (row ∷ rows)) same (
        ap (λ o. with_first o (all_of (entry_of url folder files) rows)) (track_meant url folder files row one.value one.first)
            ∙ ap (with_first (Some (entry_told one.value.content))) rest.0,
        omega (arith, rest.1),
      )

  of_period : (left_out : ℕ) (period : Period) (p : Presented) → IsPresented url folder files left_out period p
      → meaning_over url folder files (in_order period.tracks) ≡ Some (presentation.meaning_of p)
  of_period left_out period p of =
      let rows = in_order period.tracks in
      let are = all_meant rows of.tracks of.told in
      let tracks : List Track = map track_of rows in
      let heads : map head_of rows ≡ map presentation.head_of tracks = seen_twice presentation.head_of track_of rows in
      let many : length (contents_in of.tracks) ≡ length tracks = omega (arith, are.1, length-map rows track_of) in
      ap (option_map (λ entries. meaning_with (map head_of rows) (entries ∷ []))) are.0
      ∙ ap (λ heads. Some (meaning_with heads (map entry_told (contents_in of.tracks) ∷ []))) heads
      ∙ ap Some (sym (means_them left_out period tracks (contents_in of.tracks) many)) ∙ ap (λ p. Some (presentation.meaning_of p)) of.is

  nothing_meant : (left_out : ℕ) → Some (meaning_with [] []) ≡ Some (presentation.meaning_of (nothing left_out))
  unfolding presentation.meaning_of
  nothing_meant left_out = refl

  periods_meant : (left_out : ℕ) (periods : List Period) (p : Presented) → presented_by url folder files left_out periods ≡ Ok p
      → meaning_by url folder files periods ≡ Some (presentation.meaning_of p)
  periods_meant left_out [] p is =
      let same : nothing left_out ≡ p = cc in
      nothing_meant left_out ∙ ap (λ p. Some (presentation.meaning_of p)) same
  periods_meant left_out (period ∷ later) p is = of_period left_out period p (is_presented url folder files left_out period p is)

pub indexed_are_meant : IndexedAreMeant
unfolding meaning_of indexed_of
indexed_are_meant url folder files mpd p is = periods_meant url folder files mpd.left_out mpd.periods p is

-- ---- the text

values_are : (faults : List RuleFault) (x y : TypedMpd (Option IndexRow)) → unless_refused faults x ≡ Ok y → x ≡ y
values_are [] x y is = cc
values_are (fault ∷ faults) x y is = absurd (cc)

pub indexed_texts_are_meant : IndexedTextsAreMeant
unfolding indexed_mpd_of indexed_meaning
indexed_texts_are_meant bytes url folder files tree mpd p read typed is =
    let values : index_values tree ≡ mpd = values_are (all_index_refusals tree) (index_values tree) mpd typed in
    ap (λ r. option_and_then (λ tree. meaning_of url folder files (index_values tree)) (result_ok r)) read
    ∙ ap (meaning_of url folder files) values ∙ indexed_are_meant url folder files mpd p is
