-- What a live presentation has of its tracks.
use Rattle.std.proofs.Common.{◌≡◌, ℕ, ◌+◌, ◌<◌, ◌++◌, false, List, [], ◌∷◌, length, drop, get_or, map, slice_get, Option, Some, refl, ap}
use Rattle.std.proofs.{Common.{◌∙◌, arith}, lemmas.Option.{get_or_from_slice_get, slice_get_read, slice_get_within}}
use Rattle.std.specs.{Borrow.Bor, Prelude.{Bool, true, if◌then◌else◌}}
use Rattle.presentation.proofs.OwnListed.{some_at}
use Rattle.dash_writer.specs.{declared.live.LiveMpd.LiveMpd, declared.live.LivePeriod.LivePeriod, declared.live.LiveRun.LiveRun}
use Rattle.dash_writer.specs.{declared.live.LiveSegment.LiveSegment, Live.{HasRun, IsLive, live_list, live_lists, part_of}}
use Rattle.segment_forms.specs.declared.form.Form.{Form}
use Rattle.dash_writer.specs.{Segments.segment_url, declared.attribute.Value.Value, Elements.Attribute, Written.{all_told, element_text}}
use Rattle.dash_writer.specs.Written.{elements_text, is_childless}
use Rattle.dash_writer.proofs.{Nodes.elements-cons, Progress.next_at}

pub has_run : (mpd : LiveMpd) → IsLive mpd → (section place : ℕ) → section < length mpd.periods → place < length mpd.tracks
    → HasRun mpd section place
has_run mpd live section place below within =
    let period = some_at mpd.periods section below in
    let same = get_or_from_slice_get mpd.periods section period.0 period.0 period.1 in
    let filled = rw same at (live.filled section period.0 below) in
    let run = some_at period.0.runs place (omega (arith, filled, within)) in
    (period.0, run.0, period.1, run.1)

-- what it has is one element
pub list_of : (form : Form) (mpd : LiveMpd) (section place : ℕ) (has : HasRun mpd section place) → live_lists form mpd section place ≡ live_list form has.1 ∷ []
list_of form mpd section place has = rw (has.2, has.3) refl

pub some_run : (form : Form) (mpd : LiveMpd) (section place : ℕ) → HasRun mpd section place → is_childless (live_lists form mpd section place) ≡ false
some_run form mpd section place has = rw (list_of form mpd section place has) refl

-- the segment at a place, and those behind it
pub segments_behind : (segments : List LiveSegment) (k : ℕ) (segment : LiveSegment) → k < length segments
    → segment ≡ get_or segments k segment
    → elements_text (map segment_url (map part_of (drop k segments)))
    ≡ element_text (segment_url (part_of segment)) ++ elements_text (map segment_url (map part_of (drop (k + 1) segments)))
segments_behind segments k segment below is =
    ap (λ segments. elements_text (map segment_url (map part_of segments))) (next_at segments k segment below is)
    ∙ elements-cons (segment_url (part_of segment)) (map segment_url (map part_of (drop (k + 1) segments)))

-- the element of the run that is read in two lists one behind another
pub list_read : (form : Form) (mpd : LiveMpd) (section place : ℕ) → HasRun mpd section place
    → (periods : List LivePeriod) (period : LivePeriod) (runs : List LiveRun) (run : LiveRun) → periods ≡ mpd.periods
    → period ≡ get_or periods section period → runs ≡ period.runs → run ≡ get_or runs place run
    → live_lists form mpd section place ≡ live_list form run ∷ []
list_read form mpd section place has periods period runs run are is runs_are run_is =
    let read : slice_get mpd.periods section ≡ Some period = slice_get_read mpd.periods (length mpd.periods) section period refl
    (slice_get_within mpd.periods section has.0 has.2) (is ∙ ap (λ xs. get_or xs section period) are) in
    let same : has.0 ≡ period = cc (has.2, read) in
    let within : place < length period.runs = rw same at (slice_get_within has.0.runs place has.1 has.3) in
    let run_read = slice_get_read period.runs (length period.runs) place run refl within
    (run_is ∙ ap (λ xs. get_or xs place run) runs_are) in
    rw (read, run_read) refl

pub root_is : (ended : Bool) (chosen one other : List (Bor (List ℕ) × Option Value)) (finished growing : List Attribute)
    → chosen ≡ (if ended then one else other) → all_told one ≡ finished → all_told other ≡ growing
    → all_told chosen ≡ (if ended then finished else growing)
root_is true chosen one other finished growing is are_one are_other = ap all_told is ∙ are_one
root_is false chosen one other finished growing is are_one are_other = ap all_told is ∙ are_other
