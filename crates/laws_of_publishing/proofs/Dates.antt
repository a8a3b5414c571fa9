-- Dates that can be written are published.
use Rattle.std.proofs.Common.{ℕ, ◌-◌, ◌&&◌, Bool, not, drop, map, length, get_or, inl, inr}
use Rattle.std.proofs.{lemmas.Bool.cases_Bool, lemmas.List.Elements.{All-append, All-drop, All-map}}
use Rattle.std.specs.{Prelude.{◌==◌}}
use Rattle.hls_writer.specs.declared.items.MediaItem.{MediaItem}
use Rattle.iso_time.specs.Instant.{IsWritable}
use Rattle.publish_law.specs.declared.{joint.Shift.Shift, track.{Track.Track}}
use Rattle.publish_law.specs.{Lists.{change_by, fresh_items, items_with, removed_count, shifted}, Plans.{change_of, part_of}}
use Rattle.laws_of_publishing.specs.Laws.{AreWritable, IsWritableChange, IsWritableTrack, PublishedIsWritable}
use Rattle.laws_of_publishing.proofs.Planned.{planned_of}

abbrev IsDated : MediaItem → Type 0
IsDated item = IsWritable item.date

items_writable : (track : Track) (fresh removed : ℕ) (shift : Shift) → IsWritableTrack track
    → AreWritable (items_with track fresh removed shift)
items_writable track fresh removed shift is =
    let last = All-drop IsDated (length track.new.items - fresh) track.new.items is.new in
    All-append IsDated (drop removed track.served.items) (map (shifted shift) (fresh_items track fresh))
    (All-drop IsDated removed track.served.items is.served) (All-map IsDated (shifted shift) (fresh_items track fresh) last)

change_writable : (track : Track) (fresh : ℕ) (shift : Shift) (ended : Bool) → IsWritableTrack track
    → IsWritableChange (change_by track fresh shift ended)
change_writable track fresh shift ended is = elim (cases_Bool (fresh == 0)) [
  | inr some ↦ rw some (items_writable track fresh (removed_count track fresh) shift is)
  | inl none ↦ elim (cases_Bool (ended && not track.served.head.ended)) [
    | inl ends ↦ rw (none, ends) (items_writable track 0 0 shift is)
    | inr stays ↦ rw (none, stays) tt
  ]
]

pub published_is_writable : PublishedIsWritable
published_is_writable options tracks publication are is =
    let plan = planned_of options tracks publication is in
    rw plan.changes (All-map IsWritableChange (change_of plan.plan) tracks (λ k d within.
    change_writable (get_or tracks k d) (part_of plan.plan (get_or tracks k d)).0 (part_of plan.plan (get_or tracks k d)).1 plan.plan.ending
    (are k d within)))
