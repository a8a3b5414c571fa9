use Rattle.live_session.proofs.playlist.LivePlaylist.write.Goals as goal
use Rattle.std.proofs.Common.{ap}
use Rattle.iso_time.specs.Instant.{IsWritable}
use Rattle.hls_writer.specs.declared.items.MediaItem.{MediaItem}
use Rattle.live_session.proofs.Listing.{all_before, all_behind, all_dated, text_is}

pub write_item_slices-requires-clause-front : goal.write_item_slices-requires-clause-front
write_item_slices-requires-clause-front g c =
    all_before (λ (item : MediaItem). IsWritable item.date) c.as_slices.result.0.now c.as_slices.result.1.now
    (rw c.as_slices.ensures (all_dated c.self.invariant))

pub write_item_slices-requires-clause-back : goal.write_item_slices-requires-clause-back
write_item_slices-requires-clause-back g c =
    all_behind (λ (item : MediaItem). IsWritable item.date) c.as_slices.result.0.now c.as_slices.result.1.now
    (rw c.as_slices.ensures (all_dated c.self.invariant))

pub returns-clause-ok : goal.returns-clause-ok
returns-clause-ok g c =
    let text = text_is c.args.spelling.now c.head.result c.self.invariant c.head.ensures (ap (λ p. p.items) c.self.view_is) in
    rw (c.as_slices.ensures, text) at c.write_item_slices.ensures.ok

pub returns-clause-err : goal.returns-clause-err
returns-clause-err g c =
    let text = text_is c.args.spelling.now c.head.result c.self.invariant c.head.ensures (ap (λ p. p.items) c.self.view_is) in
    rw (c.as_slices.ensures, text) at c.write_item_slices.ensures.err
