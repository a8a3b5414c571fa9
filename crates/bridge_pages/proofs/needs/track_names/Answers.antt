use Rattle.std.proofs.Common.{◌≡◌, ◌+◌, ◌∷◌, drop, map, ap, sym, ◌∙◌}
use Rattle.std.proofs.lemmas.List.{at_drop_more}
use Rattle.hls_master.specs.SeenTracks.{track_seen}
use Rattle.url_parts.specs.Addresses.{local_name_of}
use Rattle.bridge_pages.specs.Needs.{names_behind, with_name}
use Rattle.bridge_pages.proofs.needs.track_names.Goals as goal

pub loop-track-preserved : goal.loop-track-preserved
loop-track-preserved c =
    let place = c.args.place.now in
    let tracks = c.args.tracks.now in
    let i = c.loop-track.track-index in
    let track = c.track-item.result in
    let old = c.loop-track.names in
    let one : names_behind place old (map track_seen (drop i tracks))
    ≡ names_behind place old (map track_seen (track ∷ drop (i + 1) tracks)) =
    at_drop_more (λ left. names_behind place old (map track_seen left)) tracks i track c.loop-track-test.true
    ∙ ap (λ x. names_behind place old (map track_seen (x ∷ drop (i + 1) tracks))) (sym c.track-item.is) in
    let sets : c.add_name.new.names ≡ with_name old (local_name_of place.folder (track_seen track).address) =
    c.in_ok-add_name.ensures ∙ ap (with_name old) c.in_ok-name.ensures in
    ap (λ names. names_behind place names (map track_seen (drop (i + 1) tracks))) sets ∙ sym one ∙ c.loop-track.invariant
