use Rattle.std.proofs.Common.{◌^◌, ◌∙◌, ap}
use Rattle.differences.specs.Contents.{heads_noted}
use Rattle.differences.specs.declared.contents.Both.{Both}
use Rattle.differences.proofs.Told.{heads_greatest, mpd_listable, playlists_listable, told_of}
use Rattle.differences.proofs.presentations.differences.Goals as goal

pub of-requires : goal.of-requires
of-requires g c = mpd_listable (10 ^ c.args.digits) c.args.mpd.now c.args.playlists.now c.requires

pub of-requires-2 : goal.of-requires-2
of-requires-2 g c = playlists_listable (10 ^ c.args.digits) c.args.mpd.now c.args.playlists.now c.requires

pub add_tracks-requires-clause-first : goal.add_tracks-requires-clause-first
add_tracks-requires-clause-first g c =
    let both : Both = record {
      mpd = c.in_ok-of.field-0;
      playlists = c.in_ok-of-2.field-0;
      tolerance = record { digits = c.args.digits; within = c.args.within };
    } in
    ap (λ d. d.greatest) c.in_ok-add_heads.ensures ∙ heads_greatest both c.new-found.result
    ∙ ap (λ d. d.greatest) c.new-found.ensures

pub returns : goal.returns
returns g c =
    let both : Both = record {
      mpd = c.in_ok-of.field-0;
      playlists = c.in_ok-of-2.field-0;
      tolerance = record { digits = c.args.digits; within = c.args.within };
    } in
    told_of both c.args.mpd.now c.args.playlists.now c.in_ok-of.ensures c.in_ok-of-2.ensures c.args.most c.add_tracks.new.found
    c.add_heads.new.found c.in_ok-greatest.greatest (c.in_ok-add_heads.ensures ∙ ap (heads_noted both) c.new-found.ensures)
    c.in_ok-greatest.ensures.found c.in_ok-greatest.ensures.greatest
