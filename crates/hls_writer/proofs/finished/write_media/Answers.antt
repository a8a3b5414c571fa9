use Rattle.std.proofs.Common.{◌≡◌, ℕ, ◌⊎◌, ◌^◌, List, ap, subst, OnOk, OnErr, Option}
use Rattle.bridge_io.specs.{Outside.{put, Changes}, Written.HasFront}
use Rattle.presentation.specs.Presented.{Presented}
use Rattle.url_parts.specs.Spelling.{PlaylistPlace}
use Rattle.hls_writer.specs.Finished.{media_text, target_in, track_text}
use Rattle.hls_writer.specs.declared.finished.Targets.{Targets}
use Rattle.hls_writer.proofs.finished.write_media.Goals as goal

same_text : (place : Option PlaylistPlace) (targets : Targets) (p : Presented) (digits track target : ℕ)
    → target ≡ target_in targets p (10 ^ digits) track → track_text place p digits track target ≡ media_text place targets p digits track
unfolding media_text
same_text place targets p digits track target is = ap (track_text place p digits track) is

pub returns-clause-ok : goal.returns-clause-ok
returns-clause-ok g c =
    subst (λ (text : List ℕ). OnOk c.write_playlist.result (Changes (put c.args.name.now text) (g.F.Store.files c.args.store.now)
    (g.F.Store.files c.write_playlist.new.store)))
    (same_text c.args.spelling.now c.args.targets c.args.presentation.now c.args.digits c.args.track c.target-target.result
    c.target-target.ensures) c.write_playlist.ensures.ok

pub returns-clause-err : goal.returns-clause-err
returns-clause-err g c =
    subst (λ (text : List ℕ). OnErr c.write_playlist.result
    ((g.F.Store.files c.write_playlist.new.store ≡ g.F.Store.files c.args.store.now)
    ⊎ HasFront c.args.name.now text (g.F.Store.files c.args.store.now) (g.F.Store.files c.write_playlist.new.store)))
    (same_text c.args.spelling.now c.args.targets c.args.presentation.now c.args.digits c.args.track c.target-target.result
    c.target-target.ensures) c.write_playlist.ensures.err
