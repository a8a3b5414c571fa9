use Rattle.hls_follow.proofs.follow.Follow.accept.Goals as goal
use Rattle.std.proofs.{Common.{refl, sym, ◌∙◌, ap, length}, lemmas.Result.err_from_is_err_and}
use Rattle.std.specs.Option.{option_copied}
use Rattle.hls_follow.specs.Rounds.{Following}
use Rattle.hls_follow.proofs.Accepting.{appended_is, next_is, next_refused, sound_of}

pub follow_round-requires-clause-one_each : goal.follow_round-requires-clause-one_each
follow_round-requires-clause-one_each c =
    let tracks = c.as_slice.ensures ∙ c.tracks.ensures ∙ ap (λ (f : Following). f.tracks) c.self.view_is in
    c.requires.one_each ∙ ap length (sym tracks)

pub follow_round-requires-clause-sound : goal.follow_round-requires-clause-sound
follow_round-requires-clause-sound c = rw c.as_ref.ensures.value (sound_of c.self.inside.followed c.self.invariant)

pub returns-in_err-followed-clause-next : goal.returns-in_err-followed-clause-next
returns-in_err-followed-clause-next c =
    let f = c.args.self.now in
    let tracks = c.as_slice.ensures ∙ c.tracks.ensures ∙ ap (λ (f : Following). f.tracks) c.self.view_is in
    let former = c.as_ref.ensures.value ∙ ap (λ (f : Following). f.followed) c.self.view_is in
    let fault = err_from_is_err_and c.from_residual.result c.from_residual.ensures.1 in
    rw (fault.1, fault.2)
    (next_refused f c.args.now c.args.medias c.args.medias c.as_slice.result.now (option_copied c.as_ref.result) tracks former
    refl c.in_err-followed.field-0.0 c.in_err-followed.ensures.next)

pub returns-clause-next : goal.returns-clause-next
returns-clause-next c =
    let f = c.args.self.now in
    let master = ap (λ (f : Following). f.tracks) c.self.view_is in
    let tracks = c.as_slice.ensures ∙ c.tracks.ensures ∙ master in
    let former = c.as_ref.ensures.value ∙ ap (λ (f : Following). f.followed) c.self.view_is in
    next_is f c.args.now c.args.medias c.args.medias c.as_slice.result.now (option_copied c.as_ref.result) tracks former
    refl c.self.inside.master c.in_ok-followed.field-0.followed master c.in_ok-followed.ensures.next

pub returns-clause-appended : goal.returns-clause-appended
returns-clause-appended c =
    let f = c.args.self.now in
    let tracks = c.as_slice.ensures ∙ c.tracks.ensures ∙ ap (λ (f : Following). f.tracks) c.self.view_is in
    let former = c.as_ref.ensures.value ∙ ap (λ (f : Following). f.followed) c.self.view_is in
    c.in_ok-followed.ensures.appended
    ∙ appended_is f c.args.now c.args.medias c.args.medias c.as_slice.result.now (option_copied c.as_ref.result) tracks former refl
