use Rattle.followed_text.specs.Followed.{followed_of}
use Rattle.publish_core.specs.Refusals.{stopped}
use Rattle.publish_core.proofs.Refusing.{media_refused}
use Rattle.publish_core.proofs.side.list_in.Goals as goal

pub returns-in-Err-Media-clause-list : goal.returns-in-Err-Media-clause-list
returns-in-Err-Media-clause-list c =
    media_refused (stopped c.media_stop.result) c.args.name.now c.in-Err-Media.fault (followed_of c.args.bytes.now c.args.url.now)
    c.media_stop.ensures.told (rw c.in-Err-Media.field-0-is at c.in-Err-Media.ensures.followed)
