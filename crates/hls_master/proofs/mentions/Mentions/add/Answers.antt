use Rattle.hls_master.proofs.mentions.Mentions.add.Goals as goal
use Rattle.hls_master.specs.{SeenMentions.mentions_seen, SeenTags.rendition_seen}
use Rattle.hls_master.proofs.Readings.{by_rendition}

pub returns-in-Some-clause-added : goal.returns-in-Some-clause-added
returns-in-Some-clause-added c =
    rw (
      c.in-Rendition.is,
      by_rendition c.args.base.now (mentions_seen c.args.self.now) c.in-Rendition.rest.now c.in-Rendition.place
          (rendition_seen c.in-Some.rendition) (rw c.in-Some.is at c.in_ok-read_rendition-in-Rendition.ensures),
    ) c.add_rendition.ensures.added
