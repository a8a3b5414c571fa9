use Rattle.hls_writer.specs.Attributes.{attribute_bytes}
use Rattle.hls_writer.proofs.attribute.Attribute.push_to.Goals as goal

pub returns-in-Autoselect : goal.returns-in-Autoselect
unfolding attribute_bytes
returns-in-Autoselect g c = rw c.in-Autoselect.is c.push_choice-in-Autoselect.ensures

pub returns-in-DescribesVideo : goal.returns-in-DescribesVideo
unfolding attribute_bytes
returns-in-DescribesVideo g c = rw c.in-DescribesVideo.is c.push_quoted-in-DescribesVideo.ensures

pub returns-in-TranscribesSound : goal.returns-in-TranscribesSound
unfolding attribute_bytes
returns-in-TranscribesSound g c = rw c.in-TranscribesSound.is c.push_quoted-in-TranscribesSound.ensures

pub returns-in-NoCaptions : goal.returns-in-NoCaptions
unfolding attribute_bytes
returns-in-NoCaptions g c = rw c.in-NoCaptions.is c.push_text-in-NoCaptions.ensures

pub returns-in-Resolution : goal.returns-in-Resolution
unfolding attribute_bytes
returns-in-Resolution g c = rw c.in-Resolution.is c.push_size.ensures

pub returns-in-FrameRate : goal.returns-in-FrameRate
unfolding attribute_bytes
returns-in-FrameRate g c = rw c.in-FrameRate.is c.push_rate.ensures
