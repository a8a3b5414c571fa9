-- The state of a reader of a playlist.
use Rattle.std.specs.Prelude.{◌≡◌, ℕ, List, Option, Some, None, option_map, Result, Ok, Err, IfSome}
use Rattle.bridge_io.specs.declared.place.Place.{Place}
use Rattle.hls_media.specs.{Media.refusal, States.State, declared.fault.MediaFault.MediaFault, declared.state.Reader.Reader}
use Rattle.hls_media.specs.declared.state.WrittenRange.{WrittenRange}

abbrev pub written_of : WrittenRange → List ℕ × Place
written_of range = (range.text.now, range.place)

abbrev pub state_of : Reader → State
state_of reader = record {
  target = reader.target;
  sequence = reader.sequence;
  first_section = reader.first_section;
  discontinuities = reader.discontinuities;
  ended = reader.ended;
  duration = reader.duration;
  range = option_map written_of reader.range;
  map = reader.map;
  segments = reader.segments.items;
}

-- a step without a fault leads to a state; a fault is that of the step, and out of memory says nothing
abbrev pub Does : Option MediaFault → State → Result (Unit {0}) MediaFault → State → Type 0
Does fault after (Ok done) state = (fault ≡ None) × (state ≡ after)
Does fault after (Err told) state = IfSome (refusal told) (λ f. fault ≡ Some f)
