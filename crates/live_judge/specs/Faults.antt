-- Why an update is rejected, as the calls return it.
use Rattle.presentation.specs.declared.fault.PresentationFault.TheVariants as presented
use Rattle.live_meaning.specs.Refusals as rules
use Rattle.live_judge.specs.declared.fault.RefreshFault.TheVariants as faults
use Rattle.std.specs.Prelude.{◌≡◌, List, [], IsSome, MatchResult, Option, Some, None, option_map, Result}
use Rattle.bridge_io.specs.Firsts.{first_of}
use Rattle.exact_time.specs.Tick.{time_of}
use Rattle.timeline.specs.Listed.{timing_of}
use Rattle.presentation.specs.{declared.fault.PresentationFault.PresentationFault, Counting.refusal}
use Rattle.live_meaning.specs.Refusals.{Refusal}
use Rattle.live_judge.specs.declared.fault.RefreshFault.{RefreshFault}

-- the refusal of a fault; `None` for out of memory
abbrev pub told : RefreshFault → Option Refusal
told (faults.ClockBack former now) = Some (rules.ClockBack former now)
told (faults.Older former new) = Some (rules.Older former new)
told faults.Changed = Some rules.Changed
told (faults.Moved section) = Some (rules.Moved section)
told (faults.Rewritten track kept new) = Some (rules.Rewritten track (option_map timing_of kept) (timing_of new))
told (faults.Step track end start) = Some (rules.Step track (time_of end) (time_of start))
told (faults.LongSegment target printed) = Some (rules.LongSegment target printed)
told faults.NotDynamic = Some rules.NotDynamic
told faults.Ended = Some rules.Ended
told (faults.Window track count) = Some (rules.Window track count)
told (faults.Presentation fault) = option_map rules.Presentation (refusal fault)
told faults.Memory = None
told (faults.Uneven track first last) = Some (rules.Uneven track first last)

-- a presentation's fault, where its out of memory is the update's
abbrev pub of_presentation : PresentationFault → RefreshFault
of_presentation presented.Memory = faults.Memory
of_presentation fault = faults.Presentation fault

-- a call that doesn't allocate returns the first of some errors, and `Ok` where there is none
abbrev pub Tells : RefreshFault → List Refusal → Type 0
Tells fault refusals = (first_of refusals ≡ told fault) × IsSome (told fault)

abbrev pub Judges : {X : Type 0} → Result X RefreshFault → List Refusal → Type 0
Judges result refusals = MatchResult result (λ _. refusals ≡ []) (λ fault. Tells fault refusals)
