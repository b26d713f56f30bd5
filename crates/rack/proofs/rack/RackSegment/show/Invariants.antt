use Rattle.rack.proofs.Racking.{ShownFit}
use Rattle.rack.proofs.rack.RackSegment.show.Given as goal

abbrev pub invariant-loop-machine : goal.invariant-loop-machine
invariant-loop-machine l = ShownFit l.burst l.initial.machine-items l.machine-items l.machine-index l.said
