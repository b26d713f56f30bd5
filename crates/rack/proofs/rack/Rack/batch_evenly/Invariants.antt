use Rattle.rack.proofs.Racking.{Evened}
use Rattle.rack.proofs.rack.Rack.batch_evenly.Given as goal

abbrev pub invariant-loop-machine : goal.invariant-loop-machine
invariant-loop-machine l = Evened l.amount l.initial.machine-items l.machine-items l.machine-index
