use Rattle.kinds.specs.Kinds.{places}
use Rattle.blender.specs.Machines.{model}
use Rattle.blender.proofs.Filling.{Added}
use Rattle.blender.proofs.machine.Machine.fill.Given as goal

abbrev pub invariant-loop-i : goal.invariant-loop-i
invariant-loop-i g l = Added (model g.K.Kind.facts l.self) (places g.K.Kind.facts) l.amounts l.i l.totals l.flags
