use Rattle.std.proofs.Common.{◌+◌, ◌<◌, length, slice_set, sym, subst, arith}
use Rattle.segment.specs.Saying.{Fits}
use Rattle.rack.proofs.Racking.{ShownFit, show_fit}
use Rattle.rack.proofs.rack.RackSegment.show.Goals as goal

pub loop-machine-preserved : goal.loop-machine-preserved
loop-machine-preserved c =
    let i = c.loop-machine.machine-index in
    let xs = c.loop-machine.machine-items in
    let within : i < length xs = omega arith in
    let s = c.show_next.ensures in
    subst (λ t. ShownFit c.args.burst.now c.deref_mut-machine-items.result.now (slice_set xs i c.show_next.new.machine) (i + 1) t) (sym s.said)
    (show_fit c.args.burst.now _ xs i c.machine-item.result within c.loop-machine-test.true _ _ c.loop-machine.invariant s.machine (subst Fits s.said (s.fits c.loop-machine.invariant.3)))
