use Rattle.std.proofs.Common.{refl, arith}
use Rattle.mlan.proofs.Bursts.{held}
use Rattle.mlan.proofs.burst.Burst.new.Goals as goal

pub invariant_of-result : goal.invariant_of-result
invariant_of-result c = held c.args.from.now c.copy_from_slice.new.self _ (omega arith) (omega arith) c.copy_from_slice.ensures.after refl
