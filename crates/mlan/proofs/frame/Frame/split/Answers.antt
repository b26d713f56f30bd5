use Rattle.std.proofs.Common.{refl, rules}
use Rattle.mlan.proofs.Frames.{two_patterns}
use Rattle.mlan.proofs.frame.Frame.split.Goals as goal

pub returns : goal.returns
returns c = two_patterns c.args.burst.now _ (search rules) refl
