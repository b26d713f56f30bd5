use Rattle.std.proofs.Common.{◌≡◌, [], length}
use Rattle.rack.specs.Hanging.{racked}
use Rattle.script.specs.Words.{words}
use Rattle.live_cable.specs.Arguments.{named_from}
use Rattle.live_cable.proofs.arguments.named.Given as goal

abbrev pub invariant-loop-word : goal.invariant-loop-word
invariant-loop-word l = named_from (racked l.machines) (words l.words) ≡ named_from [] (words l.line)

abbrev pub decreases-loop-word : goal.decreases-loop-word
decreases-loop-word l = length l.words
