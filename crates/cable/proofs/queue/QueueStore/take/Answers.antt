use Rattle.std.proofs.Common.{ap, ◌∙◌}
use Rattle.cable.specs.Held.{rest}
use Rattle.cable.proofs.Lines.{taken_out}
use Rattle.cable.proofs.queue.QueueStore.take.Goals as goal

pub invariant_of-self : goal.invariant_of-self
invariant_of-self c = (taken_out c.self.inside.slots c.self.invariant _ _ c.take-oldest.ensures.after c.rotate_left.ensures.after).0

pub returns-clause-after : goal.returns-clause-after
returns-clause-after c = (taken_out c.self.inside.slots c.self.invariant _ _ c.take-oldest.ensures.after c.rotate_left.ensures.after).1 ∙ ap rest c.self.view_is
