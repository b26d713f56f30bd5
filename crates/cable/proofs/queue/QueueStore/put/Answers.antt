use Rattle.std.proofs.Common.{ap, ◌∙◌, sym}
use Rattle.cable.specs.Held.{up_to_eight}
use Rattle.cable.proofs.Lines.{put_in, all_full}
use Rattle.cable.proofs.queue.QueueStore.put.Goals as goal

pub invariant_of-self : goal.invariant_of-self
invariant_of-self c = (put_in c.self.inside.slots c.self.invariant c.in-Some.free c.args.burst (sym c.in-Some.ensures)).0

pub returns-in-Some : goal.returns-in-Some
returns-in-Some c =
    (put_in c.self.inside.slots c.self.invariant c.in-Some.free c.args.burst (sym c.in-Some.ensures)).1 ∙ ap (up_to_eight c.args.burst) c.self.view_is

pub returns-in_default : goal.returns-in_default
returns-in_default c =
    sym c.self.view_is
    ∙ all_full c.self.inside.slots c.self.invariant c.args.burst (sym c.in_default.ensures)
    ∙ ap (up_to_eight c.args.burst) c.self.view_is
