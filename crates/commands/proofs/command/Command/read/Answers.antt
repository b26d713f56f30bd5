use Rattle.std.proofs.Common.{ℕ, cond, ap, ◌∙◌}
use Rattle.mlan.specs.Commands.{data_as, faults}
use Rattle.mlan.specs.Frame.{code_of, data_of}
use Rattle.mlan.specs.declared.fault.CommandFault.TheVariants.{Unsound}
use Rattle.mlan.proofs.Frames.{found_frame}
use Rattle.commands.proofs.command.Command.read.Goals as goal

pub returns : goal.returns
returns g c =
    let burst = c.args.burst.now in
    let k = g.K.Kind.facts in
    let parts = found_frame _ burst c.in-Some.ensures in
    c.of_data.ensures
    ∙ ap (λ (n : ℕ). data_as k n c.in-Some.frame.inner.bytes.now) parts.0
    ∙ ap (data_as k (code_of burst)) parts.1
    ∙ ap (λ b. cond b (data_as k (code_of burst) (data_of burst)) (faults Unsound)) c.if-not-sound.ensures
