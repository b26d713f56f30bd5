use Rattle.std.proofs.Common.{rules, ◌≡◌, Err, ◌∙◌}
use Rattle.terms.specs.declared.Refusal.TheVariants.{NoMachine}
use Rattle.rack.proofs.Racking.{batch_nowhere, batch_at}
use Rattle.rack.proofs.rack.RackSegment.batch.Goals as goal

pub returns-in_err-at-clause-answer : goal.returns-in_err-at-clause-answer
returns-in_err-at-clause-answer c =
    let told : c.from_residual-in_err-at.result ≡ Err NoMachine = search rules in
    told ∙ (batch_nowhere c.args.address c.args.amounts.now (search rules) c.args.self.now.machines.items (search rules)).0

pub returns-in_err-at-clause-machines : goal.returns-in_err-at-clause-machines
returns-in_err-at-clause-machines c = (batch_nowhere c.args.address c.args.amounts.now (search rules) c.args.self.now.machines.items (search rules)).1

pub returns-clause-answer : goal.returns-clause-answer
returns-clause-answer c =
    let b = c.batch.ensures in
    b.answer ∙ (batch_at c.args.address c.args.amounts.now (search rules) _ _ c.args.self.now.machines.items c.in_ok-at.at (search rules) c.index_mut.ensures.value b.machines).0

pub returns-clause-machines : goal.returns-clause-machines
returns-clause-machines c =
    (batch_at c.args.address c.args.amounts.now (search rules) _ _ c.args.self.now.machines.items c.in_ok-at.at (search rules) c.index_mut.ensures.value c.batch.ensures.machines).1
