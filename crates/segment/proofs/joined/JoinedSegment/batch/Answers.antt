use Rattle.std.proofs.Common.{◌≡◌, ℕ, List, ◌++◌, Ok, Err, Result, sym, ap, ◌∙◌, arith}
use Rattle.terms.specs.declared.Refusal.{Refusal}
use Rattle.terms.specs.declared.Refusal.TheVariants.{NoMachine}
use Rattle.blender.specs.Machines.{Model}
use Rattle.segment.specs.Drops.{drop_answer}
use Rattle.segment.proofs.Joins.{batch_right, batch_left}
use Rattle.segment.proofs.joined.JoinedSegment.batch.Goals as goal

not_ok : (r : Result (Unit {0}) Refusal) → Ok tt ≡ r → r ≡ Err NoMachine → ⊥
not_ok r p q = let z : ◌≡◌ {A = ℕ} 0 1 = cc in omega arith

same_refusal : (r : Result (Unit {0}) Refusal) (e : Refusal) → Err e ≡ r → r ≡ Err NoMachine → e ≡ NoMachine
same_refusal r e p q = cc

pub returns-in-Ok : goal.returns-in-Ok
returns-in-Ok g c =
    let a = c.args.address in
    let ns = c.args.amounts.now in
    let xs = g.A.Segment.machines c.args.self.now.left in
    let ys = g.B.Segment.machines c.args.self.now.right in
    let l = c.in-Ok.ensures in
    let w = batch_left a ns xs ys (not_ok (drop_answer a ns xs) l.answer) in
    record { answer = l.answer ∙ w.0; machines = ap (λ (ms : List Model). ms ++ ys) l.machines ∙ w.1 }

pub returns-in-NoMachine : goal.returns-in-NoMachine
returns-in-NoMachine g c =
    let a = c.args.address in
    let ns = c.args.amounts.now in
    let xs = g.A.Segment.machines c.args.self.now.left in
    let ys = g.B.Segment.machines c.args.self.now.right in
    let l = c.in-Err.ensures in
    let r = c.batch-in-NoMachine.ensures in
    let w = batch_right a ns xs ys (sym (ap (λ (x : Refusal). Err x) (sym c.in-NoMachine.is) ∙ l.answer)) in
    let p = l.machines in
    let q = w.1 in
    record { answer = r.answer ∙ w.0; machines = cc }

pub returns-in_default : goal.returns-in_default
returns-in_default g c =
    let a = c.args.address in
    let ns = c.args.amounts.now in
    let xs = g.A.Segment.machines c.args.self.now.left in
    let ys = g.B.Segment.machines c.args.self.now.right in
    let l = c.in-Err.ensures in
    let w = batch_left a ns xs ys (λ h. c.in_default.not-NoMachine (same_refusal (drop_answer a ns xs) c.in-Err.refusal l.answer h)) in
    record { answer = l.answer ∙ w.0; machines = ap (λ (ms : List Model). ms ++ ys) l.machines ∙ w.1 }
