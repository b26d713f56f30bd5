use Rattle.std.proofs.Common.{◌≡◌, ◌<◌, ◌≤◌, List, map, length, sym, ap, ◌∙◌, arith}
use Rattle.std.proofs.lemmas.List.{take_at, take_all}
use Rattle.rack.specs.Racks.{even_batched}
use Rattle.rack.specs.declared.AnyMachine.{AnyMachine}
use Rattle.rack.proofs.Racking.{models, even_more}
use Rattle.rack.proofs.rack.Rack.batch_evenly.Goals as goal

pub loop-machine-preserved : goal.loop-machine-preserved
loop-machine-preserved c =
    let i = c.loop-machine.machine-index in
    let xs = c.loop-machine.machine-items in
    let within : i < length xs = omega arith in
    even_more c.args.amount _ xs i c.machine-item.result _ within c.loop-machine-test.true c.batch_evenly.ensures.machine c.loop-machine.invariant

pub returns : goal.returns
returns c =
    let i = c.loop-machine.machine-index in
    let xs = c.loop-machine.machine-items in
    let past : length xs ≤ i = omega arith in
    let full = take_all i _ c.loop-machine-test.false ∙ c.deref_mut-machine-items.ensures.value in
    let long : length xs ≡ c.args.self.now.machines.len = c.loop-machine.auto.machine-items ∙ c.deref_mut-machine-items.ensures.len in
    ap models (take_at xs _ _ long) ∙ sym (ap models (take_all i xs past)) ∙ c.loop-machine.invariant.1 ∙ ap (λ (l : List AnyMachine). map (even_batched c.args.amount) (models l)) full
