use Rattle.std.proofs.Common.{List, sym, ap, ◌∙◌, subst}
use Rattle.std.proofs.lemmas.Result.{err_from_is_err_and}
use Rattle.rack.specs.Hanging.{racked}
use Rattle.script.specs.Words.{words}
use Rattle.blender.specs.Machines.{Model}
use Rattle.live_cable.specs.Arguments.{Names, Named, with_each, next, named_from}
use Rattle.live_cable.proofs.Naming.{begins, ended, taken, at_each, no_plate, one_plate, not_read, is_read, is_wrong, not_hung}
use Rattle.live_cable.proofs.arguments.named.Goals as goal

pub returns-in_err-amount : goal.returns-in_err-amount
returns-in_err-amount c =
    let ms = racked c.loop-word.machines in
    let p = err_from_is_err_and c.from_residual.result c.from_residual.ensures.1 in
    let each = taken _ _ _ _ c.next-each.ensures.steps c.in-Some.ensures in
    let all = sym c.loop-word.invariant ∙ ap (named_from ms) each ∙ at_each ms _ _ (sym c.if-says.ensures) ∙ ap (with_each ms) (sym c.in_err-amount.ensures) in
    rw (p.1, p.2) (is_wrong _ _ all)

pub returns-then-says : goal.returns-then-says
returns-then-says c =
    let ms = racked c.loop-word.machines in
    let each = taken _ _ _ _ c.next-each.ensures.steps c.in-Some.ensures in
    let all = sym c.loop-word.invariant ∙ ap (named_from ms) each ∙ at_each ms _ _ (sym c.if-says.ensures) ∙ ap (with_each ms) (sym c.in_ok-amount.ensures) in
    subst (λ (n : Names). Named c.finished.result n) (sym all) c.finished.ensures

pub returns-in_err-plate : goal.returns-in_err-plate
returns-in_err-plate c =
    let p = err_from_is_err_and c.from_residual-in_err-plate.result c.from_residual-in_err-plate.ensures.1 in
    let first = begins _ _ c.in-Some.ensures in
    let read = not_read _ _ _ c.in_err-plate.ensures.value in
    rw (p.1, p.2, read.1) (sym c.loop-word.invariant ∙ no_plate (racked c.loop-word.machines) _ _ _ _ _ first.1 (sym c.if-says.ensures) read.0 c.read.ensures.plate)

pub returns-in_err-hang : goal.returns-in_err-hang
returns-in_err-hang c =
    let p = err_from_is_err_and c.from_residual-in_err-hang.result c.from_residual-in_err-hang.ensures.1 in
    let first = begins _ _ c.in-Some.ensures in
    let read = is_read _ _ _ c.in_ok-plate.ensures.value in
    let all = sym c.loop-word.invariant ∙ one_plate (racked c.loop-word.machines) _ _ _ _ _ _ first.1 (sym c.if-says.ensures) read c.read.ensures.plate in
    rw (p.1, p.2) (not_hung _ _ _ _ c.in_err-hang.ensures all)

pub loop-word-preserved : goal.loop-word-preserved
loop-word-preserved c =
    let go : List Model → Names = λ more. named_from more (words c.read.new.line) in
    let first = begins _ _ c.in-Some.ensures in
    let read = is_read _ _ _ c.in_ok-plate.ensures.value in
    sym (ap (λ r. next r go) c.in_ok-hang.ensures) ∙ sym (one_plate (racked c.loop-word.machines) _ _ _ _ _ _ first.1 (sym c.if-says.ensures) read c.read.ensures.plate) ∙ c.loop-word.invariant

pub returns : goal.returns
unfolding named_from
returns c =
    let all = sym c.loop-word.invariant ∙ ap (named_from (racked c.loop-word.machines)) (ended _ c.in_default.ensures) in
    subst (λ (n : Names). Named c.finished-2.result n) (sym all) c.finished-2.ensures
