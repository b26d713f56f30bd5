use Rattle.std.proofs.Common.{◌+◌, ◌%◌, get_or, sum, sym, ap, ◌∙◌}
use Rattle.std.proofs.Math.Nat.{mod-add-mod}
use Rattle.std.proofs.lemmas.List.{take_all}
use Rattle.std.proofs.lemmas.List.Sums.{sum_by_more}
use Rattle.mlan.proofs.checksum.sum_of.Goals as goal

pub loop-byte-preserved : goal.loop-byte-preserved
loop-byte-preserved c =
    let xs = c.args.burst.now in
    let i = c.loop-byte.byte-index in
    ap (λ s. (s + get_or xs i 0) % 256) c.loop-byte.invariant
    ∙ mod-add-mod _ 256 (get_or xs i 0)
    ∙ ap (λ s. s % 256) (sym (sum_by_more (λ x. x) xs i 0 c.loop-byte-test.true))

pub returns : goal.returns
returns c = c.loop-byte.invariant ∙ ap (λ s. sum s % 256) (take_all _ _ c.loop-byte-test.false)
