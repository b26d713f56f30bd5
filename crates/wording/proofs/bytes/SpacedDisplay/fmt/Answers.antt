use Rattle.std.proofs.Common.{◌∷◌, [], get_or, take, decimal, sym, refl, ap, ◌∙◌}
use Rattle.std.proofs.Output.{has_written_append, has_written_of_eq}
use Rattle.std.proofs.lemmas.List.{take_more, flat_map_more}
use Rattle.wording.specs.Texts.{spaced}
use Rattle.wording.proofs.bytes.SpacedDisplay.fmt.Goals as goal

pub loop-byte-preserved : goal.loop-byte-preserved
loop-byte-preserved g c = λ plain.
    let bytes = c.args.self.now.0.now in
    let i = c.loop-byte.byte-index in
    let before = c.loop-byte.invariant plain in
    let here = c.in_ok-write.ensures.writes before.plain refl in
    let more = flat_map_more (λ b. 32 ∷ decimal b) [] (take i bytes) (get_or bytes i 0) ∙ sym (ap spaced (take_more bytes i 0 c.loop-byte-test.true)) in
    has_written_of_eq _ _ _ _ _ more (has_written_append _ _ _ _ _ _ before here)
