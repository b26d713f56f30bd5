-- A tag command, by what its letters and its value make.
use Rattle.std.proofs.Common.{◌≡◌, ℕ, ◌+◌, cond, List, length, take, Result, sym, ap, ◌∙◌}
use Rattle.std.proofs.lemmas.Bool.{eq-eqb}
use Rattle.terms.specs.Fields.{tag_of}
use Rattle.terms.specs.declared.Tag.{Tag}
use Rattle.terms.specs.declared.TagFault.{TagFault}
use Rattle.mlan.specs.Commands.{faults, front_piece, tag_reading, as_tag}
use Rattle.mlan.specs.Numbers.{four_at}
use Rattle.mlan.specs.declared.fault.CommandFault.TheVariants.{Length}

pub made : (bytes : List ℕ) (value : ℕ) (tag : Result Tag TagFault) → length bytes ≡ 6 → value ≡ four_at bytes 2 → tag ≡ tag_of (take 2 bytes) value → tag_reading (front_piece 2 bytes) tag ≡ as_tag bytes
made bytes value tag six v t =
    ap (tag_reading (front_piece 2 bytes)) (t ∙ ap (tag_of (take 2 bytes)) v)
    ∙ sym (ap (λ b. cond b (tag_reading (front_piece 2 bytes) (tag_of (take 2 bytes) (four_at bytes 2))) (faults (Length (length bytes + 3)))) (eq-eqb (length bytes) 6 six))
