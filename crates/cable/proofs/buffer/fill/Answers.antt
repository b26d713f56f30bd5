use Rattle.std.specs.Prelude.{◌≡◌, ℕ, ◌≤◌, if◌then◌else◌, List, [], ◌++◌, length, drop, replicate, nat_le, unwrap_or}
use Rattle.std.proofs.Common.{rules, le-leb}
use Rattle.std.proofs.lemmas.List.{drop-replicate}
use Rattle.mlan.specs.Checksum.{padded}
use Rattle.cable.proofs.buffer.fill.Goals as goal

-- bytes at the front of a zero buffer of n bytes
over_zeros : (n : ℕ) (bytes written zeros old : List ℕ) → 64 ≤ n → written ≡ bytes → zeros ≡ replicate n 0
    → written ++ drop (length bytes) zeros ≡ (if nat_le 64 n then padded n bytes else old)
over_zeros n bytes written zeros old room w z = simp (w, z, le-leb 64 n room, drop-replicate {X = ℕ} (length bytes) n 0)

pub returns-clause-buffer : goal.returns-clause-buffer
returns-clause-buffer c =
    let kept : c.map_or-bytes.result.now ≡ unwrap_or c.args.burst [] = search rules in
    rw (← kept) (over_zeros (length c.args.buffer.now) c.map_or-bytes.result.now c.copy_from_slice.new.self c.fill.new.self c.args.buffer.now c.if-buffer-lt64.false c.copy_from_slice.ensures.after (c.fill.ensures.after (λ y e. e)))
