use Rattle.std.proofs.Common.{◌≡◌, ◌%◌, take, sum}
use Rattle.mlan.proofs.checksum.sum_of.Given as goal

abbrev pub invariant-loop-byte : goal.invariant-loop-byte
invariant-loop-byte l = l.sum ≡ sum (take l.byte-index l.burst) % 256
