use Rattle.std.proofs.Common.{◌≡◌, ◌≤◌, drop}
use Rattle.script.specs.Numerals.{number_from}
use Rattle.script.proofs.number.Given as goal

abbrev pub invariant-loop-byte : goal.invariant-loop-byte
invariant-loop-byte l =
    (number_from l.limit l.value (drop l.byte-index l.word) ≡ number_from l.limit 0 l.word)
    × (l.value ≤ l.limit)
