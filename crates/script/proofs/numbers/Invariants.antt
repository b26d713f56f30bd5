use Rattle.std.proofs.Common.{◌≡◌, ℕ, List, ◌++◌, map, vec_items}
use Rattle.std.specs.Option.{option_map}
use Rattle.script.specs.Words.{words}
use Rattle.script.specs.Numerals.{numbers_in}
use Rattle.script.proofs.numbers.Given as goal

-- the numbers so far, and those that the words left say, are all of them
abbrev pub invariant-loop-word : goal.invariant-loop-word
invariant-loop-word g l =
    let old : List ℕ = map g.T.Numeral.value (vec_items l.all) in
    option_map (λ more. old ++ more) (numbers_in g.T.Numeral.limit (words l.word-iterator)) ≡ numbers_in g.T.Numeral.limit (words l.line)
