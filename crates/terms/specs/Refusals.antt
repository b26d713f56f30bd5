-- The number of each refusal.
use Rattle.std.specs.Prelude.{ℕ}
use Rattle.terms.specs.declared.Refusal.{Refusal}
use Rattle.terms.specs.declared.Refusal.TheVariants.{NoAddress, BadData, NoMachine, WrongCount, TooLarge}

abbrev pub number_of : Refusal → ℕ
number_of NoAddress = 2
number_of BadData = 4
number_of NoMachine = 8
number_of WrongCount = 9
number_of TooLarge = 10
