-- The number of each fault, and the byte that it names.
use Rattle.std.specs.Prelude.{ℕ, Ok, Err, Result}
use Rattle.faults.specs.declared.AccountFault.{AccountFault}
use Rattle.faults.specs.declared.AccountFault.TheVariants.{Message, Late, Full}
use Rattle.faults.specs.declared.BurstFault.{BurstFault}
use Rattle.faults.specs.declared.BurstFault.TheVariants.{Nothing, Short, Unsound}
use Rattle.faults.specs.declared.MessageFault.{MessageFault}
use Rattle.faults.specs.declared.MessageFault.TheVariants.{Burst, OtherAddress, Nak, OtherCode, Malformed}

-- a fault, by what a person is told of it
pub record Named : Type 0 where
  pub number : ℕ
  -- a byte of the burst, counted from 0
  pub byte : ℕ

abbrev pub of_burst : BurstFault → Named
of_burst Nothing = record { number = 21; byte = 0 }
of_burst (Short length) = record { number = 22; byte = length }
of_burst (Unsound at) = record { number = 23; byte = at }

abbrev pub of_message : MessageFault → Named
of_message (Burst f) = of_burst f
of_message OtherAddress = record { number = 31; byte = 0 }
of_message Nak = record { number = 32; byte = 2 }
of_message OtherCode = record { number = 33; byte = 1 }
of_message (Malformed at) = record { number = 34; byte = at }

abbrev pub of_account : AccountFault → Named
of_account (Message f) = of_message f
of_account (Late at) = record { number = 24; byte = at }
of_account (Full at) = record { number = 41; byte = at }

abbrev pub fault_number : AccountFault → ℕ
fault_number f = (of_account f).number

abbrev pub fault_byte : AccountFault → ℕ
fault_byte f = (of_account f).byte

-- a fault of a layer goes up inside a fault of the next; an answer goes on
abbrev pub carried : {X Y E F : Type 0} → (E → F) → (X → Result Y F) → Result X E → Result Y F
carried wrap next (Ok x) = next x
carried wrap next (Err e) = Err (wrap e)
