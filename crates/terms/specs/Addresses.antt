-- Addresses of machines.
use Rattle.std.specs.Prelude.{ℕ, Bool, cond, ◌&&◌, Ok, Err, Result, nat_le}
use Rattle.terms.specs.declared.Refusal.{Refusal}
use Rattle.terms.specs.declared.Refusal.TheVariants.{NoAddress}
use Rattle.terms.specs.declared.address.Address.{Address}

-- an address is 1 to 254
abbrev pub is_address : ℕ → Bool
is_address n = nat_le 1 n && nat_le n 254

abbrev pub number : Address → ℕ
number a = a.value

abbrev pub numbered : Result Address Refusal → Result ℕ Refusal
numbered (Ok a) = Ok (number a)
numbered (Err f) = Err f

abbrev pub addressed : ℕ → Result ℕ Refusal
addressed n = cond (is_address n) (Ok n) (Err NoAddress)
