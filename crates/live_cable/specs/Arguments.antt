-- What the words of a command line name: machines, and the amount of `each`.
use Rattle.std.specs.Prelude.{◌≡◌, ℕ, Bool, cond, List, [], ◌∷◌, ◌++◌, length, Some, None, Ok, Err, codes, Option, Result, nat_le, nat_lt}
use Rattle.std.specs.Str.{bytes_eq}
use Rattle.terms.specs.Addresses.{is_address}
use Rattle.blender.specs.Machines.{Model, new_model}
use Rattle.rack.specs.Racks.{facts_of}
use Rattle.script.specs.Numerals.{number_in}
use Rattle.wording.specs.Plates.{Plated, plate_in}
use Rattle.wording.specs.declared.plate.Plate.{Plate}
use Rattle.live_cable.specs.Cables.{live}
use Rattle.live_cable.specs.declared.machines.LiveCable.{LiveCable}
use Rattle.live_cable.specs.declared.fault.ArgumentFault.{ArgumentFault}
use Rattle.live_cable.specs.declared.fault.ArgumentFault.TheVariants.{NoMachine, Machine, Address, TooMany, Each, TooLarge, Memory}

pub data Names : Type 0 where
  names : List Model → Option ℕ → Names
  wrong : ArgumentFault → Names

-- at least one machine is named
abbrev pub all_named : List Model → Option ℕ → Names
all_named [] each = wrong NoMachine
all_named (m ∷ ms) each = names (m ∷ ms) each

-- `each` is followed by one number of at most 1,000,000, and by nothing else
abbrev amount_of : Option ℕ → Result ℕ ArgumentFault
amount_of None = Err Each
amount_of (Some n) = cond (nat_le n 1000000) (Ok n) (Err TooLarge)

abbrev pub each_amount : List (List ℕ) → Result ℕ ArgumentFault
each_amount [] = Err Each
each_amount (w ∷ []) = amount_of (number_in 4294967295 w)
each_amount (w ∷ v ∷ ws) = Err Each

abbrev pub with_each : List Model → Result ℕ ArgumentFault → Names
with_each ms (Ok n) = all_named ms (Some n)
with_each ms (Err f) = wrong f

-- a machine more, at the right end
abbrev pub hung : List Model → Plate → Result (List Model) ArgumentFault
hung ms p =
    cond (is_address p.address)
    (cond (nat_lt (length ms) 254) (Ok (ms ++ new_model (facts_of p.kind) p.address p.unit ∷ [])) (Err TooMany))
    (Err Address)

abbrev pub is_each : List ℕ → Bool
is_each w = bytes_eq w (codes "each")

abbrev pub next : Result (List Model) ArgumentFault → (List Model → Names) → Names
next (Ok ms) go = go ms
next (Err f) go = wrong f

abbrev pub plate_next : List Model → Plated → (List Model → Names) → Names
plate_next ms None go = wrong Machine
plate_next ms (Some p) go = next (hung ms p.0) go

-- from the machines so far and the words that are left
unfoldable pub named_from : List Model → List (List ℕ) → Names
named_from ms [] = all_named ms None
named_from ms (a ∷ []) = cond (is_each a) (with_each ms (each_amount [])) (wrong Machine)
named_from ms (a ∷ k ∷ []) = cond (is_each a) (with_each ms (each_amount (k ∷ []))) (wrong Machine)
named_from ms (a ∷ k ∷ u ∷ ws) =
    cond (is_each a) (with_each ms (each_amount (k ∷ u ∷ ws))) (plate_next ms (plate_in (a ∷ k ∷ u ∷ [])) λ more. named_from more ws)

-- what is answered of a machine, and of a command line; want of memory says nothing of either
abbrev pub Unhung : ArgumentFault → Result (List Model) ArgumentFault → Type 0
Unhung NoMachine h = h ≡ Err NoMachine
Unhung Machine h = h ≡ Err Machine
Unhung Address h = h ≡ Err Address
Unhung TooMany h = h ≡ Err TooMany
Unhung Each h = h ≡ Err Each
Unhung TooLarge h = h ≡ Err TooLarge
Unhung Memory h = Unit {0}

abbrev pub Hung : Result (Unit {0}) ArgumentFault → Result (List Model) ArgumentFault → List Model → Type 0
Hung (Ok x) h after = h ≡ Ok after
Hung (Err f) h after = Unhung f h

abbrev pub Wrong : ArgumentFault → Names → Type 0
Wrong NoMachine n = n ≡ wrong NoMachine
Wrong Machine n = n ≡ wrong Machine
Wrong Address n = n ≡ wrong Address
Wrong TooMany n = n ≡ wrong TooMany
Wrong Each n = n ≡ wrong Each
Wrong TooLarge n = n ≡ wrong TooLarge
Wrong Memory n = Unit {0}

abbrev pub Named : Result LiveCable ArgumentFault → Names → Type 0
Named (Ok c) n = n ≡ names (live c) c.each
Named (Err f) n = Wrong f n
