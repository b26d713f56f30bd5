-- A drop: what the machines on a cable, from left to right, do with a batch and with a burst.
use Rattle.std.specs.Prelude.{ℕ, cond, List, [], ◌∷◌, map, filter_map, Some, None, Err, Option, Result, ◌==◌}
use Rattle.terms.specs.Addresses.{is_address}
use Rattle.terms.specs.declared.Refusal.{Refusal}
use Rattle.terms.specs.declared.Refusal.TheVariants.{NoAddress, NoMachine}
use Rattle.blender.specs.Batches.{amounts_answer, filled, if_accepted}
use Rattle.blender.specs.Machines.{Model, reply, after}

-- the leftmost machine of an address
abbrev pub leftmost : ℕ → List Model → Option Model
leftmost a [] = None
leftmost a (m ∷ ms) = cond (a == m.address) (Some m) (leftmost a ms)

abbrev pub machine_answer : List ℕ → Option Model → Result (Unit {0}) Refusal
machine_answer amounts None = Err NoMachine
machine_answer amounts (Some m) = amounts_answer m amounts

-- a batch goes to the leftmost machine of its address
abbrev pub drop_answer : ℕ → List ℕ → List Model → Result (Unit {0}) Refusal
drop_answer a amounts ms = cond (is_address a) (machine_answer amounts (leftmost a ms)) (Err NoAddress)

abbrev pub leftmost_filled : ℕ → List ℕ → List Model → List Model
leftmost_filled a amounts [] = []
leftmost_filled a amounts (m ∷ ms) = cond (a == m.address) (filled m amounts ∷ ms) (m ∷ leftmost_filled a amounts ms)

-- a refusal changes no machine
abbrev pub drop_batched : ℕ → List ℕ → List Model → List Model
drop_batched a amounts ms = if_accepted (drop_answer a amounts ms) (leftmost_filled a amounts ms) ms

-- a burst is shown to all: each machine that it concerns obeys
abbrev pub shown : List ℕ → List Model → List Model
shown b ms = map (λ m. after m b) ms

-- what the machines reply, from left to right
abbrev pub replies : List ℕ → List Model → List (List ℕ)
replies b ms = filter_map (λ m. reply m b) ms

abbrev pub only : List (List ℕ) → Option (List ℕ)
only [] = None
only (r ∷ []) = Some r
only (r ∷ s ∷ rs) = None

-- the drop replies if exactly one machine does: two replies collide
abbrev pub drop_reply : List ℕ → List Model → Option (List ℕ)
drop_reply b ms = only (replies b ms)
