-- A batch: an amount for each component of a machine.
use Rattle.std.specs.Prelude.{ℕ, ◌+◌, ◌-◌, ◌%◌, ◌^◌, Bool, true, cond, List, [], ◌∷◌, length, Some, None, Ok, Err, Option, Result, ◌==◌, bit_or, nat_le, nat_lt, slice_index}
use Rattle.std.specs.List.{list_all}
use Rattle.kinds.specs.Kinds.{places}
use Rattle.terms.specs.Addresses.{is_address}
use Rattle.terms.specs.Places.{each_place}
use Rattle.terms.specs.declared.Refusal.{Refusal}
use Rattle.terms.specs.declared.Refusal.TheVariants.{NoAddress, NoMachine, WrongCount, TooLarge}
use Rattle.blender.specs.Machines.{Model}

-- the total of a place, 1 to 12
abbrev pub total : Model → ℕ → ℕ
total m p = slice_index m.totals (p - 1)

-- the amount of the component that stands at a place, if one does: from the components' places and the amounts
abbrev pub dose : List ℕ → List ℕ → ℕ → Option ℕ
dose [] amounts p = None
dose (q ∷ qs) [] p = None
dose (q ∷ qs) (n ∷ ns) p = cond (q == p) (Some n) (dose qs ns p)

-- totals count modulo 4,294,967,296
abbrev pub with_dose : ℕ → Option ℕ → ℕ
with_dose t None = t
with_dose t (Some n) = (t + n) % 4294967296

-- the flag bits of a total that comes to this sum at place p: bits 0 and p where it passes its end
abbrev pub turn_bits : ℕ → ℕ → ℕ
turn_bits sum p = cond (nat_lt sum 4294967296) 0 (bit_or 1 (2 ^ p))

-- the flags with the bits of each component, in their order
abbrev pub turned : Model → List ℕ → List ℕ → ℕ → ℕ
turned m [] amounts flags = flags
turned m (q ∷ qs) [] flags = flags
turned m (q ∷ qs) (n ∷ ns) flags = turned m qs ns (bit_or flags (turn_bits (total m q + n) q))

-- a machine that has run the batch: totals, cycles, flags and mark
abbrev pub filled_total : Model → List ℕ → ℕ → ℕ
filled_total m amounts p = with_dose (total m p) (dose (places m.kind) amounts p)

unfoldable pub filled : Model → List ℕ → Model
filled m amounts =
    record m {
      totals = each_place (filled_total m amounts);
      cycles = (m.cycles + 1) % 65536;
      flags = turned m (places m.kind) amounts m.flags;
      mark = true;
    }

-- each amount is 0 to 1,000,000
abbrev pub all_within : List ℕ → Bool
all_within ns = list_all (λ n. nat_le n 1000000) ns

-- whether a machine takes these amounts
abbrev pub amounts_answer : Model → List ℕ → Result (Unit {0}) Refusal
amounts_answer m amounts =
    cond (length amounts == m.kind.components) (cond (all_within amounts) (Ok tt) (Err TooLarge)) (Err WrongCount)

-- a batch for the machine with an address
abbrev pub batch_answer : ℕ → List ℕ → Model → Result (Unit {0}) Refusal
batch_answer a amounts m = cond (is_address a) (cond (a == m.address) (amounts_answer m amounts) (Err NoMachine)) (Err NoAddress)

-- a refusal changes nothing
abbrev pub if_accepted : {X : Type 0} → Result (Unit {0}) Refusal → X → X → X
if_accepted (Ok x) new old = new
if_accepted (Err refusal) new old = old

abbrev pub batched : ℕ → List ℕ → Model → Model
batched a amounts m = if_accepted (batch_answer a amounts m) (filled m amounts) m
