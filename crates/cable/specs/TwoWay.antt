-- The pools of a line that holds the bursts of each way in a store.
use Rattle.std.specs.Prelude.{ℕ, List, Option}
use Rattle.cable.specs.Held.{slot_pool}
use Rattle.cable.specs.declared.Way.{Way}
use Rattle.cable.specs.declared.Way.TheVariants.{Down, Up}
use Rattle.cable.specs.declared.two_way.TwoWay.{TwoWay}

abbrev pub pools : {S : Type 0} → (S → List (List ℕ)) → TwoWay S → Way → List (List ℕ)
pools held line Down = held line.below
pools held line Up = held line.above

-- a pair, and a carrier, whose queues are the lists of their bursts
abbrev pub pair_pool : TwoWay (Option (List ℕ)) → Way → List (List ℕ)
pair_pool = pools slot_pool

abbrev pub carrier_pool : TwoWay (List (List ℕ)) → Way → List (List ℕ)
carrier_pool = pools (λ q. q)
