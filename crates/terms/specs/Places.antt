-- The twelve places of a machine, which have a total, a row and a booked sum each.
use Rattle.std.specs.Prelude.{ℕ, List, map}
use Rattle.std.specs.List.{range_with_len}

-- 1 to 12
abbrev pub places : List ℕ
places = range_with_len 1 12

-- a list with something for each place
abbrev pub each_place : {X : Type 0} → (ℕ → X) → List X
each_place f = map f places
