-- The slots of a queue: its bursts from the first slot on, and the free ones behind them.
use Rattle.std.specs.Prelude.{ℕ, ◌-◌, List, [], ◌∷◌, ◌++◌, map, length, replicate, Some, None, Option}

abbrev pub bursts_in : List (Option (List ℕ)) → List (List ℕ)
bursts_in [] = []
bursts_in (None ∷ slots) = bursts_in slots
bursts_in (Some b ∷ slots) = b ∷ bursts_in slots

abbrev pub in_line : ℕ → List (List ℕ) → List (Option (List ℕ))
in_line n bursts = map Some bursts ++ replicate (n - length bursts) None
