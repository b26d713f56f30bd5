-- What the words of a script say of a machine.
use Rattle.std.specs.Prelude.{ℕ, List, [], ◌∷◌, Some, None, Option}
use Rattle.terms.specs.Words.{kind_of, unit_of}
use Rattle.terms.specs.declared.KindName.{KindName}
use Rattle.terms.specs.declared.Unit.{Unit as MassUnit}
use Rattle.script.specs.Numerals.{number_in}
use Rattle.wording.specs.declared.plate.Plate.{Plate}

-- a plate, and the words behind it
abbrev pub Plated : Type 0
Plated = Option (Plate × List (List ℕ))

abbrev pub plate_of : Option ℕ → Option KindName → Option MassUnit → List (List ℕ) → Plated
plate_of None kind unit rest = None
plate_of (Some a) None unit rest = None
plate_of (Some a) (Some k) None rest = None
plate_of (Some a) (Some k) (Some u) rest = Some (record { address = a; kind = k; unit = u }, rest)

-- an address up to 255, a kind and a unit
abbrev pub plate_in : List (List ℕ) → Plated
plate_in [] = None
plate_in (a ∷ []) = None
plate_in (a ∷ k ∷ []) = None
plate_in (a ∷ k ∷ u ∷ rest) = plate_of (number_in 255 a) (kind_of k) (unit_of u) rest
