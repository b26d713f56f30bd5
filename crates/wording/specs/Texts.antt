-- Texts: bytes in base ten, and what is printed of a machine.
use Rattle.std.specs.Prelude.{ℕ, List, ◌∷◌, ◌++◌, codes, decimal}
use Rattle.std.specs.List.{flat_map}
use Rattle.terms.specs.Words.{kind_text, unit_text}
use Rattle.wording.specs.declared.plate.Plate.{Plate}

-- bytes in base ten, each behind a space
abbrev pub spaced : List ℕ → List ℕ
spaced bytes = flat_map (λ b. 32 ∷ decimal b) bytes

abbrev pub plate_text : Plate → List ℕ
plate_text p = decimal p.address ++ (codes " " ++ (kind_text p.kind ++ (codes " " ++ unit_text p.unit)))
