-- A sheet of settings, as commands and replies write it.
use Rattle.std.specs.Prelude.{ℕ, List, ◌++◌}
use Rattle.terms.specs.declared.Row.{Row}
use Rattle.terms.specs.declared.Sheet.{Sheet}
use Rattle.mlan.specs.Numbers.{two, four}
use Rattle.mlan.specs.Rows.{rows_bytes}

-- the rows, the recipe, the operator and the work order
abbrev pub sheet_bytes : Sheet (List Row) → List ℕ
sheet_bytes s = rows_bytes s.rows ++ (two s.recipe ++ (two s.operator ++ four s.order))
