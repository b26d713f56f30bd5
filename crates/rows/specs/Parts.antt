-- A row as a part of a burst.
use Rattle.std.specs.Prelude.{Option}
use Rattle.std.specs.Option.{option_map}
use Rattle.mlan.specs.Frame.{Piece, piece}
use Rattle.mlan.specs.declared.frame.Part.{Part}

abbrev pub row_told : Option Part → Option Piece
row_told o = option_map piece o
