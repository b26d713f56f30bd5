-- The frame of a burst: the address first, the code second, the checksum last, the data between them.
use Rattle.std.specs.Prelude.{ℕ, ◌-◌, cond, List, length, take, drop, Some, None, Option, nat_le, slice_index}
use Rattle.std.specs.Option.{option_map}
use Rattle.mlan.specs.declared.frame.Frame.{Frame}
use Rattle.mlan.specs.declared.frame.Part.{Part}

-- a part of a burst: the number of its first byte, counted from 0, and its bytes
pub record Piece : Type 0 where
  pub at : ℕ
  pub bytes : List ℕ

abbrev pub piece : Part → Piece
piece p = record { at = p.at; bytes = p.bytes.now }

-- n bytes of a burst from byte i on
abbrev pub part_of : ℕ → ℕ → List ℕ → Piece
part_of i n burst = record { at = i; bytes = take n (drop i burst) }

pub record Framing : Type 0 where
  pub address : ℕ
  pub code : ℕ
  pub between : Piece
  pub check : ℕ

abbrev pub framing_of : Frame → Framing
framing_of f = record { address = f.address; code = f.code; between = piece f.inner; check = f.check }

abbrev pub framing : Option Frame → Option Framing
framing o = option_map framing_of o

abbrev pub code_of : List ℕ → ℕ
code_of burst = slice_index burst 1

abbrev pub data_of : List ℕ → List ℕ
data_of burst = take (length burst - 3) (drop 2 burst)

-- the frame of every list of bytes; fewer than 3 bytes have none
abbrev pub framed : List ℕ → Option Framing
framed burst =
    cond (nat_le 3 (length burst))
    (Some (record { address = slice_index burst 0; code = code_of burst; between = part_of 2 (length burst - 3) burst; check = slice_index burst (length burst - 1) }))
    None
