-- What a line of a stand's script asks for.
use Rattle.std.specs.Prelude.{ℕ, Bool, false, cond, ◌&&◌, List, [], ◌∷◌, length, Some, None, vec_items, codes, Option, ◌==◌, nat_le}
use Rattle.std.specs.Str.{bytes_eq}
use Rattle.script.specs.Words.{words}
use Rattle.script.specs.Numerals.{number_in, numbers_in}
use Rattle.wording.specs.Plates.{Plated, plate_in}
use Rattle.wording.specs.declared.plate.Plate.{Plate}
use Rattle.stand_script.specs.declared.action.Action.{Action}
use Rattle.stand_script.specs.declared.action.Action.TheVariants.{Hang, Run, Show}

pub data Line : Type 0 where
  -- an empty line or a comment
  nothing : Line
  -- a machine to hang on the stand
  machine : Plate → Line
  -- a batch to run at an address: an amount for each component
  batch : ℕ → List ℕ → Line
  -- a burst to show to the machine
  burst : List ℕ → Line
  unknown : Line

abbrev pub asking : Option Action → Line
asking None = nothing
asking (Some (Hang plate)) = machine plate
asking (Some (Run address amounts)) = batch address (vec_items amounts)
asking (Some (Show bytes)) = burst (vec_items bytes)

abbrev machine_of : Plated → Line
machine_of None = unknown
machine_of (Some (plate, [])) = machine plate
machine_of (Some (plate, w ∷ ws)) = unknown

-- exactly an address, a kind and a unit
abbrev pub machine_by : List (List ℕ) → Line
machine_by ws = machine_of (plate_in ws)

abbrev pub batch_of : Option ℕ → Option (List ℕ) → Line
batch_of None amounts = unknown
batch_of (Some address) None = unknown
batch_of (Some address) (Some amounts) = batch address amounts

-- an address, and any number of amounts
abbrev pub batch_by : List (List ℕ) → Line
batch_by [] = unknown
batch_by (a ∷ ws) = batch_of (number_in 255 a) (numbers_in 4294967295 ws)

abbrev pub burst_of : Option (List ℕ) → Line
burst_of None = unknown
burst_of (Some bytes) = cond (nat_le 1 (length bytes) && nat_le (length bytes) 64) (burst bytes) unknown

-- 1 to 64 bytes
abbrev pub burst_by : List (List ℕ) → Line
burst_by ws = burst_of (numbers_in 255 ws)

abbrev pub by_words : List (List ℕ) → Line
by_words [] = nothing
by_words (w ∷ ws) = cond (bytes_eq w (codes "machine")) (machine_by ws) (cond (bytes_eq w (codes "batch")) (batch_by ws) (cond (bytes_eq w (codes "burst")) (burst_by ws) unknown))

abbrev is_comment : List ℕ → Bool
is_comment [] = false
is_comment (c ∷ cs) = c == 35

-- an empty line, or one that begins with #, asks for nothing
abbrev pub asked : List ℕ → Line
asked line = cond (is_comment line) nothing (by_words (words line))
