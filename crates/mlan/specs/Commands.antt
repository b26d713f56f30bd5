-- What a command says, and which bursts are commands of a kind.
use Rattle.std.specs.Prelude.{ℕ, ◌+◌, Bool, true, false, cond, List, length, take, Some, None, Ok, Err, Option, Result, ◌==◌, nat_le, slice_index}
use Rattle.kinds.specs.Kinds.{KindFacts}
use Rattle.terms.specs.Fields.{units_of, function_of, function_limit, tag_of}
use Rattle.terms.specs.declared.Function.{Function}
use Rattle.terms.specs.declared.Tag.{Tag}
use Rattle.terms.specs.declared.TagFault.{TagFault}
use Rattle.terms.specs.declared.TagFault.TheVariants.{Letters, Value}
use Rattle.terms.specs.declared.WeightUnits.{WeightUnits}
use Rattle.mlan.specs.Checksum.{is_sound}
use Rattle.mlan.specs.Frame.{Piece, code_of, data_of}
use Rattle.mlan.specs.Numbers.{two_at, four_at}
use Rattle.mlan.specs.Rows.{rows_fault}
use Rattle.mlan.specs.declared.fault.CommandFault.{CommandFault}
use Rattle.mlan.specs.declared.fault.CommandFault.TheVariants.{Unsound, Code, Length, Field}

pub data Said : Type 0 where
  -- 16, which lowers the mark and the flags, and 17, which only reads
  get_totals : Bool → Said
  -- 19: the rows, recipe, operator and work order
  set_settings : Piece → ℕ → ℕ → ℕ → Said
  -- 20, 49
  get_settings : Said
  get_type : Said
  -- 70: a function and its value
  set_function : Function → ℕ → Said
  -- 71, 80, 85
  get_functions : Said
  get_version : Said
  get_units : Said
  -- 86
  set_units : WeightUnits → Said
  -- 88
  set_keypad : Bool → Said
  -- 90: the letters, and the tag with its value
  set_tag : Piece → Tag → Said

pub data Reading : Type 0 where
  reads : Said → Reading
  faults : CommandFault → Reading

-- data of exactly n bytes; its burst has three bytes more
abbrev pub sized : ℕ → List ℕ → Reading → Reading
sized n bytes next = cond (length bytes == n) next (faults (Length (length bytes + 3)))

-- a field that begins at this byte of the burst, if it is in its range
abbrev pub field : {X : Type 0} → ℕ → Option X → (X → Reading) → Reading
field at None next = faults (Field at)
field at (Some x) next = next x

abbrev pub within : ℕ → ℕ → Option ℕ
within limit n = cond (nat_le n limit) (Some n) None

abbrev pub flag_of : ℕ → Option Bool
flag_of n = cond (n == 0) (Some false) (cond (n == 1) (Some true) None)

-- rows, unless a field of theirs is at fault
abbrev pub sound_rows : Option ℕ → Reading → Reading
sound_rows None next = next
sound_rows (Some byte) next = faults (Field byte)

abbrev pub no_data : Said → List ℕ → Reading
no_data said bytes = sized 0 bytes (reads said)

abbrev pub front_piece : ℕ → List ℕ → Piece
front_piece n bytes = record { at = 2; bytes = take n bytes }

-- recipe, operator and work order stand behind the rows
abbrev pub behind_rows : List ℕ → Reading
behind_rows bytes =
    field 40 (within 999 (two_at bytes 38)) λ operator.
    field 42 (within 999999 (four_at bytes 40)) λ order. reads (set_settings (front_piece 36 bytes) (two_at bytes 36) operator order)

abbrev pub as_settings : KindFacts → List ℕ → Reading
as_settings k bytes = sized 44 bytes (sound_rows (rows_fault k (front_piece 36 bytes)) (behind_rows bytes))

abbrev pub as_function : List ℕ → Reading
as_function bytes =
    sized 3 bytes
    (field 2 (function_of (slice_index bytes 0)) λ function. field 3 (within (function_limit function) (two_at bytes 1)) λ value. reads (set_function function value))

abbrev pub as_functions : List ℕ → Reading
as_functions bytes = sized 1 bytes (field 2 (within 0 (slice_index bytes 0)) λ zero-byte. reads get_functions)

abbrev pub as_units : List ℕ → Reading
as_units bytes = sized 1 bytes (field 2 (units_of (slice_index bytes 0)) λ units. reads (set_units units))

abbrev pub as_keypad : List ℕ → Reading
as_keypad bytes = sized 1 bytes (field 2 (flag_of (slice_index bytes 0)) λ flag. reads (set_keypad flag))

-- letters that name no tag are at byte 2, a value out of its range at byte 4
abbrev pub tag_reading : Piece → Result Tag TagFault → Reading
tag_reading letters (Ok tag) = reads (set_tag letters tag)
tag_reading letters (Err Letters) = faults (Field 2)
tag_reading letters (Err Value) = faults (Field 4)

abbrev pub as_tag : List ℕ → Reading
as_tag bytes = sized 6 bytes (tag_reading (front_piece 2 bytes) (tag_of (take 2 bytes) (four_at bytes 2)))

-- the codes that say the same to every kind
abbrev pub plain_code : ℕ → List ℕ → Reading
plain_code code bytes =
    cond (code == 16) (no_data (get_totals true) bytes)
    (cond (code == 17) (no_data (get_totals false) bytes)
    (cond (code == 20) (no_data get_settings bytes)
    (cond (code == 49) (no_data get_type bytes)
    (cond (code == 70) (as_function bytes)
    (cond (code == 71) (as_functions bytes)
    (cond (code == 80) (no_data get_version bytes)
    (cond (code == 85) (no_data get_units bytes)
    (cond (code == 86) (as_units bytes)
    (cond (code == 88) (as_keypad bytes)
    (cond (code == 90) (as_tag bytes)
    (faults Code)))))))))))

-- a command of a code with its data; the rows of a settings command are the kind's
abbrev pub by_code : KindFacts → ℕ → List ℕ → Reading
by_code k code bytes = cond (code == 19) (as_settings k bytes) (plain_code code bytes)

-- the test for every kind: the code, then the length, then the fields from first to last
abbrev pub data_as : KindFacts → ℕ → List ℕ → Reading
data_as k code bytes = cond (k.takes code) (by_code k code bytes) (faults Code)

-- the command in a burst, for every list of bytes
abbrev pub read_as : KindFacts → List ℕ → Reading
read_as k burst = cond (is_sound burst) (data_as k (code_of burst) (data_of burst)) (faults Unsound)
