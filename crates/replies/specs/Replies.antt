-- What a reply says, and which bursts are replies to a question.
use Rattle.std.specs.Prelude.{ℕ, ◌+◌, ◌-◌, ◌*◌, Bool, true, false, cond, ◌||◌, List, length, take, drop, Some, None, Ok, Err, Option, Result, ◌==◌, nat_lt, slice_index}
use Rattle.faults.specs.Faults.{carried}
use Rattle.faults.specs.declared.BurstFault.{BurstFault}
use Rattle.faults.specs.declared.BurstFault.TheVariants.{Nothing, Short, Unsound}
use Rattle.faults.specs.declared.MessageFault.{MessageFault}
use Rattle.faults.specs.declared.MessageFault.TheVariants.{Burst, OtherAddress, Nak, OtherCode, Malformed}
use Rattle.kinds.specs.Kinds.{KindFacts, four_facts, twelve_facts, all_characters}
use Rattle.terms.specs.Fields.{unit_of, software_code, software_of, units_of}
use Rattle.terms.specs.Places.{each_place}
use Rattle.terms.specs.declared.Software.{Software}
use Rattle.terms.specs.declared.Software.TheVariants.{Four as FourSoftware, Twelve as TwelveSoftware}
use Rattle.terms.specs.declared.Unit.{Unit as MassUnit}
use Rattle.terms.specs.declared.Unit.TheVariants.{Tenths, Grams}
use Rattle.terms.specs.declared.WeightUnits.{WeightUnits}
use Rattle.mlan.specs.Checksum.{is_sound}
use Rattle.mlan.specs.Commands.{within}
use Rattle.mlan.specs.Frame.{Piece, Framing, part_of, code_of}
use Rattle.mlan.specs.Numbers.{two_at, four_at}
use Rattle.mlan.specs.Rows.{rows_fault}
use Rattle.replies.specs.declared.reply.Asked.{Asked}

pub data Told : Type 0 where
  -- ACK, to a command that sets something
  acknowledged : Told
  -- to 16 and 17: the unit, the software type, cycles, flags and the twelve totals
  totals : Bool → MassUnit → ℕ → ℕ → ℕ → List ℕ → Told
  -- to 20: the unit, the change mark, the software type, the rows, recipe, operator and work order
  settings : MassUnit → Bool → ℕ → Piece → ℕ → ℕ → ℕ → Told
  -- to 49: the unit and the software type
  system_type : MassUnit → ℕ → Told
  -- to 71: the values of functions 130 and 82
  functions : ℕ → ℕ → Told
  -- to 80
  version : Piece → Told
  -- to 85
  display_units : WeightUnits → Told

abbrev pub Telling : Type 0
Telling = Result Told MessageFault

-- data of exactly n bytes; its burst has three bytes more
abbrev pub sized : ℕ → List ℕ → Telling → Telling
sized n bytes next = cond (length bytes == n) next (Err (Malformed (length bytes + 3)))

-- a field that begins at this byte of the burst, if it is in its range
abbrev pub field : {X : Type 0} → ℕ → Option X → (X → Telling) → Telling
field at None next = Err (Malformed at)
field at (Some x) next = next x

-- the system byte of a settings reply: one more than the unit's while the change mark is up
abbrev pub marked_of : ℕ → Option (MassUnit × Bool)
marked_of n = cond (n == 2) (Some (Tenths, false)) (cond (n == 3) (Some (Tenths, true)) (cond (n == 9) (Some (Grams, false)) (cond (n == 10) (Some (Grams, true)) None)))

-- the total of place p stands at byte 4 p + 6 of the burst, two bytes earlier in its data
abbrev pub total_at : List ℕ → ℕ → ℕ
total_at bytes p = four_at bytes (4 * p + 4)

unfoldable pub totals_in : List ℕ → List ℕ
totals_in bytes = each_place (total_at bytes)

abbrev pub as_totals : Bool → List ℕ → Telling
as_totals reset bytes =
    sized 56 bytes
    (field 2 (unit_of (slice_index bytes 0)) λ unit.
    field 3 (software_of (slice_index bytes 1)) λ software. Ok (totals reset unit (software_code software) (two_at bytes 4) (two_at bytes 6) (totals_in bytes)))

-- with software 4, rows 2 and 5 to 12 and every type are 0
abbrev pub shown_facts : Software → KindFacts
shown_facts FourSoftware = four_facts
shown_facts TwelveSoftware = twelve_facts

abbrev pub shown_rows : List ℕ → Piece
shown_rows bytes = record { at = 4; bytes = take 36 (drop 2 bytes) }

abbrev pub unless_fault : Option ℕ → Telling → Telling
unless_fault None next = next
unless_fault (Some byte) next = Err (Malformed byte)

-- operator and work order stand behind the rows and the recipe
abbrev pub behind_rows : MassUnit × Bool → Software → List ℕ → Telling
behind_rows marked software bytes =
    field 42 (within 999 (two_at bytes 40)) λ operator.
    field 44 (within 999999 (four_at bytes 42)) λ order. Ok (settings marked.0 marked.1 (software_code software) (shown_rows bytes) (two_at bytes 38) operator order)

abbrev pub as_settings : List ℕ → Telling
as_settings bytes =
    sized 46 bytes
    (field 2 (marked_of (slice_index bytes 0)) λ marked.
    field 3 (software_of (slice_index bytes 1)) λ software. unless_fault (rows_fault (shown_facts software) (shown_rows bytes)) (behind_rows marked software bytes))

abbrev pub as_type : List ℕ → Telling
as_type bytes = sized 2 bytes (field 2 (unit_of (slice_index bytes 0)) λ unit. field 3 (software_of (slice_index bytes 1)) λ software. Ok (system_type unit (software_code software)))

abbrev labelled : ℕ → ℕ → Option ℕ
labelled label n = cond (n == label) (Some n) None

-- the labels 130 and 82 are tested, the zeros at the end are not
abbrev pub as_functions : List ℕ → Telling
as_functions bytes =
    sized 20 bytes
    (field 2 (labelled 130 (slice_index bytes 0)) λ label.
    field 3 (within 12 (slice_index bytes 1)) λ f130.
    field 4 (labelled 82 (slice_index bytes 2)) λ label.
    field 5 (within 1 (slice_index bytes 3)) λ f82. Ok (functions f130 f82))

-- a version is one field
abbrev pub as_version : List ℕ → Telling
as_version bytes = sized 6 bytes (cond (all_characters bytes) (Ok (version (record { at = 2; bytes = bytes }))) (Err (Malformed 2)))

abbrev pub as_units : List ℕ → Telling
as_units bytes = sized 1 bytes (field 2 (units_of (slice_index bytes 0)) λ units. Ok (display_units units))

-- the reply of a code with its data: the length, then the fields from first to last
abbrev pub told_by : ℕ → List ℕ → Telling
told_by code bytes =
    cond (code == 16) (as_totals true bytes)
    (cond (code == 17) (as_totals false bytes)
    (cond (code == 20) (as_settings bytes)
    (cond (code == 49) (as_type bytes)
    (cond (code == 71) (as_functions bytes)
    (cond (code == 80) (as_version bytes)
    (cond (code == 85) (as_units bytes) (Err OtherCode)))))))

-- the setting codes are 19, 70, 86, 88 and 90
abbrev pub is_setting : ℕ → Bool
is_setting c = c == 19 || (c == 70 || (c == 86 || (c == 88 || c == 90)))

-- a reply of code 48: 21 is NAK; 6 is ACK, and answers a setting code only
abbrev short_of : Asked → ℕ → Telling
short_of asked n = cond (n == 21) (Err Nak) (cond (n == 6) (cond (is_setting asked.code) (Ok acknowledged) (Err OtherCode)) (Err (Malformed 2)))

abbrev pub as_short : Asked → List ℕ → Telling
as_short asked bytes = sized 1 bytes (short_of asked (slice_index bytes 0))

-- a sound burst against the question: the address, then the code, then the length and the fields
abbrev pub by_code : Asked → Framing → Telling
by_code asked f =
    cond (f.code == 48) (as_short asked f.between.bytes)
    (cond (is_setting asked.code) (Err OtherCode)
    (cond (f.code == asked.code) (told_by f.code f.between.bytes) (Err OtherCode)))

abbrev pub judged : Asked → Framing → Telling
judged asked f = cond (f.address == asked.address) (by_code asked f) (Err OtherAddress)

-- the frame of a burst of at least three bytes
abbrev pub whole_frame : List ℕ → Framing
whole_frame burst = record { address = slice_index burst 0; code = code_of burst; between = part_of 2 (length burst - 3) burst; check = slice_index burst (length burst - 1) }

-- what the line gave, as the frame of a sound burst
abbrev pub received : Option (List ℕ) → Result Framing BurstFault
received None = Err Nothing
received (Some b) = cond (nat_lt (length b) 3) (Err (Short (length b))) (cond (is_sound b) (Ok (whole_frame b)) (Err (Unsound (length b - 1))))

-- what the line gave, as the reply to a question
abbrev pub understood : Asked → Option (List ℕ) → Telling
understood asked taken = carried Burst (judged asked) (received taken)
