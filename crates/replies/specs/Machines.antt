-- What a machine holds, and what a reply of its own tells of it.
use Rattle.std.specs.Prelude.{◌≡◌, ℕ, ◌-◌, ◌<◌, ◌≤◌, List, length, Some, Ok, Err, nat_le, slice_index, true}
use Rattle.faults.specs.declared.MessageFault.TheVariants.{Nak}
use Rattle.kinds.specs.Kinds.{KindFacts, four_facts, twelve_facts, feeder_facts, is_version, shows_row, shows_types}
use Rattle.terms.specs.declared.Unit.{Unit as MassUnit}
use Rattle.mlan.specs.Commands.{Said, get_totals, get_settings, get_type, get_functions, get_version, get_units, reads, faults, read_as}
use Rattle.mlan.specs.Frame.{Piece, code_of}
use Rattle.mlan.specs.Numbers.{Bytes}
use Rattle.mlan.specs.Rows.{rows_bytes, rows_in, RowsPass}
use Rattle.mlan.specs.declared.fault.CommandFault.{CommandFault}
use Rattle.blender.specs.Batches.{filled}
use Rattle.blender.specs.Machines.{Model, new_model, reply, after}
use Rattle.replies.specs.Replies.{Told, acknowledged, totals, settings, system_type, functions, version, display_units, understood}

-- the rows of a machine, as its settings reply shows them
abbrev pub rows_held : Model → Piece
rows_held m = record { at = 4; bytes = rows_bytes m.settings.sheet.rows }

-- what a machine holds of what a command asks for
abbrev pub held : Model → Said → Told
held m (get_totals reset) = totals reset m.unit m.kind.software m.cycles m.flags m.totals
held m get_settings = settings m.unit m.mark m.kind.software (rows_held m) m.settings.sheet.recipe m.settings.sheet.operator m.settings.sheet.order
held m get_type = system_type m.unit m.kind.software
held m get_functions = functions m.settings.f130 m.settings.f82
held m get_version = version (record { at = 2; bytes = m.kind.version })
held m get_units = display_units m.settings.units
held m said = acknowledged

-- a kind whose replies a station understands: its version is printed, and a settings reply can show its rows
pub record Showing (k : KindFacts) : Type 0 where
  pub version_printed : is_version k.version ≡ true
  pub rows_shown : (p : ℕ) → k.holds p ≡ true → shows_row k.software p ≡ true
  pub types_shown : nat_le k.materials (shows_types k.software) ≡ true

-- a machine whose numbers fit their fields, and whose settings are its kind's
pub record Kept (m : Model) : Type 0 where
  pub twelve_totals : length m.totals ≡ 12
  pub totals_fit : (p : ℕ) → 1 ≤ p → p ≤ 12 → slice_index m.totals (p - 1) < 4294967296
  pub cycles_fit : m.cycles < 65536
  pub flags_fit : m.flags < 65536
  pub rows_fit : RowsPass m.kind m.settings.sheet.rows
  pub recipe_fits : m.settings.sheet.recipe < 65536
  pub operator_fits : m.settings.sheet.operator ≤ 999
  pub order_fits : m.settings.sheet.order ≤ 999999
  pub f130_fits : m.settings.f130 ≤ 12
  pub f82_fits : m.settings.f82 ≤ 1

-- what a machine of a kind that is understood replies to a command, read against the question that it answers, gives back what the machine held; what is no command of its kind gets NAK, and is read so. New machines are kept so, and every batch and burst leaves them so. The three kinds are understood.
pub record GivesBack : Type 0 where
  pub to_command : (m : Model) (b r : List ℕ) (s : Said) → Showing m.kind → Kept m → read_as m.kind b ≡ reads s → reply m b ≡ Some r
      → understood (record { address = m.address; code = code_of b }) (Some r) ≡ Ok (held m s)
  pub rows_too : (m : Model) → Kept m → rows_in (rows_held m) ≡ m.settings.sheet.rows
  pub to_other : (m : Model) (b r : List ℕ) (f : CommandFault) → read_as m.kind b ≡ faults f → reply m b ≡ Some r
      → understood (record { address = m.address; code = code_of b }) (Some r) ≡ Err Nak
  pub new_kept : (k : KindFacts) (a : ℕ) (u : MassUnit) → Kept (new_model k a u)
  pub batch_keeps : (m : Model) (amounts : List ℕ) → Kept m → Kept (filled m amounts)
  pub burst_keeps : (m : Model) (b : List ℕ) → Bytes b → Kept m → Kept (after m b)
  pub four_understood : Showing four_facts
  pub twelve_understood : Showing twelve_facts
  pub feeder_understood : Showing feeder_facts
