-- A machine: what it is, what it replies to a burst, and what it is afterwards.
use Rattle.std.specs.Prelude.{ℕ, Bool, false, cond, ◌||◌, List, [], ◌∷◌, replicate, Some, None, Option, ◌==◌}
use Rattle.kinds.specs.Kinds.{KindFacts}
use Rattle.terms.specs.Addresses.{number}
use Rattle.terms.specs.declared.Function.{Function}
use Rattle.terms.specs.declared.Function.TheVariants.{F82, F130}
use Rattle.terms.specs.declared.Row.{Row}
use Rattle.terms.specs.declared.Sheet.{Sheet}
use Rattle.terms.specs.declared.Tag.{Tag}
use Rattle.terms.specs.declared.Tag.TheVariants.{Recipe, WorkOrder, Operator}
use Rattle.terms.specs.declared.Unit.{Unit as MassUnit}
use Rattle.terms.specs.declared.WeightUnits.TheVariants.{Pounds}
use Rattle.writing.specs.Answers.{answer_bytes}
use Rattle.mlan.specs.Commands.{Said, get_totals, set_settings, get_settings, get_type, set_function, get_functions, get_version, get_units, set_units, set_keypad, set_tag, Reading, reads, faults, read_as}
use Rattle.mlan.specs.Rows.{rows_in, zero_row}
use Rattle.writing.specs.declared.answer.Answer.{Answer}
use Rattle.writing.specs.declared.answer.Answer.TheVariants.{Ack, Nak, Totals, Settings as SettingsAnswer, SystemType, Functions, Version, DisplayUnits}
use Rattle.blender.specs.declared.machine.Machine.{Machine}
use Rattle.blender.specs.declared.settings.Settings.{Settings}

pub record Model : Type 0 where
  pub kind : KindFacts
  pub address : ℕ
  pub unit : MassUnit
  -- twelve totals, and the batches counted
  pub totals : List ℕ
  pub cycles : ℕ
  pub flags : ℕ
  -- the change mark: up since a batch, until code 16 has read the totals
  pub mark : Bool
  pub settings : Settings

abbrev pub model : {K : Type 0} → KindFacts → Machine K → Model
model k m =
    record {
      kind = k;
      address = number m.address;
      unit = m.unit;
      totals = m.tally.counts.totals;
      cycles = m.tally.counts.cycles;
      flags = m.tally.counts.flags;
      mark = m.mark;
      settings = m.settings;
    }

-- zero everywhere
abbrev pub new_settings : Settings
new_settings =
    record {
      sheet = record { rows = replicate 12 zero_row; recipe = 0; operator = 0; order = 0 };
      f82 = 0;
      f130 = 0;
      units = Pounds;
      keypad = false;
    }

-- a new machine: all zero, and the mark down
abbrev pub new_model : KindFacts → ℕ → MassUnit → Model
new_model k a u =
    record {
      kind = k;
      address = a;
      unit = u;
      totals = replicate 12 0;
      cycles = 0;
      flags = 0;
      mark = false;
      settings = new_settings;
    }

-- what a machine answers to a command of its kind
abbrev pub answer_of : Model → Said → Answer
answer_of m (get_totals reset) = Totals reset m.unit m.kind.software (record { totals = m.totals; cycles = m.cycles; flags = m.flags })
answer_of m (set_settings rows recipe operator order) = Ack
answer_of m get_settings = SettingsAnswer m.unit m.mark m.kind.software m.settings.sheet
answer_of m get_type = SystemType m.unit m.kind.software
answer_of m (set_function function value) = Ack
answer_of m get_functions = Functions m.settings.f130 m.settings.f82
answer_of m get_version = Version m.kind.version
answer_of m get_units = DisplayUnits m.settings.units
answer_of m (set_units units) = Ack
answer_of m (set_keypad flag) = Ack
answer_of m (set_tag letters tag) = Ack

-- a command that sets something stores its fields; the others leave the settings as they are
abbrev with_function : Settings → Function → ℕ → Settings
with_function s F82 v = record s { f82 = v }
with_function s F130 v = record s { f130 = v }

abbrev with_tag : Sheet (List Row) → Tag → Sheet (List Row)
with_tag s (Recipe v) = record s { recipe = v }
with_tag s (WorkOrder v) = record s { order = v }
with_tag s (Operator v) = record s { operator = v }

abbrev pub stored : Settings → Said → Settings
stored s (get_totals reset) = s
stored s (set_settings rows recipe operator order) = record s { sheet = record { rows = rows_in rows; recipe = recipe; operator = operator; order = order } }
stored s get_settings = s
stored s get_type = s
stored s (set_function function value) = with_function s function value
stored s get_functions = s
stored s get_version = s
stored s get_units = s
stored s (set_units units) = record s { units = units }
stored s (set_keypad flag) = record s { keypad = flag }
stored s (set_tag letters tag) = record s { sheet = with_tag s.sheet tag }

-- code 16 lowers the mark and the flags, once it has read
abbrev pub lowers : Said → Bool
lowers (get_totals reset) = reset
lowers (set_settings rows recipe operator order) = false
lowers get_settings = false
lowers get_type = false
lowers (set_function function value) = false
lowers get_functions = false
lowers get_version = false
lowers get_units = false
lowers (set_units units) = false
lowers (set_keypad flag) = false
lowers (set_tag letters tag) = false

abbrev pub obeyed : Model → Said → Model
obeyed m said = record m { flags = cond (lowers said) 0 m.flags; mark = cond (lowers said) false m.mark; settings = stored m.settings said }

-- a burst that is no command of the kind gets NAK and changes nothing
abbrev pub judged_answer : Model → Reading → Answer
judged_answer m (reads said) = answer_of m said
judged_answer m (faults f) = Nak

abbrev pub judged_after : Model → Reading → Model
judged_after m (reads said) = obeyed m said
judged_after m (faults f) = m

-- a machine hears what begins with its address or with 0
abbrev pub concerns : Model → List ℕ → Bool
concerns m [] = false
concerns m (first ∷ rest) = first == m.address || first == 0

-- the reply to a burst, always with the machine's own address, and the machine afterwards: for every list of bytes
abbrev pub reply : Model → List ℕ → Option (List ℕ)
reply m burst = cond (concerns m burst) (Some (answer_bytes m.address (judged_answer m (read_as m.kind burst)))) None

abbrev pub after : Model → List ℕ → Model
after m burst = cond (concerns m burst) (judged_after m (read_as m.kind burst)) m
