-- Commands as they are written.
use Rattle.std.specs.Prelude.{◌≡◌, ℕ, Bool, true, cond, ◌&&◌, List, [], ◌∷◌, ◌++◌, length, is_ok, nat_le}
use Rattle.std.specs.List.{list_all}
use Rattle.kinds.specs.Kinds.{KindFacts, twelve_facts}
use Rattle.terms.specs.Fields.{units_code, function_code, function_limit, tag_of, tag_letters, tag_value}
use Rattle.terms.specs.declared.Row.{Row}
use Rattle.terms.specs.declared.Tag.{Tag}
use Rattle.terms.specs.declared.Tag.TheVariants.{Recipe, WorkOrder, Operator}
use Rattle.mlan.specs.Checksum.{sealed}
use Rattle.mlan.specs.Commands.{Said, get_totals, set_settings, get_settings, get_type, set_function, get_functions, get_version, get_units, set_units, set_keypad, set_tag, reads, read_as}
use Rattle.mlan.specs.Numbers.{two, four}
use Rattle.mlan.specs.Rows.{rows_bytes, rows_in}
use Rattle.writing.specs.Sheets.{sheet_bytes}
use Rattle.writing.specs.declared.request.Request.{Request}
use Rattle.writing.specs.declared.request.Request.TheVariants.{GetTotals, SetSettings, GetSettings, GetType, SetFunction, GetFunctions, GetVersion, GetUnits, SetUnits, SetKeypad, SetTag}

abbrev pub request_code : Request → ℕ
request_code (GetTotals reset) = cond reset 16 17
request_code (SetSettings sheet) = 19
request_code GetSettings = 20
request_code GetType = 49
request_code (SetFunction function value) = 70
request_code GetFunctions = 71
request_code GetVersion = 80
request_code GetUnits = 85
request_code (SetUnits units) = 86
request_code (SetKeypad flag) = 88
request_code (SetTag tag) = 90

abbrev pub request_data : Request → List ℕ
request_data (SetSettings sheet) = sheet_bytes sheet
request_data (SetFunction function value) = function_code function ∷ two value
request_data GetFunctions = 0 ∷ []
request_data (SetUnits units) = units_code units ∷ []
request_data (SetKeypad flag) = cond flag 1 0 ∷ []
request_data (SetTag tag) = tag_letters tag ++ four (tag_value tag)
request_data request = []

-- the burst of a request to an address
abbrev pub request_bytes : ℕ → Request → List ℕ
request_bytes address request = sealed (address ∷ request_code request ∷ request_data request)

-- the ranges of what is sent are those of a Twelve: rows of type 0 to 3 with a setting of 0 to 999
abbrev pub row_in_range : Row → Bool
row_in_range r = nat_le r.material 3 && nat_le r.setting 999

abbrev pub rows_in_range : List Row → Bool
rows_in_range rows = list_all row_in_range rows

abbrev pub tag_in_range : Tag → Bool
tag_in_range tag = is_ok (tag_of (tag_letters tag) (tag_value tag))

abbrev pub in_range : Request → Bool
in_range (SetSettings sheet) = rows_in_range sheet.rows && (tag_in_range (Recipe sheet.recipe) && (tag_in_range (Operator sheet.operator) && tag_in_range (WorkOrder sheet.order)))
in_range (SetFunction function value) = nat_le value (function_limit function)
in_range (SetTag tag) = tag_in_range tag
in_range request = true

-- what a reader should understand
abbrev pub meant : Request → Said
meant (GetTotals reset) = get_totals reset
meant (SetSettings sheet) = set_settings (record { at = 2; bytes = rows_bytes sheet.rows }) sheet.recipe sheet.operator sheet.order
meant GetSettings = get_settings
meant GetType = get_type
meant (SetFunction function value) = set_function function value
meant GetFunctions = get_functions
meant GetVersion = get_version
meant GetUnits = get_units
meant (SetUnits units) = set_units units
meant (SetKeypad flag) = set_keypad flag
meant (SetTag tag) = set_tag (record { at = 2; bytes = tag_letters tag }) tag

-- the rows that a settings request means
abbrev pub SameRows : Request → Type 0
SameRows (SetSettings sheet) = rows_in (record { at = 2; bytes = rows_bytes sheet.rows }) ≡ sheet.rows
SameRows request = Unit {0}

-- reading a command that was written gives back what was meant: a Twelve reads it, no kind reads anything else, and its rows are those that were sent
pub record ReadsBack (address : ℕ) (request : Request) : Type 0 where
  pub by_twelve : read_as twelve_facts (request_bytes address request) ≡ reads (meant request)
  pub by_any : (k : KindFacts) (s : Said) → read_as k (request_bytes address request) ≡ reads s → s ≡ meant request
  pub rows_too : SameRows request

-- a settings request has twelve rows
abbrev pub TwelveRows : Request → Type 0
TwelveRows (SetSettings sheet) = length sheet.rows ≡ 12
TwelveRows request = Unit {0}
