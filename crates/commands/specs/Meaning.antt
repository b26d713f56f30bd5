-- What a command that was read says.
use Rattle.std.specs.Prelude.{Ok, Err, Result}
use Rattle.mlan.specs.Commands.{Said, get_totals, set_settings, get_settings, get_type, set_function, get_functions, get_version, get_units, set_units, set_keypad, set_tag, Reading, reads, faults}
use Rattle.mlan.specs.Frame.{piece}
use Rattle.mlan.specs.declared.fault.CommandFault.{CommandFault}
use Rattle.commands.specs.declared.command.Command.{Command}
use Rattle.commands.specs.declared.command.Command.TheVariants.{GetTotals, SetSettings, GetSettings, GetType, SetFunction, GetFunctions, GetVersion, GetUnits, SetUnits, SetKeypad, SetTag}

abbrev pub said : Command → Said
said (GetTotals reset) = get_totals reset
said (SetSettings s) = set_settings (piece s.rows) s.recipe s.operator s.order
said GetSettings = get_settings
said GetType = get_type
said (SetFunction function value) = set_function function value
said GetFunctions = get_functions
said GetVersion = get_version
said GetUnits = get_units
said (SetUnits units) = set_units units
said (SetKeypad flag) = set_keypad flag
said (SetTag letters tag) = set_tag (piece letters) tag

abbrev pub reading : Result Command CommandFault → Reading
reading (Ok c) = reads (said c)
reading (Err f) = faults f
