-- What a reply that was read says, without references.
use Rattle.std.specs.Prelude.{Ok, Err, Result}
use Rattle.faults.specs.declared.BurstFault.{BurstFault}
use Rattle.faults.specs.declared.MessageFault.{MessageFault}
use Rattle.terms.specs.Fields.{software_code}
use Rattle.mlan.specs.Frame.{Framing, framing_of, piece}
use Rattle.mlan.specs.declared.frame.Frame.{Frame}
use Rattle.replies.specs.Replies.{Told, acknowledged, totals, settings, system_type, functions, version, display_units, Telling}
use Rattle.replies.specs.declared.reply.Reply.{Reply}
use Rattle.replies.specs.declared.reply.Reply.TheVariants.{Ack, Totals, Settings, SystemType, Functions, Version, DisplayUnits}

abbrev pub told : Reply → Told
told Ack = acknowledged
told (Totals reset unit software counts) = totals reset unit (software_code software) counts.cycles counts.flags counts.totals
told (Settings unit mark software sheet) = settings unit mark (software_code software) (piece sheet.rows) sheet.recipe sheet.operator sheet.order
told (SystemType unit software) = system_type unit (software_code software)
told (Functions f130 f82) = functions f130 f82
told (Version characters) = version (piece characters)
told (DisplayUnits units) = display_units units

abbrev pub telling : Result Reply MessageFault → Telling
telling (Ok r) = Ok (told r)
telling (Err f) = Err f

abbrev pub frame_told : Result Frame BurstFault → Result Framing BurstFault
frame_told (Ok f) = Ok (framing_of f)
frame_told (Err f) = Err f
