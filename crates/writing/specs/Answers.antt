-- What a machine replies, byte by byte.
use Rattle.std.specs.Prelude.{ℕ, false, cond, List, [], ◌∷◌, ◌++◌, replicate}
use Rattle.terms.specs.Fields.{system, units_code}
use Rattle.writing.specs.declared.answer.Answer.{Answer}
use Rattle.writing.specs.declared.answer.Answer.TheVariants.{Ack, Nak, Totals, Settings, SystemType, Functions, Version, DisplayUnits}
use Rattle.mlan.specs.Checksum.{sealed}
use Rattle.mlan.specs.Numbers.{two, fours}
use Rattle.writing.specs.Sheets.{sheet_bytes}

abbrev pub answer_code : Answer → ℕ
answer_code Ack = 48
answer_code Nak = 48
answer_code (Totals reset unit software counts) = cond reset 16 17
answer_code (Settings unit mark software sheet) = 20
answer_code (SystemType unit software) = 49
answer_code (Functions f130 f82) = 71
answer_code (Version characters) = 80
answer_code (DisplayUnits units) = 85

abbrev pub answer_data : Answer → List ℕ
answer_data Ack = 6 ∷ []
answer_data Nak = 21 ∷ []
answer_data (Totals reset unit software counts) = system unit false ∷ software ∷ 0 ∷ 0 ∷ (two counts.cycles ++ (two counts.flags ++ fours counts.totals))
answer_data (Settings unit mark software sheet) = system unit mark ∷ software ∷ sheet_bytes sheet
answer_data (SystemType unit software) = system unit false ∷ software ∷ []
answer_data (Functions f130 f82) = 130 ∷ f130 ∷ 82 ∷ f82 ∷ replicate 16 0
answer_data (Version characters) = characters
answer_data (DisplayUnits units) = units_code units ∷ []

-- the reply of the machine with this address
abbrev pub answer_bytes : ℕ → Answer → List ℕ
answer_bytes address answer = sealed (address ∷ answer_code answer ∷ answer_data answer)
