-- The line that is printed of what came of a line.
use Rattle.std.specs.Prelude.{ℕ, List, ◌++◌, Some, None, Ok, Err, codes, decimal}
use Rattle.terms.specs.Refusals.{number_of}
use Rattle.wording.specs.Texts.{spaced, plate_text}
use Rattle.stand_text.specs.declared.Event.{Event}
use Rattle.stand_text.specs.declared.Event.TheVariants.{Hung, Batch, Reply, NotUnderstood}

-- the bytes of a reply are had from whatever stands for it
abbrev pub text_of : {R : Type 0} → (R → List ℕ) → Event R → List ℕ
text_of bytes (Hung (Ok plate)) = codes "machine " ++ plate_text plate
text_of bytes (Hung (Err refusal)) = codes "machine: refused " ++ decimal (number_of refusal)
text_of bytes (Batch (Ok x)) = codes "batch: accepted"
text_of bytes (Batch (Err refusal)) = codes "batch: refused " ++ decimal (number_of refusal)
text_of bytes (Reply (Some reply)) = codes "reply:" ++ spaced (bytes reply)
text_of bytes (Reply None) = codes "no reply"
text_of bytes (NotUnderstood line) = codes "line " ++ (decimal line ++ codes ": not understood")
