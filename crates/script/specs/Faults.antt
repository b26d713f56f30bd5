-- What comes of reading a line.
use Rattle.std.specs.Prelude.{Ok, Err, Result}
use Rattle.script.specs.declared.LineFault.{LineFault}
use Rattle.script.specs.declared.LineFault.TheVariants.{NotUnderstood, Memory}

-- a value with a property, or a line that is not understood for a reason; want of memory says nothing of the line
abbrev pub Listed : {X : Type 0} → Result X LineFault → (X → Type 0) → Type 0 → Type 0
Listed (Ok x) P Q = P x
Listed (Err NotUnderstood) P Q = Q
Listed (Err Memory) P Q = Unit {0}
