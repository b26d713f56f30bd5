-- The number of each refusal of a buffer.
use Rattle.std.specs.Prelude.{ℕ}
use Rattle.cable.specs.declared.buffer.BufferRefusal.{BufferRefusal}
use Rattle.cable.specs.declared.buffer.BufferRefusal.TheVariants.{ShortBuffer}

abbrev pub refusal_number : BufferRefusal → ℕ
refusal_number ShortBuffer = 1
