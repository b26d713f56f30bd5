-- Machines on a live cable.
use Rattle.std.specs.Prelude.{ℕ, List, map, Some, None, Option}
use Rattle.blender.specs.Machines.{Model}
use Rattle.rack.specs.Hanging.{racked}
use Rattle.rack.specs.Racks.{even_batched}
use Rattle.live_cable.specs.declared.machines.LiveCable.{LiveCable}

abbrev pub live : LiveCable → List Model
live c = racked c.machines

abbrev all_batched : Option ℕ → List Model → List Model
all_batched None ms = ms
all_batched (Some amount) ms = map (even_batched amount) ms

-- the machines once each has run the batch that goes before a burst
abbrev pub moved : LiveCable → List Model
moved c = all_batched c.each (live c)
