-- The machines that hang on a rack.
use Rattle.std.specs.Prelude.{ℕ, ◌<◌, ◌≤◌, Bool, List, map, vec_items, ◌==◌}
use Rattle.blender.specs.Machines.{Model}
use Rattle.rack.specs.Racks.{any_model}
use Rattle.rack.specs.declared.AnyMachine.{AnyMachine}
use Rattle.rack.specs.declared.rack.Rack.{Rack}
use Rattle.rack.specs.declared.rack.RackFault.{RackFault}
use Rattle.rack.specs.declared.rack.RackFault.TheVariants.{Full, Memory}

abbrev pub racked : Rack → List Model
racked r = map any_model (vec_items r.machines)

abbrev pub has_address : ℕ → AnyMachine → Bool
has_address a m = a == (any_model m).address

-- a rack is full with 254 machines; for want of memory a machine may stay off one that is not
abbrev pub Unhung : RackFault → ℕ → Type 0
Unhung Full count = 254 ≤ count
Unhung Memory count = count < 254
