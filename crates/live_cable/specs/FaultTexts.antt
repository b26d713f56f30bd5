-- What is printed of a command line that names no machines to play.
use Rattle.std.specs.Prelude.{ℕ, List, codes}
use Rattle.rack.specs.declared.rack.RackFault.{RackFault}
use Rattle.rack.specs.declared.rack.RackFault.TheVariants.{Full, Memory as RackMemory}
use Rattle.live_cable.specs.declared.fault.ArgumentFault.{ArgumentFault}
use Rattle.live_cable.specs.declared.fault.ArgumentFault.TheVariants.{NoMachine, Machine, Address, TooMany, Each, TooLarge, Memory}

abbrev pub fault_text : ArgumentFault → List ℕ
fault_text NoMachine = codes "no machine is named"
fault_text Machine = codes "a machine is not understood"
fault_text Address = codes "an address is not 1 to 254"
fault_text TooMany = codes "there are more than 254 machines"
fault_text Each = codes "'each' is not followed by one number"
fault_text TooLarge = codes "'each' is followed by more than 1000000"
fault_text Memory = codes "there is no memory for the machines"

-- why a rack takes no more machines, as a fault of the command line that names them
abbrev pub of_rack : RackFault → ArgumentFault
of_rack Full = TooMany
of_rack RackMemory = Memory
