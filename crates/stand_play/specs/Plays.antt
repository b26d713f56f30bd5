-- What a line does to the stand, and what is told of it.
use Rattle.std.specs.Prelude.{ℕ, cond, List, Some, None, Ok, Err, Option, Result}
use Rattle.std.specs.Option.{option_map}
use Rattle.terms.specs.Addresses.{is_address}
use Rattle.terms.specs.declared.Refusal.{Refusal}
use Rattle.terms.specs.declared.Refusal.TheVariants.{NoAddress, NoMachine}
use Rattle.blender.specs.Batches.{batch_answer, batched}
use Rattle.blender.specs.Machines.{Model, new_model, reply, after}
use Rattle.rack.specs.Racks.{any_model, facts_of}
use Rattle.wording.specs.declared.plate.Plate.{Plate}
use Rattle.stand_script.specs.Lines.{Line, nothing, machine, batch, burst, unknown}
use Rattle.stand_text.specs.declared.Event.{Event}
use Rattle.stand_text.specs.declared.Event.TheVariants.{Hung, Batch, Reply, NotUnderstood}
use Rattle.stand_play.specs.declared.Stand.{Stand}

-- the machine on the stand
abbrev pub hung : Stand → Option Model
hung s = option_map any_model s.machine

-- a plate whose address is one is hung
abbrev pub hang_result : Plate → Result Plate Refusal
hang_result p = cond (is_address p.address) (Ok p) (Err NoAddress)

abbrev pub played : Line → Option Model → Option Model
played nothing s = s
played (machine p) None = cond (is_address p.address) (Some (new_model (facts_of p.kind) p.address p.unit)) None
played (machine p) (Some m) = Some m
played (batch a amounts) s = option_map (batched a amounts) s
played (burst bytes) s = option_map (λ m. after m bytes) s
played unknown s = s

-- a batch is run on the machine; where none hangs, there is no machine at any address
abbrev batch_result : ℕ → List ℕ → Option Model → Result (Unit {0}) Refusal
batch_result a amounts None = cond (is_address a) (Err NoMachine) (Err NoAddress)
batch_result a amounts (Some m) = batch_answer a amounts m

abbrev pub batch_event : ℕ → List ℕ → Option Model → Event (List ℕ)
batch_event a amounts s = Batch (batch_result a amounts s)

-- a burst is shown to the machine; where none hangs there is no reply
abbrev pub shown_event : List ℕ → Option Model → Event (List ℕ)
shown_event bytes None = Reply None
shown_event bytes (Some m) = Reply (reply m bytes)

-- what is told of the line with number n, if anything
abbrev pub told : ℕ → Line → Option Model → Option (Event (List ℕ))
told n nothing s = None
told n (machine p) None = Some (Hung (hang_result p))
told n (machine p) (Some m) = Some (NotUnderstood n)
told n (batch a amounts) s = Some (batch_event a amounts s)
told n (burst bytes) s = Some (shown_event bytes s)
told n unknown s = Some (NotUnderstood n)
