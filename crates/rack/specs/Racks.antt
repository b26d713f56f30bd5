-- Machines whose kind is chosen while a program runs.
use Rattle.std.specs.Prelude.{ℕ, List, replicate, Result}
use Rattle.terms.specs.declared.Refusal.{Refusal}
use Rattle.kinds.specs.Kinds.{KindFacts, four_facts, twelve_facts, feeder_facts}
use Rattle.blender.specs.Batches.{batch_answer, batched}
use Rattle.blender.specs.Machines.{Model, model}
use Rattle.rack.specs.declared.AnyMachine.{AnyMachine}
use Rattle.rack.specs.declared.AnyMachine.TheVariants.{OfFour, OfTwelve, OfFeeder}
use Rattle.terms.specs.declared.KindName.{KindName}
use Rattle.terms.specs.declared.KindName.TheVariants.{Four, Twelve, Feeder}

abbrev pub facts_of : KindName → KindFacts
facts_of Four = four_facts
facts_of Twelve = twelve_facts
facts_of Feeder = feeder_facts

abbrev pub any_model : AnyMachine → Model
any_model (OfFour m) = model four_facts m
any_model (OfTwelve m) = model twelve_facts m
any_model (OfFeeder m) = model feeder_facts m

-- a batch with the same amount for each component of a machine
abbrev pub evenly : ℕ → Model → List ℕ
evenly amount m = replicate m.kind.components amount

abbrev pub even_answer : ℕ → Model → Result (Unit {0}) Refusal
even_answer amount m = batch_answer m.address (evenly amount m) m

abbrev pub even_batched : ℕ → Model → Model
even_batched amount m = batched m.address (evenly amount m) m
