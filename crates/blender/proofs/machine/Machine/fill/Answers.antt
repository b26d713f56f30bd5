use Rattle.std.proofs.Common.{◌<◌, ◌≤◌, length, get_or, ◌∙◌, arith, rules}
use Rattle.std.proofs.lemmas.Option.{none-some, same_Some}
use Rattle.kinds.specs.Kinds.{places}
use Rattle.kinds.proofs.Components.{told_component, within_twelve, length_listed}
use Rattle.blender.specs.Batches.{filled}
use Rattle.blender.specs.Machines.{model}
use Rattle.blender.proofs.Filling.{place_added, all_added}
use Rattle.blender.proofs.machine.Machine.fill.Goals.{in-Some, in_default}
use Rattle.blender.proofs.machine.Machine.fill.Goals as goal

pub add_at-flags-requires : goal.add_at-flags-requires
add_at-flags-requires g c =
    let k = g.K.Kind.facts in
    let i = c.loop-i.i in
    let component : i < k.components = omega (arith, c.requires, c.loop-i-test.true) in
    let w = within_twelve (places k) i (omega (arith, length_listed k.place k.components)) k.places_apart in
    let at = same_Some c.in-Some.place (get_or (places k) i 0) (c.in-Some.ensures ∙ told_component k i component) in
    (omega (arith, at, w.0), omega (arith, at, w.1))

pub loop-i-preserved : goal.loop-i-preserved
loop-i-preserved g c =
    let k = g.K.Kind.facts in
    let i = c.loop-i.i in
    let component : i < k.components = omega (arith, c.requires, c.loop-i-test.true) in
    let within : i < length (places k) = omega (arith, length_listed k.place k.components) in
    elim c.match-place.branch [
      | in-Some w ↦ rw (w.totals-is, w.flags-is)
          (place_added (model k c.args.self.now) (places k) c.args.amounts.now i c.loop-i.totals w.add_at-flags.new.totals c.loop-i.flags w.add_at-flags.result w.in-Some.place within c.loop-i-test.true k.places_apart
          (same_Some w.in-Some.place (get_or (places k) i 0) (w.in-Some.ensures ∙ told_component k i component)) w.add_at-flags.ensures.totals w.add_at-flags.ensures.flags c.loop-i.invariant)
      | in_default w ↦ absurd (none-some (get_or (places k) i 0) (w.in_default.ensures ∙ told_component k i component))
    ]

pub returns : goal.returns
unfolding filled
returns g c =
    let k = g.K.Kind.facts in
    let m = model k c.args.self.now in
    let past : length (places k) ≤ c.loop-i.i = omega (arith, length_listed k.place k.components, c.requires, c.loop-i-test.false) in
    let done = all_added m (places k) c.args.amounts.now c.loop-i.i c.loop-i.totals c.loop-i.flags past c.loop-i-test.false c.loop-i.invariant in
    search (rules, done.0, done.1)
