use Rattle.std.proofs.Common.{rules, Some, ◌+◌, arith, ap, ◌∙◌}
use Rattle.std.proofs.iter.runs.Sources.{range_runs}
use Rattle.mlan.specs.Frame.{piece}
use Rattle.rows.proofs.EachRow.{found_in_run}
use Rattle.rows.proofs.rows_fault.Goals as goal

pub returns : goal.returns
returns g c =
    let r = c.find_map.ensures.runs in
    let up = range_runs r.0 r.0.seen in
    let start = ap (λ s. s.start) r.1 in
    let end = ap (λ s. s.end) r.1 in
    found_in_run g.K.Kind.facts (piece c.args.rows) r.0 _ _ (λ a o h called. search rules) (λ x o h called. search rules)
    (omega (arith, up.0, start, end)) (λ w. omega (arith, up.1 w, start, end)) (λ j l. up.3 j l ∙ ap (λ s. Some (s.start + j)) r.1) c.find_map.result r.2
