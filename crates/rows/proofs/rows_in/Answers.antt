use Rattle.std.proofs.Common.{rules}
use Rattle.terms.proofs.EachPlace.{made_all}
use Rattle.mlan.specs.Frame.{piece}
use Rattle.mlan.specs.Rows.{row_at, rows_in, zero_row}
use Rattle.rows.proofs.rows_in.Goals as goal

pub returns : goal.returns
unfolding rows_in
returns c = made_all _ _ (row_at (piece c.args.rows)) zero_row (λ i x t called. (search rules, search rules)) c.from_fn.result c.from_fn.ensures.items
