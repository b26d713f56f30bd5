use Rattle.std.proofs.Common.{rules}
use Rattle.terms.proofs.EachPlace.{made_all}
use Rattle.replies.specs.Replies.{total_at, totals_in}
use Rattle.replies.proofs.read.totals_in.Goals as goal

pub returns : goal.returns
unfolding totals_in
returns c = made_all _ _ (total_at c.args.bytes.now) 0 (λ i x t called. (search rules, search rules)) c.from_fn.result c.from_fn.ensures.items
