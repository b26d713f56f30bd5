use Rattle.writing.proofs.ReadBack.{reads_back}
use Rattle.writing.proofs.request.Request.burst.Goals as goal

pub returns-clause-read_back : goal.returns-clause-read_back
returns-clause-read_back c = reads_back c.args.address c.args.self.now c.if-not-passes.ensures.shape
