use Rattle.replies.proofs.GivesBack.{law}
use Rattle.replies.proofs.machines.gives_back.Goals as goal

pub returns : goal.returns
returns c = law
