use Rattle.std.proofs.Common.{rules}
use Rattle.commands.proofs.Tags.{made}
use Rattle.commands.proofs.read.read_tag.Goals as goal

pub returns-in-Ok : goal.returns-in-Ok
returns-in-Ok c = made c.args.bytes.now c.from_be_bytes.result _ (search rules) (search rules) c.in-Ok.ensures
