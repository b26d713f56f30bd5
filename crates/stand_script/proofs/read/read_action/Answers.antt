use Rattle.std.proofs.Common.{codes, rules, arith}
use Rattle.std.proofs.lemmas.Slice.Eq.{text_from_reads}
use Rattle.stand_script.proofs.read.read_action.Goals as goal

pub returns-in-machine : goal.returns-in-machine
returns-in-machine c = rw (text_from_reads c.args.word.now (codes "machine") (omega arith) (search rules)) c.read_machine.ensures
