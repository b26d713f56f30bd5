use Rattle.std.proofs.Common.{codes, rules, sym, ap, arith}
use Rattle.std.proofs.lemmas.Slice.Eq.{text_from_reads}
use Rattle.terms.specs.Words.{named, unit_of}
use Rattle.terms.proofs.word.UnitTryFromRefSliceU8.try_from.Goals as goal

pub returns-in-tenths : goal.returns-in-tenths
returns-in-tenths c = sym (ap (λ w. named (unit_of w)) (text_from_reads c.args.word.now (codes "tenths") (omega arith) (search rules)))
