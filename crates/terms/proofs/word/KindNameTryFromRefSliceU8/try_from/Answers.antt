use Rattle.std.proofs.Common.{codes, rules, sym, ap, arith}
use Rattle.std.proofs.lemmas.Slice.Eq.{text_from_reads}
use Rattle.terms.specs.Words.{named, kind_of}
use Rattle.terms.proofs.word.KindNameTryFromRefSliceU8.try_from.Goals as goal

pub returns-in-twelve : goal.returns-in-twelve
returns-in-twelve c = sym (ap (λ w. named (kind_of w)) (text_from_reads c.args.word.now (codes "twelve") (omega arith) (search rules)))

pub returns-in-feeder : goal.returns-in-feeder
returns-in-feeder c = sym (ap (λ w. named (kind_of w)) (text_from_reads c.args.word.now (codes "feeder") (omega arith) (search rules)))
