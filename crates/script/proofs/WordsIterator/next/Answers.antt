use Rattle.std.proofs.Common.{not, rules, tests, sym, refl, ap, ◌∙◌}
use Rattle.std.proofs.lemmas.Iterator.{YieldsList-from_slice}
use Rattle.std.proofs.lemmas.Iterator.Search.{position_from_yields_List}
use Rattle.script.specs.Words.{is_blank, words}
use Rattle.script.proofs.Fronts.{no_word, one_word}
use Rattle.script.proofs.WordsIterator.next.Goals as goal

pub returns-in_err-start-clause-steps : goal.returns-in_err-start-clause-steps
returns-in_err-start-clause-steps c =
    let start = position_from_yields_List (λ b. not (is_blank b)) _ _ c.position.result c.position.ensures.ran (YieldsList-from_slice _ c.iter.ensures.rest) (λ x b q k. search (rules, tests)) in
    let none = ap words (sym c.rest-line.ensures) ∙ no_word c.rest-line.result.now (sym c.in_err-start.was ∙ start) in
    rw c.from_residual.ensures (none, none)

pub returns-clause-steps : goal.returns-clause-steps
returns-clause-steps c =
    let start = position_from_yields_List (λ b. not (is_blank b)) _ _ c.position.result c.position.ensures.ran (YieldsList-from_slice _ c.iter.ensures.rest) (λ x b q k. search (rules, tests)) in
    let end = position_from_yields_List is_blank _ _ c.position-2.result c.position-2.ensures.ran (YieldsList-from_slice _ c.iter-2.ensures.rest) (λ x b q k. search (rules, tests)) in
    ap words (sym c.rest-line.ensures)
    ∙ one_word c.rest-line.result.now _ _ _ c.in_ok-start.start _ c.position-2.result (sym c.in_ok-start.was ∙ start) refl end c.unwrap_or-end.ensures c.split_at.ensures.front (c.of.ensures ∙ c.split_at.ensures.back)
