use Rattle.empty_arrow.proofs.Base.{base-given}
use Rattle.type_diagrams.proofs.AskedDiagrams.{then_all}
use Rattle.type_diagrams.proofs.Keeping.{extends-more}
use Rattle.empty_arrow.proofs.functions.base_of.Goals as goal

pub returns-in_err-results-clause-extends : goal.returns-in_err-results-clause-extends
returns-in_err-results-clause-extends c = extends-more _ _ _ c.every.ensures.extends

pub returns-in_err-lists-clause-extends : goal.returns-in_err-lists-clause-extends
returns-in_err-lists-clause-extends c = then_all _ _ _ _ (extends-more _ _ _ c.every.ensures.extends) c.within.ensures.extends

pub returns-in_err-arguments-clause-extends : goal.returns-in_err-arguments-clause-extends
returns-in_err-arguments-clause-extends c = then_all _ _ _ _ (extends-more _ _ _ c.every.ensures.extends) (then_all _ _ _ _ c.within.ensures.extends c.outside.ensures.extends)

pub returns-clause-extends : goal.returns-clause-extends
returns-clause-extends c = then_all _ _ _ _ (extends-more _ _ _ c.every.ensures.extends) (then_all _ _ _ _ c.within.ensures.extends c.outside.ensures.extends)

pub returns-clause-base : goal.returns-clause-base
returns-clause-base c =
    let on = then_all _ c.every.new.self c.within.new.dia c.outside.new.dia c.within.ensures.extends c.outside.ensures.extends in
    base-given c.args.env.now c.every.new.self c.within.new.dia c.outside.new.dia c.in_ok-results.results c.in_ok-lists.lists c.in_ok-arguments.arguments on.keeps c.in_ok-results.ensures.condition c.in_ok-lists.ensures.made c.in_ok-arguments.ensures.made
