use Rattle.type_diagrams.proofs.Shapes.{IfOk-map}
use Rattle.type_diagrams.proofs.AskedDiagrams.{then_all, then_on}
use Rattle.empty_product.proofs.FrozenParts.{frozen-Gives}
use Rattle.empty_product.proofs.bases.frozen_parts.Goals as goal

pub returns-in_err-errors-clause-extends : goal.returns-in_err-errors-clause-extends
returns-in_err-errors-clause-extends c = then_all _ _ _ _ c.of.ensures.extends c.of-2.ensures.extends

pub returns-in_err-functions-clause-extends : goal.returns-in_err-functions-clause-extends
returns-in_err-functions-clause-extends c = then_all _ _ _ _ c.of.ensures.extends (then_all _ _ _ _ c.of-2.ensures.extends c.of-3.ensures.extends)

pub returns-in_err-without_errors-clause-extends : goal.returns-in_err-without_errors-clause-extends
returns-in_err-without_errors-clause-extends c =
    then_all _ _ _ _ c.of.ensures.extends (then_all _ _ _ _ c.of-2.ensures.extends (then_on _ _ _ _ c.of-3.ensures.extends c.diff.ensures.extends))

pub returns-clause-extends : goal.returns-clause-extends
returns-clause-extends c =
    then_all _ _ _ _ c.of.ensures.extends (then_all _ _ _ _ c.of-2.ensures.extends (then_on _ _ _ _ (then_on _ _ _ _ c.of-3.ensures.extends c.diff.ensures.extends) c.diff-2.ensures.extends))

pub returns-clause-made : goal.returns-clause-made
returns-clause-made c =
    IfOk-map _ _ (λ n h. frozen-Gives c.args.env.now c.of.new.self c.of-2.new.self c.of-3.new.self c.diff.new.self c.diff-2.new.self c.in_ok-readonly.readonly c.in_ok-errors.errors c.in_ok-functions.functions c.in_ok-without_errors.without_errors n
    c.of-2.ensures.extends.keeps c.of-3.ensures.extends.keeps c.diff.ensures.extends.keeps
    c.in_ok-readonly.ensures.condition c.in_ok-errors.ensures.condition c.in_ok-functions.ensures.condition c.in_ok-without_errors.ensures.condition h)
    c.diff-2.result c.diff-2.ensures.condition
