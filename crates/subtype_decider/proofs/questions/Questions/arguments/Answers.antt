use Rattle.std.proofs.Common.{length, ◌∷◌, []}
use Rattle.type_diagrams.specs.Conditions.{condition_of, without, asks}
use Rattle.type_diagrams.specs.Questions.{lists, readonly}
use Rattle.type_diagrams.specs.Tables.{condition}
use Rattle.type_diagrams.specs.Whole.{Gives}
use Rattle.type_diagrams.proofs.AskedDiagrams.{then_all, then_on}
use Rattle.type_diagrams.proofs.Keeping.{extends-more}
use Rattle.type_diagrams.proofs.Shapes.{IfOk-map}
use Rattle.subtype_decider.proofs.FunctionPaths.{arguments-Gives}
use Rattle.subtype_decider.proofs.Resting.{rest-grown}
use Rattle.subtype_decider.proofs.questions.Questions.arguments.Goals as goal

pub returns-in_err-lists-2-clause-rest : goal.returns-in_err-lists-2-clause-rest
returns-in_err-lists-2-clause-rest c = rest-grown c.args.env.now c.of-2.new.self c.inter.new.self (extends-more (length c.args.env.now) c.of-2.new.self.diagrams c.inter.new.self c.inter.ensures.extends) c.of-2.ensures.rest

pub returns-in_err-lists-2-clause-extends : goal.returns-in_err-lists-2-clause-extends
returns-in_err-lists-2-clause-extends c = then_all _ _ _ _ c.of.ensures.extends (then_on _ _ _ _ c.of-2.ensures.extends c.inter.ensures.extends)

pub outside-requires-clause-rest : goal.outside-requires-clause-rest
outside-requires-clause-rest c = rest-grown c.args.env.now c.of-2.new.self c.inter.new.self (extends-more (length c.args.env.now) c.of-2.new.self.diagrams c.inter.new.self c.inter.ensures.extends) c.of-2.ensures.rest

pub returns-clause-extends : goal.returns-clause-extends
returns-clause-extends c = then_all _ _ _ _ c.of.ensures.extends (then_all _ _ _ _ (then_on _ _ _ _ c.of-2.ensures.extends c.inter.ensures.extends) c.outside.ensures.extends)

pub returns-clause-gives : goal.returns-clause-gives
returns-clause-gives c =
    let env = c.args.env.now in
    let args = c.args.args.now in
    let three = c.inter.new.self in
    let four = c.outside.new.self.diagrams in
    let n = c.in_ok-lists-2.lists in
    IfOk-map (Gives four (without (condition three n) (readonly env))) (Gives four (asks (condition_of env args ∷ lists env ∷ []) (readonly env ∷ [])))
    (λ r g. arguments-Gives env args c.of.new.self.diagrams c.of-2.new.self.diagrams three four c.in_ok-args.args c.in_ok-lists.lists n r c.in_ok-args.ensures.gives c.in_ok-lists.ensures.gives c.of-2.ensures.extends.keeps c.in_ok-lists-2.ensures.condition g)
    c.outside.result c.outside.ensures.gives
