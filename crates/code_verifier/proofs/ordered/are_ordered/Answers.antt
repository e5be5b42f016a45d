use Rattle.std.proofs.Common.{IfOk, List, inl, inr, subst, sym}
use Rattle.bal_base.specs.Stops.{IfFault}
use Rattle.type_model.specs.declared.answers.Answer.{Answer}
use Rattle.type_model.specs.declared.atoms.AtomDef.{AtomDef}
use Rattle.type_model.specs.declared.basic.BasicSet.TheVariants.{StringAll}
use Rattle.type_model.specs.declared.basic.SemType.{Basic}
use Rattle.code_needs.specs.Needs.{Ordered}
use Rattle.code_verifier.specs.Asked.{Answers}
use Rattle.code_verifier.specs.inner.Pairs.{TellsBelow}
use Rattle.code_verifier.specs.KindSets.{all_ints}
use Rattle.code_verifier.specs.LedTo.{AsksEach, AsksOrder, SomePasses}
use Rattle.code_verifier.proofs.Leading.{fault-on, stop-on}
use Rattle.code_verifier.proofs.ordered.are_ordered.Goals as goal

pub or_strings-requires-clause-told : goal.or_strings-requires-clause-told
or_strings-requires-clause-told g c = subst (λ (env : List AtomDef). TellsBelow env c.args.a.now c.args.b.now (Basic all_ints) c.in-Ok.of_ints) (sym c.are_ints.ensures.atoms) c.in-Ok.ensures.tells

pub returns-in-Ok-clause-answers : goal.returns-in-Ok-clause-answers
returns-in-Ok-clause-answers g c = subst (λ (env : List AtomDef). IfOk c.or_strings.result (Answers env (Ordered c.args.a.now c.args.b.now))) c.are_ints.ensures.atoms c.or_strings.ensures.answers

pub returns-in-Ok-clause-limit : goal.returns-in-Ok-clause-limit
returns-in-Ok-clause-limit g c =
    fault-on g.T.Types.passes (g.T.Types.atoms c.args.types.now) (AsksEach c.args.a.now c.args.b.now (Basic StringAll)) (AsksOrder c.args.a.now c.args.b.now) (λ asked h. inr h) c.or_strings.result
    (subst (λ (env : List AtomDef). IfFault c.or_strings.result (SomePasses g.T.Types.passes env (AsksEach c.args.a.now c.args.b.now (Basic StringAll)))) c.are_ints.ensures.atoms c.or_strings.ensures.limit)

pub returns-in-Err-clause-limit : goal.returns-in-Err-clause-limit
returns-in-Err-clause-limit g c =
    stop-on g.T.Types.passes (g.T.Types.atoms c.args.types.now) (AsksEach c.args.a.now c.args.b.now (Basic all_ints)) (AsksOrder c.args.a.now c.args.b.now) (λ asked h. inl h) Answer Answer
    c.in-Err.stop c.in-Err.ensures.limit
