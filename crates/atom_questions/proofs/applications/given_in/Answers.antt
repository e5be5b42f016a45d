use Rattle.std.proofs.Common.{IfOk, List, subst, sym}
use Rattle.bal_base.specs.Stops.{IfFault}
use Rattle.type_model.specs.declared.answers.Answer.{Answer}
use Rattle.type_model.specs.declared.answers.Apply.{Apply}
use Rattle.type_model.specs.declared.atoms.AtomDef.{AtomDef}
use Rattle.type_model.specs.Application.{NamesDefined}
use Rattle.atom_questions.specs.inner.Stopping.{IsToldOf, ResultPasses}
use Rattle.atom_questions.proofs.Stops.{apply-stop, applied-stop, applied-told}
use Rattle.atom_questions.proofs.applications.given_in.Goals as goal

pub results_in-requires-clause-defined : goal.results_in-requires-clause-defined
results_in-requires-clause-defined g c = subst (λ (env : List AtomDef). NamesDefined env c.in-Ok.applied) (sym c.apply.ensures.atoms) c.in-Ok.ensures.defined

pub returns-in-Ok-clause-told : goal.returns-in-Ok-clause-told
returns-in-Ok-clause-told g c =
    applied-told (g.T.Types.atoms c.args.types.now) c.args.g.now c.args.args.now c.args.r.now c.in-Ok.applied c.in-Ok.ensures.applies c.results_in.result
    (subst (λ (env : List AtomDef). IfOk c.results_in.result (IsToldOf env c.args.r.now c.in-Ok.applied)) c.apply.ensures.atoms c.results_in.ensures.told)

pub returns-in-Ok-clause-limit : goal.returns-in-Ok-clause-limit
returns-in-Ok-clause-limit g c =
    applied-stop g.T.Types.passes (g.T.Types.atoms c.args.types.now) c.args.g.now c.args.args.now c.args.r.now c.in-Ok.applied c.in-Ok.ensures.applies c.in-Ok.ensures.defined c.results_in.result
    (subst (λ (env : List AtomDef). IfFault c.results_in.result (ResultPasses g.T.Types.passes env c.args.r.now c.in-Ok.applied)) c.apply.ensures.atoms c.results_in.ensures.limit)

pub returns-in-Err-clause-limit : goal.returns-in-Err-clause-limit
returns-in-Err-clause-limit g c = apply-stop g.T.Types.passes (g.T.Types.atoms c.args.types.now) c.args.g.now c.args.args.now c.args.r.now Apply Answer c.in-Err.stop c.in-Err.ensures.limit
