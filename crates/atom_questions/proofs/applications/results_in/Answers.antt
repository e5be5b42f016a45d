use Rattle.std.proofs.Common.{subst, sym, IfOk}
use Rattle.bal_base.specs.Stops.{IfFault}
use Rattle.type_model.specs.declared.answers.Apply.{Apply}
use Rattle.type_model.specs.Application.{NamesDefined}
use Rattle.atom_questions.specs.inner.Stopping.{IsToldOf, ResultPasses}
use Rattle.atom_questions.proofs.applications.results_in.Goals as goal

pub below-requires-clause-left : goal.below-requires-clause-left
below-requires-clause-left g c = subst (λ (a : Apply). NamesDefined (g.T.Types.atoms c.args.types.now) a) c.in-Result.is c.requires.defined

pub returns-in-Result-clause-told : goal.returns-in-Result-clause-told
returns-in-Result-clause-told g c = subst (λ (a : Apply). IfOk c.below.result (IsToldOf (g.T.Types.atoms c.args.types.now) c.args.r.now a)) (sym c.in-Result.is) c.below.ensures.answer

pub returns-in-Result-clause-limit : goal.returns-in-Result-clause-limit
returns-in-Result-clause-limit g c = subst (λ (a : Apply). IfFault c.below.result (ResultPasses g.T.Types.passes (g.T.Types.atoms c.args.types.now) c.args.r.now a)) (sym c.in-Result.is) c.below.ensures.limit
