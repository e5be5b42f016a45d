use Rattle.std.proofs.Common.{IfOk, sym, subst}
use Rattle.bal_base.specs.Stops.{IfFault}
use Rattle.type_model.specs.Application.{Applies, IsFunctionType, NamesDefined}
use Rattle.type_model.specs.Calls.{Applied}
use Rattle.type_diagrams.specs.Reach.{Passes}
use Rattle.subtype_decider.specs.Deciders.{Findings}
use Rattle.subtype_decider.proofs.decider.Decider.apply.Goals as goal

pub apply-requires-clause-functions : goal.apply-requires-clause-functions
apply-requires-clause-functions c = subst (λ (a : Findings). IsFunctionType a.atoms c.args.f.now) (sym c.self.view_is) c.requires.functions

pub returns-clause-defined : goal.returns-clause-defined
returns-clause-defined c = subst (λ (a : Findings). IfOk c.apply.result (NamesDefined a.atoms)) c.self.view_is c.apply.ensures.defined

pub returns-clause-applies : goal.returns-clause-applies
returns-clause-applies c = subst (λ (a : Findings). IfOk c.apply.result (Applies a.atoms c.args.f.now c.args.args.now)) c.self.view_is c.apply.ensures.applies

pub returns-clause-limit : goal.returns-clause-limit
returns-clause-limit c = subst (λ (a : Findings). IfFault c.apply.result (Passes a.atoms (Applied c.args.f.now c.args.args.now))) c.self.view_is c.apply.ensures.limit
