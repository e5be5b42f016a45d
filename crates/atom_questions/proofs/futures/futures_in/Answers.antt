use Rattle.std.proofs.Common.{IfOk, subst, sym}
use Rattle.bal_base.specs.Stops.{IfFault}
use Rattle.type_model.specs.declared.answers.Apply.{Apply}
use Rattle.type_model.specs.Application.{NamesDefined}
use Rattle.type_model.proofs.Kept.{KeepsTypes-same}
use Rattle.atom_questions.specs.inner.Applying.{FutureOfStops, IsFutureTold}
use Rattle.atom_questions.proofs.FutureAtoms.{given-more}
use Rattle.atom_questions.proofs.futures.futures_in.Goals as goal

pub has_atom-requires-clause-named : goal.has_atom-requires-clause-named
has_atom-requires-clause-named g c = subst (λ (a : Apply). NamesDefined (g.T.Types.atoms c.args.types.now) a) c.in-Result.is c.requires.defined

pub returns-in-Result-clause-added : goal.returns-in-Result-clause-added
returns-in-Result-clause-added g c = given-more (g.T.Types.atoms c.args.types.now) _ c.in-Result.t c.args.applied c.in-Result.is c.has_atom.ensures.added

pub returns-in-Result-clause-told : goal.returns-in-Result-clause-told
returns-in-Result-clause-told g c = subst (λ (a : Apply). IfOk c.has_atom.result (IsFutureTold (g.T.Types.atoms c.args.types.now) c.args.r.now a)) (sym c.in-Result.is) c.has_atom.ensures.answer

pub returns-in-Result-clause-limit : goal.returns-in-Result-clause-limit
returns-in-Result-clause-limit g c = subst (λ (a : Apply). IfFault c.has_atom.result (FutureOfStops g.T.Types.passes (g.T.Types.atoms c.args.types.now) c.args.r.now a)) (sym c.in-Result.is) c.has_atom.ensures.limit

pub returns-in-Outside-clause-kept : goal.returns-in-Outside-clause-kept
returns-in-Outside-clause-kept g c = KeepsTypes-same (g.T.Types.atoms c.args.types.now)
