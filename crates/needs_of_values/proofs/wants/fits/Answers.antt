use Rattle.std.proofs.Common.{Ok, Some, length, refl, subst, sym}
use Rattle.checks.specs.Checks.{Comes}
use Rattle.checks.specs.Questions.{below}
use Rattle.flow_narrowing.specs.Flows.{IfShared}
use Rattle.type_model.specs.Defined.{IsDefined, TyBelow}
use Rattle.typed_tree.specs.SharedTypes.{sem_of}
use Rattle.check_words.specs.Words.{below_if, sem}
use Rattle.check_words.proofs.Coming.{asked, given}
use Rattle.check_work.specs.Views.{state_of}
use Rattle.needs_of_values.proofs.wants.fits.Goals as goal

pub require_below-requires-clause-left : goal.require_below-requires-clause-left
require_below-requires-clause-left g c = subst (IsDefined (g.T.Types.atoms c.args.types.now)) (sym c.shapes_of-part.ensures) c.requires.part.0

pub require_below-requires-clause-right : goal.require_below-requires-clause-right
require_below-requires-clause-right g c =
    let env = g.T.Types.atoms c.args.types.now in
    subst (IsDefined env) (sym c.shapes_in-wanted.ensures) (subst (IfShared (TyBelow (length env))) c.in-Some.is c.requires.want).0

pub returns-in-Some-clause-comes : goal.returns-in-Some-clause-comes
returns-in-Some-clause-comes g c =
    let env = g.T.Types.atoms c.args.types.now in
    let new = g.T.Types.atoms c.require_below.new.types in
    subst (λ w. Comes (below_if g.T.Types.passes w c.args.e.now c.args.at) (state_of env c.args.work.now) c.require_below.result (state_of new c.args.work.now)) (sym c.in-Some.is)
    (asked (below g.T.Types.passes (sem c.args.e.now) (sem_of c.in-Some.t) (Some c.args.at)) (state_of env c.args.work.now) new c.require_below.result
    (subst (λ s. Comes (below g.T.Types.passes s (sem_of c.in-Some.t) (Some c.args.at)) env c.require_below.result new) c.shapes_of-part.ensures
    (subst (λ t. Comes (below g.T.Types.passes c.shapes_of-part.result.now t (Some c.args.at)) env c.require_below.result new) c.shapes_in-wanted.ensures c.require_below.ensures.comes)))

pub returns-in-None-clause-comes : goal.returns-in-None-clause-comes
returns-in-None-clause-comes g c =
    let s = state_of (g.T.Types.atoms c.args.types.now) c.args.work.now in
    subst (λ w. Comes (below_if g.T.Types.passes w c.args.e.now c.args.at) s (Ok tt) s) (sym c.in-None.is) (given _ s tt refl)
