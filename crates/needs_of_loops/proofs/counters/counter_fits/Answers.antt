use Rattle.std.proofs.Common.{Some, length, subst, sym}
use Rattle.checks.specs.Checks.{Comes}
use Rattle.checks.specs.Questions.{below}
use Rattle.flow_narrowing.specs.Flows.{IfShared}
use Rattle.type_model.specs.declared.basic.Ty.{Ty}
use Rattle.type_model.specs.Defined.{IsDefined, TyBelow}
use Rattle.check_words.proofs.Standing.{last-has}
use Rattle.check_work.specs.Views.{state_of}
use Rattle.needs_of_loops.proofs.ItemSteps.{is-counter-comes}
use Rattle.needs_of_loops.proofs.counters.counter_fits.Goals as goal

pub require_below-requires-clause-left : goal.require_below-requires-clause-left
require_below-requires-clause-left g c =
    let env = g.T.Types.atoms c.args.types.now in
    subst (λ (v : Ty). IsDefined env v.sem) (sym c.deref.ensures) (c.in-Ok.ensures.defined env c.requires.own).0

pub require_below-requires-clause-right : goal.require_below-requires-clause-right
require_below-requires-clause-right g c =
    let env = g.T.Types.atoms c.args.types.now in
    subst (λ (v : Ty). IsDefined env v.sem) (sym c.deref-in-Ok.ensures)
    (last-has (IfShared (TyBelow (length env))) c.args.work.now.wants.items (Some c.args.t.now) c.requires.last c.requires.stands.wants).0

pub returns-in-Ok-clause-comes : goal.returns-in-Ok-clause-comes
returns-in-Ok-clause-comes g c =
    let env = g.T.Types.atoms c.args.types.now in
    let new = g.T.Types.atoms c.require_below.new.types in
    is-counter-comes g.T.Types.passes c.args.at (state_of env c.args.work.now) c.args.t.now c.in-Ok.int.value _ new c.requires.last (c.in-Ok.ensures.is env c.requires.own)
    (subst (λ (v : Ty). Comes (below g.T.Types.passes v.sem c.args.t.now.value.sem (Some c.args.at)) env c.require_below.result new) c.deref.ensures
    (subst (λ (v : Ty). Comes (below g.T.Types.passes c.deref.result.now.sem v.sem (Some c.args.at)) env c.require_below.result new) c.deref-in-Ok.ensures c.require_below.ensures.comes))
