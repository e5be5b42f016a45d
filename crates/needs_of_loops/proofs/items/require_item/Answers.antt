use Rattle.std.proofs.Common.{Some, length, subst, sym}
use Rattle.checks.specs.Checks.{Comes}
use Rattle.checks.specs.Questions.{below}
use Rattle.checks.proofs.Steps.{stops}
use Rattle.flow_narrowing.specs.Flows.{IfShared}
use Rattle.type_model.specs.declared.basic.Ty.{Ty}
use Rattle.type_model.specs.Defined.{IsDefined, TyBelow}
use Rattle.check_words.proofs.Standing.{last-has}
use Rattle.check_work.specs.Views.{state_of}
use Rattle.needs_of_loops.proofs.ItemSteps.{is-item-comes}
use Rattle.needs_of_loops.proofs.Answered.{read-last}
use Rattle.needs_of_loops.proofs.items.require_item.Goals as goal

pub require_below-requires-clause-left : goal.require_below-requires-clause-left
require_below-requires-clause-left g c = subst (λ env. IsDefined env c.in-Ok.item) (sym c.in-Ok.ensures.atoms) c.in-Ok.ensures.defined

pub require_below-requires-clause-right : goal.require_below-requires-clause-right
require_below-requires-clause-right g c =
    subst (λ (v : Ty). IsDefined (g.T.Types.atoms c.item_type.new.types) v.sem) (sym c.deref.ensures)
    (subst (λ env. IsDefined env c.in-Some.t.now.value.sem) (sym c.in-Ok.ensures.atoms)
    (last-has (IfShared (TyBelow (length (g.T.Types.atoms c.args.types.now)))) c.args.work.now.wants.items (Some c.in-Some.t.now) (read-last _ _ _ c.as_slice.ensures.value c.in-Some.ensures) c.requires.wants).0)

pub returns-in-Some-clause-comes : goal.returns-in-Some-clause-comes
returns-in-Some-clause-comes g c =
    let mid = g.T.Types.atoms c.item_type.new.types in
    let new = g.T.Types.atoms c.require_below.new.types in
    is-item-comes g.T.Types.passes c.args.at (state_of (g.T.Types.atoms c.args.types.now) c.args.work.now) c.in-Ok.item c.in-Some.t.now _ mid new c.in-Ok.ensures.comes
    (read-last _ _ _ c.as_slice.ensures.value c.in-Some.ensures)
    (subst (λ (v : Ty). Comes (below g.T.Types.passes c.in-Ok.item v.sem (Some c.args.at)) mid c.require_below.result new) c.deref.ensures c.require_below.ensures.comes)

pub returns-clause-comes : goal.returns-clause-comes
returns-clause-comes g c = stops _ _ _ _ _ c.in-Err.ensures.comes
