use Rattle.std.proofs.Common.{Ok, false, subst, sym, true}
use Rattle.type_model.specs.declared.basic.BasicSet.TheVariants.{StringAll}
use Rattle.type_model.specs.Basic.{InBasic}
use Rattle.checks.specs.Checks.{Comes}
use Rattle.checks.proofs.Steps.{stops}
use Rattle.descriptors.specs.Steps.{AreOwnTypes}
use Rattle.check_words.specs.Members.{has_part}
use Rattle.check_words.proofs.Coming.{next}
use Rattle.check_work.specs.Views.{state_of}
use Rattle.needs_of_members.proofs.Answered.{on-stands-at, stands-at}
use Rattle.needs_of_members.proofs.accesses.require_text.Goals as goal

pub require_container-requires-clause-own : goal.require_container-requires-clause-own
require_container-requires-clause-own g c = subst (λ env. AreOwnTypes env c.args.own.now) (sym c.has_shapes.ensures.atoms) c.requires.own

pub require_container-requires-clause-stands : goal.require_container-requires-clause-stands
require_container-requires-clause-stands g c = stands-at c.args.work.now _ _ c.has_shapes.ensures.atoms c.requires.stands

pub returns-in-true-clause-stands : goal.returns-in-true-clause-stands
returns-in-true-clause-stands g c = on-stands-at c.require_container.new.work _ _ c.require_container.result c.has_shapes.ensures.atoms c.require_container.ensures.stands

pub returns-in-true-clause-comes : goal.returns-in-true-clause-comes
returns-in-true-clause-comes g c =
    let s = state_of (g.T.Types.atoms c.args.types.now) c.args.work.now in
    let mid = state_of (g.T.Types.atoms c.has_shapes.new.types) c.args.work.now in
    next _ _ _ _ _ true mid
    (subst (λ b. Comes (has_part g.T.Types.passes (λ x. InBasic x StringAll) c.args.at) s (Ok b) mid) c.in-true.is c.in-Ok.ensures.comes) c.require_container.ensures.comes

pub require_structure-requires-clause-own : goal.require_structure-requires-clause-own
require_structure-requires-clause-own g c = subst (λ env. AreOwnTypes env c.args.own.now) (sym c.has_shapes.ensures.atoms) c.requires.own

pub require_structure-requires-clause-stands : goal.require_structure-requires-clause-stands
require_structure-requires-clause-stands g c = stands-at c.args.work.now _ _ c.has_shapes.ensures.atoms c.requires.stands

pub returns-in-false-clause-stands : goal.returns-in-false-clause-stands
returns-in-false-clause-stands g c = on-stands-at c.require_structure.new.work _ _ c.require_structure.result c.has_shapes.ensures.atoms c.require_structure.ensures.stands

pub returns-in-false-clause-comes : goal.returns-in-false-clause-comes
returns-in-false-clause-comes g c =
    let s = state_of (g.T.Types.atoms c.args.types.now) c.args.work.now in
    let mid = state_of (g.T.Types.atoms c.has_shapes.new.types) c.args.work.now in
    next _ _ _ _ _ false mid
    (subst (λ b. Comes (has_part g.T.Types.passes (λ x. InBasic x StringAll) c.args.at) s (Ok b) mid) c.in-false.is c.in-Ok.ensures.comes) c.require_structure.ensures.comes

pub returns-in-Err-clause-comes : goal.returns-in-Err-clause-comes
returns-in-Err-clause-comes g c = stops _ _ (state_of (g.T.Types.atoms c.args.types.now) c.args.work.now) _ c.in-Err.stop c.in-Err.ensures.comes
