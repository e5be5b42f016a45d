use Rattle.std.proofs.Common.{Some, map, subst, sym}
use Rattle.checks.specs.Checks.{Comes}
use Rattle.checks.specs.Questions.{below}
use Rattle.type_model.specs.declared.basic.Ty.{Ty}
use Rattle.type_model.specs.Defined.{IsDefined}
use Rattle.check_words.proofs.Coming.{asked, given, next}
use Rattle.check_words.proofs.Entering.{unit-stands}
use Rattle.check_words.proofs.Flowing.{unit-now}
use Rattle.check_work.specs.Views.{state_of, unit_of}
use Rattle.check_work.proofs.Noting.{at-hand}
use Rattle.needs_of_statements.proofs.endings.require_nil.Goals as goal

pub require_below-requires-clause-left : goal.require_below-requires-clause-left
require_below-requires-clause-left g c = (c.in_ok-nil.ensures.defined (g.T.Types.atoms c.args.types.now) c.requires.own).0

pub require_below-requires-clause-right : goal.require_below-requires-clause-right
require_below-requires-clause-right g c =
    subst (λ (t : Ty). IsDefined (g.T.Types.atoms c.args.types.now) t.sem) (sym c.deref.ensures)
    (unit-stands (state_of (g.T.Types.atoms c.args.types.now) c.args.work.now) c.requires.stands (map unit_of c.args.work.now.around.items) (unit_of c.in_ok-unit.unit.now)
    (at-hand _ _ _ c.in_ok-unit.ensures)).result.0

pub returns-clause-comes : goal.returns-clause-comes
returns-clause-comes g c =
    let env = g.T.Types.atoms c.args.types.now in
    let s = state_of env c.args.work.now in
    next _ _ _ _ _ (unit_of c.in_ok-unit.unit.now) s (unit-now s (map unit_of c.args.work.now.around.items) (unit_of c.in_ok-unit.unit.now) (at-hand _ _ _ c.in_ok-unit.ensures))
    (next _ _ _ _ _ c.in_ok-nil.nil s (given _ s c.in_ok-nil.nil (c.in_ok-nil.ensures.is env c.requires.own))
    (asked _ s _ c.require_below.result
    (subst (λ (t : Ty). Comes (below g.T.Types.passes c.in_ok-nil.nil.sem t.sem (Some c.args.at)) env c.require_below.result (g.T.Types.atoms c.require_below.new.types)) c.deref.ensures
    c.require_below.ensures.comes)))
