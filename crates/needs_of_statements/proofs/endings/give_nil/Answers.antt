use Rattle.std.proofs.Common.{OnOk, subst, sym}
use Rattle.checks.specs.Checks.{Comes}
use Rattle.checks.proofs.Steps.{stops}
use Rattle.check_words.specs.Stands.{Stands}
use Rattle.check_words.specs.Statements.{returns_nil}
use Rattle.check_words.proofs.Coming.{next}
use Rattle.check_work.specs.Views.{state_of}
use Rattle.check_work.proofs.Noting.{made-comes, made-on}
use Rattle.needs_of_statements.proofs.endings.give_nil.Goals as goal

pub returns-in-Ok-clause-stands : goal.returns-in-Ok-clause-stands
returns-in-Ok-clause-stands g c =
    subst (λ r. OnOk r (Stands (state_of (g.T.Types.atoms c.args.types.now) c.end_with_nil.new.work))) (sym c.lift.ensures) (made-on _ c.end_with_nil.result (c.end_with_nil.ensures.stands (g.T.Types.atoms c.args.types.now) c.requires.stands))

pub returns-in-Ok-clause-comes : goal.returns-in-Ok-clause-comes
returns-in-Ok-clause-comes g c =
    subst (λ r. Comes (returns_nil g.T.Types.passes c.args.at) (state_of (g.T.Types.atoms c.args.types.now) c.args.work.now) r (state_of (g.T.Types.atoms c.require_nil.new.types) c.end_with_nil.new.work)) (sym c.lift.ensures)
    (next _ _ _ _ _ tt _ c.in-Ok.ensures.comes (made-comes _ _ _ c.end_with_nil.result (c.end_with_nil.ensures.comes (g.T.Types.atoms c.require_nil.new.types))))

pub returns-in-Err-clause-comes : goal.returns-in-Err-clause-comes
returns-in-Err-clause-comes g c = stops _ _ _ _ c.in-Err.stop c.in-Err.ensures.comes
