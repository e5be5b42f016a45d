use Rattle.std.proofs.Common.{IfErr, IfOk, None, length, subst, sym}
use Rattle.check_words.specs.Stands.{SharedBelow}
use Rattle.check_work.specs.Views.{site_of}
use Rattle.needs_of_actions.specs.Failing.{IsMessageType, IsRefusedFor}
use Rattle.needs_of_actions.proofs.Lifting.{below-is, lifted-err, nil-is}
use Rattle.needs_of_actions.proofs.messages.message_type.Goals as goal

pub returns-in-None-clause-below : goal.returns-in-None-clause-below
returns-in-None-clause-below g c = let env = g.T.Types.atoms c.args.types.now in
    subst (λ r. IfOk r (SharedBelow (length env))) (sym c.lift.ensures) (below-is env (site_of c.args.site.now) c.args.own.now c.kind_shared.result c.requires.own c.kind_shared.ensures.defined)

pub returns-in-None-clause-is : goal.returns-in-None-clause-is
returns-in-None-clause-is g c = let env = g.T.Types.atoms c.args.types.now in
    subst (λ f. IfOk c.lift.result (IsMessageType env (site_of c.args.site.now) f)) (sym c.in-None.is)
    (subst (λ r. IfOk r (IsMessageType env (site_of c.args.site.now) None)) (sym c.lift.ensures)
    (nil-is env (site_of c.args.site.now) c.args.own.now c.kind_shared.result c.requires.own c.kind_shared.ensures.is))

pub returns-in-None-clause-refused : goal.returns-in-None-clause-refused
returns-in-None-clause-refused g c =
    subst (λ f. IfErr c.lift.result (IsRefusedFor (site_of c.args.site.now) f)) (sym c.in-None.is)
    (subst (λ r. IfErr r (IsRefusedFor (site_of c.args.site.now) None)) (sym c.lift.ensures) (lifted-err (IsRefusedFor (site_of c.args.site.now) None) c.kind_shared.result tt))
