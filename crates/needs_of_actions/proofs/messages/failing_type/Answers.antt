use Rattle.std.proofs.Common.{IfErr, IfOk, Ok, Some, ℕ, length, subst, sym}
use Rattle.check_words.specs.Stands.{SharedBelow}
use Rattle.check_work.specs.Views.{site_of}
use Rattle.needs_of_actions.specs.Failing.{IsMessageType, IsRefusedFor}
use Rattle.needs_of_actions.proofs.Lifting.{failing-is, lifted-err, lifted-ok}
use Rattle.needs_of_actions.proofs.PeersNamed.{result-has}
use Rattle.needs_of_actions.proofs.messages.failing_type.Goals as goal

pub nil_or_its_errors-requires : goal.nil_or_its_errors-requires
nil_or_its_errors-requires g c = let n : ℕ = length (g.T.Types.atoms c.args.types.now) in
    result-has (λ r. IfOk r (SharedBelow n)) c.args.site.now.results.items c.args.worker (Ok c.in-Ok.t.now) c.requires c.in-Ok.ensures.found

pub returns-in-Ok-clause-below : goal.returns-in-Ok-clause-below
returns-in-Ok-clause-below g c = let n : ℕ = length (g.T.Types.atoms c.args.types.now) in
    subst (λ r. IfOk r (SharedBelow n)) (sym c.lift.ensures) (lifted-ok (SharedBelow n) c.nil_or_its_errors.result c.nil_or_its_errors.ensures.below)

pub returns-in-Ok-clause-is : goal.returns-in-Ok-clause-is
returns-in-Ok-clause-is g c = let env = g.T.Types.atoms c.args.types.now in
    subst (λ r. IfOk r (IsMessageType env (site_of c.args.site.now) (Some c.args.worker))) (sym c.lift.ensures)
    (failing-is env (site_of c.args.site.now) c.args.worker c.in-Ok.t.now c.nil_or_its_errors.result c.in-Ok.ensures.found c.nil_or_its_errors.ensures.is)

pub returns-in-Ok-clause-refused : goal.returns-in-Ok-clause-refused
returns-in-Ok-clause-refused g c =
    subst (λ r. IfErr r (IsRefusedFor (site_of c.args.site.now) (Some c.args.worker))) (sym c.lift.ensures)
    (lifted-err (IsRefusedFor (site_of c.args.site.now) (Some c.args.worker)) c.nil_or_its_errors.result tt)
