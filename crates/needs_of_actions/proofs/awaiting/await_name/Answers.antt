use Rattle.std.proofs.Common.{◌≡◌, subst}
use Rattle.check_words.specs.Seen.{worker_named}
use Rattle.check_work.specs.Views.{state_of}
use Rattle.needs_of_actions.proofs.Futures.{awaits-by}
use Rattle.needs_of_actions.proofs.awaiting.await_name.Goals as goal

pub returns-in-Ok-clause-comes : goal.returns-in-Ok-clause-comes
returns-in-Ok-clause-comes g c =
    let env = g.T.Types.atoms c.args.types.now in
    awaits-by g.T.Types.passes c.args.names.now c.args.q.now (state_of env c.args.work.now) (state_of env c.await_known.new.work) c.await_known.result c.in-Ok.worker
    (subst (λ ws. c.in-Ok.worker ≡ worker_named ws c.args.q.now) c.as_slice.ensures.value c.in-Ok.ensures) c.await_known.ensures.comes
