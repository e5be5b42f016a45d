use Rattle.std.proofs.Common.{subst}
use Rattle.checks.specs.Checks.{Comes}
use Rattle.check_work.specs.Views.{state_of}
use Rattle.needs_of_calls.specs.Callables.{calls_part}
use Rattle.needs_of_calls.proofs.named.call_part.Goals as goal

pub returns-clause-comes : goal.returns-clause-comes
returns-clause-comes g c =
    subst (λ s. Comes (calls_part g.T.Types.passes c.args.at) s c.call_last.result (state_of (g.T.Types.atoms c.call_last.new.types) c.call_last.new.work))
    (c.in_ok-put.ensures.is (g.T.Types.atoms c.args.types.now)) c.call_last.ensures.comes
