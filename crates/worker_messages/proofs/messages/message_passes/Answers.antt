use Rattle.std.proofs.Common.{◌≡◌, ◌∙◌, Some, None, option_map, refl, sym}
use Rattle.checks.specs.Checks.{gives}
use Rattle.checks.proofs.Steps.{some_is}
use Rattle.worker_faults.specs.Routes.{route_held}
use Rattle.worker_members.specs.Held.{members_held, numbered_held}
use Rattle.worker_messages.proofs.Fitted.{passes-on}
use Rattle.worker_messages.proofs.messages.message_passes.Goals as goal

pub returns-in-Some-clause-comes : goal.returns-in-Some-clause-comes
returns-in-Some-clause-comes g c =
    passes-on g.T.Types.passes (members_held c.args.members.now) (numbered_held c.args.event) (Some (route_held c.in-Some.way)) _ _ c.from_route.result c.in-Some.ensures c.from_route.ensures.comes

pub returns-in-None-clause-comes : goal.returns-in-None-clause-comes
returns-in-None-clause-comes g c =
    let env = g.T.Types.atoms c.args.types.now in
    passes-on g.T.Types.passes (members_held c.args.members.now) (numbered_held c.args.event) None env env _ c.in-None.ensures (some_is (λ old a. a ≡ tt) env env tt refl refl)
