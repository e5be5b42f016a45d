use Rattle.std.proofs.Common.{◌++◌, ◌∙◌, ap}
use Rattle.type_model.proofs.Kept.{KeepsTypes-same}
use Rattle.needs_of_functions.proofs.FunctionsBegun.{site-made}
use Rattle.needs_of_functions.proofs.functions.function_site.Goals as goal

pub returns-in_err-workers-clause-kept : goal.returns-in_err-workers-clause-kept
returns-in_err-workers-clause-kept g c = KeepsTypes-same (g.T.Types.atoms c.args.types.now)

pub returns-in_err-seen-clause-kept : goal.returns-in_err-seen-clause-kept
returns-in_err-seen-clause-kept g c = KeepsTypes-same (g.T.Types.atoms c.args.types.now)

pub returns-in_err-push-clause-kept : goal.returns-in_err-push-clause-kept
returns-in_err-push-clause-kept g c = KeepsTypes-same (g.T.Types.atoms c.args.types.now)

pub returns-clause-is : goal.returns-clause-is
returns-clause-is g c =
    site-made c.args.names.now c.args.scope c.args.d.now c.args.gives (g.T.Types.atoms c.args.types.now) (g.T.Types.atoms c.add_results.new.types) _ _ _ _ _ _ _ c.new-results.ensures.items
    c.in_ok-push.ensures.items c.workers_of-all.ensures c.in_ok-add_results.ensures.come c.in_ok-workers.ensures c.in_ok-seen.ensures c.of.ensures
