use Rattle.type_model.proofs.Kept.{KeepsTypes-same}
use Rattle.check_work.specs.Views.{state_of}
use Rattle.needs_of_made_calls.proofs.Giving.{row-made}
use Rattle.needs_of_made_calls.proofs.made.make_row.Goals as goal

pub returns-in-Ok-clause-comes : goal.returns-in-Ok-clause-comes
returns-in-Ok-clause-comes g c =
    row-made g.T.Types.passes c.args.what.call c.args.receiver.now c.args.what.at (state_of (g.T.Types.atoms c.args.types.now) c.args.work.now) _ c.make_library.result c.args.what.count c.in-Ok.count
    c.in-Ok.ensures c.make_library.ensures.comes

pub returns-in-Err-clause-kept : goal.returns-in-Err-clause-kept
returns-in-Err-clause-kept g c = KeepsTypes-same _
