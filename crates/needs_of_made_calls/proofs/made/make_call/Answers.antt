use Rattle.type_model.proofs.Kept.{KeepsTypes-same}
use Rattle.check_words.specs.Calls.{makes_call_of}
use Rattle.check_work.specs.Views.{call_of, state_of}
use Rattle.check_work.proofs.Noting.{mapped-last}
use Rattle.needs_of_made_calls.proofs.Closing.{closed-below, closed-stands, closed-then}
use Rattle.needs_of_made_calls.proofs.made.make_call.Goals as goal

pub make_closed-requires-clause-stands : goal.make_closed-requires-clause-stands
make_closed-requires-clause-stands g c =
    closed-stands (state_of (g.T.Types.atoms c.args.types.now) c.args.work.now) _ (call_of c.in-Ok.call) (mapped-last call_of _ _ _ c.in-Ok.ensures) c.requires.stands

pub make_closed-requires-clause-call : goal.make_closed-requires-clause-call
make_closed-requires-clause-call g c =
    closed-below (state_of (g.T.Types.atoms c.args.types.now) c.args.work.now) _ (call_of c.in-Ok.call) (mapped-last call_of _ _ _ c.in-Ok.ensures) c.requires.stands

pub returns-in-Ok-clause-comes : goal.returns-in-Ok-clause-comes
returns-in-Ok-clause-comes g c =
    closed-then (state_of (g.T.Types.atoms c.args.types.now) c.args.work.now) _ (call_of c.in-Ok.call) (mapped-last call_of _ _ _ c.in-Ok.ensures)
    (λ d. makes_call_of g.T.Types.passes d.callee d.args c.args.at) c.make_closed.result _ c.make_closed.ensures.comes

pub returns-in-Err-clause-kept : goal.returns-in-Err-clause-kept
returns-in-Err-clause-kept g c = KeepsTypes-same _
