use Rattle.std.proofs.Common.{Err, Ok, refl, subst, sym}
use Rattle.checks.specs.Checks.{Comes}
use Rattle.check_words.specs.Calls.{expects_argument}
use Rattle.check_words.specs.State.{IsLast}
use Rattle.check_work.specs.Views.{call_of, state_of}
use Rattle.needs_of_made_calls.proofs.Answering.{lifted-comes, lifted-on, on-made}
use Rattle.needs_of_made_calls.proofs.Closing.{mapped-is-last}
use Rattle.needs_of_made_calls.proofs.Expecting.{argument-expected, want-stands}
use Rattle.needs_of_made_calls.proofs.expected.expect_argument.Goals as goal

pub returns-in-Ok-clause-stands : goal.returns-in-Ok-clause-stands
returns-in-Ok-clause-stands g c =
    let s = state_of (g.T.Types.atoms c.args.types.now) c.args.work.now in
    lifted-on c.push_want.result c.lift.result c.lift.ensures _
    (on-made _ _ c.push_want.result (λ e. want-stands s c.requires.stands c.in-Ok.want _ c.in-Ok.ensures.below e) c.push_want.ensures)

pub returns-in-Ok-clause-comes : goal.returns-in-Ok-clause-comes
returns-in-Ok-clause-comes g c =
    let old = g.T.Types.atoms c.args.types.now in
    let new = g.T.Types.atoms c.expected.new.types in
    let s = state_of old c.args.work.now in
    lifted-comes c.push_want.result c.lift.result c.lift.ensures (expects_argument g.T.Types.passes c.args.at) s _
    (on-made _ _ c.push_want.result
    (λ e. subst (λ ws. Comes (expects_argument g.T.Types.passes c.args.at) s (Ok tt) (record s { atoms = new; wants = ws })) (sym e)
    (argument-expected g.T.Types.passes c.args.at old new s (call_of c.in-Some.call.now) (Ok c.in-Ok.want) refl
    (mapped-is-last call_of _ _ (subst (λ xs. IsLast xs c.in-Some.call.now) c.as_slice.ensures.value c.in-Some.ensures)) c.in-Ok.ensures.wants)) c.push_want.ensures)

pub returns-in-Err-clause-comes : goal.returns-in-Err-clause-comes
returns-in-Err-clause-comes g c =
    let old = g.T.Types.atoms c.args.types.now in
    argument-expected g.T.Types.passes c.args.at old (g.T.Types.atoms c.expected.new.types) (state_of old c.args.work.now) (call_of c.in-Some.call.now) (Err c.in-Err.stop) refl
    (mapped-is-last call_of _ _ (subst (λ xs. IsLast xs c.in-Some.call.now) c.as_slice.ensures.value c.in-Some.ensures)) c.in-Err.ensures.wants
