use Rattle.std.proofs.Common.{None, Ok, length, subst}
use Rattle.checks.specs.Checks.{Comes}
use Rattle.check_words.specs.Words.{makes_typed}
use Rattle.check_words.proofs.Standing.{shared-below}
use Rattle.check_work.specs.Views.{state_of}
use Rattle.check_work.proofs.Making.{strict-stands, typed-made}
use Rattle.needs_of_made_calls.proofs.library.give_receiver.Goals as goal

pub returns-clause-stands : goal.returns-clause-stands
returns-clause-stands c = λ env below h.
    strict-stands c.form_of.result c.args.what.count c.in_ok-ty.ty c.args.what.at (state_of env c.args.work.now) _ c.in_ok-gather.ensures h
    (shared-below (length env) c.args.receiver.now c.in_ok-ty.ty c.in_ok-ty.ensures below)

pub returns-clause-comes : goal.returns-clause-comes
returns-clause-comes c = λ env.
    let s = state_of env c.args.work.now in
    subst (λ f. Comes (makes_typed c.args.what.count f c.args.receiver.now c.args.what.at) s (Ok tt) (record s { found = c.gather.new.found.items; ways = None })) c.form_of.ensures
    (typed-made c.form_of.result c.args.what.count c.in_ok-ty.ty c.args.what.at s _ c.in_ok-gather.ensures c.args.receiver.now c.in_ok-ty.ensures)
