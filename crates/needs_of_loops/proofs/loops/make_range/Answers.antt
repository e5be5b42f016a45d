use Rattle.std.proofs.Common.{Ok, sym}
use Rattle.check_words.specs.Words.{closes_choice, sets_flow}
use Rattle.check_words.proofs.Coming.{next, regroup}
use Rattle.needs_of_loops.specs.Loops.{adds_range}
use Rattle.needs_of_loops.proofs.Answered.{by-same}
use Rattle.needs_of_loops.proofs.loops.make_range.Goals as goal

pub returns-clause-stands : goal.returns-clause-stands
returns-clause-stands c = λ env own h. c.in_ok-add_range.ensures.stands env own (c.in_ok-forget_choice.ensures.stands env h)

pub returns-clause-comes : goal.returns-clause-comes
returns-clause-comes c = λ env own.
    let found = c.in_ok-slot.ensures env in
    next _ _ _ _ _ found.0 _ found.2
    (regroup closes_choice (λ d. sets_flow d.before) (λ u. adds_range c.args.op found.0.slot c.args.at) _ _ _ tt (Ok tt) (c.in_ok-forget_choice.ensures.comes env)
    (by-same (λ slot. adds_range c.args.op slot c.args.at) _ _ _ _ _ (sym found.1) (c.in_ok-add_range.ensures.comes env own)))
