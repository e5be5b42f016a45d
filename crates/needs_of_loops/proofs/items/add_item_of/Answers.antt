use Rattle.check_words.specs.Branches.{has_item}
use Rattle.needs_of_loops.proofs.Answered.{by-same}
use Rattle.needs_of_loops.proofs.items.add_item_of.Goals as goal

pub returns-clause-stands : goal.returns-clause-stands
returns-clause-stands c = λ env h. c.in_ok-add_item.ensures.stands env h

pub returns-clause-comes : goal.returns-clause-comes
returns-clause-comes c = λ env.
    by-same (λ b. has_item c.args.name.now b) _ _ _ _ _ c.in_ok-assigned.ensures (c.in_ok-add_item.ensures.comes env)
