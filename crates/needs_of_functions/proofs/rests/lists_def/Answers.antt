use Rattle.needs_of_functions.proofs.Resting.{lists-def-below}
use Rattle.needs_of_functions.proofs.rests.lists_def.Goals as goal

pub returns-clause-below : goal.returns-clause-below
returns-clause-below c = λ n h. lists-def-below n c.args.member.now c.in_ok-rest.rest _ _ c.new-none.ensures.items c.of-fixed.ensures c.in_ok-rest.ensures h
