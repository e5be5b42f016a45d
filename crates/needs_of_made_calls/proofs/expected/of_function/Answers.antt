use Rattle.check_words.specs.Calls.{parameter_of}
use Rattle.needs_of_made_calls.proofs.Expecting.{copy-wanted, parameter-below}
use Rattle.needs_of_made_calls.proofs.expected.of_function.Goals as goal

pub returns-clause-below : goal.returns-clause-below
returns-clause-below c = λ n h. c.in_ok-t.ensures.below n (parameter-below n c.args.f.now c.args.number c.in-Some.t.now c.in-Some.ensures h)

pub returns-clause-wants : goal.returns-clause-wants
returns-clause-wants c = λ env. copy-wanted (parameter_of c.args.f.now c.args.number) c.in-Some.t.now c.in_ok-t.t env c.in-Some.ensures c.in_ok-t.ensures.is
