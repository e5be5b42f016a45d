use Rattle.check_words.proofs.Stepping.{fewer-wants-stand, told-last, want-below, want-taken}
use Rattle.check_work.specs.Views.{state_of}
use Rattle.check_work.proofs.steps.take_want.Goals as goal

pub returns-clause-stands : goal.returns-clause-stands
returns-clause-stands c = λ env h. fewer-wants-stand (state_of env c.args.work.now) _ c.in_ok-t.t (told-last _ _ _ _ c.in_ok-want.ensures c.in_ok-t.ensures) h

pub returns-clause-below : goal.returns-clause-below
returns-clause-below c = λ env h. want-below (state_of env c.args.work.now) _ c.in_ok-t.t (told-last _ _ _ _ c.in_ok-want.ensures c.in_ok-t.ensures) h

pub returns-clause-comes : goal.returns-clause-comes
returns-clause-comes c = λ env. want-taken (state_of env c.args.work.now) _ c.in_ok-t.t (told-last _ _ _ _ c.in_ok-want.ensures c.in_ok-t.ensures)
