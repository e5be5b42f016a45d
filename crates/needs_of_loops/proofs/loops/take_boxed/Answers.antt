use Rattle.std.proofs.Common.{length, subst, sym}
use Rattle.check_words.specs.Stands.{PartBelow}
use Rattle.needs_of_loops.proofs.Answered.{give-same}
use Rattle.needs_of_loops.proofs.loops.take_boxed.Goals as goal

pub returns-clause-stands : goal.returns-clause-stands
returns-clause-stands c = λ env h. c.in_ok-part.ensures.stands env h

pub returns-clause-below : goal.returns-clause-below
returns-clause-below c = λ env h. subst (PartBelow (length env)) (sym c.in_ok-boxed.ensures.ok) (c.in_ok-part.ensures.below env h)

pub returns-clause-comes : goal.returns-clause-comes
returns-clause-comes c = λ env. give-same _ _ _ _ _ (sym c.in_ok-boxed.ensures.ok) (c.in_ok-part.ensures.comes env)
