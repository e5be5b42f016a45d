use Rattle.check_words.specs.Words.{OfKind}
use Rattle.needs_of_made_calls.proofs.Expecting.{wants-this}
use Rattle.needs_of_made_calls.proofs.expected.of_known.Goals as goal

pub returns-clause-below : goal.returns-clause-below
returns-clause-below c = λ env own. c.in_ok-t.ensures.defined env own

pub returns-clause-wants : goal.returns-clause-wants
returns-clause-wants c = λ env own. wants-this (OfKind c.args.kind) env c.in_ok-t.t (c.in_ok-t.ensures.is env own)
