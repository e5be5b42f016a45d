use Rattle.std.proofs.Common.{Option, subst, sym}
use Rattle.expr_needs.specs.declared.kind.Kind.{Kind}
use Rattle.check_words.specs.Calls.{wants_kind}
use Rattle.needs_of_made_calls.specs.Expected.{WantsOver}
use Rattle.needs_of_made_calls.proofs.Expecting.{any-wanted}
use Rattle.needs_of_made_calls.proofs.expected.of_kind.Goals as goal

pub returns-in-Some-clause-wants : goal.returns-in-Some-clause-wants
returns-in-Some-clause-wants c = λ env own. subst (λ (o : Option Kind). WantsOver (wants_kind o) env c.of_known.result env) (sym c.in-Some.is) (c.of_known.ensures.wants env own)

pub returns-in-None-clause-wants : goal.returns-in-None-clause-wants
returns-in-None-clause-wants c = λ env own. any-wanted c.args.kind env c.in-None.is
