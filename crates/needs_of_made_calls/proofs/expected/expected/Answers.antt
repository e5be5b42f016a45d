use Rattle.std.proofs.Common.{None, Ok, subst, sym}
use Rattle.check_words.specs.Calls.{expects_by}
use Rattle.check_work.specs.Views.{called_of}
use Rattle.needs_of_made_calls.specs.Expected.{WantsOver}
use Rattle.needs_of_made_calls.proofs.Expecting.{wants-any}
use Rattle.needs_of_made_calls.proofs.expected.expected.Goals as goal

pub returns-in-Value-clause-wants : goal.returns-in-Value-clause-wants
returns-in-Value-clause-wants g c =
    let env = g.T.Types.atoms c.args.types.now in
    subst (λ x. WantsOver (expects_by g.T.Types.passes (called_of x) c.args.call.now.args c.args.at) env (Ok None) env) (sym c.in-Value.is) (wants-any env)
