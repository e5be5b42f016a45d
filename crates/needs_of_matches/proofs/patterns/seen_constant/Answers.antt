use Rattle.std.proofs.Common.{Err, Ok, refl, subst, sym}
use Rattle.checks.specs.Checks.{Comes}
use Rattle.bal_base.specs.declared.fault.FaultCode.TheVariants.{NameAsValue, Unknown}
use Rattle.check_words.proofs.Coming.{given}
use Rattle.seen_names.specs.Views.{seen_of}
use Rattle.needs_of_matches.specs.Patterns.{seen_constant}
use Rattle.needs_of_matches.proofs.PatternSteps.{refused-comes}
use Rattle.needs_of_matches.proofs.patterns.seen_constant.Goals as goal

pub returns-in-Variable : goal.returns-in-Variable
returns-in-Variable c = λ s. subst (λ x. Comes (seen_constant (seen_of x) c.args.at) s (Err c.refused.result) s) (sym c.in-Variable.is) (refused-comes Unknown c.args.at _ c.refused.ensures s)

pub returns-in-Worker : goal.returns-in-Worker
returns-in-Worker c = λ s. subst (λ x. Comes (seen_constant (seen_of x) c.args.at) s (Err c.refused-in-Worker.result) s) (sym c.in-Worker.is) (refused-comes NameAsValue c.args.at _ c.refused-in-Worker.ensures s)

pub returns-in-Library : goal.returns-in-Library
returns-in-Library c = λ s. subst (λ x. Comes (seen_constant (seen_of x) c.args.at) s (Err c.refused-in-Library.result) s) (sym c.in-Library.is) (refused-comes Unknown c.args.at _ c.refused-in-Library.ensures s)

pub returns-in-Nothing : goal.returns-in-Nothing
returns-in-Nothing c = λ s. subst (λ x. Comes (seen_constant (seen_of x) c.args.at) s (Err c.refused-in-Nothing.result) s) (sym c.in-Nothing.is) (refused-comes c.in-Nothing.code c.args.at _ c.refused-in-Nothing.ensures s)

pub returns-in-Constant : goal.returns-in-Constant
returns-in-Constant c = λ s. subst (λ x. Comes (seen_constant (seen_of x) c.args.at) s (Ok c.in-Constant.c) s) (sym c.in-Constant.is) (given _ s c.in-Constant.c refl)
