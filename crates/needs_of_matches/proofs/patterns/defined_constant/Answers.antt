use Rattle.std.proofs.Common.{Err, Ok, subst, sym}
use Rattle.checks.specs.Checks.{Comes}
use Rattle.bal_base.specs.declared.fault.FaultCode.TheVariants.{Unknown}
use Rattle.check_words.proofs.Coming.{given}
use Rattle.needs_of_matches.specs.Patterns.{meaning_constant}
use Rattle.needs_of_matches.proofs.PatternSteps.{refused-comes}
use Rattle.needs_of_matches.proofs.patterns.defined_constant.Goals as goal

pub returns-in-Some : goal.returns-in-Some
returns-in-Some c = λ s. subst (λ m. Comes (meaning_constant m c.args.at) s (Ok c.in-Some.c) s) (sym c.in-Constant.is) (given _ s c.in-Some.c (c.in-Some.ensures s.atoms))

pub returns-in-TypeName : goal.returns-in-TypeName
returns-in-TypeName c = λ s. subst (λ m. Comes (meaning_constant m c.args.at) s (Err c.refused.result) s) (sym c.in-TypeName.is) (refused-comes Unknown c.args.at _ c.refused.ensures s)

pub returns-in-Variable : goal.returns-in-Variable
returns-in-Variable c = λ s. subst (λ m. Comes (meaning_constant m c.args.at) s (Err c.refused-in-Variable.result) s) (sym c.in-Variable.is) (refused-comes Unknown c.args.at _ c.refused-in-Variable.ensures s)

pub returns-in-Function : goal.returns-in-Function
returns-in-Function c = λ s. subst (λ m. Comes (meaning_constant m c.args.at) s (Err c.refused-in-Function.result) s) (sym c.in-Function.is) (refused-comes Unknown c.args.at _ c.refused-in-Function.ensures s)
