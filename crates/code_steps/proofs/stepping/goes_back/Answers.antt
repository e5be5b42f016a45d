use Rattle.plain_run.proofs.Given.{if-ok}
use Rattle.held_operations.specs.declared.op.Op.TheVariants as ops
use Rattle.code_steps.proofs.LastSteps.{enough-of}
use Rattle.code_steps.proofs.stepping.goes_back.Goals as goal

pub value_last-requires : goal.value_last-requires
value_last-requires c = enough-of c.args.program.now ops.Return c.args.count _ c.requires

pub returns-in-Some : goal.returns-in-Some
returns-in-Some c = if-ok _ _ c.ends.result (λ d h. h c.requires c.in-Some.ensures) c.ends.ensures
