use Rattle.stmt_checker.proofs.Ended.{found-so}
use Rattle.stmt_checker.proofs.ending.answered.Goals as goal

pub returns-in-None : goal.returns-in-None
returns-in-None c = λ p s main same.
    rw (c.in-None.is, c.lift.ensures) (found-so c.args.names.now p s c.typed_package.result (c.typed_package.ensures p s main same))
