use Rattle.std.proofs.Common.{◌≡◌, Ok, Err, rules}
use Rattle.compile_front.proofs.FrontSteps.{named-goes, named-stops}
use Rattle.compile_front.proofs.accepting.named.Goals as goal

pub returns-in-Ok-clause-comes : goal.returns-in-Ok-clause-comes
returns-in-Ok-clause-comes g c =
    let came : c.build.result ≡ Ok c.in-Ok.names = search rules in
    named-goes g.T.Types.passes c.args.«package».now _ _ c.build.result c.build.ensures.comes c.in-Ok.names c.checked.result.answer _ came c.checked.ensures.comes

pub returns-in-Err-clause-comes : goal.returns-in-Err-clause-comes
returns-in-Err-clause-comes g c =
    let came : c.build.result ≡ Err c.in-Err.stop = search rules in
    named-stops g.T.Types.passes c.args.«package».now _ _ c.build.result c.build.ensures.comes c.in-Err.stop came
