use Rattle.std.proofs.Common.{◌≡◌, Ok, Err, rules}
use Rattle.compile_front.proofs.FrontSteps.{checked-goes, checked-stops}
use Rattle.compile_front.proofs.accepting.checked.Goals as goal

pub returns-in-Ok-clause-comes : goal.returns-in-Ok-clause-comes
returns-in-Ok-clause-comes g c =
    let came : c.check_package-types.result.answer ≡ Ok c.in-Ok.typed = search rules in
    checked-goes g.T.Types.passes c.args.«package».now c.args.names _ _ c.check_package-types.result.answer c.check_package-types.ensures.comes c.in-Ok.typed c.isolated.result.answer _ came c.isolated.ensures.comes

pub returns-in-Err-clause-comes : goal.returns-in-Err-clause-comes
returns-in-Err-clause-comes g c =
    let came : c.check_package-types.result.answer ≡ Err c.in-Err.stop = search rules in
    checked-stops g.T.Types.passes c.args.«package».now c.args.names _ _ c.check_package-types.result.answer c.check_package-types.ensures.comes c.in-Err.stop came
