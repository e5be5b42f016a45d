use Rattle.std.proofs.Common.{subst, IfOk}
use Rattle.std.specs.List.{AllZip}
use Rattle.type_builder.specs.Building.{IsModule}
use Rattle.type_builder.proofs.noting.modules_in.Goals as goal

pub returns-clause-files : goal.returns-clause-files
returns-clause-files c =
    subst (λ home. IfOk c.modules.result (λ made. AllZip (IsModule home) c.args.«package».now.modules made.items)) c.in_ok-home.ensures
    (subst (λ ms. IfOk c.modules.result (λ made. AllZip (IsModule c.in_ok-home.home) ms made.items)) c.as_slice.ensures c.modules.ensures.files)
