use Rattle.std.proofs.Common.{arith, get_or, ap, ◌∙◌, ◌∷◌, ◌++◌, []}
use Rattle.package_imports.proofs.Linking.{paths-more}
use Rattle.package_imports.proofs.in_package.paths_in.Goals as goal

pub loop-number-preserved : goal.loop-number-preserved
loop-number-preserved c =
    paths-more c.args.«package».now c.args.«package».now.modules c.loop-number.number c.module-item.result c.loop-number.paths.items c.push.new.self.items (grind (arith, c.loop-number-test.true))
    (c.module-item.is ∙ ap (λ xs. get_or xs c.loop-number.number c.module-item.result) c.as_slice-module-items.ensures) c.loop-number.invariant
    (c.in_ok-push.ensures.items ∙ ap (λ o. c.loop-number.paths.items ++ o ∷ []) c.in_ok-path_in.ensures)
