use Rattle.std.proofs.Common.{arith, get_or, ap, subst, ◌∙◌}
use Rattle.name_resolution.specs.Definitions.{in_files}
use Rattle.type_builder.specs.Listing.{Lists}
use Rattle.type_builder.proofs.Listed.{modules-more}
use Rattle.type_builder.proofs.placed.definitions.Goals as goal

pub loop-module-preserved : goal.loop-module-preserved
loop-module-preserved c =
    let made = subst (λ fs. Lists (in_files c.loop-module.«module» 0 fs) c.loop-module.out c.files.new.self) c.as_slice.ensures c.in_ok-files.ensures in (
      modules-more c.args.«package».now.modules c.loop-module.«module» c.m-item.result c.loop-module.out c.files.new.self (grind (arith, c.loop-module-test.true))
          (c.m-item.is ∙ ap (λ xs. get_or xs c.loop-module.«module» c.m-item.result) c.as_slice-m-items.ensures) c.loop-module.invariant.0 made,
      made.first ∙ c.loop-module.invariant.1,
    )
