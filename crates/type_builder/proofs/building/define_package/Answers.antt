use Rattle.std.proofs.Common.{◌∙◌, length, ap, sym, subst}
use Rattle.checks.proofs.Steps.{ran_out}
use Rattle.name_resolution.proofs.Excerpting.{same-imports}
use Rattle.graphs.specs.Ordering.{IsOrder}
use Rattle.name_resolution.specs.Outlines.{outlines_of}
use Rattle.name_resolution.specs.Resolved.{parts}
use Rattle.type_builder.proofs.Built.{comes-handed}
use Rattle.type_builder.proofs.building.define_package.Goals as goal

pub returns-in_err-listing-clause-comes : goal.returns-in_err-listing-clause-comes
returns-in_err-listing-clause-comes g c = comes-handed _ _ _ _ _ c.from_residual.ensures (ran_out _ _ _)

pub returns-in_err-order-clause-comes : goal.returns-in_err-order-clause-comes
returns-in_err-order-clause-comes g c = comes-handed _ _ _ _ _ c.from_residual-in_err-order.ensures (ran_out _ _ _)

pub define_all-requires : goal.define_all-requires
define_all-requires g c = λ κs lives. (
  lives,
  (
    same-imports c.args.«package».now,
    (
      c.requires.named,
      (
        c.in_ok-listing.ensures.listed,
        (
          subst (IsOrder (parts (outlines_of c.args.«package».now))) (sym c.deref.ensures.value) c.in_ok-order.ensures,
          (c.in_ok-listing.ensures.first ∙ ap length (c.defs.ensures.value ∙ c.env.ensures), (c.requires.own, c.requires.room)),
        ),
      ),
    ),
  ),
)
