use Rattle.std.proofs.Common.{inl, inr, ◌⊎◌}
use Rattle.bal_base.specs.declared.shape.Shape.{Shape}
use Rattle.type_model.specs.Membership.{In}
use Rattle.descriptors.proofs.sides.either.Goals as goal

pub returns-then-has_side-clause-shapes : goal.returns-then-has_side-clause-shapes
returns-then-has_side-clause-shapes c = λ env x. (inl, one-side (In env x c.args.left) (In env x c.args.right) (c.has_side.ensures c.if-has_side.true env x))
  where
    one-side : (A B : Type 0) → (B → A) → A ⊎ B → A
    one-side A B f (inl a) = a
    one-side A B f (inr b) = f b
