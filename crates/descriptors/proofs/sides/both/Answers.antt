use Rattle.type_model.proofs.SameTypes.{In-same}
use Rattle.descriptors.proofs.sides.both.Goals as goal

pub returns-then-is_same-clause-shapes : goal.returns-then-is_same-clause-shapes
returns-then-is_same-clause-shapes c = λ env x. (λ h. (h, (In-same env x c.args.left c.args.right (c.is_same.ensures.0 c.if-is_same.true)).0 h), λ h. h.0)
