use Rattle.std.proofs.Common.{rules}
use Rattle.type_model.proofs.SameTypes.{In-same}
use Rattle.descriptors.proofs.sides.has_side.Goals as goal

pub returns-then-is_same : goal.returns-then-is_same
returns-then-is_same c = λ told env x h.
    let there = (In-same env x c.deref.result.now c.args.t.now (c.is_same.ensures.0 told)).1 h in search (rules, there)

pub returns-else-is_same : goal.returns-else-is_same
returns-else-is_same c = λ told env x h. (In-same env x c.args.s.now c.args.t.now (c.is_same-else-is_same.ensures.0 told)).1 h

pub returns-in_default : goal.returns-in_default
returns-in_default c = λ told env x h. (In-same env x c.args.s.now c.args.t.now (c.is_same-in_default.ensures.0 told)).1 h
