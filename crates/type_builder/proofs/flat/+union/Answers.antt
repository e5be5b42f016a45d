use Rattle.std.proofs.Common.{arith, sym, subst, map}
use Rattle.std.specs.List.{flat_map}
use Rattle.type_builder.specs.Flat.{AreSameTypes, members_of}
use Rattle.type_builder.proofs.FlatShapes.{halves-made, one-made}
use Rattle.type_builder.proofs.flat.+union.Goals as goal

pub returns-in-len1 : goal.returns-in-len1
returns-in-len1 n c = one-made (λ m. m.now) c.args.members.now c.member-item.result c.copy.result (omega (arith, c.in-len1.len_at_least)) (omega (arith, c.in-len1.len_below)) c.member-item.is c.copy.ensures

pub returns-in_ok-back-in_default : goal.returns-in_ok-back-in_default
returns-in_ok-back-in_default n c =
    halves-made (λ m. m.now) _ c.args.members.now c.split_at.result.0.now c.split_at.result.1.now (members_of c.in_ok-front-in_default.front.value) (members_of c.in_ok-back-in_default.back.value)
    c.split_at.ensures.front c.split_at.ensures.back
    (subst (λ x. AreSameTypes (flat_map members_of (map (λ m. m.now) c.split_at.result.0.now)) (members_of x)) (sym c.in_ok-front-in_default.ensures.ok) c.in_ok-union-in_default.ensures)
    (subst (λ x. AreSameTypes (flat_map members_of (map (λ m. m.now) c.split_at.result.1.now)) (members_of x)) (sym c.in_ok-back-in_default.ensures.ok) c.in_ok-union-in_default-2.ensures)
