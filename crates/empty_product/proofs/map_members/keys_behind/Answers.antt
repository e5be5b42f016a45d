use Rattle.std.proofs.Common.{◌≡◌, length, subst, arith}
use Rattle.empty_product.specs.Keys.{IsBehind}
use Rattle.empty_product.specs.MemberParts.{IsRoom}
use Rattle.empty_product.proofs.MappingTargets.{more-room, no-room}
use Rattle.empty_product.proofs.map_members.keys_behind.Goals as goal

pub loop-part-init : goal.loop-part-init
loop-part-init c = no-room c.args.keys.now c.in_ok-all.all.items c.in_ok-all.ensures c.requires

pub loop-part-preserved : goal.loop-part-preserved
loop-part-preserved c =
    more-room c.args.keys.now c.loop-part.all.items c.push.new.self.items c.loop-part._part-index c.in_ok-key.key c.loop-part.invariant
    (subst (λ ks. IsBehind ks c.in_ok-key.key) c.as_slice.ensures.value c.in_ok-key.ensures) c.in_ok-push.ensures.items

pub returns : goal.returns
returns c =
    let n = length c.args.further.now in
    let same : c.loop-part._part-index ≡ n = omega arith in
    subst (λ k. IsRoom c.args.keys.now k c.loop-part.all.items) same c.loop-part.invariant
