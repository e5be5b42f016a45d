use Rattle.std.proofs.Common.{[], ◌∷◌, map}
use Rattle.worker_pairing.specs.Faults.{member_passes}
use Rattle.worker_members.specs.Held.{member_held}
use Rattle.worker_messages.proofs.InOrder.{all-behind, single, stops-before}
use Rattle.worker_messages.proofs.returns.named_then_own.Goals as goal

pub returns-in-Ok-clause-comes : goal.returns-in-Ok-clause-comes
returns-in-Ok-clause-comes g c =
    let old = g.T.Types.atoms c.args.types.now in
    let mid = g.T.Types.atoms c.all_pass_in.new.types in
    let new = g.T.Types.atoms c.member_passes.new.types in
    all-behind (member_passes g.T.Types.passes) (member_held c.args.own.now ∷ []) (map member_held c.args.named.now) old mid new c.member_passes.result c.in-Ok.ensures.comes
    (single (member_passes g.T.Types.passes) (member_held c.args.own.now) mid new c.member_passes.result c.member_passes.ensures.comes)

pub returns-in-Err-clause-comes : goal.returns-in-Err-clause-comes
returns-in-Err-clause-comes g c =
    stops-before (member_passes g.T.Types.passes) (member_held c.args.own.now ∷ []) (map member_held c.args.named.now) (g.T.Types.atoms c.args.types.now) (g.T.Types.atoms c.all_pass_in.new.types) c.in-Err.stop c.in-Err.ensures.comes
