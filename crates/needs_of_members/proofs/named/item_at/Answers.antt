use Rattle.std.proofs.Common.{◌≡◌, length}
use Rattle.descriptors.specs.Described.{plain}
use Rattle.check_kinds.proofs.Over.{over-on, over-stops}
use Rattle.check_words.specs.Members.{member_at}
use Rattle.needs_of_members.specs.Fronts.{gives_plain}
use Rattle.needs_of_members.proofs.Over.{lifted-have, over-lifted, plain-shared-below}
use Rattle.needs_of_members.proofs.named.item_at.Goals as goal

pub returns-in-Ok-clause-below : goal.returns-in-Ok-clause-below
returns-in-Ok-clause-below g c =
    lifted-have _ c.plain_shared.result _ c.lift.ensures (plain-shared-below (length (g.T.Types.atoms c.args.types.now)) c.in-Ok.member c.plain_shared.result c.in-Ok.ensures.defined c.plain_shared.ensures)

pub returns-in-Ok-clause-comes : goal.returns-in-Ok-clause-comes
returns-in-Ok-clause-comes g c =
    over-on (member_at g.T.Types.passes c.args.list.now c.args.keys.now c.args.at) gives_plain (g.T.Types.atoms c.args.types.now) (g.T.Types.atoms c.member_at.new.types) (g.T.Types.atoms c.member_at.new.types) c.in-Ok.member _
    c.in-Ok.ensures.comes (over-lifted (λ env t. t.value ≡ plain c.in-Ok.member) _ c.plain_shared.result _ c.lift.ensures c.plain_shared.ensures)

pub returns-in-Err-clause-comes : goal.returns-in-Err-clause-comes
returns-in-Err-clause-comes g c = over-stops (member_at g.T.Types.passes c.args.list.now c.args.keys.now c.args.at) gives_plain (g.T.Types.atoms c.args.types.now) (g.T.Types.atoms c.member_at.new.types) c.in-Err.stop c.in-Err.ensures.comes
