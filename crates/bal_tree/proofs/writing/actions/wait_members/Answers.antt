use Rattle.bal_base.specs.declared.token.Sign.TheVariants.{Comma}
use Rattle.bal_tree.specs.ActionPieces.{wait_member_pieces}
use Rattle.bal_tree.proofs.Adding.{separated-more}
use Rattle.bal_tree.proofs.writing.actions.wait_members.Goals as goal

pub loop-i-preserved : goal.loop-i-preserved
loop-i-preserved c =
    separated-more wait_member_pieces Comma c.args.members.now c.loop-i.i c.index-members-i.result c.args.out.now c.loop-i.out c.sign_if.new.out c.wait_member.new.out c.loop-i-test.true c.index-members-i.is c.loop-i.invariant c.sign_if.ensures c.wait_member.ensures
