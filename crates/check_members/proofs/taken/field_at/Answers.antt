use Rattle.std.proofs.Common.{subst}
use Rattle.bal_base.specs.declared.text.Text.{Text}
use Rattle.type_model.specs.declared.answers.Keys.TheVariants.{Field}
use Rattle.check_words.specs.Members.{member_at}
use Rattle.check_kinds.specs.Over.{ComesOver}
use Rattle.check_members.proofs.taken.field_at.Goals as goal

pub returns-clause-comes : goal.returns-clause-comes
returns-clause-comes g c =
    subst (λ (n : Text). ComesOver (member_at g.T.Types.passes c.args.t.now (Field n) c.args.at) (g.T.Types.atoms c.args.types.now) c.member_at.result (g.T.Types.atoms c.member_at.new.types))
    c.share.ensures c.member_at.ensures.comes
