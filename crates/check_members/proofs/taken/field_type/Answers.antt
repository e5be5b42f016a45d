use Rattle.type_model.specs.declared.answers.Keys.TheVariants.{Field}
use Rattle.check_words.specs.Members.{has_key, member_at}
use Rattle.check_kinds.proofs.Over.{over-on, over-stops}
use Rattle.check_members.proofs.taken.field_type.Goals as goal

pub field_at-requires : goal.field_at-requires
field_at-requires g c = c.in-Ok.ensures.kept.defined c.args.t.now c.requires

pub returns-in-Ok-clause-comes : goal.returns-in-Ok-clause-comes
returns-in-Ok-clause-comes g c =
    over-on (has_key g.T.Types.passes c.args.name.now c.args.t.now c.args.at) (λ u. member_at g.T.Types.passes c.args.t.now (Field c.args.name.now) c.args.at) (g.T.Types.atoms c.args.types.now) (g.T.Types.atoms c.has_key.new.types) (g.T.Types.atoms c.field_at.new.types) tt c.field_at.result
    c.in-Ok.ensures.comes c.field_at.ensures.comes

pub returns-in-Err-clause-comes : goal.returns-in-Err-clause-comes
returns-in-Err-clause-comes g c =
    over-stops (has_key g.T.Types.passes c.args.name.now c.args.t.now c.args.at) (λ u. member_at g.T.Types.passes c.args.t.now (Field c.args.name.now) c.args.at) (g.T.Types.atoms c.args.types.now) (g.T.Types.atoms c.has_key.new.types) c.in-Err.stop c.in-Err.ensures.comes
