use Rattle.descriptors.specs.Described.{plain}
use Rattle.operations.specs.Kinds.{IsReadonly}
use Rattle.type_model.specs.declared.basic.BasicSet.TheVariants as set
use Rattle.type_model.specs.declared.basic.SemType.{Basic}
use Rattle.type_model.proofs.Same.{itself}
use Rattle.check_words.specs.Constructors.{IsReadonlyType}
use Rattle.check_kinds.proofs.Shapes.{plain-is}
use Rattle.check_kinds.proofs.Within.{asked-whether}
use Rattle.check_kinds.proofs.asking.is_readonly.Goals as goal

pub returns-clause-comes : goal.returns-clause-comes
returns-clause-comes g c =
    asked-whether g.T.Types.passes IsReadonlyType c.args.at (g.T.Types.atoms c.args.types.now) (g.T.Types.atoms c.is_below.new.types) (plain (Basic set.Readonly)) (plain-is (g.T.Types.atoms c.args.types.now) (Basic set.Readonly) IsReadonly (λ x v. itself)) c.args.s.now
    c.is_below.result c.is_below.ensures.comes
