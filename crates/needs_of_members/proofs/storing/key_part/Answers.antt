use Rattle.std.proofs.Common.{subst, sym}
use Rattle.operations.specs.declared.operation.Constant.TheVariants.{Str}
use Rattle.type_model.specs.Defined.{TyBelow}
use Rattle.check_words.specs.Values.{SingleOf}
use Rattle.needs_of_members.specs.Fronts.{IsKey}
use Rattle.needs_of_members.proofs.storing.key_part.Goals as goal

pub returns : goal.returns
returns c =
    subst (λ text. IsKey text c.args.at c.implied.result) c.share.ensures (
      c.in_ok-ty.ty,
      λ env. subst (SingleOf (Str c.share.result) env) (sym c.in_ok-ty.ensures.ok) (c.single_type.ensures.is env),
      λ n. subst (TyBelow n) (sym c.in_ok-ty.ensures.ok) (c.single_type.ensures.defined n),
      c.implied.ensures,
    )
