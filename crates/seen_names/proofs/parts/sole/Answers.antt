use Rattle.std.proofs.Common.{subst}
use Rattle.typed_tree.specs.Views.{IsStrict}
use Rattle.seen_names.proofs.parts.sole.Goals as goal

pub returns-clause-is : goal.returns-clause-is
returns-clause-is c =
    record {
      type = c.in_ok-ty.ty;
      is = c.in_ok-ty.ensures.ok;
      strict = subst (λ es. IsStrict c.args.form es c.in_ok-ty.ty c.args.at c.strict.result) c.new-2.ensures.items c.strict.ensures;
    }
