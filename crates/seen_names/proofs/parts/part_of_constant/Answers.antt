use Rattle.std.proofs.Common.{IfOk, subst, sym}
use Rattle.typed_tree.specs.declared.form.StrictForm.TheVariants as form
use Rattle.check_words.specs.Stands.{PartBelow}
use Rattle.check_words.specs.Values.{SingleOf, gives_constant}
use Rattle.seen_names.specs.Given.{Puts}
use Rattle.seen_names.proofs.Putting.{lifted-if, sole-puts}
use Rattle.seen_names.proofs.parts.part_of_constant.Goals as goal

pub returns-clause-below : goal.returns-clause-below
returns-clause-below c = λ n.
    subst (λ r. IfOk r (PartBelow n)) (sym c.lift.ensures) (lifted-if (PartBelow n) c.sole.result (c.sole.ensures.below n (c.single_type-ty.ensures.defined n)))

pub returns-clause-puts : goal.returns-clause-puts
returns-clause-puts c =
    subst (Puts (gives_constant c.args.value c.args.at)) (sym c.lift.ensures)
    (sole-puts (SingleOf c.args.value) (form.Constant c.args.value) _ c.args.at c.sole.result c.single_type-ty.ensures.is c.sole.ensures.is)
