use Rattle.std.proofs.Common.{◌≡◌, subst, sym}
use Rattle.descriptors.specs.declared.names.Meaning.TheVariants.{Function as Named}
use Rattle.descriptors.specs.Described.{plain}
use Rattle.type_model.specs.declared.basic.SemType.{Atom}
use Rattle.typed_tree.specs.declared.form.StrictForm.TheVariants as form
use Rattle.check_words.specs.Values.{gives_meaning}
use Rattle.seen_names.specs.Given.{Puts}
use Rattle.seen_names.proofs.Putting.{sole-puts}
use Rattle.seen_names.proofs.parts.part_of_function.Goals as goal

pub returns-clause-puts : goal.returns-clause-puts
returns-clause-puts c =
    subst (Puts (gives_meaning (Named c.args.f.now) c.args.at)) (sym c.lift.ensures)
    (sole-puts (λ env t. t ≡ plain (Atom c.args.f.now.arrow)) (form.FunctionName c.args.f.now.unit) c.plain-ty.result c.args.at c.sole.result (λ env. c.plain-ty.ensures) c.sole.ensures.is)
