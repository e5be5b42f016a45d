use Rattle.std.proofs.Common.{IfOk, subst, sym}
use Rattle.descriptors.specs.declared.names.Meaning.TheVariants.{Variable as Declared}
use Rattle.descriptors.specs.Described.{IsCopy}
use Rattle.descriptors.proofs.Yielding.{copy-below}
use Rattle.typed_tree.specs.declared.form.StrictForm.TheVariants as form
use Rattle.check_words.specs.Stands.{PartBelow}
use Rattle.check_words.specs.Values.{gives_meaning}
use Rattle.seen_names.specs.Given.{Puts}
use Rattle.seen_names.proofs.Putting.{lifted-if, sole-puts}
use Rattle.seen_names.proofs.parts.part_of_declared.Goals as goal

pub returns-clause-below : goal.returns-clause-below
returns-clause-below c = λ n h.
    subst (λ r. IfOk r (PartBelow n)) (sym c.lift.ensures)
    (lifted-if (PartBelow n) c.sole.result (c.sole.ensures.below n (copy-below n c.args.t.now c.in_ok-ty.ty c.in_ok-ty.ensures h)))

pub returns-clause-puts : goal.returns-clause-puts
returns-clause-puts c =
    subst (Puts (gives_meaning (Declared c.args.number c.args.is_final c.args.t.now) c.args.at)) (sym c.lift.ensures)
    (sole-puts (λ env. IsCopy c.args.t.now) (form.Variable c.args.number) c.in_ok-ty.ty c.args.at c.sole.result (λ env. c.in_ok-ty.ensures) c.sole.ensures.is)
