use Rattle.std.proofs.Common.{◌≡◌, ◌↔◌, IfOk, subst, sym}
use Rattle.bal_base.specs.declared.shape.Shape.{Shape}
use Rattle.descriptors.specs.declared.names.Meaning.TheVariants.{Constant as Known}
use Rattle.descriptors.specs.Described.{IsCopy}
use Rattle.descriptors.proofs.Yielding.{copy-below}
use Rattle.operations.specs.Rows.{shape_of}
use Rattle.type_model.specs.Membership.{In}
use Rattle.typed_tree.specs.declared.form.StrictForm.TheVariants as form
use Rattle.check_words.specs.Stands.{PartBelow}
use Rattle.check_words.specs.Values.{gives_meaning}
use Rattle.check_words.specs.Words.{makes_strict}
use Rattle.seen_names.specs.Given.{Puts}
use Rattle.seen_names.proofs.Putting.{lifted-if, sole-puts, then-puts}
use Rattle.seen_names.proofs.parts.part_of_known.Goals as goal

pub returns-clause-below : goal.returns-clause-below
returns-clause-below c = λ n h.
    subst (λ r. IfOk r (PartBelow n)) (sym c.lift.ensures)
    (lifted-if (PartBelow n) c.sole.result (c.sole.ensures.below n (copy-below n c.args.t.now c.in_ok-ty.ty c.in_ok-ty.ensures h)))

pub returns-clause-puts : goal.returns-clause-puts
returns-clause-puts c =
    subst (Puts (gives_meaning (Known c.args.t.now) c.args.at)) (sym c.lift.ensures)
    (then-puts (λ s v. (x : Shape) → In s.atoms x c.args.t.now.sem ↔ (x ≡ shape_of v)) (λ v. makes_strict 0 (form.Constant v) (λ env. IsCopy c.args.t.now) c.args.at) c.in-Some.value _
    (λ s. c.in-Some.ensures s.atoms)
    (sole-puts (λ env. IsCopy c.args.t.now) (form.Constant c.in-Some.value) c.in_ok-ty.ty c.args.at c.sole.result (λ env. c.in_ok-ty.ensures) c.sole.ensures.is))
