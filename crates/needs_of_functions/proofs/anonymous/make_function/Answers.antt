use Rattle.std.proofs.Common.{◌∙◌, ap, length}
use Rattle.descriptors.specs.Described.{plain}
use Rattle.type_model.specs.declared.basic.SemType.{Atom}
use Rattle.check_work.specs.Views.{unit_of}
use Rattle.needs_of_functions.proofs.FunctionsMade.{atom-below}
use Rattle.needs_of_functions.proofs.anonymous.make_function.Goals as goal

pub returns-clause-stands : goal.returns-clause-stands
returns-clause-stands c = λ env lt h.
    c.put_function.ensures.stands env (atom-below (length env) c.in_ok-f.f.unit.arrow c.args.first c.in_ok-ty.ty c.in_ok-ty.ensures (ap (λ f. f.unit.arrow) c.in_ok-f.ensures) lt) h

pub returns-clause-comes : goal.returns-clause-comes
returns-clause-comes c = λ env.
    c.put_function.ensures.comes env c.args.isolated (unit_of c.args.unit) c.args.first c.in_ok-f.ensures
    (c.in_ok-ty.ensures ∙ ap (λ k. plain (Atom k)) (ap (λ f. f.unit.arrow) c.in_ok-f.ensures))
