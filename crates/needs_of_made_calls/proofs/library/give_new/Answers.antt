use Rattle.std.proofs.Common.{None, Ok, OnOk, Some, length, subst, sym}
use Rattle.checks.specs.Checks.{Comes}
use Rattle.descriptors.proofs.Yielding.{plain-below}
use Rattle.type_model.specs.declared.basic.SemType.{Atom}
use Rattle.type_model.specs.declared.basic.Ty.{Ty}
use Rattle.type_model.specs.Defined.{TyBelow}
use Rattle.typed_tree.specs.declared.form.StrictForm.TheVariants as form
use Rattle.check_work.specs.Views.{state_of}
use Rattle.needs_of_made_calls.specs.Making.{makes_so}
use Rattle.needs_of_made_calls.proofs.library.give_new.Goals as goal

pub returns-clause-stands : goal.returns-clause-stands
returns-clause-stands c = λ env there h.
    c.make_strict.ensures.stands env (subst (TyBelow (length env)) (sym c.plain-ty.ensures) (plain-below (length env) (Atom c.args.atom) there)) h

pub returns-clause-comes : goal.returns-clause-comes
returns-clause-comes c = λ env.
    subst (λ (t : Ty). OnOk c.make_strict.result (Comes (makes_so c.args.what.count (form.Library c.args.what.call (Some c.args.atom) None) t c.args.what.at) (state_of env c.args.work.now) (Ok tt)
    (state_of env c.make_strict.new.work))) c.plain-ty.ensures (c.make_strict.ensures.comes env)
