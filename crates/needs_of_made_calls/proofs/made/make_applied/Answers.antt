use Rattle.std.proofs.Common.{Ok, OnOk, length, subst, sym}
use Rattle.checks.specs.Checks.{Comes}
use Rattle.descriptors.proofs.Yielding.{plain-below}
use Rattle.type_model.specs.declared.basic.Ty.{Ty}
use Rattle.type_model.specs.Defined.{TyBelow}
use Rattle.typed_tree.specs.declared.form.Callee.TheVariants as callee
use Rattle.typed_tree.specs.declared.form.StrictForm.TheVariants as form
use Rattle.check_work.specs.Views.{state_of}
use Rattle.needs_of_made_calls.specs.Making.{makes_so}
use Rattle.needs_of_made_calls.proofs.made.make_applied.Goals as goal

pub returns-clause-stands : goal.returns-clause-stands
returns-clause-stands c = λ env there h.
    c.make_strict.ensures.stands env (subst (TyBelow (length env)) (sym c.plain.ensures) (plain-below (length env) c.args.given there)) h

pub returns-clause-comes : goal.returns-clause-comes
returns-clause-comes c = λ env.
    subst (λ (t : Ty). OnOk c.make_strict.result (Comes (makes_so c.args.count (form.Call callee.Value) t c.args.at) (state_of env c.args.work.now) (Ok tt)
    (state_of env c.make_strict.new.work))) c.plain.ensures (c.make_strict.ensures.comes env)
