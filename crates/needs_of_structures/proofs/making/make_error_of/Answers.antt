use Rattle.std.proofs.Common.{◌+◌, ℕ, Ok, OnOk, subst}
use Rattle.checks.specs.Checks.{Comes}
use Rattle.descriptors.specs.Described.{plain}
use Rattle.type_model.specs.declared.basic.SemType.{Atom}
use Rattle.type_model.specs.declared.basic.Ty.{Ty}
use Rattle.typed_tree.specs.declared.form.StrictForm.TheVariants as form
use Rattle.check_work.specs.Views.{state_of}
use Rattle.needs_of_structures.specs.Making.{makes_so}
use Rattle.needs_of_structures.proofs.making.make_error_of.Goals as goal

pub returns-clause-comes : goal.returns-clause-comes
returns-clause-comes c = λ env.
    let old = state_of env c.args.work.now in
    let new = state_of env c.make_strict.new.work in
    subst (λ (n : ℕ). OnOk c.make_strict.result (Comes (makes_so (2 + n) form.Error (plain (Atom (c.args.first + 1))) c.args.at) old (Ok tt) new)) c.in_ok-parts.ensures.is
    (subst (λ (t : Ty). OnOk c.make_strict.result (Comes (makes_so (2 + c.in_ok-parts.parts) form.Error t c.args.at) old (Ok tt) new)) c.plain-ty.ensures (c.make_strict.ensures.comes env))
