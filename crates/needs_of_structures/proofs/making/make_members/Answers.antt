use Rattle.std.proofs.Common.{ℕ, Ok, OnOk, subst}
use Rattle.checks.specs.Checks.{Comes}
use Rattle.typed_tree.specs.declared.form.StrictForm.TheVariants as form
use Rattle.check_work.specs.Views.{state_of}
use Rattle.needs_of_structures.specs.Making.{makes_of_atom}
use Rattle.needs_of_structures.proofs.making.make_members.Goals as goal

pub returns-clause-comes : goal.returns-clause-comes
returns-clause-comes c = λ env.
    subst (λ (n : ℕ). OnOk c.make_structure.result (Comes (makes_of_atom n (form.Mapping c.args.of.atom c.args.of.immutable) c.args.of.atom c.args.of.immutable c.args.at) (state_of env c.args.work.now) (Ok tt)
    (state_of env c.make_structure.new.work))) c.in_ok-parts.ensures.is (c.make_structure.ensures.comes env)
