use Rattle.std.proofs.Common.{◌≡◌, ◌+◌, ◌*◌, Some, Ok, Err}
use Rattle.checks.specs.Questions.{adds}
use Rattle.descriptors.specs.Described.{plain}
use Rattle.type_model.specs.declared.basic.SemType.{Atom}
use Rattle.typed_tree.specs.declared.form.StrictForm.TheVariants as form
use Rattle.check_kinds.proofs.Over.{over-asks}
use Rattle.check_words.specs.Constructors.{IsErrorOver}
use Rattle.check_words.specs.Words.{asking, makes_strict}
use Rattle.check_words.proofs.Growing.{stands-grows}
use Rattle.check_work.specs.Views.{constructor_of, state_of}
use Rattle.needs_of_structures.proofs.Made.{lifted-on, not-made, then-made}
use Rattle.needs_of_structures.proofs.making.make_error_with.Goals as goal

pub returns-in-Ok-clause-stands : goal.returns-in-Ok-clause-stands
returns-in-Ok-clause-stands g c =
    let env = g.T.Types.atoms c.error_atoms.new.types in
    lifted-on _ c.make_error_of.result c.lift.result c.lift.ensures
    (c.make_error_of.ensures.stands env c.in-Ok.ensures.there (stands-grows (state_of (g.T.Types.atoms c.args.types.now) c.args.work.now) env c.error_atoms.ensures.kept c.requires.stands))

pub returns-in-Ok-clause-comes : goal.returns-in-Ok-clause-comes
returns-in-Ok-clause-comes g c =
    let env = g.T.Types.atoms c.error_atoms.new.types in
    then-made (asking (adds (IsErrorOver (constructor_of c.args.c)) (Some c.args.at)))
    (λ first. makes_strict (2 + 2 * c.args.count) form.Error (λ e t. t ≡ plain (Atom (first + 1))) c.args.at)
    (state_of (g.T.Types.atoms c.args.types.now) c.args.work.now) env c.in-Ok.first _ c.make_error_of.result c.lift.result c.lift.ensures
    (over-asks (adds (IsErrorOver (constructor_of c.args.c)) (Some c.args.at)) _ _ (Ok c.in-Ok.first) c.in-Ok.ensures.comes) (c.make_error_of.ensures.comes env)

pub returns-in-Err-clause-comes : goal.returns-in-Err-clause-comes
returns-in-Err-clause-comes g c =
    not-made (asking (adds (IsErrorOver (constructor_of c.args.c)) (Some c.args.at)))
    (λ first. makes_strict (2 + 2 * c.args.count) form.Error (λ e t. t ≡ plain (Atom (first + 1))) c.args.at)
    (state_of (g.T.Types.atoms c.args.types.now) c.args.work.now) _ c.in-Err.stop
    (over-asks (adds (IsErrorOver (constructor_of c.args.c)) (Some c.args.at)) _ _ (Err c.in-Err.stop) c.in-Err.ensures.comes)
