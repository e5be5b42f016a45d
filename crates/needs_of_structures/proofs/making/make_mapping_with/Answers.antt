use Rattle.std.proofs.Common.{◌*◌, Ok, Err}
use Rattle.typed_tree.specs.declared.form.StrictForm.TheVariants as form
use Rattle.check_words.specs.Constructors.{IsOfMembers, atom_of}
use Rattle.check_words.proofs.Growing.{stands-grows}
use Rattle.check_work.specs.Views.{constructor_of, state_of}
use Rattle.made_atoms.proofs.Groups.{members-atom}
use Rattle.needs_of_structures.specs.Making.{makes_of_atom}
use Rattle.needs_of_structures.proofs.Made.{lifted-on, not-made, then-made}
use Rattle.needs_of_structures.proofs.making.make_mapping_with.Goals as goal

pub mapping_atom-requires-clause-choice : goal.mapping_atom-requires-clause-choice
mapping_atom-requires-clause-choice g c = c.requires.below.choice

pub returns-in-Ok-clause-stands : goal.returns-in-Ok-clause-stands
returns-in-Ok-clause-stands g c =
    let env = g.T.Types.atoms c.mapping_atom.new.types in
    lifted-on _ c.make_members.result c.lift.result c.lift.ensures
    (c.make_members.ensures.stands env c.in-Ok.ensures.there (stands-grows (state_of (g.T.Types.atoms c.args.types.now) c.args.work.now) env c.mapping_atom.ensures.kept c.requires.stands))

pub returns-in-Ok-clause-comes : goal.returns-in-Ok-clause-comes
returns-in-Ok-clause-comes g c =
    let env = g.T.Types.atoms c.mapping_atom.new.types in
    then-made (atom_of c.args.c.choice (IsOfMembers (constructor_of c.args.c)) c.args.at) (λ atom. makes_of_atom (2 * c.args.count) (form.Mapping atom c.args.c.immutable) atom c.args.c.immutable c.args.at)
    (state_of (g.T.Types.atoms c.args.types.now) c.args.work.now) env c.in-Ok.atom _ c.make_members.result c.lift.result c.lift.ensures (members-atom (constructor_of c.args.c) c.args.at _ (Ok c.in-Ok.atom) _ c.in-Ok.ensures.comes) (c.make_members.ensures.comes env)

pub returns-in-Err-clause-comes : goal.returns-in-Err-clause-comes
returns-in-Err-clause-comes g c =
    not-made (atom_of c.args.c.choice (IsOfMembers (constructor_of c.args.c)) c.args.at) (λ atom. makes_of_atom (2 * c.args.count) (form.Mapping atom c.args.c.immutable) atom c.args.c.immutable c.args.at)
    (state_of (g.T.Types.atoms c.args.types.now) c.args.work.now) _ c.in-Err.stop (members-atom (constructor_of c.args.c) c.args.at _ (Err c.in-Err.stop) _ c.in-Err.ensures.comes)
