use Rattle.std.proofs.Common.{◌≡◌, [], ◌∷◌, None}
use Rattle.type_model.specs.declared.atoms.AtomDef.TheVariants.{List as ListAtom}
use Rattle.typed_tree.specs.declared.form.StrictForm.TheVariants as form
use Rattle.check_words.specs.Constructors.{atom_of}
use Rattle.check_words.proofs.Growing.{stands-grows}
use Rattle.check_work.specs.Views.{state_of}
use Rattle.needs_of_structures.specs.Making.{makes_of_atom}
use Rattle.needs_of_structures.proofs.Made.{lifted-on, not-made, then-made}
use Rattle.needs_of_structures.proofs.making.make_list_with.Goals as goal

pub list_atom-requires-clause-choice : goal.list_atom-requires-clause-choice
list_atom-requires-clause-choice g c = c.requires.below.choice

pub returns-in-Ok-clause-stands : goal.returns-in-Ok-clause-stands
returns-in-Ok-clause-stands g c =
    let env = g.T.Types.atoms c.list_atom.new.types in
    lifted-on _ c.make_structure.result c.lift.result c.lift.ensures
    (c.make_structure.ensures.stands env c.in-Ok.ensures.there (stands-grows (state_of (g.T.Types.atoms c.args.types.now) c.args.work.now) env c.list_atom.ensures.kept c.requires.stands))

pub returns-in-Ok-clause-comes : goal.returns-in-Ok-clause-comes
returns-in-Ok-clause-comes g c =
    let env = g.T.Types.atoms c.list_atom.new.types in
    then-made (atom_of c.args.c.choice (λ env defs. defs ≡ ListAtom c.args.c.types.items None ∷ []) c.args.at) (λ atom. makes_of_atom c.args.count (form.List atom c.args.c.immutable) atom c.args.c.immutable c.args.at)
    (state_of (g.T.Types.atoms c.args.types.now) c.args.work.now) env c.in-Ok.atom _ c.make_structure.result c.lift.result c.lift.ensures c.in-Ok.ensures.comes (c.make_structure.ensures.comes env)

pub returns-clause-comes : goal.returns-clause-comes
returns-clause-comes g c =
    not-made (atom_of c.args.c.choice (λ env defs. defs ≡ ListAtom c.args.c.types.items None ∷ []) c.args.at) (λ atom. makes_of_atom c.args.count (form.List atom c.args.c.immutable) atom c.args.c.immutable c.args.at)
    (state_of (g.T.Types.atoms c.args.types.now) c.args.work.now) _ c.in-Err.stop c.in-Err.ensures.comes
