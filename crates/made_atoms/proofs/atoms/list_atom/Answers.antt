use Rattle.std.proofs.Common.{◌≡◌, List, [], ◌∷◌, None, length, subst, sym}
use Rattle.type_model.specs.declared.atoms.AtomDef.TheVariants.{List as ListAtom}
use Rattle.type_model.specs.declared.basic.Ty.{Ty}
use Rattle.type_model.specs.Defined.{DefBelow}
use Rattle.type_model.proofs.Kept.{KeepsTypes-same}
use Rattle.check_kinds.specs.Over.{ComesOver}
use Rattle.check_words.specs.Constructors.{atom_of}
use Rattle.made_atoms.proofs.Groups.{added-over, chosen-over, items-below}
use Rattle.made_atoms.proofs.atoms.list_atom.Goals as goal

pub add_one-requires-clause-named : goal.add_one-requires-clause-named
add_one-requires-clause-named g c =
    subst (λ (ts : List Ty). DefBelow (length (g.T.Types.atoms c.args.types.now)) (ListAtom ts None)) (sym c.of.ensures)
    (items-below (length (g.T.Types.atoms c.args.types.now)) c.args.items.items c.requires.items)

pub returns-in-Some-clause-kept : goal.returns-in-Some-clause-kept
returns-in-Some-clause-kept g c = KeepsTypes-same _

pub returns-in-Some-clause-comes : goal.returns-in-Some-clause-comes
returns-in-Some-clause-comes g c =
    chosen-over (λ env defs. defs ≡ ListAtom c.args.items.items None ∷ []) c.args.at c.args.choice c.in-Some.atom (g.T.Types.atoms c.args.types.now) c.in-Some.is

pub returns-in-None-clause-comes : goal.returns-in-None-clause-comes
returns-in-None-clause-comes g c =
    subst (λ (ts : List Ty). ComesOver (atom_of c.args.choice (λ env defs. defs ≡ ListAtom ts None ∷ []) c.args.at) (g.T.Types.atoms c.args.types.now) c.add_one.result (g.T.Types.atoms c.add_one.new.types)) c.of.ensures
    (added-over (λ env defs. defs ≡ ListAtom c.of.result None ∷ []) c.args.at c.args.choice _ _ c.add_one.result c.in-None.is c.add_one.ensures.comes)
