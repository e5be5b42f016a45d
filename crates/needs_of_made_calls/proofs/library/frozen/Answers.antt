use Rattle.std.proofs.Common.{length, subst, sym}
use Rattle.operations.specs.Kinds.{IsReadonly}
use Rattle.type_model.specs.declared.basic.Ty.{Ty}
use Rattle.type_model.specs.Defined.{IsDefined, TyBelow}
use Rattle.typed_tree.specs.SharedTypes.{sem_of}
use Rattle.check_words.specs.Words.{PartOf}
use Rattle.needs_of_made_calls.proofs.library.frozen.Goals as goal

pub part_of-requires : goal.part_of-requires
part_of-requires g c = subst (λ (t : Ty). IsDefined (g.T.Types.atoms c.args.types.now) t.sem) (sym c.deref.ensures) c.requires.0

pub returns-clause-below : goal.returns-clause-below
returns-clause-below g c = subst (TyBelow (length (g.T.Types.atoms c.args.types.now))) (sym c.in_ok-new.ensures.ok) c.in_ok-ty.ensures.defined

pub returns-clause-is : goal.returns-clause-is
returns-clause-is g c =
    let env = g.T.Types.atoms c.args.types.now in
    subst (λ (u : Ty). PartOf (sem_of c.args.t.now) IsReadonly env u) (sym c.in_ok-new.ensures.ok)
    (subst (λ (v : Ty). PartOf v.sem IsReadonly env c.in_ok-ty.ty) c.deref.ensures c.in_ok-ty.ensures.is)
