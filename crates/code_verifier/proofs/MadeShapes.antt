-- Which shapes the types have that are put together of atoms and of other types.
use Rattle.std.proofs.Common.{◌≡◌, ◌<◌, ◌↔◌, ℕ, Bool, true, false, List, Result, IfOk, refl, sym, subst, length}
use Rattle.bal_base.specs.declared.shape.Shape.{Shape}
use Rattle.bal_base.specs.declared.stop.Memory.{Memory as NoMemory}
use Rattle.operations.specs.Structures.{IsMade}
use Rattle.type_model.specs.declared.atoms.AtomDef.{AtomDef}
use Rattle.type_model.specs.declared.basic.BasicSet.TheVariants.{Readonly}
use Rattle.type_model.specs.declared.basic.SemType.{SemType, Atom, Basic}
use Rattle.type_model.specs.Basic.{InBasic}
use Rattle.type_model.specs.Defined.{IsDefined, NamesBelow}
use Rattle.type_model.specs.Inclusion.{HasExactly}
use Rattle.type_model.specs.Membership.{In}
use Rattle.type_model.specs.SameType.{IsSameType}
use Rattle.type_model.proofs.Same.{itself}
use Rattle.type_model.proofs.SameTypes.{In-same, NamesBelow-same}
use Rattle.code_verifier.specs.KindSets.{IsBoth}
use Rattle.code_verifier.specs.LedTo.{IsMadeType}
use Rattle.code_verifier.proofs.KindShapes.{both-below, both-shapes}

-- ---- structures of an atom

module _ (env : List AtomDef) (atom : ℕ) where
  abbrev IsAtom : SemType → Type 0
  IsAtom s = s ≡ Atom atom

  abbrev IsReadonlySet : SemType → Type 0
  IsReadonlySet s = s ≡ Basic Readonly

  immutable-shapes : (x : Shape) (t : SemType) → IsBoth IsAtom IsReadonlySet t → In env x t ↔ (In env x (Atom atom) × InBasic x Readonly)
  immutable-shapes x =
      both-shapes env x IsAtom IsReadonlySet (λ s e. subst (λ u. In env x u ↔ In env x (Atom atom)) (sym e) itself) (λ s e. subst (λ u. In env x u ↔ InBasic x Readonly) (sym e) itself)

  pub made-exactly : (immutable : Bool) (t : SemType) → IsMadeType atom immutable t → HasExactly env t (IsMade env atom immutable)
  made-exactly true t h = λ x v. let q = immutable-shapes x t h in ((λ i. let p = q.0 i in (p.0, (λ s. p.1))), (λ m. q.1 (m.0, m.1 refl)))
  made-exactly false t e = λ x v. subst (λ u. In env x u ↔ IsMade env atom false x) (sym e) ((λ h. (h, (λ s. absurd (let q : ⊥ = cc in q)))), (λ m. m.0))

  pub made-below : atom < length env → (immutable : Bool) (t : SemType) → IsMadeType atom immutable t → IsDefined env t
  made-below lt true t h = both-below (length env) IsAtom IsReadonlySet (λ s e. subst (NamesBelow (length env)) (sym e) lt) (λ s e. subst (NamesBelow (length env)) (sym e) tt) t h
  made-below lt false t e = subst (NamesBelow (length env)) (sym e) lt

pub made-so : (atom : ℕ) (immutable i : Bool) → immutable ≡ i → (r : Result SemType NoMemory) → IfOk r (IsMadeType atom i) → IfOk r (IsMadeType atom immutable)
made-so atom immutable i e r h = subst (λ (b : Bool). IfOk r (IsMadeType atom b)) (sym e) h

-- ---- what is in both

module _ (env : List AtomDef) (s t : SemType) where
  pub both-exactly : (u : SemType) → IsBoth (IsSameType s) (IsSameType t) u → HasExactly env u (λ x. In env x s × In env x t)
  both-exactly u h = λ x v. both-shapes env x (IsSameType s) (IsSameType t) (λ w e. back (In-same env x s w e)) (λ w e. back (In-same env x t w e)) u h
    where
      back : {A B : Type 0} → A ↔ B → B ↔ A
      back e = (e.1, e.0)

  pub both-defined : IsDefined env s → IsDefined env t → (u : SemType) → IsBoth (IsSameType s) (IsSameType t) u → IsDefined env u
  both-defined a b u h = both-below (length env) (IsSameType s) (IsSameType t) (λ w e. NamesBelow-same (length env) s w e a) (λ w e. NamesBelow-same (length env) t w e b) u h
