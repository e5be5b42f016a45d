-- Limits of single steps as limits of a need.
use Rattle.std.proofs.Common.{◌≡◌, ◌++◌, ◌+◌, ◌<◌, ℕ, List, [], ◌∷◌, Result, Ok, Err, Some, IfOk, OnOk, arith, inl, inr, length, length-append, refl, slice_get, sym, subst}
use Rattle.bal_base.specs.declared.stop.Stop.{Stop}
use Rattle.bal_base.specs.declared.stop.Stop.TheVariants.{Fault, Memory}
use Rattle.bal_base.specs.Stops.{IfFault}
use Rattle.type_model.specs.declared.answers.Answer.{Answer}
use Rattle.type_model.specs.declared.answers.Apply.{Apply}
use Rattle.type_model.specs.declared.answers.Apply.TheVariants.{Result as Given, Outside}
use Rattle.type_model.specs.declared.answers.TypeLimit.{TypeLimit}
use Rattle.type_model.specs.declared.atoms.AtomDef.{AtomDef}
use Rattle.type_model.specs.declared.basic.SemType.{SemType, Atom}
use Rattle.type_model.specs.Application.{Applies, NamesDefined}
use Rattle.type_model.specs.Calls.{Applied, Asked, KeepsTypes, Without}
use Rattle.type_model.specs.Defined.{IsDefined}
use Rattle.type_model.specs.Inclusion.{AnswersSub}
use Rattle.atom_questions.specs.declared.limits.QuestionLimit.{QuestionLimit}
use Rattle.atom_questions.specs.declared.limits.QuestionLimit.TheVariants.{Atoms, Types}
use Rattle.atom_questions.specs.Added.{HasOneMore, IsFunctionsOf}
use Rattle.atom_questions.specs.FutureNeeds.{AsksAtom}
use Rattle.atom_questions.specs.inner.Applying.{IsAnsweredOf}
use Rattle.atom_questions.specs.inner.Stopping.{ApplyPasses, IsAnsweredIn, IsToldByApplying, IsToldOf, ResultPasses, TooManyAtoms, TypesPass}
use Rattle.atom_questions.specs.Limits.{OneMoreStops}

module _ (passes : List AtomDef → Asked → TypeLimit → Type 0) (env : List AtomDef) (def : AtomDef) (D : AtomDef → Type 0) (L : List AtomDef → Asked → Type 0) where
  -- too many atoms, handed on
  pub atoms-stop : (A B : Type 0) (stop : Stop QuestionLimit) → IfFault {T = A} (Err stop) (TooManyAtoms env (def ∷ [])) → IfFault {T = B} (Err stop) (OneMoreStops passes env D L)
  atoms-stop A B Memory h = tt
  atoms-stop A B (Fault Atoms) h = h
  atoms-stop A B (Fault (Types l)) h = absurd h

  -- a question over the atoms with the new one
  pub types-stop : D def → (asked : Asked) → L (env ++ def ∷ []) asked → {A : Type 0} (r : Result A (Stop QuestionLimit)) → IfFault r (TypesPass passes (env ++ def ∷ []) asked) → IfFault r (OneMoreStops passes env D L)
  types-stop d asked leads (Ok a) h = tt
  types-stop d asked leads (Err Memory) h = tt
  types-stop d asked leads (Err (Fault Atoms)) h = absurd h
  types-stop d asked leads (Err (Fault (Types l))) h = (def, d, (asked, leads, h))

  -- the same by other words for the definition
  pub stops-on : (E : AtomDef → Type 0) → ((d : AtomDef) → D d → E d) → {A : Type 0} (r : Result A (Stop QuestionLimit)) → IfFault r (OneMoreStops passes env D L) → IfFault r (OneMoreStops passes env E L)
  stops-on E on (Ok a) h = tt
  stops-on E on (Err Memory) h = tt
  stops-on E on (Err (Fault Atoms)) h = h
  stops-on E on (Err (Fault (Types l))) (d, is, more) = (d, on d is, more)

module _ (passes : List AtomDef → Asked → TypeLimit → Type 0) (env : List AtomDef) (g args r : SemType) where
  -- where the functions are applied
  pub apply-stop : (A B : Type 0) (stop : Stop QuestionLimit) → IfFault {T = A} (Err stop) (TypesPass passes env (Applied g args)) → IfFault {T = B} (Err stop) (ApplyPasses passes env g args r)
  apply-stop A B Memory h = tt
  apply-stop A B (Fault l) h = inl h

  -- where what they give is asked about
  pub applied-stop : (applied : Apply) → Applies env g args applied → NamesDefined env applied → (res : Result Answer (Stop QuestionLimit)) → IfFault res (ResultPasses passes env r applied) → IfFault res (ApplyPasses passes env g args r)
  applied-stop applied a d (Ok x) h = tt
  applied-stop applied a d (Err Memory) h = tt
  applied-stop (Given t) a d (Err (Fault l)) h = inr (t, d, a, h)
  applied-stop (Outside x) a d (Err (Fault l)) h = absurd h

  pub of-functions : (f : SemType) → IsFunctionsOf f g → (res : Result Answer (Stop QuestionLimit)) → IfFault res (ApplyPasses passes env g args r) → IfFault res (λ l. (h : SemType) × IsFunctionsOf f h × ApplyPasses passes env h args r l)
  of-functions f only (Ok x) h = tt
  of-functions f only (Err Memory) h = tt
  of-functions f only (Err (Fault l)) h = (g, only, h)

module _ (env : List AtomDef) (g args r : SemType) where
  pub applied-told : (applied : Apply) → Applies env g args applied → (res : Result Answer (Stop QuestionLimit)) → IfOk res (IsToldOf env r applied) → IfOk res (IsToldByApplying env g args r)
  applied-told applied a (Ok x) h = (applied, a, h)
  applied-told applied a (Err e) h = tt

  pub told-of-functions : (f : SemType) → IsFunctionsOf f g → (res : Result Answer (Stop QuestionLimit)) → IfOk res (IsToldByApplying env g args r) → IfOk res (λ x. (h : SemType) × IsFunctionsOf f h × IsToldByApplying env h args r x)
  told-of-functions f only (Ok x) h = (g, only, h)
  told-of-functions f only (Err e) h = tt

-- the atom that was added is there
pub last-defined : (old new : List AtomDef) (def : AtomDef) (atom : ℕ) → atom ≡ length old → new ≡ old ++ def ∷ [] → IsDefined new (Atom atom)
last-defined old new def atom first added =
    let long : length (old ++ def ∷ []) ≡ length old + 1 = length-append old (def ∷ []) in
    let lt : atom < length (old ++ def ∷ []) = omega (arith, first, long) in
    subst (λ (env : List AtomDef). atom < length env) (sym added) lt

module _ (old new : List AtomDef) (def : AtomDef) (atom : ℕ) (first : atom ≡ length old) (added : new ≡ old ++ def ∷ []) where
  -- it is the number behind the older ones, in the atoms with the new one
  pub answered-in : (m : SemType) → KeepsTypes old new → (r : Result Answer (Stop QuestionLimit)) → IfOk r (AnswersSub new m (Atom atom)) → IfOk r (IsAnsweredIn old def m)
  answered-in m kept (Ok a) h = (
    subst (λ (env : List AtomDef). KeepsTypes old env) added kept,
    subst (λ (env : List AtomDef). AnswersSub env m (Atom (length old)) a) added (subst (λ (n : ℕ). AnswersSub new m (Atom n) a) first h),
  )
  answered-in m kept (Err e) h = tt

  pub passes-in : (passes : List AtomDef → Asked → TypeLimit → Type 0) (m : SemType) (r : Result Answer (Stop QuestionLimit)) → IfFault r (TypesPass passes new (Without m (Atom atom)))
      → IfFault r (OneMoreStops passes old (λ d. d ≡ def) (λ env asked. asked ≡ Without m (Atom (length old))))
  passes-in passes m r h =
      types-stop passes old def (λ d. d ≡ def) (λ env asked. asked ≡ Without m (Atom (length old))) refl (Without m (Atom (length old))) refl r
      (subst (λ (env : List AtomDef). IfFault r (TypesPass passes env (Without m (Atom (length old))))) added (subst (λ (n : ℕ). IfFault r (TypesPass passes new (Without m (Atom n)))) first h))

  -- the same of the atom below a type
  pub answered-of : (r : SemType) → KeepsTypes old new → (res : Result Answer (Stop QuestionLimit)) → IfOk res (AnswersSub new (Atom atom) r) → IfOk res (IsAnsweredOf old def r)
  answered-of r kept (Ok a) h = (
    subst (λ (env : List AtomDef). KeepsTypes old env) added kept,
    subst (λ (env : List AtomDef). AnswersSub env (Atom (length old)) r a) added (subst (λ (n : ℕ). AnswersSub new (Atom n) r a) first h),
  )
  answered-of r kept (Err e) h = tt

  pub passes-of : (passes : List AtomDef → Asked → TypeLimit → Type 0) (r : SemType) (res : Result Answer (Stop QuestionLimit)) → IfFault res (TypesPass passes new (Without (Atom atom) r))
      → IfFault res (OneMoreStops passes old (λ d. d ≡ def) (AsksAtom (length old) r))
  passes-of passes r res h =
      types-stop passes old def (λ d. d ≡ def) (AsksAtom (length old) r) refl (Without (Atom (length old)) r) refl res
      (subst (λ (env : List AtomDef). IfFault res (TypesPass passes env (Without (Atom (length old)) r))) added (subst (λ (n : ℕ). IfFault res (TypesPass passes new (Without (Atom n) r))) first h))

-- the last atom has the definition that was added
pub last-there : (old : List AtomDef) (def : AtomDef) → slice_get (old ++ def ∷ []) (length old) ≡ Some def
last-there [] def = refl
last-there (d ∷ ds) def = last-there ds def

-- the same of what is so defined by other words
pub more-on : (old : List AtomDef) (D E : AtomDef → Type 0) → ((d : AtomDef) → D d → E d) → (new : List AtomDef) → HasOneMore old D new → HasOneMore old E new
more-on old D E on new (inl e) = inl e
more-on old D E on new (inr (d, is, e)) = inr (d, on d is, e)

pub there-in : (old new : List AtomDef) (def : AtomDef) (atom : ℕ) → atom ≡ length old → new ≡ old ++ def ∷ [] → slice_get new atom ≡ Some def
there-in old new def atom first added =
    subst (λ (env : List AtomDef). slice_get env atom ≡ Some def) (sym added) (subst (λ (n : ℕ). slice_get (old ++ def ∷ []) n ≡ Some def) (sym first) (last-there old def))

-- ---- results

module _ {A E : Type 0} where
  pub ok-on : (P Q : A → Type 0) → ((a : A) → P a → Q a) → (r : Result A E) → IfOk r P → IfOk r Q
  ok-on P Q on (Ok a) h = on a h
  ok-on P Q on (Err e) h = tt

  pub where-ok : (P : Type 0) → P → (r : Result A E) → OnOk r P
  where-ok P h (Ok a) = h
  where-ok P h (Err e) = tt

  pub where-ok-on : (P Q : Type 0) → (P → Q) → (r : Result A E) → OnOk r P → OnOk r Q
  where-ok-on P Q on (Ok a) h = on h
  where-ok-on P Q on (Err e) h = tt

  pub faults-on : (P Q : E → Type 0) → ((e : E) → P e → Q e) → (r : Result A (Stop E)) → IfFault r P → IfFault r Q
  faults-on P Q on (Ok a) h = tt
  faults-on P Q on (Err Memory) h = tt
  faults-on P Q on (Err (Fault e)) h = on e h

-- types that are kept twice
pub kept-on : (old env new : List AtomDef) → KeepsTypes old env → KeepsTypes env new → KeepsTypes old new
kept-on old env new one two = record {
  defined = λ t d. two.defined t (one.defined t d);
  shapes = λ t d x. ((λ i. (two.shapes t (one.defined t d) x).0 ((one.shapes t d x).0 i)), (λ i. (one.shapes t d x).1 ((two.shapes t (one.defined t d) x).1 i)));
}
