-- Atoms of futures with just such results as functions give.
use Rattle.std.proofs.Common.{◌≡◌, ◌↔◌, ◌++◌, ℕ, List, [], ◌∷◌, Some, None, All, Result, Ok, Err, IfOk, inl, inr, length, refl, sym, subst, slice_get}
use Rattle.std.proofs.lemmas.List.Elements.{All-cons, All-head, All-nil, All-tail}
use Rattle.bal_base.specs.declared.shape.Shape.{Shape, Nil, Bool as BoolShape, Int, Str, List', Mapping', Error', Function, Future', Row_of-Shape, end_of-Shape, more_of-Shape, items-the_row-Shape as shapes_in}
use Rattle.bal_base.specs.declared.stop.Stop.{Stop}
use Rattle.bal_base.specs.declared.stop.Stop.TheVariants.{Fault, Memory}
use Rattle.bal_base.specs.Stops.{IfFault}
use Rattle.bal_base.specs.Valid.{AreValid, IsValid}
use Rattle.operations.specs.Kinds.{IsFutureOf}
use Rattle.operations.specs.Rows.{MayGive}
use Rattle.type_model.specs.declared.answers.Answer.{Answer}
use Rattle.type_model.specs.declared.answers.Answer.TheVariants.{Yes, No}
use Rattle.type_model.specs.declared.answers.Apply.{Apply}
use Rattle.type_model.specs.declared.answers.Apply.TheVariants.{Result as Given, Outside}
use Rattle.type_model.specs.declared.answers.TypeLimit.{TypeLimit}
use Rattle.type_model.specs.declared.atoms.AtomDef.{AtomDef}
use Rattle.type_model.specs.declared.atoms.AtomDef.TheVariants.{Future as FutureAtom}
use Rattle.type_model.specs.declared.basic.SemType.{SemType, Atom}
use Rattle.type_model.specs.Application.{Applies as AppliesTo, NamesDefined}
use Rattle.type_model.specs.Calls.{Applied, Asked, KeepsTypes}
use Rattle.type_model.specs.Defined.{IsDefined}
use Rattle.type_model.specs.Inclusion.{AnswersSub, HasExactly}
use Rattle.type_model.specs.Membership.{AllIn, Fits, In}
use Rattle.type_model.proofs.Laws.{In-Atom}
use Rattle.code_needs.specs.Needs.{Applies, GivesFuture, IsMet}
use Rattle.code_verifier.specs.Asked.{FailsAt}
use Rattle.atom_questions.specs.Added.{HasOneMore, IsArgsDef, IsFunctionsOf}
use Rattle.atom_questions.specs.Both.{AnswersBoth}
use Rattle.atom_questions.specs.declared.limits.QuestionLimit.{QuestionLimit}
use Rattle.atom_questions.specs.declared.limits.QuestionLimit.TheVariants.{Atoms, Types}
use Rattle.atom_questions.specs.FutureNeeds.{AsksApplied, AsksAtom, FutureStops, HasFutureMore, IsFutureDef}
use Rattle.atom_questions.specs.inner.Applying.{FutureOfStops, IsFutureOfGiven, IsFutureTold, IsGiven}
use Rattle.atom_questions.specs.inner.Stopping.{TypesPass}
use Rattle.atom_questions.specs.Limits.{OneMoreStops}
use Rattle.atom_questions.proofs.Arguments.{fails-at}
use Rattle.atom_questions.proofs.Giving.{answer-kept, fails-kept, never-fails, results, so-fails}
use Rattle.atom_questions.proofs.Stops.{last-there, more-on, stops-on}

-- ---- futures of a type

module _ (env : List AtomDef) (t : SemType) where
  each-in : (n : _) (row : Row_of-Shape n) → AllIn env row t → All (λ y. In env y t) (shapes_in n row)
  each-in n end_of-Shape h = All-nil (λ y. In env y t)
  each-in n (more_of-Shape x xs) h = All-cons (λ y. In env y t) x _ h.0 (each-in _ xs h.1)

  all-in : (n : _) (row : Row_of-Shape n) → All (λ y. In env y t) (shapes_in n row) → AllIn env row t
  all-in n end_of-Shape h = tt
  all-in n (more_of-Shape x xs) h = (All-head (λ y. In env y t) x _ h, all-in _ xs (All-tail (λ y. In env y t) x _ h))

  fits-future : (x : Shape) → Fits env x (FutureAtom t) ↔ IsFutureOf (λ y. In env y t) x
  fits-future (Future' _ row) = (each-in _ row, all-in _ row)
  fits-future Nil = ((λ h. h), (λ h. h))
  fits-future (BoolShape b) = ((λ h. h), (λ h. h))
  fits-future (Int i) = ((λ h. h), (λ h. h))
  fits-future (Str s) = ((λ h. h), (λ h. h))
  fits-future (List' mark _ items) = ((λ h. h), (λ h. h))
  fits-future (Mapping' mark _ fields) = ((λ h. h), (λ h. h))
  fits-future (Error' _ detail) = ((λ h. h), (λ h. h))
  fits-future (Function isolated graph) = ((λ h. h), (λ h. h))

  future-in : (n : ℕ) → slice_get env n ≡ Some (FutureAtom t) → (x : Shape) → In env x (Atom n) ↔ IsFutureOf (λ y. In env y t) x
  future-in n there x =
      let atom = In-Atom env x n (FutureAtom t) there in
      ((λ i. (fits-future x).0 (atom.0 i)), (λ h. atom.1 ((fits-future x).1 h)))

-- results of valid futures are valid
module _ (P Q : Shape → Type 0) (on : (y : Shape) → IsValid y → P y → Q y) where
  each-on : (n : _) (row : Row_of-Shape n) → AreValid row → All P (shapes_in n row) → All Q (shapes_in n row)
  each-on n end_of-Shape v h = All-nil Q
  each-on n (more_of-Shape x xs) v h = All-cons Q x _ (on x v.0 (All-head P x _ h)) (each-on _ xs v.1 (All-tail P x _ h))

  future-on : (x : Shape) → IsValid x → IsFutureOf P x → IsFutureOf Q x
  future-on (Future' _ row) v h = each-on _ row v h
  future-on Nil v h = h
  future-on (BoolShape b) v h = h
  future-on (Int i) v h = h
  future-on (Str s) v h = h
  future-on (List' mark _ items) v h = h
  future-on (Mapping' mark _ fields) v h = h
  future-on (Error' _ detail) v h = h
  future-on (Function isolated graph) v h = h

-- ---- what is told

-- of functions that are applied to lists of the atom
module _ (env : List AtomDef) (n : ℕ) (def : AtomDef) (args : List SemType) (there : slice_get env n ≡ Some def) (is : IsArgsDef args def) (f : SemType) where
  is-given : (g : SemType) → IsFunctionsOf f g → (applied : Apply) → AppliesTo env g (Atom n) applied → IsGiven env f args applied
  is-given g only (Given t) least = (never-fails env n def args there is f g only t least, results env n def args there is f g only t least)
  is-given g only (Outside x) (shape, can) = fails-at env n def args there is f g only x shape can

  pub are-given : (r : Result Apply (Stop QuestionLimit)) → IfOk r (λ a. (g : SemType) × IsFunctionsOf f g × AppliesTo env g (Atom n) a) → IfOk r (IsGiven env f args)
  are-given (Ok a) (g, only, applies) = is-given g only a applies
  are-given (Err e) h = tt

module _ (old env : List AtomDef) (keeps : KeepsTypes old env) (f : SemType) (args : List SemType) (f_defined : IsDefined old f) (args_defined : All (IsDefined old) args) (r : SemType) (r_defined : IsDefined old r) where
  abbrev May : Shape → Type 0
  May = MayGive old f args

  module _ (t : SemType) (defined : IsDefined env t) (exact : HasExactly env t (MayGive env f args)) (more : KeepsTypes env (env ++ FutureAtom t ∷ [])) where
    abbrev Grown : List AtomDef
    Grown = env ++ FutureAtom t ∷ []

    given-in : (y : Shape) → IsValid y → May y → In Grown y t
    given-in y v m = (more.shapes t defined y).0 ((exact y v).1 ((answer-kept old env keeps f args f_defined args_defined (Some y)).0 m))

    in-given : (y : Shape) → IsValid y → In Grown y t → May y
    in-given y v i = (answer-kept old env keeps f args f_defined args_defined (Some y)).1 ((exact y v).0 ((more.shapes t defined y).1 i))

    r-kept : (x : Shape) → In old x r ↔ In Grown x r
    r-kept x =
        let one = keeps.shapes r r_defined x in
        let two = more.shapes r (keeps.defined r r_defined) x in
        ((λ i. two.0 (one.0 i)), (λ i. one.1 (two.1 i)))

    own-in : (x : Shape) → In Grown x (Atom (length env)) ↔ IsFutureOf (λ y. In Grown y t) x
    own-in x = future-in Grown t (length env) (last-there env (FutureAtom t)) x

    futures-told : IsMet old (Applies f args) → (answer : Answer) → AnswersSub Grown (Atom (length env)) r answer → AnswersBoth old (Applies f args) (GivesFuture f args r) answer
    futures-told never Yes sub = (never, (λ x v m. (r-kept x).1 (sub x v ((own-in x).1 (future-on May (λ y. In Grown y t) given-in x v m)))))
    futures-told never (No x) h =
        let m : IsFutureOf May x = future-on (λ y. In Grown y t) May in-given x h.0.0 ((own-in x).0 h.0.1) in
        let out : ¬ (In old x r) = λ i. h.1 ((r-kept x).0 i) in
        inr (never, (h.0.0, m, out), (λ met. out (met x h.0.0 m)))

  future-told : (applied : Apply) → IsGiven env f args applied → NamesDefined env applied → (answer : Answer) → IsFutureTold env r applied answer → AnswersBoth old (Applies f args) (GivesFuture f args r) answer
  future-told (Given t) given d answer told =
      futures-told t d given.1 told.0 (λ m. given.0 ((answer-kept old env keeps f args f_defined args_defined None).0 m)) answer told.1
  future-told (Outside x) fails d answer e =
      let so : FailsAt old f args x = fails-kept old env keeps f args f_defined args_defined x fails in
      subst (AnswersBoth old (Applies f args) (GivesFuture f args r)) (sym e) (inl (so, so-fails old env keeps f args f_defined args_defined x so))

  pub future-answers : (applied : Apply) → IsGiven env f args applied → NamesDefined env applied → (res : Result Answer (Stop QuestionLimit)) → IfOk res (IsFutureTold env r applied)
      → IfOk res (AnswersBoth old (Applies f args) (GivesFuture f args r))
  future-answers applied given d (Ok a) h = future-told applied given d a h
  future-answers applied given d (Err e) h = tt

-- ---- which atoms are added, and which limits are passed

-- the atom of what was given
pub given-more : (old new : List AtomDef) (t : SemType) (a : Apply) → a ≡ Given t → HasOneMore old (λ d. d ≡ FutureAtom t) new → HasOneMore old (IsFutureOfGiven a) new
given-more old new t a e h = subst (λ (b : Apply). HasOneMore old (IsFutureOfGiven b) new) (sym e) h

-- the atom of arguments alone
pub first-more : (old : List AtomDef) (f : SemType) (args : List SemType) (new : List AtomDef) → HasOneMore old (IsArgsDef args) new → HasFutureMore old f args new
first-more old f args new (inl e) = inl e
first-more old f args new (inr (def, is, e)) = inr (def, is, inl e)

module _ (env : List AtomDef) (f : SemType) (args : List SemType) where
  of-given : (applied : Apply) → IsGiven env f args applied → NamesDefined env applied → (def : AtomDef) → IsFutureOfGiven applied def → IsFutureDef env f args def
  of-given (Given t) given d def e = (t, (d, given.1), e)
  of-given (Outside x) given d def h = absurd h

module _ (old : List AtomDef) (def : AtomDef) (f : SemType) (args : List SemType) (is : IsArgsDef args def) (env : List AtomDef) (added : env ≡ old ++ def ∷ []) (applied : Apply) (given : IsGiven env f args applied) (defined : NamesDefined env applied) where
  pub future-more : (new : List AtomDef) → HasOneMore env (IsFutureOfGiven applied) new → HasFutureMore old f args new
  future-more new h =
      inr (def, is, subst (λ (e : List AtomDef). HasOneMore e (IsFutureDef e f args) new) added (more-on env (IsFutureOfGiven applied) (IsFutureDef env f args) (of-given env f args applied given defined) new h))

  module _ (passes : List AtomDef → Asked → TypeLimit → Type 0) (r : SemType) where
    of-stops : (a : Apply) → IsGiven env f args a → NamesDefined env a → (res : Result Answer (Stop QuestionLimit)) → IfFault res (FutureOfStops passes env r a)
        → IfFault res (OneMoreStops passes env (IsFutureDef env f args) (AsksAtom (length env) r))
    of-stops (Given t) g d res h =
        stops-on passes env (FutureAtom t) (λ e. e ≡ FutureAtom t) (AsksAtom (length env) r) (IsFutureDef env f args) (λ e is. (t, (d, g.1), is)) res h
    of-stops (Outside x) g d (Ok a) h = tt
    of-stops (Outside x) g d (Err Memory) h = tt
    of-stops (Outside x) g d (Err (Fault l)) h = absurd h

    behind : (res : Result Answer (Stop QuestionLimit)) → IfFault res (OneMoreStops passes (old ++ def ∷ []) (IsFutureDef (old ++ def ∷ []) f args) (AsksAtom (length (old ++ def ∷ [])) r))
        → IfFault res (FutureStops passes old f args r)
    behind (Ok a) h = tt
    behind (Err Memory) h = tt
    behind (Err (Fault l)) h = inr (def, is, h)

    pub future-stops : (res : Result Answer (Stop QuestionLimit)) → IfFault res (FutureOfStops passes env r applied) → IfFault res (FutureStops passes old f args r)
    future-stops res h =
        behind res (subst (λ (e : List AtomDef). IfFault res (OneMoreStops passes e (IsFutureDef e f args) (AsksAtom (length e) r))) added (of-stops applied given defined res h))

module _ (passes : List AtomDef → Asked → TypeLimit → Type 0) (old : List AtomDef) (f : SemType) where
  -- a stop of the first step is one of the whole
  pub given-stop : (args : List SemType) (r : SemType) (A B : Type 0) (stop : Stop QuestionLimit) → IfFault {T = A} (Err stop) (OneMoreStops passes old (IsArgsDef args) (AsksApplied f (length old)))
      → IfFault {T = B} (Err stop) (FutureStops passes old f args r)
  given-stop args r A B Memory h = tt
  given-stop args r A B (Fault l) h = inl h

  -- where functions are applied over the atoms with the new one
  applied-stops : (def : AtomDef) (l : QuestionLimit) → (g : SemType) × IsFunctionsOf f g × TypesPass passes (old ++ def ∷ []) (Applied g (Atom (length old))) l → OneMoreStops passes old (λ d. d ≡ def) (AsksApplied f (length old)) l
  applied-stops def Atoms (g, only, h) = absurd h
  applied-stops def (Types l) (g, only, h) = (def, refl, (Applied g (Atom (length old)), (g, only, refl), h))

  pub are-applied-stops : (def : AtomDef) (new : List AtomDef) (n : ℕ) → n ≡ length old → new ≡ old ++ def ∷ [] → (res : Result Apply (Stop QuestionLimit))
      → IfFault res (λ l. (g : SemType) × IsFunctionsOf f g × TypesPass passes new (Applied g (Atom n)) l) → IfFault res (OneMoreStops passes old (λ d. d ≡ def) (AsksApplied f (length old)))
  are-applied-stops def new n first added (Ok a) h = tt
  are-applied-stops def new n first added (Err Memory) h = tt
  are-applied-stops def new n first added (Err (Fault l)) h =
      applied-stops def l (subst (λ (env : List AtomDef). (g : SemType) × IsFunctionsOf f g × TypesPass passes env (Applied g (Atom (length old))) l) added
      (subst (λ (k : ℕ). (g : SemType) × IsFunctionsOf f g × TypesPass passes new (Applied g (Atom k)) l) first h))
