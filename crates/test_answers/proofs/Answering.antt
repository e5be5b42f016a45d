-- What answers tell, one by one.
use Rattle.std.proofs.Common.{◌≡◌, ℕ, Bool, List, [], ◌∷◌, Result, Ok, Err, IfOk, IsErr, IsErrAnd, ◌<◌, ◌+◌, ◌++◌, zero, suc, arith, get_or, length, refl, take, subst, sym}
use Rattle.std.specs.List.{AllZip}
use Rattle.bal_base.specs.declared.stop.Stop.{Stop}
use Rattle.bal_base.specs.declared.stop.Stop.TheVariants.{Fault, Memory}
use Rattle.bal_base.specs.Stops.{IfFault}
use Rattle.type_model.specs.declared.answers.TypeLimit.{TypeLimit}
use Rattle.type_model.specs.declared.atoms.AtomDef.{AtomDef}
use Rattle.type_model.specs.declared.basic.SemType.{SemType}
use Rattle.value_model.specs.Exact.{AnswersExactly, IsExactAnswer}
use Rattle.type_model.specs.Calls.{Asked}
use Rattle.code_verifier.specs.Deciding.{DecidesSub}
use Rattle.code_verifier.specs.LedTo.{SomePasses}
use Rattle.code_verifier.proofs.Leading.{stop-passed}
use Rattle.code_verifier.proofs.Zipping.{zip-more}
use Rattle.test_answers.specs.ValueTypes.{AsksOfAtom, AsksOfAtoms, IsValueType}
use Rattle.test_answers.proofs.ValueShapes.{values-within}

module _ (env : List AtomDef) where
  -- answers about the type of an atom's values are those about the atom
  exactly : (a : ℕ) (s : SemType) → IsValueType env a s → (tested : List SemType) (answers : List Bool) → AllZip (DecidesSub env s) tested answers → AnswersExactly env tested a answers
  exactly a s is [] [] z = tt
  exactly a s is [] (b ∷ bs) z = absurd z
  exactly a s is (t ∷ ts) [] z = absurd z
  exactly a s is (t ∷ ts) (b ∷ bs) z =
      let within = values-within env a t s is in
      let here : IsExactAnswer env a t b = ((λ h. within.0 (z.0.0 h)), (λ w. z.0.1 (within.1 w))) in
      (here, exactly a s is ts bs z.1)

  pub are-exact : (a : ℕ) (s : SemType) → IsValueType env a s → (tested : List SemType) → {E : Type 0} (r : Result (List Bool) E) → IfOk r (AllZip (DecidesSub env s) tested) → IfOk r (AnswersExactly env tested a)
  are-exact a s is tested (Ok row) z = exactly a s is tested row z
  are-exact a s is tested (Err e) z = tt

-- ---- stops that are handed on from a loop, over the atoms that were there first

module _ (passes : List AtomDef → Asked → TypeLimit → Type 0) (old env : List AtomDef) (same : env ≡ old) (A B : Type 0) where
  handed : (P : TypeLimit → Type 0) (stop : Stop TypeLimit) (r : Result B (Stop TypeLimit)) → IsErr r × IsErrAnd r (λ e. e ≡ stop) → IfFault {T = A} (Err stop) P → IfFault r P
  handed P stop (Ok b) h k = tt
  handed P stop (Err s) h k = subst (λ (e : Stop TypeLimit). IfFault {T = B} (Err e) P) (sym h.1) (stop-passed P A B stop k)

  on-fault : (P Q : TypeLimit → Type 0) → ((l : TypeLimit) → P l → Q l) → (r : Result B (Stop TypeLimit)) → IfFault r P → IfFault r Q
  on-fault P Q on (Ok b) h = tt
  on-fault P Q on (Err Memory) h = tt
  on-fault P Q on (Err (Fault l)) h = on l h

  pub question-stops : (M : Asked → Type 0) (asked : Asked) → M asked → (stop : Stop TypeLimit) (r : Result B (Stop TypeLimit)) → IsErr r × IsErrAnd r (λ e. e ≡ stop) → IfFault {T = A} (Err stop) (passes env asked)
      → IfFault r (SomePasses passes old M)
  question-stops M asked leads stop r h k =
      on-fault (passes env asked) (SomePasses passes old M) (λ l p. (asked, leads, subst (λ (e : List AtomDef). passes e asked l) same p)) r (handed (passes env asked) stop r h k)

  pub row-stops : (L : List AtomDef → Asked → Type 0) (M : Asked → Type 0) → ((asked : Asked) → L old asked → M asked) → (stop : Stop TypeLimit) (r : Result B (Stop TypeLimit)) → IsErr r × IsErrAnd r (λ e. e ≡ stop)
      → IfFault {T = A} (Err stop) (SomePasses passes env (L env)) → IfFault r (SomePasses passes old M)
  row-stops L M on stop r h k =
      on-fault (SomePasses passes env (L env)) (SomePasses passes old M) (λ l p. by l (subst (λ (e : List AtomDef). SomePasses passes e (L e) l) same p)) r (handed (SomePasses passes env (L env)) stop r h k)
    where
      by : (l : TypeLimit) → SomePasses passes old (L old) l → SomePasses passes old M l
      by l (asked, leads, p) = (asked, on asked leads, p)

-- ---- one atom more

get-own : (xs : List ℕ) (i d : ℕ) → i < length xs → get_or xs i (get_or xs i d) ≡ get_or xs i d
get-own [] i d lt = absurd (omega (arith, lt))
get-own (x ∷ xs) zero d lt = refl
get-own (x ∷ xs) (suc i) d lt = get-own xs i d (omega (arith, lt))

module _ (old env : List AtomDef) (same : env ≡ old) (tested : List SemType) (inherent : List ℕ) (i d : ℕ) (lt : i < length inherent) where
  pub row-more : (rows zs : List (List Bool)) (row : List Bool) → AllZip (AnswersExactly old tested) (take i inherent) rows → AnswersExactly env tested (get_or inherent i d) row → zs ≡ rows ++ row ∷ []
      → AllZip (AnswersExactly old tested) (take (i + 1) inherent) zs
  row-more rows zs row before here more =
      zip-more (AnswersExactly old tested) inherent rows zs i (get_or inherent i d) row lt (sym (get-own inherent i d lt)) before (subst (λ (e : List AtomDef). AnswersExactly e tested (get_or inherent i d) row) same here) more

  pub atom-stops : (passes : List AtomDef → Asked → TypeLimit → Type 0) (A B : Type 0) (stop : Stop TypeLimit) (r : Result B (Stop TypeLimit)) → IsErr r × IsErrAnd r (λ e. e ≡ stop)
      → IfFault {T = A} (Err stop) (SomePasses passes env (AsksOfAtom env tested (get_or inherent i d))) → IfFault r (SomePasses passes old (AsksOfAtoms old tested inherent))
  atom-stops passes A B stop r h k =
      row-stops passes old env same A B (λ e asked. AsksOfAtom e tested (get_or inherent i d) asked) (AsksOfAtoms old tested inherent)
      (λ asked q. (get_or inherent i d, (i, lt, get-own inherent i d lt), q)) stop r h k
