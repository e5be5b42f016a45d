-- What is told of the atoms of errors and details, where they are added, is told of the need.
use Rattle.std.proofs.Common.{◌≡◌, ◌<◌, ◌≤◌, ◌+◌, ◌↔◌, ◌⊎◌, ◌∙◌, ◌++◌, ℕ, suc, List, [], ◌∷◌, Some, All, Result, Ok, Err, IfOk, arith, ap, filter, get_or, inl, inr, length, length-append, refl, subst, sym}
use Rattle.std.specs.List.{AllZip}
use Rattle.std.proofs.lemmas.List.Elements.{All-append, All-cons, All-head, All-nil, All-tail}
use Rattle.bal_base.specs.declared.shape.Shape.{Shape}
use Rattle.bal_base.specs.declared.stop.Stop.{Stop}
use Rattle.bal_base.specs.declared.stop.Stop.TheVariants.{Fault, Memory}
use Rattle.bal_base.specs.declared.text.Text.{Text}
use Rattle.bal_base.specs.Stops.{IfFault}
use Rattle.operations.specs.Kinds.{IsErrorOf}
use Rattle.operations.specs.Rows.{ResultHas}
use Rattle.operations.specs.Structures.{IsDetailOf}
use Rattle.type_model.specs.declared.answers.Answer.{Answer}
use Rattle.type_model.specs.declared.answers.Answer.TheVariants.{Yes, No}
use Rattle.type_model.specs.declared.answers.TypeLimit.{TypeLimit}
use Rattle.type_model.specs.declared.atoms.AtomDef.{AtomDef}
use Rattle.type_model.specs.declared.atoms.AtomDef.TheVariants.{Error as ErrorAtom}
use Rattle.type_model.specs.declared.basic.SemType.{SemType, Atom}
use Rattle.type_model.specs.Calls.{Asked, KeepsTypes, Without}
use Rattle.type_model.specs.Defined.{DefBelow, IsDefined, IsDefinedGroup, NamesBelow}
use Rattle.type_model.specs.Inclusion.{AnswersSub, HasExactly}
use Rattle.type_model.specs.Membership.{In}
use Rattle.type_model.specs.Places.{HasDistinctFields}
use Rattle.type_model.proofs.DefinedLaws.{NamesBelow-more}
use Rattle.code_needs.specs.Needs.{HasErrorsOf}
use Rattle.code_verifier.specs.Asked.{Answers, IsLeftOut, Tells}
use Rattle.pair_questions.specs.declared.pair.Pair.{Pair}
use Rattle.pair_questions.specs.Pairs.{pair_of, pairs_of}
use Rattle.atom_questions.specs.declared.limits.QuestionLimit.{QuestionLimit}
use Rattle.atom_questions.specs.declared.limits.QuestionLimit.TheVariants.{Atoms, Types}
use Rattle.atom_questions.specs.inner.Stopping.{TooManyAtoms, TypesPass}
use Rattle.atom_questions.proofs.NeedsKept.{answers-kept}
use Rattle.detail_questions.specs.Details.{ErrorStops, HasErrorsMore, IsErrorGroup, PairDefined, count_open, is_open}
use Rattle.detail_questions.specs.inner.Cells.{AnyBelow, IsLackingAt, IsValueAt, ValuesBelow, always_lacks, may_lack}
use Rattle.detail_questions.specs.inner.Group.{GroupStops, IsAnsweredOver, IsGroup, IsLack}
use Rattle.detail_questions.specs.inner.Names.{with_keys}
use Rattle.detail_questions.proofs.Detailed.{errors-in}
use Rattle.detail_questions.proofs.Groups.{New, detail-below}
use Rattle.detail_questions.proofs.Named.{names-distinct}
use Rattle.detail_questions.proofs.TableAtoms.{table-below, table-distinct}

zip-long : {A B : Type 0} (R : A → B → Type 0) (xs : List A) (ys : List B) → AllZip R xs ys → length xs ≡ length ys
zip-long R [] [] z = refl
zip-long R [] (y ∷ ys) z = absurd z
zip-long R (x ∷ xs) [] z = absurd z
zip-long R (x ∷ xs) (y ∷ ys) z = ap suc (zip-long R xs ys z.1)

zip-each : {A B : Type 0} (R : A → B → Type 0) (P : B → Type 0) → ((x : A) (y : B) → R x y → P y) → (xs : List A) (ys : List B) → AllZip R xs ys → All P ys
zip-each R P on [] [] z = All-nil P
zip-each R P on [] (y ∷ ys) z = absurd z
zip-each R P on (x ∷ xs) [] z = absurd z
zip-each R P on (x ∷ xs) (y ∷ ys) z = All-cons P y ys (on x y z.0) (zip-each R P on xs ys z.1)

-- as many lack keys as keys are open
pub few-lacks : (pairs : List Pair) (names : List Text) (lacking : List AtomDef) → AllZip (IsLack names) (filter (λ (p : Pair). is_open p.key.now) pairs) lacking → length lacking ≡ count_open pairs
few-lacks pairs names lacking z = sym (zip-long (IsLack names) (filter (λ (p : Pair). is_open p.key.now) pairs) lacking z)

-- ---- the group may be added

module _ (old : List AtomDef) (pairs : List Pair) (defs : List AtomDef) where
  group-long : IsGroup (length old) pairs defs → length defs ≡ count_open pairs + 2
  group-long (details, lacking, detail, of_details, of_lacking, of_detail, is) =
      let one = zip-long (IsLack (with_keys pairs)) (filter (λ (p : Pair). is_open p.key.now) pairs) lacking of_lacking in
      let all : length defs ≡ length (details ∷ lacking) + 1 = ap (λ (ds : List AtomDef). length ds) is ∙ length-append (details ∷ lacking) (ErrorAtom detail ∷ []) in
      omega (arith, one, all)

  values-below : (n : ℕ) → length old ≤ n → All (PairDefined old) pairs → ValuesBelow pairs n
  values-below n le defined k p lt = NamesBelow-more (length old) n le (get_or pairs k p).value.now (defined k p lt).1

  pub group-named : All (PairDefined old) pairs → IsGroup (length old) pairs defs → IsDefinedGroup old defs
  group-named defined group = by group (length old + length defs) refl
    where
      by : IsGroup (length old) pairs defs → (n : ℕ) → n ≡ length old + length defs → All (DefBelow n) defs
      by (details, lacking, detail, of_details, of_lacking, of_detail, is) n bound =
          let one = zip-long (IsLack (with_keys pairs)) (filter (λ (p : Pair). is_open p.key.now) pairs) lacking of_lacking in
          let long = group-long group in
          let most : length old ≤ n = omega (arith, bound) in
          let first : DefBelow n details = table-below (IsValueAt pairs) (ValuesBelow pairs) (may_lack pairs) n (values-below n most defined) (with_keys pairs) details of_details in
          let others : All (DefBelow n) lacking =
          zip-each (IsLack (with_keys pairs)) (DefBelow n) (λ p d h. table-below (IsLackingAt p.key.now) AnyBelow always_lacks n tt (with_keys pairs) d h) (filter (λ (p : Pair). is_open p.key.now) pairs) lacking of_lacking in
          let last : NamesBelow n detail = detail-below (length old) (length lacking) n detail of_detail (omega (arith, one, long, bound)) in
          subst (All (DefBelow n)) (sym is)
          (All-append (DefBelow n) (details ∷ lacking) (ErrorAtom detail ∷ []) (All-cons (DefBelow n) details lacking first others) (All-cons (DefBelow n) (ErrorAtom detail) [] last (All-nil (DefBelow n))))

  pub group-distinct : IsGroup (length old) pairs defs → All HasDistinctFields defs
  group-distinct (details, lacking, detail, of_details, of_lacking, of_detail, is) =
      let first : HasDistinctFields details = table-distinct (IsValueAt pairs) (ValuesBelow pairs) (may_lack pairs) (with_keys pairs) details (names-distinct pairs) of_details in
      let others : All HasDistinctFields lacking =
      zip-each (IsLack (with_keys pairs)) HasDistinctFields (λ p d h. table-distinct (IsLackingAt p.key.now) AnyBelow always_lacks (with_keys pairs) d (names-distinct pairs) h) (filter (λ (p : Pair). is_open p.key.now) pairs) lacking of_lacking in
      subst (All HasDistinctFields) (sym is)
      (All-append HasDistinctFields (details ∷ lacking) (ErrorAtom detail ∷ []) (All-cons HasDistinctFields details lacking first others) (All-cons HasDistinctFields (ErrorAtom detail) [] tt (All-nil HasDistinctFields)))

  pub last-within : IsGroup (length old) pairs defs → length old + (count_open pairs + 1) < length old + length defs
  last-within group = let long = group-long group in omega (arith, long)

  -- ---- its last atom has just the errors

  pub group-errors : IsGroup (length old) pairs defs → IsErrorGroup old pairs defs
  group-errors (details, lacking, detail, of_details, of_lacking, of_detail, is) =
      let one : count_open pairs ≡ length lacking = zip-long (IsLack (with_keys pairs)) (filter (λ (p : Pair). is_open p.key.now) pairs) lacking of_lacking in
      let long : length (details ∷ lacking) ≡ count_open pairs + 1 = omega (arith, one) in
      (details ∷ lacking, detail, is, long, exact one)
    where
      exact : count_open pairs ≡ length lacking → HasExactly (old ++ defs) (Atom (length old + (count_open pairs + 1))) (IsErrorOf (IsDetailOf (old ++ defs) (pairs_of pairs)))
      exact one x v =
          subst (λ (ds : List AtomDef). In (old ++ ds) x (Atom (length old + (count_open pairs + 1))) ↔ IsErrorOf (IsDetailOf (old ++ ds) (pairs_of pairs)) x) (sym is)
          (subst (λ (n : ℕ). In (New old details lacking detail) x (Atom (length old + (n + 1))) ↔ IsErrorOf (IsDetailOf (New old details lacking detail) (pairs_of pairs)) x) (sym one)
          (errors-in old pairs details lacking detail of_details of_lacking of_detail x))

-- ---- answers

told-exactly : (env : List AtomDef) (want r : SemType) (P : Shape → Type 0) → HasExactly env want P → (a : Answer) → AnswersSub env want r a → Tells (ResultHas env (Some r) P) (IsLeftOut env r P) a
told-exactly env want r P exact Yes h = λ x v p. h x v ((exact x v).1 p)
told-exactly env want r P exact (No x) h = let p : P x = (exact x h.0.0).0 h.0.1 in ((h.0.0, p, h.1), (λ met. h.1 (met x h.0.0 p)))

module _ (old : List AtomDef) (pairs : List Pair) (r : SemType) (r_defined : IsDefined old r) (defined : All (PairDefined old) pairs) where
  each-defined : (ps : List Pair) → All (PairDefined old) ps → All (λ (p : SemType × SemType). IsDefined old p.0 × IsDefined old p.1) (pairs_of ps)
  each-defined [] h = All-nil (λ (p : SemType × SemType). IsDefined old p.0 × IsDefined old p.1)
  each-defined (q ∷ ps) h =
      All-cons (λ (p : SemType × SemType). IsDefined old p.0 × IsDefined old p.1) (pair_of q) (pairs_of ps) (All-head (PairDefined old) q ps h) (each-defined ps (All-tail (PairDefined old) q ps h))

  errors-told : (defs : List AtomDef) → IsErrorGroup old pairs defs → (last : ℕ) → last ≡ length old + (count_open pairs + 1) → (a : Answer) → IsAnsweredOver old defs last r a → Answers old (HasErrorsOf r (pairs_of pairs)) a
  errors-told defs (front, detail, is, long, exact) last e a (keeps, sub) =
      let own = subst (λ (n : ℕ). AnswersSub (old ++ defs) (Atom n) r a) e sub in
      let told : Answers (old ++ defs) (HasErrorsOf r (pairs_of pairs)) a = told-exactly (old ++ defs) (Atom (length old + (count_open pairs + 1))) r (IsErrorOf (IsDetailOf (old ++ defs) (pairs_of pairs))) exact a own in
      (answers-kept old (old ++ defs) keeps (HasErrorsOf r (pairs_of pairs)) (r_defined, each-defined pairs defined) a).1 told

  pub errors-answered : (defs : List AtomDef) → IsGroup (length old) pairs defs → (last : ℕ) → last ≡ length old + (count_open pairs + 1) → {E : Type 0} (res : Result Answer E) → IfOk res (IsAnsweredOver old defs last r) → IfOk res (Answers old (HasErrorsOf r (pairs_of pairs)))
  errors-answered defs group last e (Ok a) h = errors-told defs (group-errors old pairs defs group) last e a h
  errors-answered defs group last e (Err x) h = tt

pub group-more : (old : List AtomDef) (pairs : List Pair) (defs new : List AtomDef) → IsGroup (length old) pairs defs → (new ≡ old) ⊎ (new ≡ old ++ defs) → HasErrorsMore old pairs new
group-more old pairs defs new group (inl e) = inl e
group-more old pairs defs new group (inr e) = inr (defs, group-errors old pairs defs group, e)

-- ---- limits

module _ (passes : List AtomDef → Asked → TypeLimit → Type 0) (old : List AtomDef) where
  pub errors-stop : (pairs : List Pair) (r : SemType) (defs : List AtomDef) → IsGroup (length old) pairs defs → (last : ℕ) → last ≡ length old + (count_open pairs + 1) → (res : Result Answer (Stop QuestionLimit)) → IfFault res (GroupStops passes old defs last r) → IfFault res (ErrorStops passes old pairs r)
  errors-stop pairs r defs group last e (Ok a) h = tt
  errors-stop pairs r defs group last e (Err Memory) h = tt
  errors-stop pairs r defs group last e (Err (Fault Atoms)) h = let long = group-long old pairs defs group in omega (arith, h, long)
  errors-stop pairs r defs group last e (Err (Fault (Types limit))) h = (defs, group-errors old pairs defs group, subst (λ (n : ℕ). passes (old ++ defs) (Without (Atom n) r) limit) e h)

  pub answered-over : (defs new : List AtomDef) → new ≡ old ++ defs → KeepsTypes old new → (last : ℕ) (r : SemType) → {E : Type 0} (res : Result Answer E) → IfOk res (AnswersSub new (Atom last) r) → IfOk res (IsAnsweredOver old defs last r)
  answered-over defs new e keeps last r (Ok a) h = (subst (KeepsTypes old) e keeps, subst (λ (env : List AtomDef). AnswersSub env (Atom last) r a) e h)
  answered-over defs new e keeps last r (Err x) h = tt

  pub asked-stop : (defs new : List AtomDef) → new ≡ old ++ defs → (last : ℕ) (r : SemType) → {A : Type 0} (res : Result A (Stop QuestionLimit)) → IfFault res (TypesPass passes new (Without (Atom last) r)) → IfFault res (GroupStops passes old defs last r)
  asked-stop defs new e last r (Ok a) h = tt
  asked-stop defs new e last r (Err Memory) h = tt
  asked-stop defs new e last r (Err (Fault Atoms)) h = absurd h
  asked-stop defs new e last r (Err (Fault (Types limit))) h = subst (λ (env : List AtomDef). passes env (Without (Atom last) r) limit) e h

  pub added-stop : (defs : List AtomDef) (last : ℕ) (r : SemType) → (A B : Type 0) (stop : Stop QuestionLimit) → IfFault {T = A} (Err stop) (TooManyAtoms old defs) → IfFault {T = B} (Err stop) (GroupStops passes old defs last r)
  added-stop defs last r A B Memory h = tt
  added-stop defs last r A B (Fault Atoms) h = h
  added-stop defs last r A B (Fault (Types limit)) h = absurd h

pub last-there : (old defs new : List AtomDef) → new ≡ old ++ defs → (last : ℕ) → last < length old + length defs → IsDefined new (Atom last)
last-there old defs new e last lt = subst (λ (env : List AtomDef). last < length env) (sym e) (let long = length-append old defs in omega (arith, lt, long))

-- the number of the last one
pub last-at : (old slice : List AtomDef) (pairs : List Pair) (open_ones : ℕ) → slice ≡ old → open_ones ≡ count_open pairs → length slice + (open_ones + 1) ≡ length old + (count_open pairs + 1)
last-at old slice pairs open_ones e o = let long = ap (λ (ds : List AtomDef). length ds) e in omega (arith, long, o)
