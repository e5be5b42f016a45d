-- Variables that are joined, one by one.
use Rattle.std.proofs.Common.{◌≡◌, ◌<◌, ◌+◌, ℕ, zero, suc, List, [], ◌∷◌, ◌++◌, Option, Some, IsSomeAnd, Result, Ok, Err, IfOk, length, slice_get, ⊎_elim, refl, sym, subst, ap, ◌∙◌, arith}
use Rattle.std.proofs.lemmas.Bool.{cases_lt}
use Rattle.std.proofs.lemmas.List.{length_push}
use Rattle.std.proofs.lemmas.List.Elements.{All-push}
use Rattle.bal_base.specs.declared.stop.Memory.{Memory as NoMemory}
use Rattle.type_model.specs.declared.atoms.AtomDef.{AtomDef}
use Rattle.type_model.specs.declared.basic.SemType.{SemType}
use Rattle.type_model.specs.declared.basic.Ty.{Ty}
use Rattle.type_model.specs.Defined.{NamesBelow, TyBelow}
use Rattle.type_model.specs.Inclusion.{HaveSameShapes}
use Rattle.type_model.specs.SameType.{IsSameType}
use Rattle.descriptors.specs.Described.{IsUnion, with_choices}
use Rattle.descriptors.proofs.ChoicesBelow.{with_choices-below}
use Rattle.flow_narrowing.specs.declared.flow.Joins.{Joins}
use Rattle.flow_narrowing.specs.declared.flow.Variable.{Variable}
use Rattle.flow_narrowing.specs.Asked.{IsEither}
use Rattle.flow_narrowing.specs.Flows.{AreJoined, IsJoined, VariableBelow, VariablesBelow}
use Rattle.flow_narrowing.proofs.Failing.{then}
use Rattle.flow_narrowing.proofs.Written.{either-in}

-- ---- one more at the end of a list

slice_get-front : {X : Type 0} (xs ys : List X) (i : ℕ) → i < length xs → slice_get (xs ++ ys) i ≡ slice_get xs i
slice_get-front [] ys i lt = absurd (omega (arith, lt))
slice_get-front (x ∷ xs) ys zero lt = refl
slice_get-front (x ∷ xs) ys (suc i) lt = slice_get-front xs ys i (omega (arith, lt))

slice_get-last : {X : Type 0} (xs : List X) (x : X) (i : ℕ) → i ≡ length xs → slice_get (xs ++ x ∷ []) i ≡ Some x
slice_get-last [] x zero e = refl
slice_get-last [] x (suc i) e = absurd (omega (arith, e))
slice_get-last (y ∷ ys) x zero e = absurd (omega (arith, e))
slice_get-last (y ∷ ys) x (suc i) e = slice_get-last ys x i (omega (arith, e))

-- ---- variables

module _ (env : List AtomDef) (which : Joins) (vs ws : List Variable) where
  pub none-joined : AreJoined env which 0 vs ws []
  none-joined = record { length = refl; each = λ i v w lt a b. absurd (omega (arith, lt)) }

  one-some : (o : Option Variable) (v w u : Variable) → o ≡ Some u → IsJoined env which v w u → IsSomeAnd o (IsJoined env which v w)
  one-some o v w u e j = subst (λ o. IsSomeAnd o (IsJoined env which v w)) (sym e) j

  some-same : (a b : Variable) (o : Option Variable) → o ≡ Some a → o ≡ Some b → a ≡ b
  some-same a b o e f = let g : Some a ≡ Some b = sym e ∙ f in cc

  pub more-joined : (n : ℕ) (v w u : Variable) (us : List Variable) → AreJoined env which n vs ws us → slice_get vs n ≡ Some v → slice_get ws n ≡ Some w
      → IsJoined env which v w u → AreJoined env which (n + 1) vs ws (us ++ u ∷ [])
  more-joined n v w u us j at_v at_w is = record {
    length = length_push us u ∙ ap (λ k. k + 1) j.length;
    each = λ i x y lt at_x at_y. ⊎_elim
        (λ below. subst (λ o. IsSomeAnd o (IsJoined env which x y)) (sym (slice_get-front us (u ∷ []) i (omega (arith, below, j.length)))) (j.each i x y below at_x at_y))
        (λ past. let here : i ≡ n = omega (arith, past, lt) in
        let same_v : v ≡ x = some-same v x (slice_get vs n) at_v (ap (slice_get vs) (sym here) ∙ at_x) in
        let same_w : w ≡ y = some-same w y (slice_get ws n) at_w (ap (slice_get ws) (sym here) ∙ at_y) in
        one-some (slice_get (us ++ u ∷ []) i) x y u (slice_get-last us u i (here ∙ sym j.length)) (subst (λ a. IsJoined env which a y u) same_v (subst (λ b. IsJoined env which v b u) same_w is)))
        (cases_lt i n);
  }

-- ---- the union of two types

union-is : (m : List AtomDef) (s t : Ty) (u c : SemType) (r : Ty) → IsEither (IsSameType s.sem) (IsSameType t.sem) u → HaveSameShapes m c u
    → r ≡ record { sem = c; lists = with_choices s.lists t.lists; maps = with_choices s.maps t.maps } → IsUnion s t m r
union-is m s t u c r is same e = subst (IsUnion s t m) (sym e) (record {
  shapes = λ x valid. then (same x valid) (either-in m x s.sem t.sem u is);
  lists = refl;
  maps = refl;
})

union-below : (n : ℕ) (s t : Ty) (c : SemType) (r : Ty) → NamesBelow n c → TyBelow n s → TyBelow n t
    → r ≡ record { sem = c; lists = with_choices s.lists t.lists; maps = with_choices s.maps t.maps } → TyBelow n r
union-below n s t c r below h k e =
    subst (TyBelow n) (sym e) (below, with_choices-below n s.lists t.lists h.1 k.1, with_choices-below n s.maps t.maps h.2 k.2)

pub unions-are : (m : List AtomDef) (s t : Ty) (u c : SemType) (r : Result Ty NoMemory) → IsEither (IsSameType s.sem) (IsSameType t.sem) u → HaveSameShapes m c u
    → IfOk r (λ v. v ≡ record { sem = c; lists = with_choices s.lists t.lists; maps = with_choices s.maps t.maps }) → IfOk r (IsUnion s t m)
unions-are m s t u c (Ok v) is same e = union-is m s t u c v is same e
unions-are m s t u c (Err stop) is same e = tt

pub unions-below : (n : ℕ) (s t : Ty) (c : SemType) (r : Result Ty NoMemory) → NamesBelow n c → TyBelow n s → TyBelow n t
    → IfOk r (λ v. v ≡ record { sem = c; lists = with_choices s.lists t.lists; maps = with_choices s.maps t.maps }) → IfOk r (TyBelow n)
unions-below n s t c (Ok v) below h k e = union-below n s t c v below h k e
unions-below n s t c (Err stop) below h k e = tt

-- ---- a loop over variables, over atoms that stay

pub one-joined : (env env2 env3 : List AtomDef) (which : Joins) (vs ws us more : List Variable) (i : ℕ) (v w u : Variable) → env2 ≡ env → env3 ≡ env2
    → VariablesBelow (length env) us → AreJoined env which i vs ws us → VariableBelow (length env2) u → IsJoined env2 which v w u
    → slice_get vs i ≡ Some v → slice_get ws i ≡ Some w → more ≡ us ++ u ∷ []
    → (env3 ≡ env) × VariablesBelow (length env) more × AreJoined env which (i + 1) vs ws more
one-joined env env2 env3 which vs ws us more i v w u e f below joined fine is at_v at_w made = (
  f ∙ e,
  subst (VariablesBelow (length env)) (sym made) (All-push (VariableBelow (length env)) us u below (subst (λ m. VariableBelow (length m) u) e fine)),
  subst (AreJoined env which (i + 1) vs ws) (sym made) (more-joined env which vs ws i v w u us joined at_v at_w (subst (λ m. IsJoined m which v w u) e is)),
)
