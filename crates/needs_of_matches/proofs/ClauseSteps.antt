-- Clauses of matches, as answers of calls.
use Rattle.std.proofs.Common.{◌≡◌, ◌++◌, ◌+◌, ◌<◌, ◌≤◌, ◌⊎◌, ◌↔◌, ◌∙◌, ℕ, false, List, [], ◌∷◌, length, IfOk, Option, Some, None, Result, Ok, Err, get_or, map, inl, inr, arith, refl, sym, subst, ap}
use Rattle.std.proofs.lemmas.Bool.{cases_lt}
use Rattle.std.proofs.lemmas.List.{get_or_default}
use Rattle.bal_base.specs.declared.fault.Fault.{Fault}
use Rattle.bal_base.specs.declared.shape.Shape.{Shape}
use Rattle.bal_base.specs.declared.stop.Memory.{Memory as NoMemory}
use Rattle.bal_base.specs.declared.stop.Stop.{Stop}
use Rattle.bal_base.specs.declared.stop.Stop.TheVariants.{Memory, Fault as OwnFault}
use Rattle.bal_base.specs.declared.text.Name.{Name}
use Rattle.checks.specs.Checks.{Check, Comes, ◌▷◌}
use Rattle.descriptors.specs.Described.{plain}
use Rattle.flow_narrowing.specs.declared.flow.Flow.{Flow}
use Rattle.operations.specs.declared.operation.Constant.{Constant}
use Rattle.operations.specs.Rows.{shape_of}
use Rattle.type_model.specs.declared.answers.TypeLimit.{TypeLimit}
use Rattle.type_model.specs.declared.atoms.AtomDef.{AtomDef}
use Rattle.type_model.specs.declared.basic.BasicSet.TheVariants.{Never}
use Rattle.type_model.specs.declared.basic.SemType.{SemType, Basic}
use Rattle.type_model.specs.declared.basic.Ty.{Ty}
use Rattle.type_model.specs.Calls.{Asked}
use Rattle.type_model.specs.Membership.{In}
use Rattle.typed_tree.specs.declared.stmt.TypedPattern.{TypedPattern}
use Rattle.typed_tree.specs.SharedTypes.{Shared}
use Rattle.check_words.specs.Branches.{IsOneOf, begins_clause, matched_as}
use Rattle.check_words.specs.Joins.{narrows_to}
use Rattle.check_words.specs.Sharing.{SameFlow, SameShared}
use Rattle.check_words.specs.Stands.{FlowBelow, MatchBelow, SharedBelow, Stands}
use Rattle.check_words.specs.State.{IsLast, MatchAtWork, State, UnitAtWork, with_type}
use Rattle.check_words.specs.Words.{some_over}
use Rattle.check_words.proofs.Coming.{given, next, regroup}
use Rattle.check_words.proofs.Entering.{known-stands}
use Rattle.check_words.proofs.Flowing.{flow-set}
use Rattle.check_words.proofs.Retyping.{retyped-below, same-retyped}
use Rattle.check_words.proofs.Same.{same-flow, same-list}
use Rattle.check_words.proofs.Standing.{flow-below, last-has}
use Rattle.check_kinds.proofs.Shapes.{plain-is}
use Rattle.check_work.proofs.Noting.{mapped-last}
use Rattle.needs_of_matches.specs.Clauses.{AreFirst, IsOf, enters_left, narrows_match, takes_clause}
use Rattle.needs_of_matches.proofs.MatchSteps.{match-below, match-set, match-stands}

-- ---- the variable of the match

pub retyped-as : (name : Name) (t u : Shared) (f g h : Flow) → SameShared t u → h ≡ with_type name (Some u) g → SameFlow f g → SameFlow (matched_as (Some name) t f) h
retyped-as name t u f g h same is known = subst (SameFlow (with_type name (Some t) f)) (sym is) (same-retyped name (Some t) (Some u) same f g known)

pub matched-below : (n : ℕ) (on : Option Name) (t : Shared) (f : Flow) → SharedBelow n t → FlowBelow n f → FlowBelow n (matched_as on t f)
matched-below n None t f below h = h
matched-below n (Some name) t f below h = retyped-below n name (Some t) below f h

pub mapped-is : {A B : Type 0} (f : A → B) (xs : List A) (x : A) → IsLast xs x → IsLast (map f xs) (f x)
mapped-is f xs x l = record { kept = map f l.kept; is = mapped-last f xs l.kept x l.is }

-- ---- the types of patterns

pub none-first : (ps : List TypedPattern) → AreFirst ps 0 (Basic Never)
none-first ps env x = (λ h. absurd h, λ e. absurd (omega (arith, e.2)))

pub first-more : (ps : List TypedPattern) (i : ℕ) (p : TypedPattern) (s u : SemType) → i < length ps → p ≡ get_or ps i p → AreFirst ps i s
    → ((env : List AtomDef) (x : Shape) → In env x u ↔ (In env x s ⊎ IsOf p x)) → AreFirst ps (i + 1) u
first-more ps i p s u lt is first more env x = (onward, back)
  where
    further : In env x s ⊎ IsOf p x → (k : ℕ) × (q : TypedPattern) × (k < i + 1) × (get_or ps k q ≡ q) × IsOf q x
    further (inl h) = let e = (first env x).0 h in (e.0, e.1, omega (arith, e.2), e.3, e.4)
    further (inr h) = (i, p, omega arith, sym is, h)

    onward : In env x u → (k : ℕ) × (q : TypedPattern) × (k < i + 1) × (get_or ps k q ≡ q) × IsOf q x
    onward h = further ((more env x).0 h)

    nearer : (k : ℕ) (q : TypedPattern) → k < i + 1 → get_or ps k q ≡ q → IsOf q x → (k < i) ⊎ (i < k + 1) → In env x s ⊎ IsOf p x
    nearer k q l e o (inl b) = inl ((first env x).1 (k, q, b, e, o))
    nearer k q l e o (inr b) =
        let same : k ≡ i = omega (arith, l, b) in
        let at : get_or ps i q ≡ q = subst (λ n. get_or ps n q ≡ q) same e in
        let one : q ≡ p = sym at ∙ get_or_default ps i q p lt ∙ sym is in
        inr (subst (λ r. IsOf r x) one o)

    cases : (k : ℕ) → (k < i) ⊎ (i < k + 1)
    cases k = by (cases_lt k i)
      where
        by : (k < i) ⊎ (i ≤ k) → (k < i) ⊎ (i < k + 1)
        by (inl b) = inl b
        by (inr b) = inr (omega (arith, b))

    back : (k : ℕ) × (q : TypedPattern) × (k < i + 1) × (get_or ps k q ≡ q) × IsOf q x → In env x u
    back e = (more env x).1 (nearer e.0 e.1 e.2 e.3 e.4 (cases e.0))

-- ---- a clause with `_`

module _ (s : State) (kept : List UnitAtWork) (u : UnitAtWork) (is : s.units ≡ kept ++ u ∷ []) (m : MatchAtWork) (last : IsLast s.matches m) (g : Flow) (same : SameFlow (matched_as m.on m.left m.before) g) where
  pub left-comes : Comes enters_left s (Ok tt) (record s { units = kept ++ record u { flow = g } ∷ []; ways = None })
  left-comes = next _ _ _ _ _ m s (given _ s m last) (flow-set s kept u is (matched_as m.on m.left m.before) g same (record s { units = kept ++ record u { flow = g } ∷ []; ways = None }) refl)

  pub left-stands : Stands s → Stands (record s { units = kept ++ record u { flow = g } ∷ []; ways = None })
  left-stands h =
      let n : ℕ = length s.atoms in
      let below = last-has (MatchBelow n) s.matches m last h.matches in
      known-stands s h kept u is s.blocks g (flow-below n (matched_as m.on m.left m.before) g same (matched-below n m.on m.left m.before below.left below.before))

-- ---- a clause with patterns

module _ (s : State) (kept : List UnitAtWork) (u : UnitAtWork) (is : s.units ≡ kept ++ u ∷ []) (opened : List MatchAtWork) (m : MatchAtWork) (are : s.matches ≡ opened ++ m ∷ [])
    (both : Shared × Shared) (ms : List MatchAtWork) (more : ms ≡ opened ++ record m { left = both.1 } ∷ []) (g : Flow) (same : SameFlow (matched_as m.on both.0 m.before) g) where
  pub taken-comes : Comes (takes_clause m both) s (Ok tt) (record s { matches = ms; units = kept ++ record u { flow = g } ∷ []; ways = None })
  taken-comes = let mid : State = record s { matches = ms } in
      next _ _ _ _ _ tt mid
      (match-set s opened m are (record m { left = both.1 }) (record m { left = both.1 })
      (record {
        at = refl;
        on = refl;
        before = same-flow m.before;
        left = refl;
        patterns = refl;
        clauses = refl;
        ends = same-list SameFlow same-flow m.ends;
      }) ms more)
      (flow-set mid kept u is (matched_as m.on both.0 m.before) g same (record s { matches = ms; units = kept ++ record u { flow = g } ∷ []; ways = None }) refl)

  pub taken-stands : SharedBelow (length s.atoms) both.0 → SharedBelow (length s.atoms) both.1 → Stands s
      → Stands (record s { matches = ms; units = kept ++ record u { flow = g } ∷ []; ways = None })
  taken-stands first second h =
      let n : ℕ = length s.atoms in
      let below = match-below s opened m are h in
      let mid : State = record s { matches = ms } in
      known-stands mid (match-stands s opened m are (record m { left = both.1 }) ms more (record { before = below.before; left = second; ends = below.ends }) h) kept u is s.blocks g
      (flow-below n (matched_as m.on both.0 m.before) g same (matched-below n m.on both.0 m.before first below.before))

module _ {A B C : Type 0} (m : Check State A) (n : A → Check State B) (k : B → Check State C) where
  -- where the first two stop, so does all
  regroup-stops : (old new : State) (stop : Stop Fault) → Comes (m ▷ n) old (Err stop) new → Comes (m ▷ λ a. n a ▷ k) old (Err stop) new
  unfolding ◌▷◌ Comes
  regroup-stops old new (OwnFault f) (inl h) = inl h
  regroup-stops old new (OwnFault f) (inr h) = inr (h.0, h.1, h.2, inl h.3)
  regroup-stops old new Memory h = tt

module _ (passes : List AtomDef → Asked → TypeLimit → Type 0) (s : State) (m : MatchAtWork) (last : IsLast s.matches m) where
  pub listed-comes : (mid new : State) (both : Shared × Shared) (r : Result (Unit {0}) (Stop Fault)) → Comes (narrows_match passes m) s (Ok both) mid → Comes (takes_clause m both) mid r new
      → Comes (begins_clause passes false) s r new
  listed-comes mid new both r h k =
      next _ _ _ _ _ m s (given _ s m last)
      (regroup (some_over (λ env (t : Shared). IsOneOf m.patterns env t.value)) (λ t. narrows_to passes m.left t m.at) (λ types. takes_clause m types) s mid new both r h k)

  pub listed-stops : (new : State) (stop : Stop Fault) → Comes (narrows_match passes m) s (Err stop) new → Comes (begins_clause passes false) s (Err stop) new
  listed-stops new stop h =
      next _ _ _ _ _ m s (given _ s m last)
      (regroup-stops (some_over (λ env (t : Shared). IsOneOf m.patterns env t.value)) (λ t. narrows_to passes m.left t m.at) (λ types. takes_clause m types) s new stop h)

-- ---- one pattern more

pub with-of : (p : TypedPattern) (c : Constant) (s : SemType) (r : Result SemType NoMemory) → p.value ≡ Some c
    → IfOk r (λ u. (env : List AtomDef) (x : Shape) → In env x u ↔ (In env x s ⊎ (x ≡ shape_of c))) → IfOk r (λ u. (env : List AtomDef) (x : Shape) → In env x u ↔ (In env x s ⊎ IsOf p x))
with-of p c s (Err e) is h = tt
with-of p c s (Ok u) is h = λ env x. (λ i. onward env x ((h env x).0 i), λ i. (h env x).1 (back env x i))
  where
    one : (a b : Constant) → Some a ≡ Some b → a ≡ b
    one a b e = cc

    onward : (env : List AtomDef) (x : Shape) → In env x s ⊎ (x ≡ shape_of c) → In env x s ⊎ IsOf p x
    onward env x (inl i) = inl i
    onward env x (inr e) = inr (c, is, e)

    back : (env : List AtomDef) (x : Shape) → In env x s ⊎ IsOf p x → In env x s ⊎ (x ≡ shape_of c)
    back env x (inl i) = inl i
    back env x (inr o) = inr (o.2 ∙ ap shape_of (one o.0 c (sym o.1 ∙ is)))

-- all of them are the patterns
pub all-first : (ps : List TypedPattern) (i : ℕ) (s : SemType) → i ≡ length ps → AreFirst ps i s → AreFirst ps (length ps) s
all-first ps i s e h = subst (λ n. AreFirst ps n s) e h

pub first-of : (ps : List TypedPattern) (s : SemType) (t : Ty) → t ≡ plain s → AreFirst ps (length ps) s → (env : List AtomDef) → IsOneOf ps env t
first-of ps s t e h env = subst (IsOneOf ps env) (sym e) (plain-is env s _ (λ x v. h env x))
