-- Choices, casts, tests and checks of typed parts.
use Rattle.std.proofs.Common.{◌≡◌, ◌∙◌, ◌⊎◌, inl, inr, ℕ, Bool, true, false, List, [], ◌∷◌, length, All, Option, Some, None, arith, refl, rules, sym, subst, ap}
use Rattle.std.specs.Prelude.{slice_get}
use Rattle.std.specs.Ptr.{null_ptr}
use Rattle.bal_base.specs.declared.place.Place.{Place}
use Rattle.bal_base.specs.declared.shape.Shape.{Shape}
use Rattle.bal_base.specs.declared.text.Name.{Name}
use Rattle.bal_tree.specs.declared.name.QualifiedName.{QualifiedName}
use Rattle.checks.specs.Checks.{Gives, ◌▷◌, gives_some}
use Rattle.checks.specs.Questions.{below}
use Rattle.descriptors.specs.declared.names.Names.{Names}
use Rattle.descriptors.specs.Described.{IsPlain}
use Rattle.needs.specs.Needs.{asks}
use Rattle.type_model.specs.declared.answers.TypeLimit.{TypeLimit}
use Rattle.type_model.specs.declared.atoms.AtomDef.{AtomDef}
use Rattle.type_model.specs.declared.basic.BasicSet.TheVariants.{ErrorAll}
use Rattle.type_model.specs.declared.basic.SemType.{SemType, And', Basic}
use Rattle.type_model.specs.declared.basic.Ty.{Ty}
use Rattle.type_model.specs.Calls.{Asked}
use Rattle.type_model.specs.Defined.{IsDefined, TyBelow}
use Rattle.type_model.specs.Inclusion.{HasExactly, Sub}
use Rattle.type_model.specs.Membership.{In}
use Rattle.operations.specs.declared.operation.Operation.TheVariants.{Cast, Test}
use Rattle.operations.specs.Kinds.{IsBoolean, IsError, IsNil}
use Rattle.operations.specs.Rows.{ResultHas, Surroundings}
use Rattle.typed_tree.proofs.ExprLayers.{expr_layers}
use Rattle.typed_tree.specs.declared.expr.TypedExpr.{TypedExpr}
use Rattle.typed_tree.specs.declared.form.StrictForm.TheVariants as form
use Rattle.typed_tree.specs.Exprs.{type_of}
use Rattle.typed_tree.specs.SharedTypes.{Shared, sem_of}
use Rattle.typed_tree.specs.Views.{IsCheck, IsConditional, IsElvis, IsStrict}
use Rattle.expr_needs.specs.declared.kind.Kind.TheVariants as kind
use Rattle.expr_needs.specs.Needs.{Checks, ChecksPanicking}
use Rattle.flow_narrowing.specs.declared.flow.Variable.{Variable}
use Rattle.flow_narrowing.specs.Flows.{IfShared}
use Rattle.check_words.specs.Joins.{narrows_to}
use Rattle.check_words.specs.Stands.{PartBelow, SharedBelow, UnitBelow}
use Rattle.check_words.specs.State.{AreLast, IsLast, State, UnitAtWork, shared_now}
use Rattle.check_words.specs.Values.{casts, checked, checks, chooses, fills_nil, narrowed_by, tests, ways_if, ways_of_test}
use Rattle.check_words.specs.Words.{Atoms, OfKind, One, PartOf, SharedOf, Three, Two, UnionOf}
use Rattle.check_words.proofs.Standing.{last-has, last-have}
use Rattle.tree_promises.specs.Made.{Booleans, ErrorsAreResults, MadeIsTyped, sem}
use Rattle.tree_promises.specs.Types.{IsTypedExpr}
use Rattle.tree_promises.proofs.Pieces.{made-is-typed}
use Rattle.typed_needs.specs.Choices.{CastIsTyped, CheckIsTyped, ChoiceIsTyped, ChoicesAreTyped, FilledIsTyped, TestIsTyped}
use Rattle.typed_needs.specs.Pieces.{IsBefore, MakesTyped}
use Rattle.typed_needs.specs.Placing.{IsPlaced}
use Rattle.typed_needs.proofs.Questions.{where-false-adds-none}
use Rattle.typed_needs.proofs.Leaving.{LeavesParts, Makes, as-same, asking-leaves, between, choice-left, flow-left, flow-seen, leaves-some, leaves-then, made, then-same, want-dropped, ways-set}
use Rattle.typed_needs.proofs.Opened.{as-lasts, cons-same, exactly-later, last-defined, same-lasts, sub-later}
use Rattle.typed_needs.proofs.Strict.{made-defined, strict-type}
use Rattle.typed_needs.proofs.Placed.{SlotMade, last-same, placed-result, placed-slot, slot-made, units-kept}

-- ---- what is made

abbrev ChoiceMade : Place → Atoms → List TypedExpr → TypedExpr → Type 0
ChoiceMade at env parts e = Three parts (λ c a b. (t : Shared) × UnionOf (sem a) (sem b) env t.value × IsConditional c a b t at e)

abbrev IsFilledOf : TypedExpr → TypedExpr → Atoms → Shape → Type 0
IsFilledOf a b env x = (In env x (sem a) × ¬ IsNil x) ⊎ In env x (sem b)

abbrev FilledMade : ℕ → Place → Atoms → List TypedExpr → TypedExpr → Type 0
FilledMade own at env parts e = Two parts (λ a b. (t : Shared) × IsPlain (IsFilledOf a b env) env t.value × IsElvis own a b t at e)

abbrev CastMade : Shared → Place → Atoms → List TypedExpr → TypedExpr → Type 0
CastMade t at env parts e = One parts (λ a. (r : Shared) × SharedOf (sem a) (sem_of t) env r.value × IsStrict (form.Cast t) parts r at e)

abbrev TestMade : Shared → Place → Atoms → List TypedExpr → TypedExpr → Type 0
TestMade t at env parts e = (u : Shared) × OfKind kind.Truth env u.value × IsStrict (form.Is t) parts u at e

abbrev CheckMade : Bool → ℕ → Place → Atoms → List TypedExpr → TypedExpr → Type 0
CheckMade panics own at env parts e = One parts (λ b. (t : Shared) × PartOf (sem b) (λ x. ¬ IsError x) env t.value × IsCheck panics own b t at e)

choice-opened : (at : Place) (old new : State) → chooses at old (Gives tt) new → Makes 3 (ChoiceMade at) old new
unfolding ◌▷◌
choice-opened at old new (c, a, first, (u, b, second, makes-it)) =
    between 3 (ChoiceMade at) old b new new (then-same old a b (choice-left old a c first) (flow-left _ a b u second))
    (made 3 (ChoiceMade at) tt b new makes-it) (as-same new new refl)

-- the slot is that of the part that was last but one
pub record KeptIn (count : ℕ) (P : ℕ → Atoms → List TypedExpr → TypedExpr → Type 0) (old new : State) : Type 0 where
  pub own : ℕ
  pub mid : State
  pub part : TypedExpr
  pub slot : SlotMade (type_of part) own old mid
  pub units : new.units ≡ mid.units
  pub made : Makes count (P own) old new

filled-opened : (at : Place) (old new : State) → fills_nil at old (Gives tt) new
    → (k : KeptIn 2 (λ own. FilledMade own at) old new) × (b : TypedExpr) × AreLast old.found 2 (k.part ∷ b ∷ [])
unfolding ◌▷◌ gives_some
filled-opened at old new (p, a, (last, first), (own, b, slot, makes-it)) =
    let here : SlotMade (type_of p.0) own a b = slot-made (type_of p.0) own a b slot in
    let from : SlotMade (type_of p.0) own old b = subst (λ (s : State). SlotMade (type_of p.0) own s b) first here in (
      record {
        own = own;
        mid = b;
        part = p.0;
        slot = from;
        units = units-kept 2 (FilledMade own at) tt b new makes-it;
        made = between 2 (FilledMade own at) old b new new from.same (made 2 (FilledMade own at) tt b new makes-it) (as-same new new refl);
      },
      p.1,
      last,
    )

cast-opened : (at : Place) (old new : State) → casts at old (Gives tt) new → (t : Shared) × IsLast old.wants (Some t) × Makes 1 (CastMade t at) old new
unfolding ◌▷◌ gives_some
cast-opened at old new (t, a, (last, first), (u, b, second, makes-it)) = (
  t,
  last,
  between 1 (CastMade t at) old b new new (then-same old a b (as-same old a first) (want-dropped 1 a b u second)) (made 1 (CastMade t at) tt b new makes-it)
      (as-same new new refl),
)

checked-opened : (panics : Bool) (at : Place) (old new : State) → checked panics at old (Gives tt) new
    → (k : KeptIn 1 (λ own. CheckMade panics own at) old new) × IsLast old.found k.part
unfolding ◌▷◌ gives_some
checked-opened panics at old new (p, a, (last, first), (own, b, slot, makes-it)) =
    let here : SlotMade (type_of p) own a b = slot-made (type_of p) own a b slot in
    let from : SlotMade (type_of p) own old b = subst (λ (s : State). SlotMade (type_of p) own s b) first here in (
      record {
        own = own;
        mid = b;
        part = p;
        slot = from;
        units = units-kept 1 (CheckMade panics own at) tt b new makes-it;
        made = between 1 (CheckMade panics own at) old b new new from.same (made 1 (CheckMade panics own at) tt b new makes-it) (as-same new new refl);
      },
      last,
    )

-- ---- the types of what is made

choice-type : (c a b : TypedExpr) (t : Shared) (at : Place) (e : TypedExpr) → IsConditional c a b t at e → type_of e ≡ t
choice-type c a b t at e (k, m, l, is, first, second, third) = search (rules, expr_layers)

filled-type : (own : ℕ) (a b : TypedExpr) (t : Shared) (at : Place) (e : TypedExpr) → IsElvis own a b t at e → type_of e ≡ t
filled-type own a b t at e (l, r, is, left, right) = search (rules, expr_layers)

module _ (env : List AtomDef) where
  -- the last parts are of types that name atoms that were there
  lasts-defined : (count : ℕ) (s : State) (es : List TypedExpr) → IsBefore env s → AreLast s.found count es → All (PartBelow (length s.atoms)) es
  lasts-defined count s es before last = last-have (PartBelow (length s.atoms)) count s.found es last before.stands.found

  module _ (passes : List AtomDef → Asked → TypeLimit → Type 0) (names : Names) (place : Surroundings) where
    abbrev Pieces : SemType → Type 0
    Pieces truth = MadeIsTyped env place truth

    three-same : (a b c x y z : TypedExpr) → x ∷ y ∷ z ∷ [] ≡ a ∷ b ∷ c ∷ [] → (x ≡ a) × (y ≡ b) × (z ≡ c)
    three-same a b c x y z e =
        let first = cons-same x a (y ∷ z ∷ []) (b ∷ c ∷ []) e in let second = cons-same y b (z ∷ []) (c ∷ []) first.1 in
        (first.0, second.0, (cons-same z c [] [] second.1).0)

    choice : ChoiceIsTyped passes names env place
    choice at old new c a b before after met ends first second third boolean =
        let (ps, p, l, (x, y, z, is, (t, union, view)), found, atoms) = choice-opened at old new met in
        let same : x ∷ y ∷ z ∷ [] ≡ c ∷ a ∷ b ∷ [] = sym is ∙ same-lasts old.found 3 ps (c ∷ a ∷ b ∷ []) l ends in
        let (ec, ea, eb) = three-same c a b x y z same in
        let below : All (PartBelow (length old.atoms)) (x ∷ y ∷ z ∷ []) = lasts-defined 3 old (x ∷ y ∷ z ∷ []) before (subst (AreLast old.found 3) is l) in
        let defined = made-defined env 3 old new p t after (choice-type x y z t at p view) found atoms in
        let under : Sub env (sem y) (sem_of t) =
        sub-later env old.atoms (sem y) (sem_of t) before.keeps (below 1 y (omega arith)).0 defined (λ s valid i. (union.shapes s valid).1 (inl i)) in
        let over : Sub env (sem z) (sem_of t) =
        sub-later env old.atoms (sem z) (sem_of t) before.keeps (below 2 z (omega arith)).0 defined (λ s valid i. (union.shapes s valid).1 (inr i)) in
        let typed : IsTypedExpr env place p =
        (let pieces : Pieces (sem_of t) = made-is-typed env place (sem_of t) in pieces.chosen x y z t at p view
        (subst (IsTypedExpr env place) (sym ec) first) (subst (IsTypedExpr env place) (sym ea) second) (subst (IsTypedExpr env place) (sym eb) third)
        (subst (λ (q : TypedExpr). Booleans env (sem q)) (sym ec) boolean) under over) in
        record { part = p; found = found; typed = typed }

    two-same : (a b x y : TypedExpr) → x ∷ y ∷ [] ≡ a ∷ b ∷ [] → (x ≡ a) × (y ≡ b)
    two-same a b x y e = let first = cons-same x a (y ∷ []) (b ∷ []) e in (first.0, (cons-same y b [] [] first.1).0)

    filled : FilledIsTyped passes names env place
    filled at old new a b truth before after met ends first second placed is-truth =
        let (k, r, last) = filled-opened at old new met in
        let (ps, p, l, (x, y, is, (t, union, view)), found, atoms) = k.made in
        let (ea, eb) = two-same a b x y (sym is ∙ same-lasts old.found 2 ps (a ∷ b ∷ []) l ends) in
        let (ek, er) = two-same a b k.part r (same-lasts old.found 2 (k.part ∷ r ∷ []) (a ∷ b ∷ []) last ends) in
        let kept : k.part ≡ x = ek ∙ sym ea in
        let below : All (PartBelow (length old.atoms)) (x ∷ y ∷ []) = lasts-defined 2 old (x ∷ y ∷ []) before (subst (AreLast old.found 2) is l) in
        let defined = made-defined env 2 old new p t after (filled-type k.own x y t at p view) found atoms in
        let over : Sub env (sem y) (sem_of t) =
        sub-later env old.atoms (sem y) (sem_of t) before.keeps (below 1 y (omega arith)).0 defined (λ s valid i. (union.shapes s valid).1 (inr i)) in
        let held : slice_get place.slots k.own ≡ Some (sem x) =
        subst (λ (q : TypedExpr). slice_get place.slots k.own ≡ Some (sem q)) kept (placed-slot place (type_of k.part) k.own old k.mid new k.slot k.units placed) in
        let typed : IsTypedExpr env place p =
        (let pieces : Pieces truth = made-is-typed env place truth in pieces.filled k.own x y t at p (sem x) is-truth view
        (subst (IsTypedExpr env place) (sym ea) first) (subst (IsTypedExpr env place) (sym eb) second) held (λ s valid i. i) over) in
        record { part = p; found = found; typed = typed }

    cast : CastIsTyped passes names env place
    cast at old new e before after met last typed =
        let (t, want, (ps, p, l, (a, is, (r, both, view)), found, atoms)) = cast-opened at old new met in
        let one : a ≡ e = (cons-same a e [] [] (sym is ∙ same-lasts old.found 1 ps (e ∷ []) l (as-lasts old.found e last))).0 in
        let strict : IsStrict (form.Cast t) (a ∷ []) r at p = subst (λ xs. IsStrict (form.Cast t) xs r at p) is view in
        let defined = made-defined env 1 old new p r after (strict-type (form.Cast t) (a ∷ []) r at p strict) found atoms in
        let under : IsDefined old.atoms (sem a) = subst (λ (q : TypedExpr). IsDefined old.atoms (sem q)) (sym one) (last-defined env old e before last) in
        let wanted : SharedBelow (length old.atoms) t = last-has (IfShared (TyBelow (length old.atoms))) old.wants (Some t) want before.stands.wants in
        let has : ResultHas env (Some (sem_of r)) (λ x. In env x (sem a) × In env x (sem_of t)) = λ x valid i.
        (before.keeps.shapes (sem_of r) defined x).0 ((both.shapes x valid).1 ((before.keeps.shapes (sem a) under x).1 i.0, (before.keeps.shapes (sem_of t) wanted.0 x).1 i.1)) in
        let pieces : Pieces (sem_of r) = made-is-typed env place (sem_of r) in
        record {
          part = p;
          found = found;
          typed = pieces.strict (form.Cast t) (a ∷ []) r at p strict (subst (IsTypedExpr env place) (sym one) typed, tt)
              (pieces.one_row (Cast (sem_of t)) (sem a ∷ []) (sem_of r) has);
        }

    -- ---- tests

    narrows-left : (s t : Shared) (at : Place) → LeavesParts (narrows_to passes s t at)
    narrows-left s t at =
        leaves-then _ _ (leaves-some _) (λ u. leaves-then _ _ (asking-leaves _ (where-false-adds-none passes s.value t.value at)) (λ n. leaves-some _))

    narrowed-left : (name : Name) (v : Variable) (t : Shared) (at : Place) → LeavesParts (narrowed_by passes name v t at)
    narrowed-left name v t at = leaves-then _ _ flow-seen (λ f. leaves-then _ _ (narrows-left (shared_now v) t at) (λ types. leaves-some _))

    ways-if-left : (q : QualifiedName) (v : Option Variable) (t : Shared) (at : Place) → LeavesParts (ways_if passes q v t at)
    ways-if-left q None t at = leaves-some _
    ways-if-left q (Some v) t at = narrowed-left q.word.name v t at

    test-left : (name : Option QualifiedName) (t : Shared) (at : Place) → LeavesParts (ways_of_test passes name t at)
    test-left None t at = leaves-some _
    test-left (Some q) t at = leaves-then _ _ flow-seen (λ f. ways-if-left q _ t at)

    test-opened : (name : Option QualifiedName) (at : Place) (old new : State) → tests passes name at old (Gives tt) new → (t : Shared) × Makes 1 (TestMade t at) old new
    unfolding ◌▷◌ gives_some
    test-opened name at old new (t, a, (last, first), (u, b, second, (w, c, third, (v, d, makes-it, set)))) = (
      t,
      between 1 (TestMade t at) old c d new
          (then-same old a c (as-same old a first) (then-same a b c (want-dropped 1 a b u second) (test-left name t at b c w third)))
          (made 1 (TestMade t at) v c d makes-it) (ways-set w d new tt set),
    )

    tested : TestIsTyped passes names env place
    tested name at old new e after met last typed =
        let (t, (ps, p, l, (u, truth, view), found, atoms)) = test-opened name at old new met in
        let strict : IsStrict (form.Is t) (e ∷ []) u at p =
        subst (λ xs. IsStrict (form.Is t) xs u at p) (same-lasts old.found 1 ps (e ∷ []) l (as-lasts old.found e last)) view in
        let defined = made-defined env 1 old new p u after (strict-type (form.Is t) (e ∷ []) u at p strict) found atoms in
        let exactly : HasExactly env (sem_of u) IsBoolean =
        exactly-later env new.atoms IsBoolean (sem_of u) after.keeps (subst (λ (xs : Atoms). IsDefined xs (sem_of u)) (sym atoms) defined)
        (subst (λ (xs : Atoms). HasExactly xs (sem_of u) IsBoolean) (sym atoms) truth.0.shapes) in
        let pieces : Pieces (sem_of u) = made-is-typed env place (sem_of u) in
        record {
          part = p;
          found = found;
          typed = pieces.strict (form.Is t) (e ∷ []) u at p strict (typed, tt) (pieces.one_row (Test (sem_of t)) (sem e ∷ []) (sem_of u) (λ x valid b. (exactly x valid).1 b));
        }

    -- ---- checks

    -- `results`: what is known of errors where they don't panic
    checked-part : (panics : Bool) (at : Place) (old new : State) (e : TypedExpr) (truth : SemType) → checked panics at old (Gives tt) new → IsLast old.found e
        → IsTypedExpr env place e → IsPlaced place new → HasExactly env truth IsBoolean
        → ((mid : State) (k : KeptIn 1 (λ own. CheckMade panics own at) old new) → panics ≡ false → ErrorsAreResults env place (sem e)) → MakesTyped passes names env place 1 old new
    checked-part panics at old new e truth met last typed placed is-truth results =
        let (k, kept) = checked-opened panics at old new met in
        let (ps, p, l, (a, is, (t, part, view)), found, atoms) = k.made in
        let one : a ≡ e = (cons-same a e [] [] (sym is ∙ same-lasts old.found 1 ps (e ∷ []) l (as-lasts old.found e last))).0 in
        let same : k.part ≡ e = last-same old.found k.part e kept last in
        let check : IsCheck panics k.own e t at p = subst (λ (q : TypedExpr). IsCheck panics k.own q t at p) one view in
        let held : slice_get place.slots k.own ≡ Some (sem e) =
        subst (λ (q : TypedExpr). slice_get place.slots k.own ≡ Some (sem q)) same (placed-slot place (type_of k.part) k.own old k.mid new k.slot k.units placed) in
        let pieces : Pieces truth = made-is-typed env place truth in
        record {
          part = p;
          found = found;
          typed = pieces.checked panics k.own e t at p (sem e) is-truth check typed held (λ s valid i. i) (results k.mid k);
        }

    panicking : CheckIsTyped passes names env place ChecksPanicking
    panicking at old new e truth before met last typed placed is-truth =
        checked-part true at old new e truth met last typed placed is-truth (λ mid k is. absurd (let bad : ⊥ = cc in bad))

    -- what is asked of the errors
    asked : (at : Place) (old new : State) → checks passes at old (Gives tt) new
        → (a : TypedExpr) × (u : UnitAtWork) × (errors : Ty) × (mid : State) × IsLast old.found a × IsLast old.units u × PartOf (sem a) IsError old.atoms errors
        × Sub old.atoms errors.sem (sem_of u.result) × (mid ≡ old) × checked false at mid (Gives tt) new
    unfolding ◌▷◌ gives_some asks below
    asked at old new (a, s, (last, first), (u, t, (hand, second), (errors, v, (part, third), (x, w, ((under, atoms), over), rest)))) =
        let one : s ≡ old = first in let two : t ≡ old = second ∙ one in let three : v ≡ old = third ∙ two in
        let four : w ≡ old = over ∙ ap (λ (env : Atoms). record v { atoms = env }) atoms ∙ three in (
          a,
          u,
          errors,
          w,
          last,
          subst (λ (s : State). IsLast s.units u) one hand,
          subst (λ (s : State). PartOf (sem a) IsError s.atoms errors) two part,
          subst (λ (s : State). Sub s.atoms errors.sem (sem_of u.result)) three under,
          four,
          rest,
        )

    -- what is of both: the errors of a type
    abbrev errors_of : SemType → SemType
    errors_of t = And' (record { ptr = null_ptr; alloc = record { memory = _ }; value = tt }) t (record { ptr = null_ptr; alloc = record { memory = _ }; value = tt }) (Basic ErrorAll)

    errors-are-results : (old : State) (e : TypedExpr) (u : UnitAtWork) (errors : Ty) → IsBefore env old → IsLast old.found e → IsLast old.units u
        → PartOf (sem e) IsError old.atoms errors → Sub old.atoms errors.sem (sem_of u.result) → place.result ≡ sem_of u.result → ErrorsAreResults env place (sem e)
    errors-are-results old e u errors before last hand part under result =
        let defined : IsDefined old.atoms (sem e) = last-defined env old e before last in
        let unit : UnitBelow (length old.atoms) u = last-has (UnitBelow (length old.atoms)) old.units u hand before.stands.units in (
          errors_of (sem e),
          (λ x valid. ((λ i. i), (λ i. i))),
          (λ x valid i. subst (λ (t : SemType). In env x t) (sym result) ((before.keeps.shapes (sem_of u.result) unit.result.0 x).0
              (under x valid ((part.shapes x valid).1 ((before.keeps.shapes (sem e) defined x).1 i.0, i.1))))),
        )

    checked-so : CheckIsTyped passes names env place Checks
    checked-so at old new e truth before met last typed placed is-truth =
        let (a, u, errors, mid, part, hand, is, under, same, rest) = asked at old new met in
        let one : a ≡ e = last-same old.found a e part last in
        let met' : checked false at old (Gives tt) new = subst (λ (s : State). checked false at s (Gives tt) new) same rest in
        checked-part false at old new e truth met' last typed placed is-truth (λ mid k quiet.
        errors-are-results old e u errors before last hand (subst (λ (q : TypedExpr). PartOf (sem q) IsError old.atoms errors) one is) under
        (placed-result place (type_of k.part) k.own old k.mid new u k.slot k.units placed hand))

    pub choices-are-typed : ChoicesAreTyped passes names env place
    choices-are-typed = record { choices = choice; filled = filled; casts = cast; tests = tested; checks = checked-so; panicking = panicking }
