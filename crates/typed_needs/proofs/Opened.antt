-- What stands behind a need that is met.
use Rattle.std.proofs.Common.{◌≡◌, ◌∙◌, ◌++◌, inl, inr, ℕ, suc, All, Bool, true, false, List, [], ◌∷◌, length, map, Option, Some, arith, length-append, refl, rules, sym, subst, ap}
use Rattle.bal_base.specs.declared.place.Place.{Place}
use Rattle.bal_base.specs.declared.shape.Shape.{Shape}
use Rattle.checks.specs.Checks.{Gives, ◌▷◌, gives_some}
use Rattle.checks.specs.Questions.{below}
use Rattle.descriptors.specs.declared.names.Names.{Names}
use Rattle.needs.specs.Needs.{asks, does}
use Rattle.type_model.specs.declared.answers.TypeLimit.{TypeLimit}
use Rattle.type_model.specs.declared.atoms.AtomDef.{AtomDef}
use Rattle.type_model.specs.declared.basic.SemType.{SemType}
use Rattle.type_model.specs.declared.basic.Ty.{Ty}
use Rattle.type_model.specs.Calls.{Asked, KeepsTypes}
use Rattle.type_model.specs.Defined.{IsDefined, TyBelow}
use Rattle.type_model.specs.Inclusion.{HasExactly, Sub}
use Rattle.type_model.specs.Membership.{In}
use Rattle.operations.specs.declared.operation.Operation.TheVariants.{Const}
use Rattle.operations.specs.Rows.{Surroundings, shape_of}
use Rattle.typed_tree.proofs.ExprLayers.{expr_layers}
use Rattle.typed_tree.specs.declared.expr.TypedExpr.{TypedExpr}
use Rattle.typed_tree.specs.declared.form.Operator.{Operator}
use Rattle.typed_tree.specs.declared.form.StrictForm.{StrictForm}
use Rattle.typed_tree.specs.declared.form.StrictForm.TheVariants as form
use Rattle.typed_tree.specs.Exprs.{type_of}
use Rattle.typed_tree.specs.SharedTypes.{Shared, sem_of}
use Rattle.typed_tree.specs.Views.{IsStrict, IsTrap}
use Rattle.tree_places.specs.ExprPlaces.{place_of_literal}
use Rattle.expr_needs.specs.declared.kind.Kind.{Kind}
use Rattle.expr_needs.specs.declared.kind.Kind.TheVariants as kind
use Rattle.eval_model.specs.Expressions.{error_type}
use Rattle.flow_narrowing.specs.Flows.{IfShared}
use Rattle.check_words.specs.Kinds.{IsOfKind}
use Rattle.check_words.specs.Stands.{PartBelow}
use Rattle.check_words.specs.State.{AreLast, IsLast, State, all_but}
use Rattle.check_words.specs.Values.{adds_up, compares, constant_of, forms, operator_of, sort_kind, takes_sort}
use Rattle.check_words.specs.Words.{Atoms, OfKind, below_if, is_of, is_wanted, makes}
use Rattle.tree_promises.specs.Made.{GivenBy, MadeIsTyped, sem}
use Rattle.tree_promises.specs.Types.{IsTypedExpr}
use Rattle.tree_promises.proofs.Pieces.{made-is-typed}
use Rattle.typed_needs.specs.Pieces.{ComparisonIsTyped, IsBefore, KindIsAsked, LiteralIsTyped, MakesTyped, OperatorIsTyped, SumIsTyped, TrapIsTyped, WantIsAsked}

trap-type : (a : TypedExpr) (t : Shared) (at : Place) (e : TypedExpr) → IsTrap a t at e → type_of e ≡ t
trap-type a t at e (b, is, same) = search (rules, expr_layers)

-- ---- lists

all-last : {A : Type 0} (P : A → Type 0) (kept : List A) (x : A) → All P (kept ++ x ∷ []) → P x
all-last P [] x h = h 0 x (omega arith)
all-last P (k ∷ kept) x h = all-last P kept x (λ i d lt. h (suc i) d (omega (arith, lt)))

pub cons-same : {A : Type 0} (x y : A) (xs ys : List A) → x ∷ xs ≡ y ∷ ys → (x ≡ y) × (xs ≡ ys)
cons-same x y xs ys e = ((let a : x ≡ y = cc in a), (let b : xs ≡ ys = cc in b))

nil-cons : {A : Type 0} (x : A) (xs : List A) → [] ≡ x ∷ xs → ⊥
nil-cons x xs e = let bad : ⊥ = cc in bad

-- two ways to cut a list before as many members are the same
same-ends : {A : Type 0} (ks js xs ys : List A) → ks ++ xs ≡ js ++ ys → length xs ≡ length ys → xs ≡ ys
same-ends [] [] xs ys e long = e
same-ends (k ∷ ks) (j ∷ js) xs ys e long = same-ends ks js xs ys (cons-same k j (ks ++ xs) (js ++ ys) e).1 long
same-ends [] (j ∷ js) xs ys e long = absurd (let all : length xs ≡ length (j ∷ js ++ ys) = ap length e in let more = length-append (j ∷ js) ys in omega arith)
same-ends (k ∷ ks) [] xs ys e long = absurd (let all : length (k ∷ ks ++ xs) ≡ length ys = ap length e in let more = length-append (k ∷ ks) xs in omega arith)

pub same-lasts : {A : Type 0} (xs : List A) (count : ℕ) (ys zs : List A) → AreLast xs count ys → AreLast xs count zs → ys ≡ zs
same-lasts xs count ys zs l m = same-ends l.kept m.kept ys zs (sym l.is ∙ m.is) (l.many ∙ sym m.many)

pub as-lasts : {A : Type 0} (xs : List A) (x : A) → IsLast xs x → AreLast xs 1 (x ∷ [])
as-lasts xs x l = record { kept = l.kept; is = l.is; many = refl }

no-members : {A : Type 0} (xs : List A) → length xs ≡ 0 → xs ≡ []
no-members [] e = refl
no-members (x ∷ xs) e = absurd (omega (arith, e))

module _ (env : List AtomDef) where
  -- ---- over the atoms at the end

  pub exactly-later : (old : List AtomDef) (P : Shape → Type 0) (t : SemType) → KeepsTypes old env → IsDefined old t → HasExactly old t P → HasExactly env t P
  exactly-later old P t keeps defined h x valid =
      ((λ i. (h x valid).0 ((keeps.shapes t defined x).1 i)), (λ p. (keeps.shapes t defined x).0 ((h x valid).1 p)))

  pub sub-later : (old : List AtomDef) (s t : SemType) → KeepsTypes old env → IsDefined old s → IsDefined old t → Sub old s t → Sub env s t
  sub-later old s t keeps first second h x valid i = (keeps.shapes t second x).0 (h x valid ((keeps.shapes s first x).1 i))

  pub last-defined : (s : State) (e : TypedExpr) → IsBefore env s → IsLast s.found e → IsDefined s.atoms (sem e)
  last-defined s e before last =
      (all-last (PartBelow (length s.atoms)) last.kept e (subst (All (PartBelow (length s.atoms))) last.is before.stands.found)).0

  module _ (passes : List AtomDef → Asked → TypeLimit → Type 0) (names : Names) where
    -- ---- what is asked

    of-kind : (kind : Kind) (at : Place) (old new : State) → is_of passes kind at old (Gives tt) new
        → (e : TypedExpr) × (t : Ty) × IsLast old.found e × OfKind kind old.atoms t × Sub old.atoms (sem e) t.sem × (new.found ≡ old.found)
    unfolding ◌▷◌ gives_some asks below
    of-kind kind at old new (e, mid, (last, is), (t, end, (kind-of, same), ((under, atoms), over))) =
        let first : mid ≡ old = is in let second : end ≡ old = same ∙ is in (
          e,
          t,
          last,
          subst (λ (s : State). OfKind kind s.atoms t) first kind-of,
          subst (λ (s : State). Sub s.atoms (sem e) t.sem) second under,
          ap (λ (s : State). s.found) over ∙ ap (λ (s : State). s.found) second,
        )

    pub kind-is-asked : KindIsAsked passes names env
    kind-is-asked kind at old new e before met last =
        let (f, t, l, kind-of, under, found) = of-kind kind at old new met in
        let same : f ∷ [] ≡ e ∷ [] = same-lasts old.found 1 (f ∷ []) (e ∷ []) (as-lasts old.found f l) (as-lasts old.found e last) in
        let one = (cons-same f e [] [] same).0 in (
          (λ x i.
              let here = (before.keeps.shapes (sem e) (last-defined old e before last) x).1 i.1 in
              (kind-of.0.shapes x i.0).0 (under x i.0 (subst (λ (p : TypedExpr). In old.atoms x (sem p)) (sym one) here))),
          found,
        )

    wanted-of : (at : Place) (old new : State) → is_wanted passes at old (Gives tt) new
        → (w : Option Shared) × (e : TypedExpr) × IsLast old.wants w × IsLast old.found e × below_if passes w e at old (Gives tt) new
    unfolding ◌▷◌ gives_some
    wanted-of at old new (w, mid, (last, is), (e, end, (part, same), rest)) =
        let first : mid ≡ old = is in let second : end ≡ old = same ∙ is in
        (w, e, last, subst (λ (s : State). IsLast s.found e) first part, subst (λ (s : State). below_if passes w e at s (Gives tt) new) second rest)

    below-so : (t : Shared) (e : TypedExpr) (at : Place) (old new : State) → below_if passes (Some t) e at old (Gives tt) new
        → Sub old.atoms (sem e) (sem_of t) × (new.found ≡ old.found)
    unfolding asks below
    below-so t e at old new ((under, atoms), over) = (under, ap (λ (s : State). s.found) over)

    pub want-is-asked : WantIsAsked passes names env
    want-is-asked at old new t e before met wants last =
        let (w, f, l, part, asked) = wanted-of at old new met in
        let same-want : w ∷ [] ≡ Some t ∷ [] = same-lasts old.wants 1 (w ∷ []) (Some t ∷ []) (as-lasts old.wants w l) (as-lasts old.wants (Some t) wants) in
        let same-part : f ∷ [] ≡ e ∷ [] = same-lasts old.found 1 (f ∷ []) (e ∷ []) (as-lasts old.found f part) (as-lasts old.found e last) in
        let is : w ≡ Some t = (cons-same w (Some t) [] [] same-want).0 in
        let one : f ≡ e = (cons-same f e [] [] same-part).0 in
        let asked' : below_if passes (Some t) e at old (Gives tt) new =
        subst (λ (p : TypedExpr). below_if passes (Some t) p at old (Gives tt) new) one (subst (λ (o : Option Shared). below_if passes o f at old (Gives tt) new) is asked) in
        let (under, found) = below-so t e at old new asked' in
        let wanted : IfShared (TyBelow (length old.atoms)) (Some t) =
        all-last (IfShared (TyBelow (length old.atoms))) wants.kept (Some t) (subst (All (IfShared (TyBelow (length old.atoms)))) wants.is before.stands.wants) in
        (sub-later old.atoms (sem e) (sem_of t) before.keeps (last-defined old e before last) wanted.0 under, found)

    -- ---- what is made

    made : (count : ℕ) (P : Atoms → List TypedExpr → TypedExpr → Type 0) (old new : State) → makes count P old (Gives tt) new
        → (parts : List TypedExpr) × (e : TypedExpr) × AreLast old.found count parts × P old.atoms parts e × (new.found ≡ all_but count old.found ++ e ∷ []) × (new.atoms ≡ old.atoms)
    unfolding does
    made count P old new (parts, last, e, p, is) = (parts, e, last, p, ap (λ (s : State). s.found) is, ap (λ (s : State). s.atoms) is)

    -- the sort is taken, and nothing else changes
    sort-taken : (ints : Bool) (old new : State) → takes_sort old (Gives ints) new → IsLast old.sorts ints × (new.found ≡ old.found) × (new.atoms ≡ old.atoms)
    unfolding ◌▷◌ gives_some does
    sort-taken ints old new (i, a, (last, first), (u, b, second, (same, third))) =
        let all : new ≡ record a { sorts = all_but 1 a.sorts } = third ∙ second in (
          subst (λ (x : Bool). IsLast old.sorts x) (sym same) last,
          ap (λ (s : State). s.found) all ∙ ap (λ (s : State). s.found) first,
          ap (λ (s : State). s.atoms) all ∙ ap (λ (s : State). s.atoms) first,
        )

    sum-opened : (at : Place) (old new : State) → adds_up at old (Gives tt) new
        → (ints : Bool) × (mid : State) × IsLast old.sorts ints × (mid.found ≡ old.found) × forms (operator_of ints) 2 (sort_kind ints) at mid (Gives tt) new
    unfolding ◌▷◌
    sum-opened at old new (ints, mid, first, second) = let (last, found, atoms) = sort-taken ints old mid first in (ints, mid, last, found, second)

    comparison-opened : (op : Operator) (at : Place) (old new : State) → compares op at old (Gives tt) new
        → (mid : State) × (mid.found ≡ old.found) × forms op 2 kind.Truth at mid (Gives tt) new
    unfolding ◌▷◌
    comparison-opened op at old new (ints, mid, first, second) = let (last, found, atoms) = sort-taken ints old mid first in (mid, found, second)

    module _ (place : Surroundings) where
      -- the type of what was made, over the atoms at the end
      strict-exactly : (form : StrictForm) (parts : List TypedExpr) (t : Shared) (at : Place) (count : ℕ) (P : Shape → Type 0) (old new : State) (e : TypedExpr) → IsBefore env new
          → IsStrict form parts t at e → new.found ≡ all_but count old.found ++ e ∷ [] → new.atoms ≡ old.atoms → HasExactly old.atoms (sem_of t) P → HasExactly env (sem_of t) P
      strict-exactly form parts t at count P old new e before (v, is, same) found atoms h =
          let type : type_of e ≡ t = search (rules, expr_layers) in
          let last : IsLast new.found e = record { kept = all_but count old.found; is = found } in
          exactly-later new.atoms P (sem_of t) before.keeps (subst (λ (u : Shared). IsDefined new.atoms (sem_of u)) type (last-defined new e before last))
          (subst (λ a. HasExactly a (sem_of t) P) (sym atoms) h)

      pub operator-is-typed : OperatorIsTyped passes names env place
      operator-is-typed op count kind at old new parts truth before met last typed fit gives boolean =
          let (ps, e, l, (t, kind-of, view), found, atoms) = made count _ old new met in
          let same : ps ≡ parts = same-lasts old.found count ps parts l last in
          let strict : IsStrict (form.Operator op) parts t at e = subst (λ xs. IsStrict (form.Operator op) xs t at e) same view in
          let exactly = strict-exactly (form.Operator op) parts t at count (IsOfKind kind) old new e before strict found atoms kind-of.0.shapes in
          let pieces : MadeIsTyped env place truth = made-is-typed env place truth in
          record {
            part = e;
            found = found;
            typed = pieces.strict (form.Operator op) parts t at e strict typed
                (pieces.operators op (map sem parts) (sem_of t) boolean fit (λ x valid g. (exactly x valid).1 (gives x g)));
          }

      -- from a state with the same parts
      pub as-before : (count : ℕ) (old mid new : State) → mid.found ≡ old.found → MakesTyped passes names env place count mid new → MakesTyped passes names env place count old new
      as-before count old mid new same m =
          record { part = m.part; found = subst (λ xs. new.found ≡ all_but count xs ++ m.part ∷ []) same m.found; typed = m.typed }

      sum-gives : (ints : Bool) (x : Shape) → GivenBy (operator_of ints) x → IsOfKind (sort_kind ints) x
      sum-gives true x g = g
      sum-gives false x g = g

      pub sum-is-typed : SumIsTyped passes names env place
      sum-is-typed at old new parts ints truth before met last ends typed fit boolean =
          let (i, mid, l, found, formed) = sum-opened at old new met in
          let same : i ∷ [] ≡ ints ∷ [] = same-lasts old.sorts 1 (i ∷ []) (ints ∷ []) (as-lasts old.sorts i l) (as-lasts old.sorts ints last) in
          let one : i ≡ ints = (cons-same i ints [] [] same).0 in
          let formed' = subst (λ (b : Bool). forms (operator_of b) 2 (sort_kind b) at mid (Gives tt) new) one formed in
          as-before 2 old mid new found
          (operator-is-typed (operator_of ints) 2 (sort_kind ints) at mid new parts truth before formed'
          (subst (λ xs. AreLast xs 2 parts) (sym found) ends) typed fit (sum-gives ints) boolean)

      pub comparison-is-typed : ComparisonIsTyped passes names env place
      comparison-is-typed op at old new parts truth before met ends typed fit gives boolean =
          let (mid, found, formed) = comparison-opened op at old new met in
          as-before 2 old mid new found
          (operator-is-typed op 2 kind.Truth at mid new parts truth before formed (subst (λ xs. AreLast xs 2 parts) (sym found) ends) typed fit gives boolean)

      pub literal-is-typed : LiteralIsTyped passes names env place
      literal-is-typed l old new before met =
          let (ps, e, last, (t, single, view), found, atoms) = made 0 _ old new met in
          let none : ps ≡ [] = no-members ps last.many in
          let c = constant_of l in
          let strict : IsStrict (form.Literal c) [] t (place_of_literal l) e = subst (λ xs. IsStrict (form.Literal c) xs t (place_of_literal l) e) none view in
          let exactly = strict-exactly (form.Literal c) [] t (place_of_literal l) 0 (λ x. x ≡ shape_of c) old new e before strict found atoms single.shapes in
          let pieces : MadeIsTyped env place (sem_of t) = made-is-typed env place (sem_of t) in
          record {
            part = e;
            found = found;
            typed = pieces.strict (form.Literal c) [] t (place_of_literal l) e strict tt (pieces.one_row (Const c) [] (sem_of t) (refl, λ x valid is. (exactly x valid).1 is));
          }

      pub trap-is-typed : TrapIsTyped passes names env place
      trap-is-typed at old new e before after met last typed =
          let (ps, p, l, (a, is, (t, either, view)), found, atoms) = made 1 _ old new met in
          let same : a ∷ [] ≡ e ∷ [] = sym is ∙ same-lasts old.found 1 ps (e ∷ []) l (as-lasts old.found e last) in
          let one : a ≡ e = (cons-same a e [] [] same).0 in
          let part : IsTypedExpr env place a = subst (λ (x : TypedExpr). IsTypedExpr env place x) (sym one) typed in
          let defined : IsDefined old.atoms (sem a) = subst (λ (x : TypedExpr). IsDefined old.atoms (sem x)) (sym one) (last-defined old e before last) in
          let type : type_of p ≡ t = trap-type a t at p view in
          let made-defined : IsDefined old.atoms (sem_of t) =
          subst (λ (u : Shared). IsDefined old.atoms (sem_of u)) type
          (subst (λ (xs : Atoms). IsDefined xs (sem p)) atoms (last-defined new p after (record { kept = all_but 1 old.found; is = found }))) in
          let pieces : MadeIsTyped env place (sem_of t) = made-is-typed env place (sem_of t) in
          record {
            part = p;
            found = found;
            typed = pieces.trapped a t at p view part
                (sub-later old.atoms (sem a) (sem_of t) before.keeps defined made-defined (λ x valid i. (either.shapes x valid).1 (inl i)))
                (sub-later old.atoms error_type (sem_of t) before.keeps tt made-defined (λ x valid i. (either.shapes x valid).1 (inr i)));
          }
