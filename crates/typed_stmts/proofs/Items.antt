-- What loops go through, as what is wanted of their variable.
use Rattle.std.proofs.Common.{true, false, IfSome, Bool, List, Option, Some, [], ap, length, subst, sym, ◌++◌, ◌∙◌, ◌∷◌, ◌≡◌}
use Rattle.bal_base.specs.declared.place.Place.{Place}
use Rattle.check_words.proofs.Standing.{last-has}
use Rattle.check_words.specs.Branches.{is_counter, is_item_of_loop, item_type_at, widens_item}
use Rattle.check_words.specs.State.{IsLast, State}
use Rattle.check_words.specs.Values.{widens_to}
use Rattle.check_words.specs.Words.{Atoms, OfKind, some_over, whether_within}
use Rattle.checks.specs.Checks.{Check, Gives, either, gives_some, ◌▷◌}
use Rattle.checks.specs.Questions.{below, member}
use Rattle.descriptors.specs.declared.names.Names.{Names}
use Rattle.expr_needs.specs.declared.kind.Kind.TheVariants as kind
use Rattle.expr_needs.specs.declared.kind.Kind.{Kind}
use Rattle.flow_narrowing.specs.Flows.{IfShared}
use Rattle.needs.specs.Needs.{asks}
use Rattle.operations.specs.Rows.{Surroundings}
use Rattle.tree_promises.specs.Made.{sem}
use Rattle.type_model.specs.Calls.{Asked, KeepsTypes}
use Rattle.type_model.specs.Defined.{IsDefined, TyBelow}
use Rattle.type_model.specs.Inclusion.{HasExactly, Sub}
use Rattle.type_model.specs.Membership.{In}
use Rattle.type_model.specs.Parts.{StandsAt}
use Rattle.type_model.specs.declared.answers.Keys.TheVariants.{AnyIndex}
use Rattle.type_model.specs.declared.answers.TypeLimit.{TypeLimit}
use Rattle.type_model.specs.declared.atoms.AtomDef.{AtomDef}
use Rattle.type_model.specs.declared.basic.SemType.{SemType}
use Rattle.type_model.specs.declared.basic.Ty.{Ty}
use Rattle.typed_needs.proofs.Asking.{whether-leaves, whether-opened}
use Rattle.typed_needs.proofs.Leaving.{LeavesAll, all-some, all-then}
use Rattle.typed_needs.proofs.MemberReads.{member-asked}
use Rattle.typed_needs.proofs.Opened.{last-defined}
use Rattle.typed_needs.proofs.Placed.{last-same}
use Rattle.typed_needs.specs.Pieces.{IsBefore}
use Rattle.typed_stmts.proofs.Words.{want-put-some, want-some-put}
use Rattle.typed_stmts.specs.Branched.{CounterFits, CounterIsWanted, HasInts, HasItems, ItemFits, ItemIsWanted}
use Rattle.typed_tree.specs.SharedTypes.{Shared, sem_of}
use Rattle.typed_tree.specs.declared.expr.TypedExpr.{TypedExpr}

pub one-of : {A : Type 0} (b : Bool) (m n : Check State A) → LeavesAll m → LeavesAll n → LeavesAll (either b m n)
one-of true m n f g = f
one-of false m n f g = g

module _ (passes : List AtomDef → Asked → TypeLimit → Type 0) where
  pub widens-to-leaves : (kinds : List Kind) (t : Shared) (at : Place) → LeavesAll (widens_to passes kinds t at)
  widens-to-leaves [] t at = all-some _
  widens-to-leaves (k ∷ kinds) t at =
      all-then _ _ (whether-leaves passes (OfKind k) (sem_of t) at) (λ b. one-of b _ _ (all-some _) (widens-to-leaves kinds t at))

  -- what it is widened to has its shapes
  pub widened-so : (kinds : List Kind) (t u : Shared) (at : Place) (old new : State) → widens_to passes kinds t at old (Gives u) new → Sub old.atoms (sem_of t) (sem_of u)
  unfolding ◌▷◌ gives_some
  widened-so [] t u at old new (is, same) = λ x valid i. subst (λ (v : Shared). In old.atoms x (sem_of v)) (sym is) i
  widened-so (k ∷ kinds) t u at old new (b, mid, asked, rest) = by b asked rest (widened-so kinds t u at)
    where
      by : (b : Bool) → whether_within passes (OfKind k) (sem_of t) at old (Gives b) mid
          → either b (some_over (λ env (u : Shared). OfKind k env u.value)) (widens_to passes kinds t at) mid (Gives u) new
          → ((m n : State) → widens_to passes kinds t at m (Gives u) n → Sub m.atoms (sem_of t) (sem_of u)) → Sub old.atoms (sem_of t) (sem_of u)
      by true asked (kind-of, same) more =
          let (v, of, under) = whether-opened passes (OfKind k) (sem_of t) at old mid asked in
          let here : mid ≡ old = whether-leaves passes (OfKind k) (sem_of t) at old mid true asked in
          let wide : OfKind k old.atoms u.value = subst (λ (s : State). OfKind k s.atoms u.value) here kind-of in
          λ x valid i. (wide.0.shapes x valid).1 ((of.0.shapes x valid).0 (under x valid i))
      by false asked rest more =
          let here : mid ≡ old = whether-leaves passes (OfKind k) (sem_of t) at old mid false asked in
          subst (λ (s : State). Sub s.atoms (sem_of t) (sem_of u)) here (more mid new rest)

  -- the type of all items
  item-type : (at : Place) (m : SemType) (old new : State) → item_type_at passes at old (Gives m) new
      → (e : TypedExpr) × IsLast old.found e × HasExactly old.atoms m (StandsAt old.atoms (sem e) AnyIndex) × (new ≡ old)
  unfolding ◌▷◌ gives_some
  item-type at m old new (e, a, (last, e1), member) =
      let (defined, exactly, same) = member-asked passes (sem e) AnyIndex at a new m member in
      (e, last, subst (λ (s : State). HasExactly s.atoms m (StandsAt s.atoms (sem e) AnyIndex)) e1 exactly, same ∙ e1)

  item-asked : (at : Place) (old new : State) → is_item_of_loop passes at old (Gives tt) new
      → (e : TypedExpr) × (m : SemType) × (t : Shared) × IsLast old.found e × IsLast old.wants (Some t) × HasExactly old.atoms m (StandsAt old.atoms (sem e) AnyIndex)
      × Sub old.atoms m (sem_of t) × (new ≡ old)
  unfolding ◌▷◌ gives_some asks below
  item-asked at old new (m, a, typed, (t, b, (last, e2), ((under, atoms), over))) =
      let (e, part, exactly, e1) = item-type at m old a typed in
      let two : b ≡ old = e2 ∙ e1 in (
        e,
        m,
        t,
        part,
        subst (λ (s : State). IsLast s.wants (Some t)) e1 last,
        exactly,
        subst (λ (s : State). Sub s.atoms m (sem_of t)) two under,
        over ∙ ap (λ (xs : Atoms). record b { atoms = xs }) atoms ∙ two,
      )

  item-widened : (at : Place) (old new : State) → widens_item passes at old (Gives tt) new
      → (e : TypedExpr) × (m : SemType) × (w : Shared) × IsLast old.found e × HasExactly old.atoms m (StandsAt old.atoms (sem e) AnyIndex)
      × Sub old.atoms m (sem_of w) × (new ≡ record old { wants = old.wants ++ Some w ∷ [] })
  unfolding ◌▷◌ gives_some
  item-widened at old new (m, a, typed, (t, b, (is, e2), (u, c, wide, put))) =
      let (e, part, exactly, e1) = item-type at m old a typed in
      let two : b ≡ old = e2 ∙ e1 in
      let three : c ≡ old = widens-to-leaves (kind.Integer ∷ kind.Text ∷ kind.Truth ∷ []) t at b c u wide ∙ two in
      let (w, e4, value) = want-put-some u tt c new put in
      let under : Sub old.atoms (sem_of t) (sem_of u) =
      subst (λ (s : State). Sub s.atoms (sem_of t) (sem_of u)) two (widened-so (kind.Integer ∷ kind.Text ∷ kind.Truth ∷ []) t u at b c wide) in (
        e,
        m,
        w,
        part,
        exactly,
        (λ x valid i. subst (λ (y : Ty). In old.atoms x y.sem) (sym value) (under x valid (subst (λ (y : Ty). In old.atoms x y.sem) (sym is) i))),
        e4 ∙ ap (λ (s : State). record s { wants = s.wants ++ Some w ∷ [] }) three,
      )

  counter-asked : (at : Place) (old new : State) → is_counter passes at old (Gives tt) new
      → (t : Shared) × (int : Ty) × IsLast old.wants (Some t) × OfKind kind.Integer old.atoms int × Sub old.atoms int.sem (sem_of t) × (new ≡ old)
  unfolding ◌▷◌ gives_some asks below
  counter-asked at old new (t, a, (last, e1), (int, b, (of, e2), ((under, atoms), over))) =
      let two : b ≡ old = e2 ∙ e1 in (
        t,
        int,
        last,
        subst (λ (s : State). OfKind kind.Integer s.atoms int) e1 of,
        subst (λ (s : State). Sub s.atoms int.sem (sem_of t)) two under,
        over ∙ ap (λ (xs : Atoms). record b { atoms = xs }) atoms ∙ two,
      )

  module _ (names : Names) (env : List AtomDef) (place : Surroundings) where
    -- over the atoms at the end
    items-later : (old : State) (e : TypedExpr) (m t : SemType) → KeepsTypes old.atoms env → IsDefined old.atoms (sem e) → IsDefined old.atoms t
        → HasExactly old.atoms m (StandsAt old.atoms (sem e) AnyIndex) → Sub old.atoms m t → HasItems passes names env place e t
    items-later old e m t keeps there defined exactly under x valid (whole, shape, stands) =
        (keeps.shapes t defined x).0 (under x valid ((exactly x valid).1 (whole, (shape.0, (keeps.shapes (sem e) there whole).1 shape.1), stands)))

    pub want-defined : (s : State) (t : Shared) → IsBefore env s → IsLast s.wants (Some t) → IsDefined s.atoms (sem_of t)
    want-defined s t before last =
        let h : IfShared (TyBelow (length s.atoms)) (Some t) = last-has (IfShared (TyBelow (length s.atoms))) s.wants (Some t) last before.stands.wants in h.0

    pub item-fits : ItemFits passes names env place
    item-fits at old new list t before met last want =
        let (e, m, u, part, wanted, exactly, under, same) = item-asked at old new met in
        let ee : e ≡ list = last-same old.found e list part last in
        let et : Some u ≡ Some t = last-same old.wants (Some u) (Some t) wanted want in
        let has : HasItems passes names env place e (sem_of u) =
        items-later old e m (sem_of u) before.keeps (last-defined env old e before part) (want-defined old u before wanted) exactly under in (
          subst (λ (o : Option Shared). IfSome o (λ y. HasItems passes names env place list (sem_of y))) et
              (subst (λ (y : TypedExpr). HasItems passes names env place y (sem_of u)) ee has),
          same,
        )

    pub item-wanted : ItemIsWanted passes names env place
    item-wanted at old new list before after met last =
        let (e, m, w, part, exactly, under, same) = item-widened at old new met in
        let ee : e ≡ list = last-same old.found e list part last in
        let there : IsLast new.wants (Some w) = record { kept = old.wants; is = ap (λ (s : State). s.wants) same } in
        let defined : IsDefined old.atoms (sem_of w) = subst (λ (xs : Atoms). IsDefined xs (sem_of w)) (ap (λ (s : State). s.atoms) same) (want-defined new w after there) in (
          w,
          same,
          subst (λ (y : TypedExpr). HasItems passes names env place y (sem_of w)) ee (items-later old e m (sem_of w) before.keeps (last-defined env old e before part) defined exactly under),
        )

    ints-later : (old : State) (int : Ty) (t : SemType) → KeepsTypes old.atoms env → IsDefined old.atoms t → OfKind kind.Integer old.atoms int → Sub old.atoms int.sem t
        → HasInts passes names env place t
    ints-later old int t keeps defined of under x valid i = (keeps.shapes t defined x).0 (under x valid ((of.0.shapes x valid).1 i))

    pub counter-fits : CounterFits passes names env place
    counter-fits at old new t before met want =
        let (u, int, wanted, of, under, same) = counter-asked at old new met in
        let et : Some u ≡ Some t = last-same old.wants (Some u) (Some t) wanted want in (
          subst (λ (o : Option Shared). IfSome o (λ y. HasInts passes names env place (sem_of y))) et
              (ints-later old int (sem_of u) before.keeps (want-defined old u before wanted) of under),
          same,
        )

    pub counter-wanted : CounterIsWanted passes names env place
    counter-wanted old new after met =
        let (w, same, of) = want-some-put (OfKind kind.Integer) tt old new met in
        let there : IsLast new.wants (Some w) = record { kept = old.wants; is = ap (λ (s : State). s.wants) same } in
        let atoms : new.atoms ≡ old.atoms = ap (λ (s : State). s.atoms) same in (
          w,
          same,
          ints-later old w.value (sem_of w) (subst (λ (xs : Atoms). KeepsTypes xs env) atoms after.keeps) (subst (λ (xs : Atoms). IsDefined xs (sem_of w)) atoms (want-defined new w after there)) of (λ x valid i. i),
        )
