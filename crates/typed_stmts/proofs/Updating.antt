-- Assignments with an operator to names.
use Rattle.std.proofs.Common.{true, false, Bool, List, Option, Some, [], ap, length, refl, subst, sym, ◌++◌, ◌↔◌, ◌∙◌, ◌∷◌, ◌≡◌}
use Rattle.std.specs.Prelude.{IsSomeAnd}
use Rattle.bal_base.specs.declared.place.Place.{Place}
use Rattle.bal_base.specs.declared.shape.Shape.{Shape}
use Rattle.bal_tree.specs.declared.name.QualifiedName.{QualifiedName}
use Rattle.bal_tree.specs.declared.stmt.AssignOp.TheVariants.{Set, Add, Subtract, Multiply, Divide}
use Rattle.bal_tree.specs.declared.stmt.AssignOp.{AssignOp}
use Rattle.check_words.proofs.LastOnes.{all-but-more, one-before}
use Rattle.check_words.proofs.Standing.{last-has}
use Rattle.check_words.specs.Kinds.{IsOfKind}
use Rattle.check_words.specs.Seen.{Seen, SeenVariable, SeenWorker, SeenConstant, SeenLibrary, SeenMeaning, SeenNothing}
use Rattle.check_words.specs.State.{AreLast, IsLast, State, all_but, shared_now}
use Rattle.check_words.specs.Statements.{Assigned, IsAssigned, operand_kind, operand_sort, reads_assigned, reads_name, result_fits, takes_operator, update_operator}
use Rattle.check_words.specs.Values.{sort_kind, operator_of}
use Rattle.check_words.specs.Words.{Atoms, OfKind, is_within}
use Rattle.checks.specs.Checks.{Gives, gives, gives_some, ◌▷◌}
use Rattle.checks.specs.Questions.{below}
use Rattle.descriptors.specs.Described.{IsCopy}
use Rattle.descriptors.specs.declared.names.Meaning.TheVariants as meaning
use Rattle.descriptors.specs.declared.names.Names.{Names}
use Rattle.expr_needs.specs.declared.kind.Kind.TheVariants as kind
use Rattle.expr_needs.specs.declared.kind.Kind.{Kind}
use Rattle.flow_narrowing.specs.Flows.{IfShared}
use Rattle.needs.specs.Needs.{asks, does}
use Rattle.operations.specs.Kinds.{IsInteger}
use Rattle.operations.specs.Rows.{IsWithin, ResultHas}
use Rattle.tree_promises.specs.Made.{GivenBy, OperandsFit, sem}
use Rattle.type_model.proofs.SameTypes.{In-same}
use Rattle.type_model.specs.Calls.{Asked, KeepsTypes}
use Rattle.type_model.specs.Defined.{IsDefined, TyBelow}
use Rattle.type_model.specs.Inclusion.{HasExactly, Sub}
use Rattle.type_model.specs.Membership.{In}
use Rattle.type_model.specs.declared.answers.TypeLimit.{TypeLimit}
use Rattle.type_model.specs.declared.atoms.AtomDef.{AtomDef}
use Rattle.type_model.specs.declared.basic.SemType.{SemType}
use Rattle.type_model.specs.declared.basic.Ty.{Ty}
use Rattle.typed_needs.proofs.Asking.{whether-leaves, whether-opened, within-leaves, within-opened}
use Rattle.typed_needs.proofs.Leaving.{all-some}
use Rattle.typed_needs.proofs.Opened.{as-lasts, exactly-later}
use Rattle.typed_needs.proofs.Placed.{last-same}
use Rattle.typed_stmts.proofs.Seeing.{assigned-opened, sees-one}
use Rattle.typed_stmts.proofs.Words.{want-put-some, want-some-put, want-taken}
use Rattle.typed_stmts.specs.Assigned.{HasSame, Sees}
use Rattle.typed_stmts.specs.Updated.{NameIsRead, OperandIsWanted, Suits, UpdateFits, read_type}
use Rattle.typed_tree.specs.SharedTypes.{Shared, sem_of}
use Rattle.typed_tree.specs.declared.expr.TypedExpr.{TypedExpr}
use Rattle.typed_tree.specs.declared.form.Operator.TheVariants as operator
use Rattle.typed_tree.specs.declared.form.Operator.{Operator}

-- ---- what is wanted

module _ (names : Names) (env : List AtomDef) where
  abbrev IsRead : Seen → State → State → Type 0
  IsRead seen old new = (w : Shared) × (new ≡ record old { wants = old.wants ++ Some w ∷ [] }) × IsSomeAnd (read_type seen) (λ t. HasSame env t (sem_of w))

  read-so : (seen : Seen) (a : Assigned) (old new : State) → IsAssigned seen a → reads_assigned a old (Gives tt) new → IsRead seen old new
  read-so (SeenVariable v) a old new is met =
      let (w, e, value) = want-put-some (shared_now v) tt old new (subst (λ (x : Assigned). reads_assigned x old (Gives tt) new) is met) in
      (w, e, λ x. subst (λ (t : Ty). In env x (sem_of (shared_now v)) ↔ In env x t.sem) (sym value) ((λ i. i), (λ i. i)))
  read-so (SeenMeaning (meaning.Variable number final t)) a old new is met =
      let (w, e, copy) = want-some-put (λ env. IsCopy t) tt old new (subst (λ (x : Assigned). reads_assigned x old (Gives tt) new) is met) in
      (w, e, λ x. In-same env x t.sem (sem_of w) copy.sem)
  read-so (SeenMeaning (meaning.TypeName t)) a old new is met = absurd is
  read-so (SeenMeaning (meaning.Constant t)) a old new is met = absurd is
  read-so (SeenMeaning (meaning.Function f)) a old new is met = absurd is
  read-so (SeenWorker w) a old new is met = absurd is
  read-so (SeenConstant c) a old new is met = absurd is
  read-so (SeenLibrary r) a old new is met = absurd is
  read-so (SeenNothing code) a old new is met = absurd is

  read-opened : (q : QualifiedName) (old new : State) → reads_name names q old (Gives tt) new
      → (seen : Seen) × (a : Assigned) × Sees names old q seen × IsAssigned seen a × reads_assigned a old (Gives tt) new
  unfolding ◌▷◌
  read-opened q old new (a, mid, found, met) =
      let (seen, sees, is, e) = assigned-opened names q a old mid found in
      (seen, a, sees, is, subst (λ (s : State). reads_assigned a s (Gives tt) new) e met)

  pub name-read : (passes : List AtomDef → Asked → TypeLimit → Type 0) → NameIsRead passes names env
  name-read passes q old new seen met sees =
      let (x, a, saw, is, rest) = read-opened q old new met in
      subst (λ y. IsRead y old new) (sees-one names old q x seen saw sees) (read-so x a old new is rest)

-- ---- the sort

module _ (passes : List AtomDef → Asked → TypeLimit → Type 0) (names : Names) (env : List AtomDef) where
  within-later : (k : Kind) (old : List AtomDef) (s : SemType) → KeepsTypes old env → IsDefined old s → ((t : Ty) × OfKind k old t × Sub old s t.sem) → IsWithin env (IsOfKind k) s
  within-later k old s keeps defined (t, of, under) x i = (of.0.shapes x i.0).0 (under x i.0 ((keeps.shapes s defined x).1 i.1))

  record Sorted (assign : AssignOp) (read : Shared) (ints : Bool) (old new : State) : Type 0 where
    pub suits : Suits assign ints
    pub so : IsWithin env (IsOfKind (sort_kind ints)) (sem_of read)
    pub same : new ≡ old

  -- ints, as was asked before
  sorted-ints : (assign : AssignOp) (read : Shared) (ints : Bool) (old new : State) → Suits assign true → IsWithin env (IsOfKind kind.Integer) (sem_of read) → ints ≡ true → new ≡ old
      → Sorted assign read ints old new
  sorted-ints assign read ints old new suits within is same =
      record { suits = subst (λ b. Suits assign b) (sym is) suits; so = subst (λ b. IsWithin env (IsOfKind (sort_kind b)) (sem_of read)) (sym is) within; same = same }

  sum-sorted : (read : Shared) (at : Place) (ints : Bool) (old new : State) → KeepsTypes old.atoms env → IsDefined old.atoms (sem_of read)
      → operand_sort passes Add read at old (Gives ints) new → Sorted Add read ints old new
  unfolding ◌▷◌ gives_some
  sum-sorted read at ints old new keeps defined (true, a, asked, (u, b, rest, (is, e3))) =
      let e1 : a ≡ old = whether-leaves passes (OfKind kind.Integer) (sem_of read) at old a true asked in
      let e2 : b ≡ a = all-some (λ s (x : Unit {0}). x ≡ tt) a b u rest in
      let within = within-later kind.Integer old.atoms (sem_of read) keeps defined (whether-opened passes (OfKind kind.Integer) (sem_of read) at old a asked) in
      sorted-ints Add read ints old new tt within is (e3 ∙ e2 ∙ e1)
  sum-sorted read at ints old new keeps defined (false, a, asked, (u, b, rest, (is, e3))) =
      let e1 : a ≡ old = whether-leaves passes (OfKind kind.Integer) (sem_of read) at old a false asked in
      let rest' : is_within passes (OfKind kind.Text) (sem_of read) at old (Gives u) b =
      subst (λ (s : State). is_within passes (OfKind kind.Text) (sem_of read) at s (Gives u) b) e1 rest in
      let e2 : b ≡ old = within-leaves passes (OfKind kind.Text) (sem_of read) at old b u rest' in
      let within = within-later kind.Text old.atoms (sem_of read) keeps defined (within-opened passes (OfKind kind.Text) (sem_of read) at u old b rest') in
      record { suits = tt; so = subst (λ c. IsWithin env (IsOfKind (sort_kind c)) (sem_of read)) (sym is) within; same = e3 ∙ e2 }

  given-sorted : (assign : AssignOp) (read : Shared) (ints : Bool) (old new : State) → Suits assign true → IsWithin env (IsOfKind kind.Integer) (sem_of read)
      → gives true old (Gives ints) new → Sorted assign read ints old new
  unfolding gives_some
  given-sorted assign read ints old new suits within (is, same) = sorted-ints assign read ints old new suits within is same

  sorted : (assign : AssignOp) (read : Shared) (at : Place) (ints : Bool) (old new : State) → KeepsTypes old.atoms env → IsDefined old.atoms (sem_of read)
      → IsWithin env (IsOfKind (operand_kind passes assign)) (sem_of read) → operand_sort passes assign read at old (Gives ints) new → Sorted assign read ints old new
  sorted Set read at ints old new keeps defined within met = given-sorted Set read ints old new refl within met
  sorted Add read at ints old new keeps defined within met = sum-sorted read at ints old new keeps defined met
  sorted Subtract read at ints old new keeps defined within met = given-sorted Subtract read ints old new refl within met
  sorted Multiply read at ints old new keeps defined within met = given-sorted Multiply read ints old new refl within met
  sorted Divide read at ints old new keeps defined within met = given-sorted Divide read ints old new refl within met

  pub operand-wanted : OperandIsWanted passes names env
  unfolding ◌▷◌ gives_some does
  operand-wanted assign at old new read before after (t, a, (last, e1), (u, b, within, (ints, c, sort, (v, d, e4, put)))) want =
      let same : Some t ≡ Some read = last-same old.wants (Some t) (Some read) last want in
      let et : t ≡ read = some-same t read same in
      let within' : is_within passes (OfKind (operand_kind passes assign)) (sem_of read) at old (Gives u) b =
      subst (λ (w : Shared). is_within passes (OfKind (operand_kind passes assign)) (sem_of w) at old (Gives u) b) et
      (subst (λ (s : State). is_within passes (OfKind (operand_kind passes assign)) (sem_of t) at s (Gives u) b) e1 within) in
      let e2 : b ≡ old = within-leaves passes (OfKind (operand_kind passes assign)) (sem_of read) at old b u within' in
      let wanted : IfShared (TyBelow (length old.atoms)) (Some read) = last-has (IfShared (TyBelow (length old.atoms))) old.wants (Some read) want before.stands.wants in
      let fits = within-later (operand_kind passes assign) old.atoms (sem_of read) before.keeps wanted.0 (within-opened passes (OfKind (operand_kind passes assign)) (sem_of read) at u old b within') in
      let sort' : operand_sort passes assign read at old (Gives ints) c =
      subst (λ (w : Shared). operand_sort passes assign w at old (Gives ints) c) et (subst (λ (s : State). operand_sort passes assign t at s (Gives ints) c) e2 sort) in
      let s = sorted assign read at ints old c before.keeps wanted.0 fits sort' in
      let (w, e5, of) = want-some-put (OfKind (sort_kind ints)) tt d new put in
      let to-d : d ≡ record old { sorts = old.sorts ++ ints ∷ [] } = e4 ∙ ap (λ (x : State). record x { sorts = x.sorts ++ ints ∷ [] }) s.same in
      let atoms : d.atoms ≡ old.atoms = ap (λ (x : State). x.atoms) to-d in
      let here : IsLast new.wants (Some w) = record { kept = d.wants; is = ap (λ (x : State). x.wants) e5 } in
      let wide : IfShared (TyBelow (length new.atoms)) (Some w) = last-has (IfShared (TyBelow (length new.atoms))) new.wants (Some w) here after.stands.wants in
      let there : IsDefined old.atoms (sem_of w) = subst (λ (xs : Atoms). IsDefined xs (sem_of w)) (ap (λ (x : State). x.atoms) e5 ∙ atoms) wide.0 in
      record {
        ints = ints;
        want = w;
        suits = s.suits;
        all = e5 ∙ ap (λ (x : State). record x { wants = x.wants ++ Some w ∷ [] }) to-d;
        read_so = s.so;
        exactly = exactly-later env old.atoms (IsOfKind (sort_kind ints)) (sem_of w) before.keeps there (subst (λ (xs : Atoms). HasExactly xs (sem_of w) (IsOfKind (sort_kind ints))) atoms of.0.shapes);
      }
    where
      some-same : (s t : Shared) → Some s ≡ Some t → s ≡ t
      some-same s t e = let q : s ≡ t = cc in q

-- ---- what is taken

three-lasts : (xs : List (Option Shared)) (a b c : Option Shared) → IsLast xs c → IsLast (all_but 1 xs) b → IsLast (all_but 1 (all_but 1 xs)) a → AreLast xs 3 (a ∷ b ∷ c ∷ [])
three-lasts xs a b c one two three =
    let second : AreLast xs 2 (b ∷ c ∷ []) = one-before 1 xs b (c ∷ []) (as-lasts xs c one) (as-lasts (all_but 1 xs) b two) in
    one-before 2 xs a (b ∷ c ∷ []) second (as-lasts (all_but 2 xs) a (subst (λ ys. IsLast ys a) (all-but-more 1 xs) three))

pub record ResultTaken (read : Shared) (old new : State) : Type 0 where
  pub result : Shared
  pub stored : Shared
  pub lasts : AreLast old.wants 3 (Some stored ∷ Some read ∷ Some result ∷ [])
  pub under : Sub old.atoms (sem_of result) (sem_of stored)
  pub all : new ≡ record old { wants = all_but 1 (all_but 1 (all_but 1 old.wants)) }

pub result-taken : (passes : List AtomDef → Asked → TypeLimit → Type 0) (at : Place) (read : Shared) (old new : State) → result_fits passes at old (Gives read) new → ResultTaken read old new
unfolding ◌▷◌ gives_some asks below
result-taken passes at read old new (result, a, one, (r, b, two, (stored, c, three, (u, d, ((under, atoms), over), (is, e5))))) =
    let (l1, e1) = want-taken result old a one in
    let (l2, e2) = want-taken r a b two in
    let (l3, e3) = want-taken stored b c three in
    let w1 : a.wants ≡ all_but 1 old.wants = ap (λ (s : State). s.wants) e1 in
    let w2 : b.wants ≡ all_but 1 (all_but 1 old.wants) = ap (λ (s : State). s.wants) e2 ∙ ap (λ ws. all_but 1 ws) w1 in
    let to-c : c ≡ record old { wants = all_but 1 (all_but 1 (all_but 1 old.wants)) } =
    e3 ∙ ap (λ (s : State). record s { wants = all_but 1 s.wants }) (e2 ∙ ap (λ (s : State). record s { wants = all_but 1 s.wants }) e1) in
    record {
      result = result;
      stored = stored;
      lasts = three-lasts old.wants (Some stored) (Some read) (Some result) l1
          (subst (λ (x : Shared). IsLast (all_but 1 old.wants) (Some x)) (sym is) (subst (λ ws. IsLast ws (Some r)) w1 l2)) (subst (λ ws. IsLast ws (Some stored)) w2 l3);
      under = subst (λ (xs : Atoms). Sub xs (sem_of result) (sem_of stored)) (ap (λ (s : State). s.atoms) to-c) under;
      all = e5 ∙ over ∙ ap (λ (xs : Atoms). record c { atoms = xs }) atoms ∙ to-c;
    }

pub operator-taken : (assign : AssignOp) (op : Operator) (old new : State) → takes_operator assign old (Gives op) new
    → (ints : Bool) × IsLast old.sorts ints × update_operator assign ints op × (new ≡ record old { sorts = all_but 1 old.sorts })
unfolding ◌▷◌ gives_some does
operator-taken assign op old new (ints, a, (i, b, (last, e1), (u, c, e2, (same, e3))), (is, e4)) = (
  ints,
  subst (λ (x : Bool). IsLast old.sorts x) (sym same) last,
  is,
  e4 ∙ e3 ∙ e2 ∙ ap (λ (s : State). record s { sorts = all_but 1 s.sorts }) e1,
)

-- ---- what the operator takes and gives

module _ (passes : List AtomDef → Asked → TypeLimit → Type 0) (names : Names) (env : List AtomDef) where
  sum-fits : (ints : Bool) (op : Operator) (s t r : SemType) → op ≡ operator_of ints → IsWithin env (IsOfKind (sort_kind ints)) s → IsWithin env (IsOfKind (sort_kind ints)) t
      → HasExactly env r (IsOfKind (sort_kind ints)) → OperandsFit env op (s ∷ t ∷ []) × ResultHas env (Some r) (GivenBy op)
  sum-fits true op s t r is f g h =
      subst (λ (o : Operator). OperandsFit env o (s ∷ t ∷ []) × ResultHas env (Some r) (GivenBy o)) (sym is) ((f, g), λ x valid i. (h x valid).1 i)
  sum-fits false op s t r is f g h =
      subst (λ (o : Operator). OperandsFit env o (s ∷ t ∷ []) × ResultHas env (Some r) (GivenBy o)) (sym is) ((f, g), λ x valid i. (h x valid).1 i)

  ints-fit : (o op : Operator) (ints : Bool) (s t r : SemType) → op ≡ o → ints ≡ true
      → (IsWithin env IsInteger s → IsWithin env IsInteger t → OperandsFit env o (s ∷ t ∷ [])) → ((x : Shape) → GivenBy o x → IsInteger x)
      → IsWithin env (IsOfKind (sort_kind ints)) s → IsWithin env (IsOfKind (sort_kind ints)) t → HasExactly env r (IsOfKind (sort_kind ints))
      → OperandsFit env op (s ∷ t ∷ []) × ResultHas env (Some r) (GivenBy op)
  ints-fit o op true s t r is only takes gives f g h =
      subst (λ (p : Operator). OperandsFit env p (s ∷ t ∷ []) × ResultHas env (Some r) (GivenBy p)) (sym is) (takes f g, λ x valid i. (h x valid).1 (gives x i))
  ints-fit o op false s t r is only takes gives f g h = absurd (let bad : ⊥ = cc in bad)

  pub update-fits : (assign : AssignOp) (ints : Bool) (op : Operator) (read result : Shared) (e : TypedExpr) → update_operator assign ints op
      → UpdateFits passes names env assign ints read result e → OperandsFit env op (sem_of read ∷ sem e ∷ []) × ResultHas env (Some (sem_of result)) (GivenBy op)
  update-fits Set ints op read result e is fits = absurd is
  update-fits Add ints op read result e is fits = sum-fits ints op (sem_of read) (sem e) (sem_of result) is fits.read_so fits.value_so fits.exactly
  update-fits Subtract ints op read result e is fits =
      ints-fit operator.Subtract op ints (sem_of read) (sem e) (sem_of result) is fits.suits (λ f g. (f, g)) (λ x i. i) fits.read_so fits.value_so fits.exactly
  update-fits Multiply ints op read result e is fits =
      ints-fit operator.Multiply op ints (sem_of read) (sem e) (sem_of result) is fits.suits (λ f g. (f, g)) (λ x i. i) fits.read_so fits.value_so fits.exactly
  update-fits Divide ints op read result e is fits =
      ints-fit operator.Divide op ints (sem_of read) (sem e) (sem_of result) is fits.suits (λ f g. (f, g)) (λ x i. i) fits.read_so fits.value_so fits.exactly
