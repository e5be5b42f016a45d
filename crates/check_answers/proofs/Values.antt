-- Names, literals, operators and conditions: two runs of each need agree.
use Rattle.std.proofs.Common.{◌≡◌, ◌&&◌, ◌⊎◌, ℕ, Bool, true, false, not, List, [], ◌∷◌, ◌++◌, is_some, Option, None, Some, refl, sym, subst, ap, ◌∙◌}
use Rattle.std.specs.List.{AllZip}
use Rattle.bal_base.specs.declared.fault.FaultCode.TheVariants.{Captured}
use Rattle.bal_base.specs.declared.place.Place.{Place}
use Rattle.bal_tree.specs.declared.name.Literal.{Literal}
use Rattle.checks.specs.Agreement.{AreTwins}
use Rattle.descriptors.specs.Described.{IsPlain}
use Rattle.flow_narrowing.specs.declared.flow.Flow.{Flow}
use Rattle.flow_narrowing.specs.declared.flow.Variable.{Variable}
use Rattle.operations.specs.Kinds.{IsError, IsNil}
use Rattle.operations.specs.declared.operation.Constant.{Constant}
use Rattle.type_model.specs.declared.answers.TypeLimit.{TypeLimit}
use Rattle.type_model.specs.declared.atoms.AtomDef.{AtomDef}
use Rattle.type_model.specs.declared.basic.SemType.{SemType}
use Rattle.type_model.specs.declared.basic.Ty.{Ty}
use Rattle.type_model.specs.Calls.{Asked}
use Rattle.type_model.specs.Membership.{In}
use Rattle.type_model.proofs.Same.{both, either, itself}
use Rattle.typed_tree.specs.declared.expr.TypedExpr.{TypedExpr}
use Rattle.typed_tree.specs.declared.form.Operator.{Operator}
use Rattle.typed_tree.specs.declared.form.StrictForm.TheVariants as form
use Rattle.typed_tree.specs.Exprs.{type_of}
use Rattle.typed_tree.specs.SharedTypes.{Shared, sem_of}
use Rattle.typed_tree.specs.Listed.{Listed}
use Rattle.typed_tree.specs.Views.{IsAnd, IsCheck, IsConditional, IsElvis, IsLocal, IsOr, IsParens, IsStrict}
use Rattle.expr_needs.specs.declared.kind.Kind.{Kind}
use Rattle.expr_needs.specs.declared.kind.Kind.TheVariants as kind
use Rattle.check_words.specs.Sharing.{SameOption, SameShared}
use Rattle.check_words.specs.State.{State, Ways, all_but, shared_now}
use Rattle.check_words.specs.Values.{adds_up, casts, checked, chooses, compares, conjoins, decided, decides, disjoins, drops_want, encloses, fills_nil, forms, gives_constant, gives_literal, gives_variable, is_of_sort, last_sort, operator_of, sort_kind, sorts, splits, switches, takes_sort, traps, turns, uses, wants_beside_error, wants_error_too, wants_result, way_of, widened, widens, widens_to}
use Rattle.check_words.specs.Joins.{joins_two}
use Rattle.check_words.specs.Words.{Atoms, OfKind, One, PartOf, SharedOf, Step, Three, Two, UnionOf, is_of, makes, sem, sets_ways, wants, wants_some}
use Rattle.check_answers.specs.Pieces as say
use Rattle.check_answers.specs.Pieces.{Piece, SamePieces, expr_pieces, written}
use Rattle.check_answers.specs.TwinStates.{FlowTwins, PartTwins, SharedTwins, VariableTwins, WaysTwins}
use Rattle.check_answers.proofs.Joining.{joins-twin}
use Rattle.check_answers.proofs.Leading.{Any2, Leads, Pairs, leads-becomes, leads-done, leads-either, leads-from, leads-gives, leads-over, leads-some, leads-then, leads-unless}
use Rattle.check_answers.proofs.Mapping.{flow-map}
use Rattle.check_answers.proofs.Meanings.{either-twin, kinds-twin, part-twin, plain-twin, same-twin, shared-twin, union-twin}
use Rattle.check_answers.proofs.Questions.{Before, Behind, D, Equal, W, before-atoms, before-behind, is-of-leads, kind-strict-leads, of-kind-leads, settled-twins, strict-leads, whether-kind-leads}
use Rattle.check_answers.proofs.SameTrees.{parts-same, strict-same, whole-same}
use Rattle.check_answers.proofs.Seeing.{narrowed-both, now-twins}
use Rattle.check_answers.proofs.Setting.{with-sorts}
use Rattle.check_answers.proofs.Words.{closes-choice-leads, flow-leads, makes-leads, new-slot-leads, no-more-leads, opens-choice-leads, part-leads, sets-flow-leads, sets-ways-leads, two-leads, unit-leads, want-leads, wanted-leads, wants-leads, wants-some-leads, ways-leads}
use Rattle.check_answers.proofs.Writing.{and-type, and-written, check-type, check-written, conditional-type, conditional-written, elvis-type, elvis-written, local-type, local-written, or-type, or-written, parens-type, parens-written, trap-type, trap-written}
use Rattle.check_answers.proofs.Zips.{last-same, option-map}

module _ (m n : Atoms) where
  abbrev B : Pairs
  B = Before m n

  abbrev A : Pairs
  A = Behind m n

  -- ---- literals and names

  pub literal-leads : (l : Literal) → Leads B A Any2 (gives_literal l) (gives_literal l)
  literal-leads l = strict-leads m n 0 _ _ _ _ _ refl (same-twin m n _)

  uses-same : (v u : Variable) → VariableTwins (D m n) (D m n) v u → not (u.captured && u.assigned) ≡ not (v.captured && v.assigned)
  uses-same v u h = ap (λ b. not (b && u.assigned)) h.captured ∙ ap (λ b. not (v.captured && b)) h.assigned

  pub uses-leads : (v u : Variable) (at : Place) → VariableTwins (D m n) (D m n) v u → Leads B B Any2 (uses v at) (uses u at)
  uses-leads v u at h = leads-unless B _ _ Captured at (uses-same v u h)

  local-same : (v u : Variable) (t w : Shared) (at : Place) (e f : TypedExpr) → VariableTwins (D m n) (D m n) v u → SameShared (shared_now v) t → SameShared (shared_now u) w
      → IsLocal v.slot (is_some v.narrowed) t at e → IsLocal u.slot (is_some u.narrowed) w at f → PartTwins (D m n) (W m n) e f
  local-same v u t w at e f h p q x y =
      parts-same (D m n) (W m n) e f t w _ _ (local-type _ _ t at e x) (local-type _ _ w at f y) (local-written _ _ t at e x) (local-written _ _ w at f y)
      (subst (λ s. W m n s w.value) (sym p) (subst (W m n (shared_now v).value) (sym q) (now-twins (D m n) (D m n) v u h).twins))
      (ap (λ k. say.IsLocal k (is_some u.narrowed) at) h.slot ∙ ap (λ b. say.IsLocal v.slot b at) (narrowed-both (D m n) (D m n) v.narrowed u.narrowed h.narrowed))

  pub variable-leads : (v u : Variable) (at : Place) → VariableTwins (D m n) (D m n) v u → Leads B A Any2 (gives_variable v at) (gives_variable u at)
  variable-leads v u at h =
      leads-then B B A Any2 Any2 _ _ _ _ (uses-leads v u at h)
      (λ x y k. makes-leads m n (D m n) (D m n) (W m n) (settled-twins m n) 0 _ _
      (λ es fs e f all x y. local-same v u x.0 y.0 at e f h x.1 y.1 x.2 y.2))

  pub constant-leads : (c : Constant) (at : Place) → Leads B A Any2 (gives_constant c at) (gives_constant c at)
  constant-leads c at = strict-leads m n 0 _ _ _ _ _ refl (same-twin m n _)

  -- ---- operators

  pub forms-leads : (op : Operator) (count : ℕ) (k : Kind) (at : Place) → Leads B A Any2 (forms op count k at) (forms op count k at)
  forms-leads op count k at = kind-strict-leads m n count _ _ k at refl

  sort-leads : Leads B B Equal last_sort last_sort
  sort-leads = leads-some B Equal _ _ (λ s t a b p x y. last-same s.sorts t.sorts a b p.states.sorts x y)

  pub sorts-leads : (b c : Bool) → c ≡ b → Leads B B Any2 (sorts b) (sorts c)
  sorts-leads b c e =
      leads-becomes B B _ _ (λ s t p. record {
        first = p.first;
        second = p.second;
        states = with-sorts (D m n) (D m n) s t p.states _ _ (ap (λ xs. xs ++ c ∷ []) p.states.sorts ∙ ap (λ k. s.sorts ++ k ∷ []) e);
      })

  pub takes-sort-leads : Leads B B Equal takes_sort takes_sort
  takes-sort-leads =
      leads-then B B B _ _ _ _ _ _ sort-leads
      (λ b c e. leads-then B B B Any2 _ _ _ _ _
      (leads-becomes B B _ _ (λ s t p. record {
        first = p.first;
        second = p.second;
        states = with-sorts (D m n) (D m n) s t p.states _ _ (ap (all_but 1) p.states.sorts);
      }))
      (λ x y k. leads-gives B _ b c e))

  by-sort : (P : Bool → Step) (b c : Bool) → c ≡ b → ((b : Bool) → Leads B A Any2 (P b) (P b)) → Leads B A Any2 (P b) (P c)
  by-sort P b c e f s t p o q x y h k = f b s t p o q x y h (subst (λ i. P i t q y) e k)

  pub adds-leads : (at : Place) → Leads B A Any2 (adds_up at) (adds_up at)
  adds-leads at =
      leads-then B B A _ _ _ _ _ _ takes-sort-leads
      (λ b c e. by-sort (λ ints. forms (operator_of ints) 2 (sort_kind ints) at) b c e (λ ints. forms-leads (operator_of ints) 2 (sort_kind ints) at))

  pub compares-leads : (op : Operator) (at : Place) → Leads B A Any2 (compares op at) (compares op at)
  compares-leads op at = leads-then B B A _ _ _ _ _ _ takes-sort-leads (λ b c e. forms-leads op 2 kind.Truth at)

  -- ---- deciding

  module _ (passes : List AtomDef → Asked → TypeLimit → Type 0) where
    decided-leads : (b c : Bool) (s u : SemType) (at : Place) → c ≡ b → AreTwins m s n u → Leads B B Any2 (decided passes b s at) (decided passes c u at)
    decided-leads true true s u at e h = leads-done B
    decided-leads false false s u at e h = of-kind-leads passes m n B (before-atoms m n) kind.Text s u at h
    decided-leads true false s u at e h = absurd (cc)
    decided-leads false true s u at e h = absurd (cc)

    pub decides-leads : (at : Place) → Leads B B Any2 (decides passes at) (decides passes at)
    decides-leads at =
        leads-then B B B _ Any2 _ _ _ _ (part-leads m n (D m n) (D m n))
        (λ e f h. leads-then B B B Equal Any2 _ _ _ _ (whether-kind-leads passes m n B (before-atoms m n) kind.Integer (sem e) (sem f) at h.ty.twins.shapes)
        (λ b c k. leads-then B B B Any2 Any2 _ _ _ _ (decided-leads b c (sem e) (sem f) at k h.ty.twins.shapes) (λ x y j. sorts-leads b c k)))

    equal-kind : (P : Kind → Step) (b c : Bool) → c ≡ b → ((k : Kind) → Leads B B Any2 (P k) (P k)) → Leads B B Any2 (P (sort_kind b)) (P (sort_kind c))
    equal-kind P b c e f s t p o q x y h k = f (sort_kind b) s t p o q x y h (subst (λ i. P (sort_kind i) t q y) e k)

    pub is-sort-leads : (at : Place) → Leads B B Any2 (is_of_sort passes at) (is_of_sort passes at)
    is-sort-leads at =
        leads-then B B B _ Any2 _ _ _ _ sort-leads (λ b c e. equal-kind (λ k. is_of passes k at) b c e (λ k. is-of-leads m n passes k at))

    -- ---- widening

    widens-to-leads : (ks : List Kind) (t u : Shared) (at : Place) → SharedTwins (D m n) (W m n) t u
        → Leads B B (SharedTwins (D m n) (W m n)) (widens_to passes ks t at) (widens_to passes ks u at)
    widens-to-leads [] t u at h = leads-gives B _ t u h
    widens-to-leads (k ∷ ks) t u at h =
        leads-then B B B Equal _ _ _ _ _ (whether-kind-leads passes m n B (before-atoms m n) k (sem_of t) (sem_of u) at h.shapes)
        (λ b c e. leads-either B B _ b c _ _ _ _ e
        (leads-over m n B _ _ _ (before-atoms m n) (λ r w x y. kinds-twin m n k r.value w.value x y))
        (widens-to-leads ks t u at h))

    pub widened-leads : (t u : Shared) (at : Place) → SharedTwins (D m n) (W m n) t u
        → Leads B B (SharedTwins (D m n) (W m n)) (widened passes t at) (widened passes u at)
    widened-leads t u at h = widens-to-leads (kind.Integer ∷ kind.Text ∷ kind.Truth ∷ []) t u at h

    pub widens-leads : (at : Place) → Leads B A Any2 (widens passes at) (widens passes at)
    widens-leads at =
        leads-then B B A _ Any2 _ _ _ _ (part-leads m n (D m n) (D m n))
        (λ e f h. leads-then B B A _ Any2 _ _ _ _ (widened-leads (type_of e) (type_of f) at h.ty.twins)
        (λ t u k. leads-from B A A Any2 _ _ (before-behind m n) (wants-leads m n (D m n) (W m n) (Some t) (Some u) k)))

  -- ---- conditions

  way-same : (way : Bool) (w x : Ways) → WaysTwins (D m n) (D m n) w x → FlowTwins (D m n) (D m n) (way_of way w) (way_of way x)
  way-same true w x h = h.yes
  way-same false w x h = h.no

  pub splits-leads : (way : Bool) → Leads B B Any2 (splits way) (splits way)
  splits-leads way =
      leads-then B B B _ Any2 _ _ _ _ (flow-leads m n (D m n) (D m n))
      (λ f g h. leads-then B B B _ Any2 _ _ _ _ (ways-leads m n (D m n) (D m n))
      (λ w x k. leads-then B B B Any2 Any2 _ _ _ _
      (opens-choice-leads m n (D m n) (D m n) _ _ (record { before = h; other = way-same (not way) w x k; first = h }))
      (λ u v j. sets-flow-leads m n (D m n) (D m n) _ _ (way-same way w x k))))

  pub switches-leads : Leads B B Any2 switches switches
  switches-leads =
      leads-then B B B _ Any2 _ _ _ _ (flow-leads m n (D m n) (D m n))
      (λ f g h. leads-then B B B _ Any2 _ _ _ _ (closes-choice-leads m n (D m n) (D m n))
      (λ c d k. leads-then B B B Any2 Any2 _ _ _ _
      (opens-choice-leads m n (D m n) (D m n) _ _ (record { before = k.before; other = k.other; first = h }))
      (λ u v j. sets-flow-leads m n (D m n) (D m n) _ _ k.other)))

  flow-weak : (f g : Flow) → FlowTwins (D m n) (D m n) f g → FlowTwins (D m n) (W m n) f g
  flow-weak f g h = flow-map (D m n) (D m n) (D m n) (W m n) (λ a b k. k) (settled-twins m n) f g h

  ways-set : (w x : Ways) → WaysTwins (D m n) (W m n) w x → Leads A A Any2 (sets_ways (Some w)) (sets_ways (Some x))
  ways-set w x h = sets-ways-leads m n (D m n) (W m n) (Some w) (Some x) h

  pub turns-leads : (at : Place) → Leads B A Any2 (turns at) (turns at)
  turns-leads at =
      leads-then B B A _ Any2 _ _ _ _ (ways-leads m n (D m n) (D m n))
      (λ w x h. leads-then B A A Any2 Any2 _ _ _ _ (forms-leads _ 1 kind.Truth at)
      (λ u v k. ways-set _ _ (record { yes = flow-weak _ _ h.no; no = flow-weak _ _ h.yes })))

  -- ---- parts of parts

  abbrev PartsD : TypedExpr → TypedExpr → Type 0
  PartsD = PartTwins (D m n) (D m n)

  parts-equal : (es fs xs ys : List TypedExpr) → AllZip PartsD es fs → es ≡ xs → fs ≡ ys → AllZip PartsD xs ys
  parts-equal es fs xs ys h x y = subst (λ l. AllZip PartsD l ys) x (subst (AllZip PartsD es) y h)

  whole : (e f : TypedExpr) → PartsD e f → SamePieces (D m n) (expr_pieces e) (expr_pieces f)
  whole e f h = whole-same (D m n) e f h

  abbrev twin-sems : (e f : TypedExpr) → PartsD e f → AreTwins m (sem e) n (sem f)
  twin-sems e f h = h.ty.twins.shapes

  abbrev Made : TypedExpr → TypedExpr → Type 0
  Made = PartTwins (D m n) (W m n)

  abbrev Makes : ℕ → (Atoms → List TypedExpr → TypedExpr → Type 0) → (Atoms → List TypedExpr → TypedExpr → Type 0) → Type 0
  Makes count P Q = Leads B A Any2 (makes count P) (makes count Q)

  made : (count : ℕ) (P Q : Atoms → List TypedExpr → TypedExpr → Type 0)
      → ((es fs : List TypedExpr) (e f : TypedExpr) → AllZip PartsD es fs → P m es e → Q n fs f → Made e f) → Makes count P Q
  made count P Q k = makes-leads m n (D m n) (D m n) (W m n) (settled-twins m n) count P Q k

  same : (e f : TypedExpr) (t u : Shared) (p q : Listed Piece) → type_of e ≡ t → type_of f ≡ u → written e ≡ say.with_type t p → written f ≡ say.with_type u q
      → W m n t.value u.value → SamePieces (D m n) p q → Made e f
  same = parts-same (D m n) (W m n)

  -- ---- both of two conditions, or one

  and-made : (at : Place) → Makes 2 (λ env parts e. Two parts (λ a b. (t : Shared) × OfKind kind.Truth env t.value × IsAnd a b t at e))
      (λ env parts e. Two parts (λ a b. (t : Shared) × OfKind kind.Truth env t.value × IsAnd a b t at e))
  and-made at =
      made 2 _ _ (λ es fs e f h (a, b, x, (t, k, is)) (c, d, y, (u, l, it)).
      let both = parts-equal es fs (a ∷ b ∷ []) (c ∷ d ∷ []) h x y in
      same e f t u _ _ (and-type a b t at e is) (and-type c d u at f it) (and-written a b t at e is) (and-written c d u at f it)
      (kinds-twin m n kind.Truth t.value u.value k l) (refl, (whole a c both.0, whole b d both.1.0)))

  or-made : (at : Place) → Makes 2 (λ env parts e. Two parts (λ a b. (t : Shared) × OfKind kind.Truth env t.value × IsOr a b t at e))
      (λ env parts e. Two parts (λ a b. (t : Shared) × OfKind kind.Truth env t.value × IsOr a b t at e))
  or-made at =
      made 2 _ _ (λ es fs e f h (a, b, x, (t, k, is)) (c, d, y, (u, l, it)).
      let both = parts-equal es fs (a ∷ b ∷ []) (c ∷ d ∷ []) h x y in
      same e f t u _ _ (or-type a b t at e is) (or-type c d u at f it) (or-written a b t at e is) (or-written c d u at f it)
      (kinds-twin m n kind.Truth t.value u.value k l) (refl, (whole a c both.0, whole b d both.1.0)))

  pub joins-leads : (F : Pairs) (f g a b : Flow) → ((s t : State) → F s t → (s.atoms ≡ m) × (t.atoms ≡ n)) → FlowTwins (D m n) (D m n) f a
      → FlowTwins (D m n) (D m n) g b → Leads F F (FlowTwins (D m n) (W m n)) (joins_two f g) (joins_two a b)
  joins-leads F f g a b at h k =
      leads-over m n F _ _ _ at (λ c d x y. joins-twin m n f g c a b d (flow-weak f a h) (flow-weak g b k) x y)

  pub conjoins-leads : (at : Place) → Leads B A Any2 (conjoins at) (conjoins at)
  conjoins-leads at =
      leads-then B B A _ Any2 _ _ _ _ (ways-leads m n (D m n) (D m n))
      (λ w x h. leads-then B B A _ Any2 _ _ _ _ (closes-choice-leads m n (D m n) (D m n))
      (λ c d k. leads-then B B A _ Any2 _ _ _ _ (joins-leads B c.other w.no d.other x.no (before-atoms m n) k.other h.no)
      (λ f g j. leads-then B B A Any2 Any2 _ _ _ _ (sets-flow-leads m n (D m n) (D m n) c.before d.before k.before)
      (λ u v l. leads-then B A A Any2 Any2 _ _ _ _ (and-made at)
      (λ y z o. ways-set _ _ (record { yes = flow-weak w.yes x.yes h.yes; no = j }))))))

  pub disjoins-leads : (at : Place) → Leads B A Any2 (disjoins at) (disjoins at)
  disjoins-leads at =
      leads-then B B A _ Any2 _ _ _ _ (ways-leads m n (D m n) (D m n))
      (λ w x h. leads-then B B A _ Any2 _ _ _ _ (closes-choice-leads m n (D m n) (D m n))
      (λ c d k. leads-then B B A _ Any2 _ _ _ _ (joins-leads B c.other w.yes d.other x.yes (before-atoms m n) k.other h.yes)
      (λ f g j. leads-then B B A Any2 Any2 _ _ _ _ (sets-flow-leads m n (D m n) (D m n) c.before d.before k.before)
      (λ u v l. leads-then B A A Any2 Any2 _ _ _ _ (or-made at)
      (λ y z o. ways-set _ _ (record { yes = j; no = flow-weak w.no x.no h.no }))))))

  -- ---- choices

  chosen : (at : Place) → Makes 3 (λ env parts e. Three parts (λ c a b. (t : Shared) × UnionOf (sem a) (sem b) env t.value × IsConditional c a b t at e))
      (λ env parts e. Three parts (λ c a b. (t : Shared) × UnionOf (sem a) (sem b) env t.value × IsConditional c a b t at e))
  chosen at =
      made 3 _ _ (λ es fs e f h (c, a, b, x, (t, k, is)) (o, p, q, y, (u, l, it)).
      let all = parts-equal es fs (c ∷ a ∷ b ∷ []) (o ∷ p ∷ q ∷ []) h x y in
      same e f t u _ _ (conditional-type c a b t at e is) (conditional-type o p q u at f it) (conditional-written c a b t at e is) (conditional-written o p q u at f it)
      (union-twin m n (sem a) (sem b) (sem p) (sem q) t.value u.value (twin-sems a p all.1.0) (twin-sems b q all.1.1.0) k l)
      (refl, (whole c o all.0, (whole a p all.1.0, whole b q all.1.1.0))))

  pub chooses-leads : (at : Place) → Leads B A Any2 (chooses at) (chooses at)
  chooses-leads at =
      leads-then B B A _ Any2 _ _ _ _ (closes-choice-leads m n (D m n) (D m n))
      (λ c d h. leads-then B B A Any2 Any2 _ _ _ _ (sets-flow-leads m n (D m n) (D m n) c.before d.before h.before) (λ u v k. chosen at))

  abbrev FilledBy : ℕ → Place → Atoms → List TypedExpr → TypedExpr → Type 0
  FilledBy own at env parts e =
      Two parts (λ a b. (t : Shared) × IsPlain (λ x. (In env x (sem a) × ¬ IsNil x) ⊎ In env x (sem b)) env t.value × IsElvis own a b t at e)

  filled : (own : ℕ) (at : Place) → Makes 2 (FilledBy own at) (FilledBy own at)
  filled own at =
      made 2 _ _ (λ es fs e f h (a, b, x, (t, k, is)) (c, d, y, (u, l, it)).
      let all = parts-equal es fs (a ∷ b ∷ []) (c ∷ d ∷ []) h x y in
      same e f t u _ _ (elvis-type own a b t at e is) (elvis-type own c d u at f it) (elvis-written own a b t at e is) (elvis-written own c d u at f it)
      (plain-twin m n _ _ t.value u.value (λ i v. either (both (twin-sems a c all.0 i v) itself) (twin-sems b d all.1.0 i v)) k l)
      (refl, (whole a c all.0, whole b d all.1.0)))

  -- what a number names in both is the same one
  by-number : (P : ℕ → Step) (k l : ℕ) → l ≡ k → ((k : ℕ) → Leads B A Any2 (P k) (P k)) → Leads B A Any2 (P k) (P l)
  by-number P k l e f s t p o q x y h i = f k s t p o q x y h (subst (λ j. P j t q y) e i)

  pub fills-nil-leads : (at : Place) → Leads B A Any2 (fills_nil at) (fills_nil at)
  fills-nil-leads at =
      leads-then B B A _ Any2 _ _ _ _ (two-leads m n (D m n) (D m n))
      (λ p q h. leads-then B B A _ Any2 _ _ _ _ (new-slot-leads m n (D m n) (D m n) _ _ h.0.ty)
      (λ k l e. by-number (λ own. makes 2 (FilledBy own at)) k l e (λ own. filled own at)))

  enclosed : (at : Place) → Makes 1 (λ env parts e. One parts (λ a. (t : Shared) × SameShared (type_of a) t × IsParens a t at e))
      (λ env parts e. One parts (λ a. (t : Shared) × SameShared (type_of a) t × IsParens a t at e))
  enclosed at =
      made 1 _ _ (λ es fs e f h (a, x, (t, k, is)) (c, y, (u, l, it)).
      let all = parts-equal es fs (a ∷ []) (c ∷ []) h x y in
      same e f t u _ _ (parens-type a t at e is) (parens-type c u at f it) (parens-written a t at e is) (parens-written c u at f it)
      (subst (λ i. W m n i u.value) (sym k) (subst (W m n (type_of a).value) (sym l) all.0.ty.twins)) (refl, whole a c all.0))

  equal-options : (w x y z : Option Ways) → y ≡ w → z ≡ x → SameOption (WaysTwins (D m n) (D m n)) w x → SameOption (WaysTwins (D m n) (D m n)) y z
  equal-options w x y z e f h =
      subst (λ k. SameOption (WaysTwins (D m n) (D m n)) k z) (sym e) (subst (SameOption (WaysTwins (D m n) (D m n)) w) (sym f) h)

  ways-weak : (w x : Ways) → WaysTwins (D m n) (D m n) w x → WaysTwins (D m n) (W m n) w x
  ways-weak w x h = record { yes = flow-weak w.yes x.yes h.yes; no = flow-weak w.no x.no h.no }

  pub encloses-leads : (at : Place) → Leads B A Any2 (encloses at) (encloses at)
  encloses-leads at =
      leads-then B B A (SameOption (WaysTwins (D m n) (D m n))) Any2 _ _ _ _
      (leads-some B _ _ _ (λ s t a b p x y. equal-options s.ways t.ways a b x y p.states.ways))
      (λ w x h. leads-then B A A Any2 Any2 _ _ _ _ (enclosed at)
      (λ u v k. sets-ways-leads m n (D m n) (W m n) w x (option-map _ _ ways-weak w x h)))

  -- ---- errors

  abbrev CheckedBy : Bool → ℕ → Place → Atoms → List TypedExpr → TypedExpr → Type 0
  CheckedBy panics own at env parts e = One parts (λ b. (t : Shared) × PartOf (sem b) (λ x. ¬ IsError x) env t.value × IsCheck panics own b t at e)

  check-made : (panics : Bool) (own : ℕ) (at : Place) → Makes 1 (CheckedBy panics own at) (CheckedBy panics own at)
  check-made panics own at =
      made 1 _ _ (λ es fs e f h (a, x, (t, k, is)) (c, y, (u, l, it)).
      let all = parts-equal es fs (a ∷ []) (c ∷ []) h x y in
      same e f t u _ _ (check-type panics own a t at e is) (check-type panics own c u at f it) (check-written panics own a t at e is)
      (check-written panics own c u at f it) (part-twin m n (sem a) (sem c) _ t.value u.value (twin-sems a c all.0) k l) (refl, whole a c all.0))

  pub checked-leads : (panics : Bool) (at : Place) → Leads B A Any2 (checked panics at) (checked panics at)
  checked-leads panics at =
      leads-then B B A _ Any2 _ _ _ _ (part-leads m n (D m n) (D m n))
      (λ e f h. leads-then B B A _ Any2 _ _ _ _ (new-slot-leads m n (D m n) (D m n) _ _ h.ty)
      (λ k l i. by-number (λ own. makes 1 (CheckedBy panics own at)) k l i (λ own. check-made panics own at)))

  pub traps-leads : (at : Place) → Leads B A Any2 (traps at) (traps at)
  traps-leads at =
      made 1 _ _ (λ es fs e f h (a, x, (t, k, is)) (c, y, (u, l, it)).
      let all = parts-equal es fs (a ∷ []) (c ∷ []) h x y in
      same e f t u _ _ (trap-type a t at e is) (trap-type c u at f it) (trap-written a t at e is) (trap-written c u at f it)
      (either-twin m n (sem a) (sem c) _ t.value u.value (twin-sems a c all.0) k l) (refl, whole a c all.0))

  -- ---- what is wanted

  pub drops-want-leads : Leads B B Any2 drops_want drops_want
  drops-want-leads = no-more-leads m n (D m n) (D m n) 1

  pub wants-weak : (w x : Option Shared) → SameOption (SharedTwins (D m n) (W m n)) w x → Leads B A Any2 (wants w) (wants x)
  wants-weak w x h = leads-from B A A Any2 _ _ (before-behind m n) (wants-leads m n (D m n) (W m n) w x h)

  pub wants-some-weak : (P Q : Atoms → Ty → Type 0) → ((s t : Ty) → P m s → Q n t → W m n s t) → Leads B A Any2 (wants_some P) (wants_some Q)
  wants-some-weak P Q f = leads-from B A A Any2 _ _ (before-behind m n) (wants-some-leads m n (D m n) (W m n) P Q f)

  pub wants-result-leads : Leads B A Any2 wants_result wants_result
  wants-result-leads =
      leads-then B B A _ Any2 _ _ _ _ (unit-leads m n (D m n) (D m n)) (λ u v h. wants-weak (Some u.result) (Some v.result) h.result.twins)

  beside-leads : (w x : Option Shared) → SameOption (SharedTwins (D m n) (D m n)) w x → Leads B A Any2 (wants_beside_error w) (wants_beside_error x)
  beside-leads None None h = wants-weak None None tt
  beside-leads (Some t) (Some u) h = wants-some-weak _ _ (λ a b x y. either-twin m n (sem_of t) (sem_of u) IsError a b h.twins.shapes x y)
  beside-leads None (Some u) h = absurd h
  beside-leads (Some t) None h = absurd h

  pub wants-error-leads : Leads B A Any2 wants_error_too wants_error_too
  wants-error-leads = leads-then B B A _ Any2 _ _ _ _ (want-leads m n (D m n) (D m n)) beside-leads

  cast-made : (t u : Shared) (at : Place) → SharedTwins (D m n) (D m n) t u
      → Makes 1 (λ env parts e. One parts (λ a. (r : Shared) × SharedOf (sem a) (sem_of t) env r.value × IsStrict (form.Cast t) parts r at e))
      (λ env parts e. One parts (λ a. (r : Shared) × SharedOf (sem a) (sem_of u) env r.value × IsStrict (form.Cast u) parts r at e))
  cast-made t u at w =
      made 1 _ _ (λ es fs e f h (a, x, (r, k, is)) (c, y, (q, l, it)).
      let all = parts-equal es fs (a ∷ []) (c ∷ []) h x y in
      strict-same (D m n) (W m n) _ _ es fs r q at e f (refl, w) h
      (shared-twin m n (sem a) (sem_of t) (sem c) (sem_of u) r.value q.value (twin-sems a c all.0) w.twins.shapes k l) is it)

  pub casts-leads : (at : Place) → Leads B A Any2 (casts at) (casts at)
  casts-leads at =
      leads-then B B A _ Any2 _ _ _ _ (wanted-leads m n (D m n) (D m n))
      (λ t u h. leads-then B B A Any2 Any2 _ _ _ _ drops-want-leads (λ x y k. cast-made t u at h))
