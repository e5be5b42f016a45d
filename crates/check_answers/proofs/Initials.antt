-- Initial values of module variables: two runs of each need agree.
use Rattle.std.proofs.Common.{◌≡◌, ◌++◌, ℕ, Bool, true, false, [], ◌∷◌, Option, None, Some, refl, sym, subst, ap, ◌∙◌}
use Rattle.bal_base.specs.declared.place.Place.{Place}
use Rattle.bal_tree.specs.declared.def.VariableDef.{VariableDef}
use Rattle.descriptors.specs.declared.names.Names.{Names}
use Rattle.descriptors.specs.declared.names.Scope.{Scope}
use Rattle.descriptors.specs.Described.{IsCopy}
use Rattle.type_model.specs.declared.basic.Ty.{Ty}
use Rattle.typed_tree.specs.declared.expr.TypedExpr.{TypedExpr}
use Rattle.typed_tree.specs.declared.package.Initial.{Initial}
use Rattle.typed_tree.specs.declared.package.ModuleVariable.{ModuleVariable}
use Rattle.typed_tree.specs.SharedTypes.{Shared}
use Rattle.expr_needs.specs.declared.kind.Kind.TheVariants as kind
use Rattle.check_words.specs.Actions.{site_now}
use Rattle.check_words.specs.Calls.{opens_unit}
use Rattle.check_words.specs.Sharing.{SameOption, SameUnit}
use Rattle.check_words.specs.State.{Done, InitialiserAtWork, UnitAtWork}
use Rattle.check_words.specs.Units.{IsInitial, IsModuleVariable, begins_initial, ends_initial, ends_value, initialiser_now, initialiser_or_new, initialiser_unit, keeps_at_work, sets_initialiser, variable_type}
use Rattle.check_words.specs.Words.{Atoms}
use Rattle.check_answers.specs.Pieces as say
use Rattle.check_answers.specs.Pieces.{SamePieces, initial_pieces, variable_pieces}
use Rattle.check_answers.specs.TwinStates.{DoneTwins, InitialiserTwins, PartTwins, SharedTwins, SiteTwins, UnitTwins}
use Rattle.check_answers.specs.TwinTypes.{TwinAtoms}
use Rattle.check_answers.proofs.Actions.{site-leads}
use Rattle.check_answers.proofs.Calls.{closes-unit-leads, number-leads}
use Rattle.check_answers.proofs.Handed.{unit-handed}
use Rattle.check_answers.proofs.Leading.{Any2, Leads, Pairs, leads-becomes, leads-done, leads-from, leads-gives, leads-handles, leads-over, leads-some, leads-then}
use Rattle.check_answers.proofs.Mapping.{unit-map}
use Rattle.check_answers.proofs.Meanings.{copies-twin, itself-twin, kinds-twin}
use Rattle.check_answers.proofs.Questions.{Before, Behind, D, Equal, W, before-atoms, before-behind, settled-twins}
use Rattle.check_answers.proofs.SameTrees.{whole-same}
use Rattle.check_answers.proofs.Setting.{with-initialiser, with-units, with-ways}
use Rattle.check_answers.proofs.Statements.{takes-part-leads}
use Rattle.check_answers.proofs.Units.{changes-done-leads}
use Rattle.check_answers.proofs.Values.{drops-want-leads}
use Rattle.check_answers.proofs.Words.{At, at-atoms, wanted-leads, wants-leads}
use Rattle.check_answers.proofs.Zips.{zip-one}

module _ (m n : Atoms) (twins : TwinAtoms m n) where
  abbrev B : Pairs
  B = Before m n

  abbrev A : Pairs
  A = Behind m n

  abbrev E : Ty → Ty → Type 0
  E = D m n

  abbrev V : Ty → Ty → Type 0
  V = W m n

  -- ---- the initialiser at hand

  unit-same : (k l : ℕ) (t u : Shared) → l ≡ k → SharedTwins E V t u → UnitTwins E V (initialiser_unit k t) (initialiser_unit l u)
  unit-same k l t u e h =
      record {
        number = e;
        worker = refl;
        slots = tt;
        params = refl;
        rest = refl;
        rest_member = tt;
        result = h;
        arrow = refl;
        future = refl;
        captured = tt;
        flow = record { variables = tt; reached = refl };
      }

  weak : (i j : InitialiserAtWork) → InitialiserTwins E E i j → InitialiserTwins E V i j
  weak i j h = record { unit = unit-map E E E V (λ a b k. k) (settled-twins m n) i.unit j.unit h.unit; values = h.values }

  or-new : (o p : Option InitialiserAtWork) → SameOption (InitialiserTwins E E) o p → Leads B B (InitialiserTwins E V) (initialiser_or_new o) (initialiser_or_new p)
  or-new (Some i) (Some j) h = leads-gives B _ i j (weak i j h)
  or-new None None h =
      leads-then B B B Equal (InitialiserTwins E V) _ _ _ _ (number-leads m n)
      (λ k l e. leads-then B B B (SharedTwins E V) (InitialiserTwins E V) _ _ _ _
      (leads-over m n B _ _ _ (before-atoms m n) (λ t u x y. kinds-twin m n kind.ErrorOrNil t.value u.value x y))
      (λ t u i. leads-gives B (InitialiserTwins E V) _ _ (record { unit = unit-same k l t u e i; values = tt })))
  or-new None (Some j) h = absurd h
  or-new (Some i) None h = absurd h

  equal-options : (o p q r : Option InitialiserAtWork) → q ≡ o → r ≡ p → SameOption (InitialiserTwins E E) o p → SameOption (InitialiserTwins E E) q r
  equal-options o p q r e f h = subst (λ k. SameOption (InitialiserTwins E E) k r) (sym e) (subst (SameOption (InitialiserTwins E E) o) (sym f) h)

  now-leads : Leads B B (InitialiserTwins E V) initialiser_now initialiser_now
  now-leads =
      leads-then B B B (SameOption (InitialiserTwins E E)) (InitialiserTwins E V) _ _ _ _
      (leads-some B _ _ _ (λ s t o p q x y. equal-options s.initialiser t.initialiser o p x y q.states.initialiser)) or-new

  module _ (R : Ty → Ty → Type 0) where
    abbrev F : Pairs
    F = At m n E R

    sets-leads : (o p : Option InitialiserAtWork) → SameOption (InitialiserTwins E R) o p → Leads F F Any2 (sets_initialiser o) (sets_initialiser p)
    sets-leads o p h =
        leads-becomes F F _ _ (λ s t q. record { first = q.first; second = q.second; states = with-initialiser E R s t q.states o p h })

    pub opens-leads : (u v : UnitAtWork) → UnitTwins E R u v → Leads F F Any2 (opens_unit u) (opens_unit v)
    opens-leads u v h =
        leads-then F F F (UnitTwins E R) Any2 _ _ _ _ (leads-handles F _ SameUnit SameUnit u v (λ a b p q. unit-handed E R u v a b h p q))
        (λ a b k. leads-becomes F F _ _ (λ s t p. record {
          first = p.first;
          second = p.second;
          states = let q = with-units E R s t p.states _ _ (zip-one (UnitTwins E R) s.units t.units a b p.states.units k) in with-ways E R _ _ q None None tt;
        }))

  at-work-leads : (kept : Bool) (i j : InitialiserAtWork) → InitialiserTwins E V i j → Leads A A Any2 (keeps_at_work kept i) (keeps_at_work kept j)
  at-work-leads true i j h = sets-leads V (Some i) (Some j) h
  at-work-leads false i j h = leads-done A

  -- the number and the type of the variable
  pub site-at : Leads A A (SiteTwins E V) site_now site_now
  site-at = leads-some A _ _ _ (λ s t a b p x y. subst (λ k. SiteTwins E V k b) (sym x) (subst (SiteTwins E V s.site) (sym y) p.states.site))

  type-at : (names : Names) (d : VariableDef) → Leads A A Equal (variable_type names d) (variable_type names d)
  type-at names d =
      leads-then A A A (SiteTwins E V) Equal _ _ _ _ site-at
      (λ s t h. leads-some A Equal _ _ (λ i j a b p x y. let e : t.scope.«module» ≡ s.scope.«module» = ap (λ (c : Scope). c.«module») h.scope in cc))

  type-leads : (names : Names) (d : VariableDef) → Leads B B Equal (variable_type names d) (variable_type names d)
  type-leads names d =
      leads-then B B B (SiteTwins E E) Equal _ _ _ _ (site-leads m n)
      (λ s t h. leads-some B Equal _ _ (λ i j a b p x y. let e : t.scope.«module» ≡ s.scope.«module» = ap (λ (c : Scope). c.«module») h.scope in cc))

  copy-at : (t u : ℕ × Ty) (a b : Shared) → u ≡ t → IsCopy t.1 a.value → IsCopy u.1 b.value → SharedTwins E V a b
  copy-at t u a b e x y = copies-twin m n t.1 t.1 a.value b.value (itself-twin m n twins t.1) x (subst (λ (k : ℕ × Ty). IsCopy k.1 b.value) e y)

  pub begins-initial-leads : (names : Names) (d : VariableDef) (kept : Bool) → Leads B A Any2 (begins_initial names d kept) (begins_initial names d kept)
  begins-initial-leads names d kept =
      leads-then B B A (InitialiserTwins E V) Any2 _ _ _ _ now-leads
      (λ i j h. leads-from B A A Any2 _ _ (before-behind m n) (leads-then A A A Any2 Any2 _ _ _ _ (at-work-leads kept i j h)
      (λ x y z. leads-then A A A Any2 Any2 _ _ _ _ (opens-leads V i.unit j.unit h.unit)
      (λ u v w. leads-then A A A Equal Any2 _ _ _ _ (type-at names d)
      (λ t o e. leads-then A A A (SharedTwins E V) Any2 _ _ _ _ (leads-over m n A _ _ _ (at-atoms m n E V) (λ a b x y. copy-at t o a b e x y))
      (λ a b k. wants-leads m n E V (Some a) (Some b) k))))))

  -- ---- the end of an initial value

  variable-same : (d : VariableDef) (s t : Scope) (a b : Shared) (v w : ModuleVariable) → t ≡ s → SharedTwins E E a b → IsModuleVariable d s a v → IsModuleVariable d t b w
      → SamePieces E (variable_pieces v) (variable_pieces w)
  variable-same d s t a b v w e h x y = (
    ap (λ i. say.IsVariable i w.file w.name w.is_final w.at) (y.«module» ∙ ap (λ (c : Scope). c.«module») e ∙ sym x.«module»)
        ∙ ap (λ i. say.IsVariable v.«module» i w.name w.is_final w.at) (y.file ∙ sym x.file) ∙ ap (λ i. say.IsVariable v.«module» v.file i w.is_final w.at) (y.name ∙ sym x.name)
        ∙ ap (λ i. say.IsVariable v.«module» v.file v.name i w.at) (y.final ∙ sym x.final) ∙ ap (say.IsVariable v.«module» v.file v.name v.is_final) (y.at ∙ sym x.at),
    subst (λ (k : Shared). E k.value w.ty.value) (sym x.ty) (subst (λ (k : Shared). E a.value k.value) (sym y.ty) h),
  )

  with-module-variable : (v w : ModuleVariable) (a b : Done) → SamePieces E (variable_pieces v) (variable_pieces w) → DoneTwins E a b
      → DoneTwins E (record a { variables = a.variables ++ v ∷ [] }) (record b { variables = b.variables ++ w ∷ [] })
  with-module-variable v w a b h k =
      record {
        next_unit = k.next_unit;
        functions = k.functions;
        workers = k.workers;
        variables = zip-one (λ x y. SamePieces E (variable_pieces x) (variable_pieces y)) a.variables b.variables v w k.variables h;
        initialisers = k.initialisers;
      }

  initial-same : (k l : ℕ) (e f : TypedExpr) (at : Place) (x y : Initial) → l ≡ k → PartTwins E E e f → IsInitial k e at x → IsInitial l f at y
      → SamePieces E (initial_pieces x) (initial_pieces y)
  initial-same k l e f at x y i h (p, q, r) (a, b, c) = (
    ap (λ j. say.IsInitial j y.at) (a ∙ i ∙ sym p) ∙ ap (say.IsInitial x.variable) (c ∙ sym r),
    whole-same E x.value.value y.value.value (subst (λ j. PartTwins E E j y.value.value) (sym q) (subst (PartTwins E E e) (sym b) h)),
  )

  numbered : (k l : ℕ) (a b : Done) → l ≡ k → DoneTwins E a b → DoneTwins E (record a { next_unit = k }) (record b { next_unit = l })
  numbered k l a b e h =
      record { next_unit = e; functions = h.functions; workers = h.workers; variables = h.variables; initialisers = h.initialisers }

  value-leads : (kept : Bool) (u v : UnitAtWork) (k l : ℕ) (e f : TypedExpr) (at : Place) → UnitTwins E E u v → l ≡ k → PartTwins E E e f
      → Leads B B Any2 (ends_value kept u k e at) (ends_value kept v l f at)
  value-leads true u v k l e f at h i p =
      leads-then B B B (InitialiserTwins E V) Any2 _ _ _ _ now-leads
      (λ a b j. leads-then B B B (λ x y. SamePieces E (initial_pieces x) (initial_pieces y)) Any2 _ _ _ _
      (leads-some B _ _ _ (λ s t x y q r w. initial-same k l e f at x y i p r w))
      (λ x y q. sets-leads E _ _ (record { unit = h; values = zip-one (λ c d. SamePieces E (initial_pieces c) (initial_pieces d)) a.values b.values x y j.values q })))
  value-leads false u v k l e f at h i p = changes-done-leads m n _ _ (λ a b q. numbered u.number v.number a b h.number q)

  pub ends-initial-leads : (names : Names) (d : VariableDef) (kept : Bool) → Leads B B Any2 (ends_initial names d kept) (ends_initial names d kept)
  ends-initial-leads names d kept =
      leads-then B B B (PartTwins E E) Any2 _ _ _ _ (takes-part-leads m n)
      (λ e f h. leads-then B B B (SharedTwins E E) Any2 _ _ _ _ (wanted-leads m n E E)
      (λ t w k. leads-then B B B Any2 Any2 _ _ _ _ (drops-want-leads m n)
      (λ a1 a2 a3. leads-then B B B (UnitTwins E E) Any2 _ _ _ _ (closes-unit-leads m n)
      (λ u v i. leads-then B B B (SiteTwins E E) Any2 _ _ _ _ (site-leads m n)
      (λ a b j. leads-then B B B Equal Any2 _ _ _ _ (type-leads names d)
      (λ x y z. leads-then B B B (λ c o. SamePieces E (variable_pieces c) (variable_pieces o)) Any2 _ _ _ _
      (leads-some B _ _ _ (λ s r c o p q g. variable-same d a.scope b.scope t w c o j.scope k q g))
      (λ c o p. leads-then B B B Any2 Any2 _ _ _ _ (changes-done-leads m n _ _ (λ q r g. with-module-variable c o q r p g))
      (λ b1 b2 b3. value-leads kept u v x.0 y.0 e f d.name.at i (ap (λ (q : ℕ × Ty). q.0) z) h))))))))
