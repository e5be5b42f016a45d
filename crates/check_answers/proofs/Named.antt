-- Names as values: two runs of each need agree.
use Rattle.std.proofs.Common.{◌≡◌, ◌↔◌, ℕ, IsSomeAnd, slice_get, Bool, List, Option, None, Some, refl, sym, subst, ap}
use Rattle.bal_base.specs.declared.fault.FaultCode.{FaultCode}
use Rattle.bal_base.specs.declared.fault.FaultCode.TheVariants.{Arity, NameAsValue, Unknown}
use Rattle.bal_base.specs.declared.place.Place.{Place}
use Rattle.bal_base.specs.declared.shape.Shape.{Shape}
use Rattle.bal_tree.specs.declared.name.QualifiedName.{QualifiedName}
use Rattle.checks.specs.Agreement.{AreTwins}
use Rattle.checks.specs.Checks.{Check}
use Rattle.descriptors.specs.declared.names.Meaning.{Meaning}
use Rattle.descriptors.specs.declared.names.Meaning.TheVariants as meaning
use Rattle.descriptors.specs.declared.names.Names.{Names}
use Rattle.descriptors.specs.declared.names.Signature.{Signature}
use Rattle.descriptors.specs.Described.{IsCopy, plain}
use Rattle.flow_narrowing.specs.declared.flow.Variable.{Variable}
use Rattle.operations.specs.Kinds.{IsError}
use Rattle.operations.specs.declared.operation.Constant.{Constant}
use Rattle.operations.specs.declared.operation.Constant.TheVariants as constant
use Rattle.operations.specs.Rows.{shape_of}
use Rattle.type_model.specs.declared.answers.Keys.TheVariants.{Results}
use Rattle.type_model.specs.declared.answers.TypeLimit.{TypeLimit}
use Rattle.type_model.specs.declared.atoms.AtomDef.{AtomDef}
use Rattle.type_model.specs.declared.basic.SemType.{SemType, Basic, Atom, Or', And', Not'}
use Rattle.type_model.specs.declared.basic.Ty.{Ty}
use Rattle.type_model.specs.Calls.{Asked}
use Rattle.type_model.specs.Membership.{In}
use Rattle.type_model.proofs.Same.{both, either as either-same, itself, neither}
use Rattle.typed_tree.specs.declared.form.StrictForm.TheVariants as form
use Rattle.expr_needs.specs.declared.kind.Kind.{Kind}
use Rattle.expr_needs.specs.declared.kind.Kind.TheVariants as kind
use Rattle.check_words.specs.Actions.{awaits, awaits_by, awaits_future}
use Rattle.check_words.specs.Calls.{calls_function, calls_meaning, calls_named, calls_seen, calls_seen_value, calls_value, function_takes}
use Rattle.check_words.specs.Library.{LibraryRow}
use Rattle.check_words.specs.Seen.{Seen, SeenConstant, SeenLibrary, SeenMeaning, SeenNothing, SeenVariable, SeenWorker, looks_up, worker_named}
use Rattle.check_words.specs.State.{OfFunction, State}
use Rattle.check_words.specs.Values.{constant_in, gives_meaning, gives_named, gives_seen}
use Rattle.check_words.specs.Words.{Atoms, is_of, sem}
use Rattle.check_answers.specs.Pieces.{DoesForm}
use Rattle.check_answers.specs.TwinStates.{SharedTwins, SiteTwins, VariableTwins}
use Rattle.check_answers.specs.TwinTypes.{TwinAtoms}
use Rattle.check_answers.proofs.Actions.{result-leads, site-leads}
use Rattle.check_answers.proofs.Calls.{calls-leads, calls-library-leads}
use Rattle.check_answers.proofs.Leading.{Any2, Leads, Pairs, leads-either, leads-fails, leads-over, leads-some, leads-then, leads-unless}
use Rattle.check_answers.proofs.Meanings.{copies-twin, either-twin, equal-twin, itself-twin}
use Rattle.check_answers.proofs.Questions.{Before, Behind, D, Equal, W, before-atoms, member-leads, of-kind-leads, stays, strict-leads}
use Rattle.check_answers.proofs.Seeing.{SeenTwins, seen-twins}
use Rattle.check_answers.proofs.Values.{constant-leads, variable-leads, wants-weak}
use Rattle.check_answers.proofs.Words.{at-atoms, opens-call-leads, part-leads, unit-leads, wants-some-leads}

-- ---- constants

constants-same : (c d : Constant) → shape_of d ≡ shape_of c → d ≡ c
constants-same constant.Nil constant.Nil e = refl
constants-same (constant.Bool a) (constant.Bool b) e = cc
constants-same (constant.Int a) (constant.Int b) e = cc
constants-same (constant.Str a) (constant.Str b) e = cc
constants-same _ _ e = absurd (cc)

-- the value of a constant is in no atom, so the same types have it over any atoms
nowhere : (o : Option AtomDef) → ¬ IsSomeAnd o (λ d. ⊥)
nowhere None h = h
nowhere (Some d) h = h

in-no-atom : (env : Atoms) (c : Constant) (a : ℕ) → ¬ In env (shape_of c) (Atom a)
in-no-atom env constant.Nil a h = nowhere (slice_get env a) h
in-no-atom env (constant.Bool b) a h = nowhere (slice_get env a) h
in-no-atom env (constant.Int i) a h = nowhere (slice_get env a) h
in-no-atom env (constant.Str t) a h = nowhere (slice_get env a) h

value-twins : (m n : Atoms) (c : Constant) (t : SemType) → In m (shape_of c) t ↔ In n (shape_of c) t
value-twins m n c (Basic b) = itself
value-twins m n c (Atom a) = (λ h. absurd (in-no-atom m c a h), λ h. absurd (in-no-atom n c a h))
value-twins m n c (Or' _ s _ t) = either-same (value-twins m n c s) (value-twins m n c t)
value-twins m n c (And' _ s _ t) = both (value-twins m n c s) (value-twins m n c t)
value-twins m n c (Not' _ t) = neither (value-twins m n c t)

module _ (m n : Atoms) (twins : TwinAtoms m n) where
  abbrev B : Pairs
  B = Before m n

  abbrev A : Pairs
  A = Behind m n

  abbrev E : Ty → Ty → Type 0
  E = D m n

  abbrev V : Ty → Ty → Type 0
  V = W m n

  abbrev Seens : Seen → Seen → Type 0
  Seens = SeenTwins E E

  equal-seens : (a b c d : Seen) → c ≡ a → d ≡ b → Seens a b → Seens c d
  equal-seens a b c d e f h = subst (λ k. Seens k d) (sym e) (subst (Seens a) (sym f) h)

  pub looks-leads : (names : Names) (q : QualifiedName) → Leads B B Seens (looks_up names q) (looks_up names q)
  looks-leads names q =
      leads-then B B B _ Seens _ _ _ _ (unit-leads m n E E)
      (λ u v h. leads-some B Seens _ _
      (λ s t a b p x y. equal-seens _ _ a b x y
      (seen-twins E E names s.site t.site q u.flow.variables v.flow.variables p.states.site h.flow.variables)))

  -- what goes by what is seen
  module _ {X Y : Type 0} (F G : Pairs) (Q : X → Y → Type 0) (P : Seen → Check State X) (S : Seen → Check State Y)
      (variable : (v u : Variable) → VariableTwins E E v u → Leads F G Q (P (SeenVariable v)) (S (SeenVariable u)))
      (worker : (w : ℕ) → Leads F G Q (P (SeenWorker w)) (S (SeenWorker w))) (fixed : (c : Constant) → Leads F G Q (P (SeenConstant c)) (S (SeenConstant c)))
      (library : (r : LibraryRow) → Leads F G Q (P (SeenLibrary r)) (S (SeenLibrary r)))
      (known : (k : Meaning) → Leads F G Q (P (SeenMeaning k)) (S (SeenMeaning k)))
      (nothing : (code : FaultCode) → Leads F G Q (P (SeenNothing code)) (S (SeenNothing code))) where
    other : (a b : Seen) → b ≡ a → Leads F G Q (P a) (S a) → Leads F G Q (P a) (S b)
    other a b e h = subst (λ k. Leads F G Q (P a) (S k)) (sym e) h

    pub by-seen : (a b : Seen) → Seens a b → Leads F G Q (P a) (S b)
    by-seen (SeenVariable v) (SeenVariable u) h = variable v u h
    by-seen (SeenWorker w) b h = other (SeenWorker w) b h (worker w)
    by-seen (SeenConstant c) b h = other (SeenConstant c) b h (fixed c)
    by-seen (SeenLibrary r) b h = other (SeenLibrary r) b h (library r)
    by-seen (SeenMeaning k) b h = other (SeenMeaning k) b h (known k)
    by-seen (SeenNothing code) b h = other (SeenNothing code) b h (nothing code)
    by-seen (SeenVariable v) _ h = absurd h

  one-constant : (t : Ty) (c d : Constant) → ((x : Shape) → In m x t.sem ↔ (x ≡ shape_of c)) → ((x : Shape) → In n x t.sem ↔ (x ≡ shape_of d)) → d ≡ c
  one-constant t c d x y = constants-same c d (sym ((y (shape_of c)).0 ((value-twins m n c t.sem).0 ((x (shape_of c)).1 refl))))

  pub constant-in-leads : (t : Ty) → Leads B B Equal (constant_in t) (constant_in t)
  constant-in-leads t = leads-over m n B Equal _ _ (before-atoms m n) (λ c d x y. one-constant t c d x y)

  copy-twin : (t a b : Ty) → IsCopy t a → IsCopy t b → V a b
  copy-twin t a b x y = copies-twin m n t t a b (itself-twin m n twins t) x y

  meaning-leads : (k : Meaning) (at : Place) → Leads B A Any2 (gives_meaning k at) (gives_meaning k at)
  meaning-leads (meaning.TypeName t) at = leads-fails B A Any2 Unknown at
  meaning-leads (meaning.Constant t) at =
      leads-then B B A Equal Any2 _ _ _ _ (constant-in-leads t)
      (λ c d e. strict-leads m n 0 (form.Constant c) (form.Constant d) (λ env. IsCopy t) (λ env. IsCopy t) at (ap (λ k. DoesForm (form.Constant k)) e) (copy-twin t))
  meaning-leads (meaning.Variable number final t) at =
      strict-leads m n 0 (form.Variable number) (form.Variable number) (λ env. IsCopy t) (λ env. IsCopy t) at refl (copy-twin t)
  meaning-leads (meaning.Function f) at =
      strict-leads m n 0 (form.FunctionName f.unit) (form.FunctionName f.unit) (λ env t. t ≡ plain (Atom f.arrow)) (λ env t. t ≡ plain (Atom f.arrow)) at refl
      (λ a b x y. equal-twin m n twins (plain (Atom f.arrow)) a b x y)

  pub seen-leads : (at : Place) (a b : Seen) → Seens a b → Leads B A Any2 (gives_seen a at) (gives_seen b at)
  seen-leads at =
      by-seen B A Any2 (λ seen. gives_seen seen at) (λ seen. gives_seen seen at) (λ v u h. variable-leads m n v u at h) (λ w. leads-fails B A Any2 NameAsValue at)
      (λ c. constant-leads m n c at) (λ r. leads-fails B A Any2 Unknown at) (λ k. meaning-leads k at) (λ code. leads-fails B A Any2 code at)

  pub named-leads : (names : Names) (q : QualifiedName) → Leads B A Any2 (gives_named names q) (gives_named names q)
  named-leads names q = leads-then B B A Seens Any2 _ _ _ _ (looks-leads names q) (seen-leads q.at)

  -- ---- behind a part that was made

  behind-atoms : (s t : State) → A s t → (s.atoms ≡ m) × (t.atoms ≡ n)
  behind-atoms = at-atoms m n E V

  module _ (passes : List AtomDef → Asked → TypeLimit → Type 0) where
    of-kind-behind : (k : Kind) (at : Place) → Leads A A Any2 (is_of passes k at) (is_of passes k at)
    of-kind-behind k at =
        leads-then A A A _ Any2 _ _ _ _ (part-leads m n E V)
        (λ e f h. of-kind-leads passes m n A behind-atoms k (sem e) (sem f) at h.ty.shapes)

    -- ---- calls

    value-behind : Leads A A Any2 (calls_value passes) (calls_value passes)
    value-behind = opens-call-leads m n E V _ _ (record { callee = tt; args = refl })

    seen-value-leads : (at : Place) (a b : Seen) → Seens a b → Leads B A Any2 (calls_seen_value passes a at) (calls_seen_value passes b at)
    seen-value-leads at a b h =
        leads-then B A A Any2 Any2 _ _ _ _ (seen-leads at a b h)
        (λ x y z. leads-then A A A Any2 Any2 _ _ _ _ (of-kind-behind kind.AnyFunction at) (λ u v w. value-behind))

    function-leads : (f : Signature) (count : ℕ) (at : Place) → Leads B A Any2 (calls_function f count at) (calls_function f count at)
    function-leads f count at =
        stays m n Any2 _ _ (leads-then B B B Any2 Any2 _ _ _ _ (leads-unless B (function_takes f count) (function_takes f count) Arity at refl)
        (λ x y k. calls-leads m n (OfFunction f) (OfFunction f) refl))

    meaning-called : (k : Meaning) (count : ℕ) (name at : Place) → Leads B A Any2 (calls_meaning passes k count name at) (calls_meaning passes k count name at)
    meaning-called (meaning.Function f) count name at = function-leads f count at
    meaning-called (meaning.TypeName t) count name at = leads-fails B A Any2 Unknown name
    meaning-called (meaning.Constant t) count name at = seen-value-leads name (SeenMeaning (meaning.Constant t)) (SeenMeaning (meaning.Constant t)) refl
    meaning-called (meaning.Variable number final t) count name at =
        seen-value-leads name (SeenMeaning (meaning.Variable number final t)) (SeenMeaning (meaning.Variable number final t)) refl

    seen-called : (started : Bool) (count : ℕ) (name at : Place) (a b : Seen) → Seens a b
        → Leads B A Any2 (calls_seen passes started a count name at) (calls_seen passes started b count name at)
    seen-called started count name at =
        by-seen B A Any2 (λ seen. calls_seen passes started seen count name at) (λ seen. calls_seen passes started seen count name at)
        (λ v u h. seen-value-leads name (SeenVariable v) (SeenVariable u) h) (λ w. leads-fails B A Any2 NameAsValue name)
        (λ c. seen-value-leads name (SeenConstant c) (SeenConstant c) refl)
        (λ r. leads-either B A Any2 started started _ _ _ _ refl (leads-fails B A Any2 Unknown name) (stays m n Any2 _ _ (calls-library-leads m n r None None count at tt)))
        (λ k. meaning-called k count name at) (λ code. leads-fails B A Any2 code name)

    pub calls-named-leads : (names : Names) (started : Bool) (q : QualifiedName) (count : ℕ) (at : Place)
        → Leads B A Any2 (calls_named passes names started q count at) (calls_named passes names started q count at)
    calls-named-leads names started q count at = leads-then B B A Seens Any2 _ _ _ _ (looks-leads names q) (seen-called started count q.at at)

    -- ---- waits

    future-leads : (names : Names) (q : QualifiedName) → Leads B A Any2 (awaits_future passes names q) (awaits_future passes names q)
    future-leads names q =
        leads-then B A A Any2 Any2 _ _ _ _ (named-leads names q)
        (λ x y z. leads-then A A A Any2 Any2 _ _ _ _ (of-kind-behind kind.AnyFuture q.at)
        (λ u v w. leads-then A A A _ Any2 _ _ _ _ (part-leads m n E V)
        (λ e f h. leads-then A A A (λ a b. AreTwins m a n b) Any2 _ _ _ _ (member-leads passes m n A behind-atoms (sem e) (sem f) Results (Some q.at) h.ty.shapes)
        (λ a b k. wants-some-leads m n E V _ _ (λ s t x y. either-twin m n a b IsError s t k x y)))))

    by-worker : (names : Names) (q : QualifiedName) (o p : Option ℕ) → p ≡ o → Leads B A Any2 (awaits_by passes names q o) (awaits_by passes names q p)
    by-worker names q None None e = future-leads names q
    by-worker names q (Some a) (Some b) e =
        subst (λ k. Leads B A Any2 (awaits_by passes names q (Some a)) (awaits_by passes names q k)) (sym e)
        (leads-then B B A (SharedTwins E E) Any2 _ _ _ _ (result-leads m n a) (λ t u h. wants-weak m n (Some t) (Some u) h.twins))
    by-worker names q None (Some b) e = absurd (cc)
    by-worker names q (Some a) None e = absurd (cc)

    pub awaits-leads : (names : Names) (q : QualifiedName) → Leads B A Any2 (awaits passes names q) (awaits passes names q)
    awaits-leads names q =
        leads-then B B A (SiteTwins E E) Any2 _ _ _ _ (site-leads m n) (λ s t h. by-worker names q _ _ (ap (λ ws. worker_named ws q) h.workers))
