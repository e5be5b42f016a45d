-- Workers, functions, variables of modules and packages: two runs of each need agree.
use Rattle.std.proofs.Common.{◌≡◌, ◌||◌, ◌++◌, ℕ, suc, Bool, true, false, List, [], ◌∷◌, length, map, pred, slice_get, take, Option, None, Some, refl, sym, subst, ap, ◌∙◌}
use Rattle.std.specs.List.{AllZip, list_any}
use Rattle.bal_base.specs.declared.fault.FaultCode.TheVariants.{Duplicate, MissingReturn}
use Rattle.bal_base.specs.declared.place.Place.{Place}
use Rattle.bal_base.specs.declared.text.Name.{Name}
use Rattle.bal_tree.specs.declared.def.FunctionDef.{FunctionDef}
use Rattle.bal_tree.specs.declared.def.Worker.{Worker}
use Rattle.bal_tree.specs.declared.name.Word.{Word}
use Rattle.descriptors.specs.declared.names.Scope.{Scope}
use Rattle.flow_narrowing.specs.declared.flow.Variable.{Variable}
use Rattle.type_model.specs.declared.answers.TypeLimit.{TypeLimit}
use Rattle.type_model.specs.declared.atoms.AtomDef.{AtomDef}
use Rattle.type_model.specs.declared.basic.Ty.{Ty}
use Rattle.type_model.specs.Calls.{Asked}
use Rattle.type_model.specs.Places.{is_same_text}
use Rattle.typed_tree.specs.declared.expr.TypedExpr.{TypedExpr}
use Rattle.typed_tree.specs.declared.package.Initialiser.{Initialiser}
use Rattle.typed_tree.specs.declared.stmt.TypedStmt.{TypedStmt}
use Rattle.typed_tree.specs.declared.unit.TypedBody.{TypedBody}
use Rattle.typed_tree.specs.declared.unit.TypedFunction.{TypedFunction}
use Rattle.typed_tree.specs.declared.unit.TypedUnit.{TypedUnit}
use Rattle.typed_tree.specs.declared.unit.TypedWorker.{TypedWorker}
use Rattle.typed_tree.specs.Listed.{Listed, ◌&◌, joined}
use Rattle.typed_tree.specs.SharedTypes.{Shared, sem_of}
use Rattle.expr_needs.specs.declared.kind.Kind.TheVariants as kind
use Rattle.check_words.specs.Calls.{Capture, parameter, typed_unit}
use Rattle.check_words.specs.Sharing.{SameOption}
use Rattle.check_words.specs.State.{BlockAtWork, Done, InitialiserAtWork, Site, UnitAtWork}
use Rattle.check_words.specs.Units.{IsBlockBody, IsFunctionOf, IsInitialiser, IsValueBody, adds_function, begins_worker, changes_done, changes_site, ends_by, ends_function, ends_module, ends_value_function, ends_worker, enters_file, in_worker, is_worker_new, keeps_initialiser, names_parameter, outside_functions, sets_initialiser, typed_worker, worker_unit}
use Rattle.check_words.specs.Words.{Atoms}
use Rattle.check_answers.specs.Pieces as say
use Rattle.check_answers.specs.Pieces.{Piece, SamePieces, all_captured, body_pieces, captured_pieces, expr_pieces, function_pieces, initial_pieces, initialiser_pieces, of_type, of_types, says, stmts_pieces, unit_pieces, worker_pieces}
use Rattle.check_answers.specs.TwinStates.{BlockTwins, DoneTwins, InitialiserTwins, PartTwins, SharedTwins, SiteTwins, UnitTwins, VariableTwins}
use Rattle.check_answers.specs.TwinTypes.{TwinTypes}
use Rattle.check_answers.proofs.Actions.{result-leads, site-leads}
use Rattle.check_answers.proofs.Calls.{all-as-captured, captures-same, closes-unit-leads, new-leads, number-leads, opens-unit-leads}
use Rattle.check_answers.proofs.Leading.{Any2, Leads, Pairs, leads-becomes, leads-done, leads-either, leads-fails, leads-over, leads-some, leads-then, leads-unless}
use Rattle.check_answers.proofs.Meanings.{kinds-twin}
use Rattle.check_answers.proofs.Questions.{Before, D, Equal, before-atoms, is-below-leads}
use Rattle.check_answers.proofs.SameTrees.{joined-same, whole-same}
use Rattle.check_answers.proofs.Setting.{with-done, with-initialiser, with-site}
use Rattle.check_answers.proofs.Statements.{closes-block-leads, pieces-equal, stmts-same, takes-part-leads, with-variable-same}
use Rattle.check_answers.proofs.Values.{drops-want-leads}
use Rattle.check_answers.proofs.Words.{changes-flow-leads, unit-leads}
use Rattle.check_answers.proofs.Zips.{zip-get, zip-long, zip-one}

module _ (m n : Atoms) where
  abbrev B : Pairs
  B = Before m n

  abbrev E : Ty → Ty → Type 0
  E = D m n

  -- ---- where bodies stand

  pub changes-site-leads : (change other : Site → Site) → ((a b : Site) → SiteTwins E E a b → SiteTwins E E (change a) (other b))
      → Leads B B Any2 (changes_site change) (changes_site other)
  changes-site-leads change other f =
      leads-becomes B B _ _ (λ s t p. record {
        first = p.first;
        second = p.second;
        states = with-site E E s t p.states _ _ (f s.site t.site p.states.site);
      })

  pub changes-done-leads : (change other : Done → Done) → ((a b : Done) → DoneTwins E a b → DoneTwins E (change a) (other b))
      → Leads B B Any2 (changes_done change) (changes_done other)
  changes-done-leads change other f =
      leads-becomes B B _ _ (λ s t p. record {
        first = p.first;
        second = p.second;
        states = with-done E E s t p.states _ _ (f s.done t.done p.states.done);
      })

  pub file-leads : (k file : ℕ) → Leads B B Any2 (enters_file k file) (enters_file k file)
  file-leads k file =
      changes-site-leads _ _ (λ a b h. record { scope = refl; workers = h.workers; results = h.results; events = h.events })

  outside-leads : Leads B B Any2 (changes_site outside_functions) (changes_site outside_functions)
  outside-leads = changes-site-leads _ _ (λ a b h. record { scope = h.scope; workers = refl; results = tt; events = refl })

  -- ---- units as they are written

  pub units-written : (u v : UnitAtWork) (a b c d : ℕ) → b ≡ a → d ≡ c → UnitTwins E E u v → SamePieces E (unit_pieces (typed_unit u a c)) (unit_pieces (typed_unit v b d))
  units-written u v a b c d e f h = (
    ap (λ k. say.IsUnit k v.params v.rest b d) h.number ∙ ap (λ k. say.IsUnit u.number k v.rest b d) h.params ∙ ap (λ k. say.IsUnit u.number u.params k b d) h.rest
        ∙ ap (λ k. say.IsUnit u.number u.params u.rest k d) e ∙ ap (say.IsUnit u.number u.params u.rest a) f,
    (joined-same E of_type u.slots v.slots h.slots, h.result),
  )

  equal-units : (t w x y : TypedUnit) → x ≡ t → y ≡ w → SamePieces E (unit_pieces t) (unit_pieces w) → SamePieces E (unit_pieces x) (unit_pieces y)
  equal-units t w x y e f h = pieces-equal E (unit_pieces t) (unit_pieces w) (unit_pieces x) (unit_pieces y) (ap unit_pieces e) (ap unit_pieces f) h

  -- ---- ends of bodies

  module _ (passes : List AtomDef → Asked → TypeLimit → Type 0) where
    by-leads : (b c : Bool) (u v : UnitAtWork) (close : Place) → c ≡ b → UnitTwins E E u v → Leads B B Any2 (ends_by passes b u close) (ends_by passes c v close)
    by-leads false false u v close e h = leads-done B
    by-leads true true u v close e h =
        leads-then B B B (TwinTypes m n) Any2 _ _ _ _ (leads-over m n B _ _ _ (before-atoms m n) (kinds-twin m n kind.Nothing))
        (λ a b k. leads-then B B B Equal Any2 _ _ _ _
        (is-below-leads passes m n B (before-atoms m n) a.sem (sem_of u.result) b.sem (sem_of v.result) (Some close) k.shapes h.result.twins.shapes)
        (λ x y i. leads-unless B x y MissingReturn close i))
    by-leads true false u v close e h = absurd (cc)
    by-leads false true u v close e h = absurd (cc)

    -- ---- workers

    worker-same : (w : Worker) (u v : UnitAtWork) (b d : BlockAtWork) (close : Place) (t x : TypedWorker) → UnitTwins E E u v → BlockTwins E b d
        → typed_worker w u u.flow.reached t × (t.stmts.items ≡ b.stmts) × (t.close ≡ close) → typed_worker w v v.flow.reached x × (x.stmts.items ≡ d.stmts) × (x.close ≡ close)
        → SamePieces E (worker_pieces t) (worker_pieces x)
    worker-same w u v b d close t x h k ((p0, p1, p2, p3, p4), p5, p6) ((q0, q1, q2, q3, q4), q5, q6) = (
      ap (λ i. say.IsWorker i x.ends x.close x.at) (q0 ∙ sym p0) ∙ ap (λ i. say.IsWorker t.name i x.close x.at) (q3 ∙ h.flow.reached ∙ sym p3)
          ∙ ap (λ i. say.IsWorker t.name t.ends i x.at) (q6 ∙ sym p6) ∙ ap (say.IsWorker t.name t.ends t.close) (q4 ∙ sym p4),
      (
        equal-units _ _ t.unit x.unit p1 q1 (units-written u v 0 0 0 0 refl refl h),
        (
          pieces-equal E (all_captured u.captured) (all_captured v.captured) (all_captured t.captured) (all_captured x.captured) (ap all_captured p2) (ap all_captured q2)
              (joined-same E captured_pieces u.captured v.captured h.captured),
          pieces-equal E (stmts_pieces b.stmts) (stmts_pieces d.stmts) (stmts_pieces t.stmts.items) (stmts_pieces x.stmts.items) (ap stmts_pieces p5) (ap stmts_pieces q5)
              (stmts-same m n b.stmts d.stmts k.stmts),
        ),
      ),
    )

    with-worker : (t x : TypedWorker) (a b : Done) → SamePieces E (worker_pieces t) (worker_pieces x) → DoneTwins E a b
        → DoneTwins E (record a { workers = a.workers ++ t ∷ [] }) (record b { workers = b.workers ++ x ∷ [] })
    with-worker t x a b h k =
        record {
          next_unit = k.next_unit;
          functions = k.functions;
          workers = zip-one (λ w y. SamePieces E (worker_pieces w) (worker_pieces y)) a.workers b.workers t x k.workers h;
          variables = k.variables;
          initialisers = k.initialisers;
        }

    pub ends-worker-leads : (w : Worker) (close : Place) → Leads B B Any2 (ends_worker passes w close) (ends_worker passes w close)
    ends-worker-leads w close =
        leads-then B B B (UnitTwins E E) Any2 _ _ _ _ (closes-unit-leads m n)
        (λ u v h. leads-then B B B Any2 Any2 _ _ _ _ (by-leads u.flow.reached v.flow.reached u v close h.flow.reached h)
        (λ a1 a2 a3. leads-then B B B (BlockTwins E) Any2 _ _ _ _ (closes-block-leads m n E)
        (λ b d k. leads-then B B B (λ t x. SamePieces E (worker_pieces t) (worker_pieces x)) Any2 _ _ _ _
        (leads-some B _ _ _ (λ s t x y p i j. worker-same w u v b d close x y h k i j))
        (λ t x i. changes-done-leads _ _ (λ a b j. with-worker t x a b i j)))))

    -- ---- functions

    function-same : (d : FunctionDef) (s t : Site) (u v : UnitAtWork) (P Q : TypedBody → Type 0) (f g : TypedFunction) → SiteTwins E E s t → UnitTwins E E u v
        → ((a b : TypedBody) → P a → Q b → SamePieces E (body_pieces a) (body_pieces b)) → IsFunctionOf d s.scope u f → P f.body → IsFunctionOf d t.scope v g → Q g.body
        → SamePieces E (function_pieces f) (function_pieces g)
    function-same d s t u v P Q f g h k body x p y q = (
      ap (λ i. say.IsNamed i g.file g.name g.public g.isolated g.events g.at) (y.«module» ∙ ap (λ (c : Scope). c.«module») h.scope ∙ sym x.«module»)
          ∙ ap (λ i. say.IsNamed f.«module» i g.name g.public g.isolated g.events g.at) (y.file ∙ sym x.file)
          ∙ ap (λ i. say.IsNamed f.«module» f.file i g.public g.isolated g.events g.at) (y.name ∙ sym x.name)
          ∙ ap (λ i. say.IsNamed f.«module» f.file f.name i g.isolated g.events g.at) (y.public ∙ sym x.public)
          ∙ ap (λ i. say.IsNamed f.«module» f.file f.name f.public i g.events g.at) (y.isolated ∙ sym x.isolated)
          ∙ ap (λ i. say.IsNamed f.«module» f.file f.name f.public f.isolated i g.at) (y.events ∙ sym x.events)
          ∙ ap (say.IsNamed f.«module» f.file f.name f.public f.isolated f.events) (y.at ∙ sym x.at),
      (equal-units _ _ f.unit g.unit x.unit y.unit (units-written u v u.arrow v.arrow u.future v.future k.arrow k.future k), body f.body g.body p q),
    )

    with-function : (f g : TypedFunction) (a b : Done) → SamePieces E (function_pieces f) (function_pieces g) → DoneTwins E a b
        → DoneTwins E (record a { functions = a.functions ++ f ∷ []; workers = [] }) (record b { functions = b.functions ++ g ∷ []; workers = [] })
    with-function f g a b h k =
        record {
          next_unit = k.next_unit;
          functions = zip-one (λ x y. SamePieces E (function_pieces x) (function_pieces y)) a.functions b.functions f g k.functions h;
          workers = tt;
          variables = k.variables;
          initialisers = k.initialisers;
        }

    adds-function-leads : (d : FunctionDef) (u v : UnitAtWork) (P Q : TypedBody → Type 0) → UnitTwins E E u v
        → ((a b : TypedBody) → P a → Q b → SamePieces E (body_pieces a) (body_pieces b)) → Leads B B Any2 (adds_function d u P) (adds_function d v Q)
    adds-function-leads d u v P Q h body =
        leads-then B B B (SiteTwins E E) Any2 _ _ _ _ (site-leads m n)
        (λ s t k. leads-then B B B (λ f g. SamePieces E (function_pieces f) (function_pieces g)) Any2 _ _ _ _
        (leads-some B _ _ _ (λ i j f g p x y. function-same d s t u v P Q f g k h body x.0 x.1 y.0 y.1))
        (λ f g i. leads-then B B B Any2 Any2 _ _ _ _ (changes-done-leads _ _ (λ a b j. with-function f g a b i j)) (λ x y z. outside-leads)))

    value-body : (e f : TypedExpr) (a b : TypedBody) → PartTwins E E e f → IsValueBody e a → IsValueBody f b → SamePieces E (body_pieces a) (body_pieces b)
    value-body e f a b h (v, x, y) (w, z, o) =
        pieces-equal E (says say.IsExprBody & expr_pieces e) (says say.IsExprBody & expr_pieces f) (body_pieces a) (body_pieces b)
        (ap body_pieces x ∙ ap (λ k. says say.IsExprBody & expr_pieces k) y) (ap body_pieces z ∙ ap (λ k. says say.IsExprBody & expr_pieces k) o) (refl, whole-same E e f h)

    pub value-function-leads : (d : FunctionDef) → Leads B B Any2 (ends_value_function d) (ends_value_function d)
    value-function-leads d =
        leads-then B B B _ Any2 _ _ _ _ (takes-part-leads m n)
        (λ e f h. leads-then B B B Any2 Any2 _ _ _ _ (drops-want-leads m n)
        (λ a1 a2 a3. leads-then B B B (UnitTwins E E) Any2 _ _ _ _ (closes-unit-leads m n)
        (λ u v k. adds-function-leads d u v (IsValueBody e) (IsValueBody f) k (λ a b x y. value-body e f a b h x y))))

    abbrev block-of : Bool → Place → List TypedStmt → List TypedWorker → List TypedStmt → Listed Piece
    block-of ends close initial workers rest = says (say.IsBlockBody ends close) & stmts_pieces initial & joined (map worker_pieces workers) & stmts_pieces rest

    block-written : (workers : List TypedWorker) (ends : Bool) (close : Place) (initial rest : List TypedStmt) (b : TypedBody) → IsBlockBody passes workers ends close initial rest b
        → body_pieces b ≡ block-of ends close initial workers rest
    block-written workers ends close initial rest b (i, r, w, x, y, z, o) =
        ap body_pieces x ∙ ap (λ k. block-of ends close k w.items r.items) y ∙ ap (λ k. block-of ends close initial k r.items) z ∙ ap (block-of ends close initial workers) o

    abbrev WorkersTwin : List TypedWorker → List TypedWorker → Type 0
    WorkersTwin ws xs = AllZip (λ w x. SamePieces E (worker_pieces w) (worker_pieces x)) ws xs

    block-body : (ws xs : List TypedWorker) (r s : Bool) (close : Place) (b c d e : BlockAtWork) (x y : TypedBody) → WorkersTwin ws xs → s ≡ r → BlockTwins E b d
        → BlockTwins E c e → IsBlockBody passes ws r close b.stmts c.stmts x → IsBlockBody passes xs s close d.stmts e.stmts y → SamePieces E (body_pieces x) (body_pieces y)
    block-body ws xs r s close b c d e x y h i j k p q =
        pieces-equal E _ _ _ _ (block-written ws r close b.stmts c.stmts x p) (block-written xs s close d.stmts e.stmts y q)
        (ap (λ o. say.IsBlockBody o close) i, (stmts-same m n b.stmts d.stmts j.stmts, (joined-same E worker_pieces ws xs h, stmts-same m n c.stmts e.stmts k.stmts)))

    done-workers : (a b c d : List TypedWorker) → c ≡ a → d ≡ b → WorkersTwin a b → WorkersTwin c d
    done-workers a b c d e f h = subst (λ k. WorkersTwin k d) (sym e) (subst (WorkersTwin a) (sym f) h)

    pub function-leads : (d : FunctionDef) (close : Place) → Leads B B Any2 (ends_function passes d close) (ends_function passes d close)
    function-leads d close =
        leads-then B B B (UnitTwins E E) Any2 _ _ _ _ (closes-unit-leads m n)
        (λ u v h. leads-then B B B Any2 Any2 _ _ _ _ (by-leads u.flow.reached v.flow.reached u v close h.flow.reached h)
        (λ a1 a2 a3. leads-then B B B (BlockTwins E) Any2 _ _ _ _ (closes-block-leads m n E)
        (λ c e k. leads-then B B B (BlockTwins E) Any2 _ _ _ _ (closes-block-leads m n E)
        (λ b g j. leads-then B B B WorkersTwin Any2 _ _ _ _
        (leads-some B _ _ _ (λ s t x y p i o. done-workers s.done.workers t.done.workers x y i o p.states.done.workers))
        (λ ws xs i. adds-function-leads d u v (IsBlockBody passes ws u.flow.reached close b.stmts c.stmts) (IsBlockBody passes xs v.flow.reached close g.stmts e.stmts) h
        (λ x y p q. block-body ws xs u.flow.reached v.flow.reached close b c g e x y i h.flow.reached j k p q))))))

  -- ---- parameters

  slot-at : (us vs : List Shared) (k l : ℕ) (t w : Shared) → l ≡ k → AllZip (SharedTwins E E) us vs → slice_get us k ≡ Some t → slice_get vs l ≡ Some w → SharedTwins E E t w
  slot-at us vs k l t w e h x y =
      subst (λ o. SameOption (SharedTwins E E) o (Some w)) x
      (subst (SameOption (SharedTwins E E) (slice_get us k)) (subst (λ i. slice_get vs i ≡ Some w) e y) (zip-get (SharedTwins E E) us vs k h))

  named-parameter : (name : Name) (k l : ℕ) (t w : Shared) (assigned : Bool) → l ≡ k → SharedTwins E E t w
      → VariableTwins E E (parameter name k t assigned) (parameter name l w assigned)
  named-parameter name k l t w assigned e h =
      record { name = refl; slot = e; declared = h; narrowed = tt; fixed = refl; assigned = refl; captured = refl }

  pub names-parameter-leads : (w : Word) (assigned : Bool) → Leads B B Any2 (names_parameter w assigned) (names_parameter w assigned)
  names-parameter-leads w assigned =
      leads-then B B B Any2 Any2 _ _ _ _ (new-leads m n w)
      (λ a1 a2 a3. leads-then B B B (UnitTwins E E) Any2 _ _ _ _ (unit-leads m n E E)
      (λ u v h. let e = sym (zip-long (VariableTwins E E) u.flow.variables v.flow.variables h.flow.variables) in
      leads-then B B B (SharedTwins E E) Any2 _ _ _ _
      (leads-some B _ _ _ (λ s t x y p i j. slot-at u.slots v.slots (length u.flow.variables) (length v.flow.variables) x y e h.slots i j))
      (λ t x k. changes-flow-leads m n E E _ _
      (λ f g i. with-variable-same m n _ _ f g (named-parameter w.name (length u.flow.variables) (length v.flow.variables) t x assigned e k) i))))

  -- ---- workers that begin

  any-same : (vs us : List Variable) (name : Name) → AllZip (VariableTwins E E) vs us
      → list_any (λ v. is_same_text v.name name) us ≡ list_any (λ v. is_same_text v.name name) vs
  any-same [] [] name h = refl
  any-same (v ∷ vs) (u ∷ us) name h =
      ap (λ i. is_same_text i name || list_any (λ v. is_same_text v.name name) us) h.0.name ∙ ap (λ b. is_same_text v.name name || b) (any-same vs us name h.1)
  any-same [] (u ∷ us) name h = absurd h
  any-same (v ∷ vs) [] name h = absurd h

  worker-new-leads : (w : Worker) (number : ℕ) → Leads B B Any2 (is_worker_new w number) (is_worker_new w number)
  worker-new-leads w number =
      leads-then B B B (SiteTwins E E) Any2 _ _ _ _ (site-leads m n)
      (λ s t h. leads-then B B B (UnitTwins E E) Any2 _ _ _ _ (unit-leads m n E E)
      (λ u v k. leads-either B B Any2 _ _ _ _ _ _
      (ap (λ b. b || list_any (is_same_text w.name.name) (take (pred number) t.workers)) (any-same u.flow.variables v.flow.variables w.name.name k.flow.variables)
      ∙ ap (λ ws. list_any (λ x. is_same_text x.name w.name.name) u.flow.variables || list_any (is_same_text w.name.name) (take (pred number) ws)) h.workers)
      (leads-fails B B Any2 Duplicate w.name.at) (leads-done B)))

  abbrev CaptureTwins : Capture → Capture → Type 0
  CaptureTwins c d = VariableTwins E E c.0 d.0 × (d.1 ≡ c.1)

  inner-same : (k l : ℕ) (cs ds : List Capture) → l ≡ k → AllZip CaptureTwins cs ds → AllZip (VariableTwins E E) (in_worker k cs) (in_worker l ds)
  inner-same k l [] [] e h = tt
  inner-same k l (c ∷ cs) (d ∷ ds) e h = (
    record {
      name = h.0.0.name;
      slot = e;
      declared = h.0.0.declared;
      narrowed = h.0.0.narrowed;
      fixed = h.0.0.fixed;
      assigned = h.0.0.assigned;
      captured = refl;
    },
    inner-same (suc k) (suc l) cs ds (ap suc e) h.1,
  )
  inner-same k l [] (d ∷ ds) e h = absurd h
  inner-same k l (c ∷ cs) [] e h = absurd h

  declared-same : (cs ds : List Capture) → AllZip CaptureTwins cs ds → AllZip (SharedTwins E E) (map (λ c. c.0.declared) cs) (map (λ c. c.0.declared) ds)
  declared-same [] [] h = tt
  declared-same (c ∷ cs) (d ∷ ds) h = (h.0.0.declared, declared-same cs ds h.1)
  declared-same [] (d ∷ ds) h = absurd h
  declared-same (c ∷ cs) [] h = absurd h

  worker-unit-same : (k l worker : ℕ) (t w : Shared) (r s : Bool) (cs ds : List Capture) → l ≡ k → s ≡ r → SharedTwins E E t w → AllZip CaptureTwins cs ds
      → UnitTwins E E (worker_unit k worker t r cs) (worker_unit l worker w s ds)
  worker-unit-same k l worker t w r s cs ds e f h i =
      record {
        number = e;
        worker = refl;
        slots = declared-same cs ds i;
        params = refl;
        rest = refl;
        rest_member = tt;
        result = h;
        arrow = refl;
        future = refl;
        captured = all-as-captured m n cs ds i;
        flow = record { variables = inner-same 0 0 cs ds refl i; reached = f };
      }

  pub begins-worker-leads : (w : Worker) (number : ℕ) (used : List Word) → Leads B B Any2 (begins_worker w number used) (begins_worker w number used)
  begins-worker-leads w number used =
      leads-then B B B Any2 Any2 _ _ _ _ (worker-new-leads w number)
      (λ a1 a2 a3. leads-then B B B (SharedTwins E E) Any2 _ _ _ _ (result-leads m n number)
      (λ t x h. leads-then B B B (UnitTwins E E) Any2 _ _ _ _ (unit-leads m n E E)
      (λ u v k. leads-then B B B Equal Any2 _ _ _ _ (number-leads m n)
      (λ i j e. opens-unit-leads m n _ _
      (worker-unit-same i j number t x u.flow.reached v.flow.reached _ _ e k.flow.reached h (captures-same m n u.flow.variables v.flow.variables used k.flow.variables))))))

  -- ---- modules

  initialiser-same : (k : ℕ) (i j : InitialiserAtWork) (x y : Initialiser) → InitialiserTwins E E i j → IsInitialiser k i x → IsInitialiser k j y
      → SamePieces E (initialiser_pieces x) (initialiser_pieces y)
  initialiser-same k i j x y h (p, q, r) (a, b, c) = (
    ap say.IsInitialiser (a ∙ sym p),
    (
      equal-units _ _ x.unit y.unit q b (units-written i.unit j.unit 0 0 0 0 refl refl h.unit),
      pieces-equal E (joined (map initial_pieces i.values)) (joined (map initial_pieces j.values)) _ _ (ap (λ vs. joined (map initial_pieces vs)) r)
          (ap (λ vs. joined (map initial_pieces vs)) c) (joined-same E initial_pieces i.values j.values h.values),
    ),
  )

  with-initialised : (x y : Initialiser) (a b : Done) → SamePieces E (initialiser_pieces x) (initialiser_pieces y) → DoneTwins E a b
      → DoneTwins E (record a { initialisers = a.initialisers ++ x ∷ [] }) (record b { initialisers = b.initialisers ++ y ∷ [] })
  with-initialised x y a b h k =
      record {
        next_unit = k.next_unit;
        functions = k.functions;
        workers = k.workers;
        variables = k.variables;
        initialisers = zip-one (λ i j. SamePieces E (initialiser_pieces i) (initialiser_pieces j)) a.initialisers b.initialisers x y k.initialisers h;
      }

  keeps-leads : (k : ℕ) (o p : Option InitialiserAtWork) → SameOption (InitialiserTwins E E) o p → Leads B B Any2 (keeps_initialiser k o) (keeps_initialiser k p)
  keeps-leads k None None h = leads-done B
  keeps-leads k (Some i) (Some j) h =
      leads-then B B B (λ x y. SamePieces E (initialiser_pieces x) (initialiser_pieces y)) Any2 _ _ _ _
      (leads-some B _ _ _ (λ s t x y p q r. initialiser-same k i j x y h q r)) (λ x y z. changes-done-leads _ _ (λ a b q. with-initialised x y a b z q))
  keeps-leads k None (Some j) h = absurd h
  keeps-leads k (Some i) None h = absurd h

  sets-leads : (o p : Option InitialiserAtWork) → SameOption (InitialiserTwins E E) o p → Leads B B Any2 (sets_initialiser o) (sets_initialiser p)
  sets-leads o p h =
      leads-becomes B B _ _ (λ s t q. record { first = q.first; second = q.second; states = with-initialiser E E s t q.states o p h })

  equal-options : (o p q r : Option InitialiserAtWork) → q ≡ o → r ≡ p → SameOption (InitialiserTwins E E) o p → SameOption (InitialiserTwins E E) q r
  equal-options o p q r e f h = subst (λ k. SameOption (InitialiserTwins E E) k r) (sym e) (subst (SameOption (InitialiserTwins E E) o) (sym f) h)

  pub module-leads : (k : ℕ) → Leads B B Any2 (ends_module k) (ends_module k)
  module-leads k =
      leads-then B B B (SameOption (InitialiserTwins E E)) Any2 _ _ _ _
      (leads-some B _ _ _ (λ s t o p q x y. equal-options s.initialiser t.initialiser o p x y q.states.initialiser))
      (λ o p h. leads-then B B B Any2 Any2 _ _ _ _ (keeps-leads k o p h) (λ a1 a2 a3. sets-leads None None tt))
