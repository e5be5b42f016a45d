-- Functions as a whole: where one begins, its parameters, its body with its workers, and where it ends.
use Rattle.std.proofs.Common.{All, IfSome, List, None, Ok, Option, Result, Some, [], ap, append_assoc, arith, false, length, length-append, map, refl, subst, suc, sym, zero, ℕ, ◌++◌, ◌+◌, ◌∙◌, ◌∷◌, ◌≡◌, ◌≤◌}
use Rattle.std.proofs.lemmas.List.Elements.{All-append, All-cons, All-nil, All-tail}
use Rattle.std.proofs.lemmas.Option.{slice_get_within}
use Rattle.std.specs.Global.{Box, Vec}
use Rattle.std.proofs.lemmas.List.{length-map, map-append}
use Rattle.std.proofs.Math.Seq.{take-append_seam}
use Rattle.std.specs.List.{AllZip}
use Rattle.std.specs.Prelude.{slice_get, take}
use Rattle.bal_base.specs.declared.fault.Fault.{Fault}
use Rattle.bal_base.specs.declared.place.Place.{Place}
use Rattle.bal_tree.specs.declared.def.Body.TheVariants as body
use Rattle.bal_tree.specs.declared.def.Body.{Body}
use Rattle.bal_tree.specs.declared.def.FunctionDef.{FunctionDef}
use Rattle.bal_tree.specs.declared.def.Worker.{Worker}
use Rattle.bal_tree.specs.declared.expr.Expr.{Expr as ExprTree}
use Rattle.bal_tree.specs.declared.stmt.Stmt.{Stmt}
use Rattle.check_laws.specs.Laws.{KeptPositions}
use Rattle.check_laws.specs.StmtLaws.{HasUnit, KeptStmtPositions}
use Rattle.check_words.proofs.Standing.{back-have, front-have, last-has}
use Rattle.check_words.specs.Calls.{typed_unit}
use Rattle.check_words.specs.State.{BlockAtWork, IsLast, MatchAtWork, Site, State, UnitAtWork, all_but}
use Rattle.check_words.specs.Units.{function_unit, rest_slot, workers_of}
use Rattle.descriptors.specs.Described.{IsCopy}
use Rattle.descriptors.specs.declared.names.Signature.{Signature}
use Rattle.descriptors.specs.declared.names.Names.{Names}
use Rattle.expr_needs.specs.ExprTable.{as_wanted, read_expr}
use Rattle.expr_needs.specs.Needs.{BeginsBlock, BeginsFunction, EndsFunction, EndsValueFunction, IsWanted, Need, WantsResult}
use Rattle.expr_needs.specs.declared.expected.Expected.TheVariants as expected
use Rattle.kept_done.specs.Done.{DoneIsKept, EndsNone, KeepsDone, TreesEndNone}
use Rattle.operations.specs.Rows.{Surroundings}
use Rattle.stmt_needs.specs.PackageTable.{assigned_in_body, body_needs, in_initial, numbered, parameters_needs, read_stmts, worker_needs}
use Rattle.stmt_needs.specs.StmtTable.{Within, in_block, stmts_needs}
use Rattle.tree_promises.specs.Placed.{Placed, body_placed, crew_of, function_placed, named_workers, signature_of, slot_types, worker_placed}
use Rattle.type_model.proofs.SameTypes.{In-same}
use Rattle.type_model.specs.Calls.{Asked}
use Rattle.type_model.specs.Inclusion.{Sub}
use Rattle.type_model.specs.declared.answers.TypeLimit.{TypeLimit}
use Rattle.type_model.specs.declared.atoms.AtomDef.{AtomDef}
use Rattle.type_model.specs.declared.basic.SemType.{SemType}
use Rattle.type_model.specs.declared.basic.Ty.{Ty}
use Rattle.typed_bodies.proofs.Trails.{in-on, in-run, in-stays}
use Rattle.typed_bodies.specs.Claims.{StaysIn}
use Rattle.typed_bodies.specs.Units.{units_of_clauses, units_of_stmts}
use Rattle.typed_definitions.proofs.Begun.{AllTold, FunctionBegun, MoreAtoms, atoms-on, atoms-same, function-begun}
use Rattle.typed_definitions.proofs.Joined.{joined-each, joined-of}
use Rattle.typed_definitions.proofs.Outline.{Outline, join-runs, outline}
use Rattle.typed_definitions.proofs.Parameters.{Named, parameters-named}
use Rattle.typed_definitions.proofs.Results.{AreTold, Done, all-made, all-told, told-at, told-without}
use Rattle.typed_definitions.proofs.Values.{value-done}
use Rattle.typed_definitions.proofs.Workers.{all-typed, run-stands}
use Rattle.typed_definitions.specs.Acting.{ActsOnItsOwn, WorkersAct, worker_names}
use Rattle.typed_definitions.specs.Functions.{AddsFunction, IsUnitBy, AllWholeFunctionsAreTyped, WholeFunctionIsTyped}
use Rattle.kept_done.proofs.Keeping.{keeps-on}
use Rattle.typed_bodies.proofs.Aside.{aside-result}
use Rattle.typed_bodies.proofs.Plain.{result-put}
use Rattle.typed_bodies.proofs.Values.{wanted-ready}
use Rattle.typed_exprs.proofs.Steps.{fewer-first, parted}
use Rattle.typed_exprs.specs.Lines.{Left, Run}
use Rattle.typed_functions.proofs.Begun.{by-handles}
use Rattle.typed_functions.proofs.Captures.{InSlots, more-slots}
use Rattle.typed_needs.proofs.Asking.{wanted-leaves}
use Rattle.typed_needs.proofs.Going.{types-same, unit-itself}
use Rattle.typed_needs.proofs.OnTheWay.{unit-came}
use Rattle.typed_needs.proofs.Placed.{all-but-last, last-same}
use Rattle.typed_needs.specs.Between.{IsKept, IsStanding, IsTypedUnit, IsUnitAt, WaysAreStored, units_in}
use Rattle.typed_needs.specs.Going.{IsSameUnit}
use Rattle.typed_needs.specs.Items.{AreFirst}
use Rattle.typed_needs.specs.Placing.{AreNamed, parameter_types}
use Rattle.typed_needs.specs.Waits.{AreResults}
use Rattle.typed_needs.specs.WholeRuns.{RunsGoOn}
use Rattle.typed_stmts.specs.Assigned.{TakeValues}
use Rattle.typed_tree.specs.Listed.{Listed, joined, members, one, ◌&◌}
use Rattle.typed_tree.specs.SharedTypes.{Shared, sem_of}
use Rattle.typed_tree.specs.declared.expr.TypedExpr.{TypedExpr}
use Rattle.typed_tree.specs.declared.stmt.TypedStmt.{TypedStmt}
use Rattle.typed_tree.specs.declared.unit.TypedBody.TheVariants.{Block, Expr}
use Rattle.typed_tree.specs.declared.unit.TypedBody.{TypedBody}
use Rattle.typed_tree.specs.declared.unit.TypedFunction.{TypedFunction}
use Rattle.typed_tree.specs.declared.unit.TypedUnit.{TypedUnit}
use Rattle.typed_tree.specs.declared.unit.TypedWorker.{TypedWorker}
use Rattle.typed_trees.proofs.Leaving.{expr-leaves, only-met}
use Rattle.typed_units.proofs.Ending.{FunctionEnded, function-ended}
use Rattle.typed_units.proofs.Functions.{Beside, all-beside}
use Rattle.typed_units.proofs.ValueBodies.{ValueEnded, value-ended}
use Rattle.typed_units.specs.Functions.{AllBodiesAreTyped, ComesToFunction, HasFunctions, actions_in_body, inside_of, unit_of_function, units_in_body}
use Rattle.typed_units.specs.Peers.{ActsOnPeers}
use Rattle.typed_units.specs.Workers.{AllWorkersAreTyped, HasWorkers}

-- ---- parameters

parameters-are : (env : List AtomDef) (f : Signature) → parameter_types env f ≡ map (λ (t : Ty). t.sem) (f.params ++ rest_slot f)
parameters-are env f = by f.rest refl ∙ sym (map-append (λ (t : Ty). t.sem) f.params (rest_slot f))
  where
    by : (o : Option Ty) → f.rest ≡ o → parameter_types env f ≡ map (λ (t : Ty). t.sem) f.params ++ map (λ (t : Ty). t.sem) (rest_slot f)
    by None e = cc
    by (Some t) e = cc

copies-below : (env : List AtomDef) (ts : List Ty) (us : List Shared) → AllZip (λ (t : Ty) (u : Shared). IsCopy t u.value) ts us
    → AllZip (Sub env) (map (λ (t : Ty). t.sem) ts) (map sem_of us)
copies-below env [] [] h = tt
copies-below env (t ∷ ts) (u ∷ us) h = ((λ x valid i. (In-same env x t.sem (sem_of u) h.0.sem).0 i), copies-below env ts us h.1)
copies-below env [] (u ∷ us) h = absurd h
copies-below env (t ∷ ts) [] h = absurd h

-- ---- where a body ends

-- A function is made of the unit at hand and of the workers that were made, each of which gives what is told.
record BodyEnded (b : Body) (u : UnitAtWork) (old new : State) : Type 0 where
  pub function : TypedFunction
  pub functions : new.done.functions ≡ old.done.functions ++ function ∷ []
  pub unit : UnitAtWork
  pub same : IsSameUnit u unit
  pub unit_is : function.unit ≡ typed_unit unit unit.arrow unit.future
  pub told : AreTold old.site.results 1 (named_workers function.body)
  pub many : length (named_workers function.body) ≡ length (workers_of b)
  pub workers : new.done.workers ≡ []
  pub initialisers : new.done.initialisers ≡ old.done.initialisers
  pub variables : new.done.variables ≡ old.done.variables
  pub results : new.site.results ≡ []
  pub atoms : MoreAtoms old new

came-from : (old new : State) (u v : UnitAtWork) → StaysIn old new → IsLast old.units u → IsLast new.units v → IsSameUnit u v
came-from old new u v stays first last =
    let c = unit-came old new v stays.goes stays.many last in
    subst (λ (w : UnitAtWork). IsSameUnit w v) (last-same old.units c.was u c.at_hand first) c.same

module _ (passes : List AtomDef → Asked → TypeLimit → Type 0) (exprs : KeptPositions passes) (positions : KeptStmtPositions passes) (goes : RunsGoOn passes) (done : DoneIsKept passes)
    (none : TreesEndNone) (workers_law : AllWorkersAreTyped passes) (names : Names) (env : List AtomDef) (place : Surroundings) where
  -- where the units of the workers stand
  abbrev beside_workers : TypedFunction → Surroundings
  beside_workers f = record place { workers = crew_of f }

  abbrev Ready : TypedFunction → State → Type 0
  Ready f s = IsStanding s × AreResults env (inside_of passes names env place f) s.site.results

  -- ---- bodies with statements

  module _ (d : FunctionDef) (initial : List Stmt) (workers : List Worker) (rest : List Stmt) (close : Place) (u : UnitAtWork) (old s2 s3 s5 new : State) (unit : HasUnit old)
      (hand : IsLast old.units u) (empty : old.done.workers ≡ [])
      (r1 : Run passes names env (one BeginsBlock & stmts_needs (in_initial workers rest) (read_stmts initial)) old s2) (rw : Run passes names env (numbered worker_needs 1 workers) s2 s3)
      (r2 : Run passes names env (one BeginsBlock & stmts_needs (in_block false) (read_stmts rest)) s3 s5) (end : FunctionEnded passes d close s5 new) where
    abbrev f : TypedFunction
    f = end.function

    done-part : (ss : List Stmt) (w : Within) (s t : State) → Run passes names env (one BeginsBlock & stmts_needs w (read_stmts ss)) s t → KeepsDone s t
    done-part ss w s t run =
        done names (one BeginsBlock & stmts_needs w (read_stmts ss)) s t (All-cons EndsNone BeginsBlock (members (stmts_needs w (read_stmts ss))) tt (none.stmts ss w))
        (only-met passes names env (one BeginsBlock & stmts_needs w (read_stmts ss)) s t run)

    p1 : Outline old s2
    p1 = outline passes positions goes names env initial (in_initial workers rest) old s2 unit r1

    d1 : KeepsDone old s2
    d1 = done-part initial (in_initial workers rest) old s2 r1

    unit-2 : HasUnit s2
    unit-2 = (let many = p1.stays.many in omega (arith, many, unit))

    empty-2 : s2.done.workers ≡ []
    empty-2 = d1.workers ∙ empty

    between : Beside s2 s3
    between = all-beside passes positions goes names env place workers s2 s3 unit-2 rw

    made-all : Done passes positions goes done none names env place (1 + length workers) s2 s3
    made-all = all-made passes positions goes done none names env place workers s2 s3 unit-2 empty-2 rw

    unit-3 : HasUnit s3
    unit-3 = subst (λ us. 1 ≤ length us) (sym between.units) unit-2

    p2 : Outline s3 s5
    p2 = outline passes positions goes names env rest (in_block false) s3 s5 unit-3 r2

    d2 : KeepsDone s3 s5
    d2 = done-part rest (in_block false) s3 s5 r2

    all-stay : StaysIn old s5
    all-stay = in-on old s2 s5 p1.stays (in-on s2 s3 s5 between.stays p2.stays)

    record Made : Type 0 where
      pub first : Vec TypedStmt
      pub second : Vec TypedStmt
      pub between_them : Vec TypedWorker
      pub body : f.body ≡ Block first between_them second end.unit.flow.reached close
      pub is_first : first.items ≡ end.initial.stmts
      pub these : between_them.items ≡ s3.done.workers

    made-of : Made
    made-of =
        let (i, r, w, is, ii, iw, ir) = end.body in
        record { first = i; second = r; between_them = w; body = is; is_first = ii; these = iw ∙ end.workers_are ∙ d2.workers }

    named-are : named_workers f.body ≡ s3.done.workers
    named-are = ap named_workers made-of.body ∙ made-of.these

    block-ended : (at : Place) (i r : Vec Stmt) (w : Vec Worker) → w.items ≡ workers → BodyEnded (body.Block i w r close at) u old new
    block-ended at i r w is =
        record {
          function = f;
          functions = end.functions ∙ ap (λ fs. fs ++ f ∷ []) (d2.functions ∙ made-all.functions ∙ d1.functions);
          unit = end.unit;
          same = came-from old s5 u end.unit all-stay hand end.at_hand;
          unit_is = end.unit_is;
          told = subst (AreTold old.site.results 1) (sym named-are) (subst (λ (s : Site). AreTold s.results 1 s3.done.workers) p1.stays.site made-all.told);
          many = (let e = ap length named-are in let m = made-all.many in let l = ap length is in omega (arith, e, m, l));
          workers = end.none_left;
          initialisers = end.initialisers ∙ d2.initialisers ∙ made-all.initialisers ∙ d1.initialisers;
          variables = end.variables ∙ d2.variables ∙ made-all.variables ∙ d1.variables;
          results = ap (λ (s : Site). s.results) end.site;
          atoms = atoms-on old s5 new (record { more = all-stay.goes.more; is = all-stay.goes.atoms }) (atoms-same s5 new end.atoms);
        }

    -- ---- its workers

    module _ (named : AreNamed env names place) (takes : TakeValues env names place) (far : HasFunctions passes names env place new) (ready : Ready f old)
        (acts : WorkersAct old.site.workers 1 workers) where
      abbrev At : BlockAtWork → Type 0
      At b = All (IsUnitAt place) (units_of_stmts b.stmts)

      abbrev crew : List SemType
      crew = crew_of f

      these : All (IsUnitAt place) (members (function_placed f))
      these = last-has (λ g. All (IsUnitAt place) (members (function_placed g))) new.done.functions f (record { kept = s5.done.functions; is = end.functions }) far.functions

      in-body : All (IsUnitAt place) (members (body_placed crew (Block made-of.first made-of.between_them made-of.second end.unit.flow.reached close)))
      in-body =
          subst (λ (b : TypedBody). All (IsUnitAt place) (members (body_placed crew b))) made-of.body
          (All-tail (IsUnitAt place) (unit_of_function f) (members (body_placed crew f.body)) these)

      in-first : At end.initial
      in-first =
          subst (λ ss. All (IsUnitAt place) (units_of_stmts ss)) made-of.is_first
          (front-have (IsUnitAt place) (units_of_stmts made-of.first.items)
          (members (joined (map (worker_placed crew) made-of.between_them.items)) ++ units_of_stmts made-of.second.items) in-body)

      in-workers : All (λ w. All (IsUnitAt place) (members (worker_placed crew w))) s3.done.workers
      in-workers =
          subst (All (λ w. All (IsUnitAt place) (members (worker_placed crew w)))) made-of.these
          (joined-each (IsUnitAt place) (worker_placed crew) made-of.between_them.items
          (front-have (IsUnitAt place) (members (joined (map (worker_placed crew) made-of.between_them.items))) (units_of_stmts made-of.second.items)
          (back-have (IsUnitAt place) (units_of_stmts made-of.first.items)
          (members (joined (map (worker_placed crew) made-of.between_them.items)) ++ units_of_stmts made-of.second.items) in-body)))

      blocks-3 : s3.blocks ≡ end.kept ++ end.initial ∷ []
      blocks-3 = sym (all-but-last s3.blocks p2.now) ∙ ap (λ bs. all_but 1 bs) (sym p2.blocks ∙ end.blocks) ∙ all-but-last (end.kept ++ end.initial ∷ []) end.rest

      far-3 : HasWorkers passes names env (beside_workers f) s3
      far-3 =
          record {
            first = fewer-first env s3 s5 p2.stays.goes (subst (AreFirst env) end.atoms far.first);
            parts = subst (λ (es : List TypedExpr). All (IsUnitAt place) (units_in es)) (end.found ∙ p2.found) far.parts;
            blocks = subst (All At) (sym blocks-3) (All-append At end.kept (end.initial ∷ []) (subst (All At) end.left far.blocks) (All-cons At end.initial [] in-first (All-nil At)));
            matches = subst (All (λ (m : MatchAtWork). All (IsUnitAt place) (units_of_clauses m.clauses))) (end.matches ∙ p2.matches) far.matches;
            workers = in-workers;
          }

      typed-workers : All (λ w. All (IsTypedUnit env place) (members (worker_placed crew w))) s3.done.workers
      typed-workers =
          let Ut : TypedWorker → Type 0 = (λ (w : TypedWorker). All (IsTypedUnit env (beside_workers f)) (members (worker_placed crew w))) in
          let one_typed = workers_law names env (beside_workers f) (record { variables = named.variables; functions = named.functions }) takes in
          let standing-2 = run-stands passes positions goes done none names env (beside_workers f) one_typed (one BeginsBlock & stmts_needs (in_initial workers rest) (read_stmts initial)) old s2 ready.0 r1 in
          let results-2 : AreResults env (beside_workers f) s2.site.results = subst (λ (s : Site). AreResults env (beside_workers f) s.results) (sym p1.stays.site) ready.1 in
          let t = all-typed passes positions goes done none names env (beside_workers f) one_typed old.site.workers workers acts s2 s3 unit-2 standing-2 (ap (λ (s : Site). s.workers) p1.stays.site) results-2
          (subst (All Ut) (sym empty-2) (All-nil Ut)) rw far-3 in
          t.workers

      block-units : All (IsTypedUnit env place) (units_in_body f.body) → All (IsTypedUnit env place) (members (body_placed crew f.body))
      block-units h =
          let i : List Placed = units_of_stmts made-of.first.items in
          let w : List Placed = members (joined (map (worker_placed crew) made-of.between_them.items)) in
          let r : List Placed = units_of_stmts made-of.second.items in
          let there : All (IsTypedUnit env place) (i ++ r) = subst (λ (b : TypedBody). All (IsTypedUnit env place) (units_in_body b)) made-of.body h in
          let in-them : All (IsTypedUnit env place) w =
          joined-of (IsTypedUnit env place) (worker_placed crew) made-of.between_them.items
          (subst (All (λ w. All (IsTypedUnit env place) (members (worker_placed crew w)))) (sym made-of.these) typed-workers) in
          subst (λ (b : TypedBody). All (IsTypedUnit env place) (members (body_placed crew b))) (sym made-of.body)
          (All-append (IsTypedUnit env place) i (w ++ r) (front-have (IsTypedUnit env place) i r there)
          (All-append (IsTypedUnit env place) w r in-them (back-have (IsTypedUnit env place) i r there)))

  -- ---- bodies that are values

  module _ (d : FunctionDef) (x : ExprTree) (u : UnitAtWork) (old a b new : State) (unit : HasUnit old) (hand : IsLast old.units u) (rw : Run passes names env (one WantsResult) old a)
      (rv : Run passes names env (as_wanted (read_expr x)) a b) (end : ValueEnded d b new) where
    abbrev g : TypedFunction
    g = end.function

    stays-a : StaysIn old a
    stays-a = in-stays old a (aside-result old a tt rw.0).stays

    unit-a : HasUnit a
    unit-a = (let many = stays-a.many in omega (arith, many, unit))

    left : Left a b
    left =
        let (t, last) = result-put old a rw.0 in
        let (m, ra, rs) = parted passes names env ((read_expr x).needs expected.Wanted) (one (IsWanted (read_expr x).at)) a b rv in
        subst (λ (s : State). Left a s) (sym (wanted-leaves passes (read_expr x).at m b tt rs.0))
        (expr-leaves passes names env (exprs names) (goes names) x expected.Wanted a m (wanted-ready a t unit-a last) ra)

    stays-b : StaysIn old b
    stays-b = in-on old a b stays-a (in-run a b left.path.goes left.more.same)

    done-b : KeepsDone old b
    done-b =
        let first = done names (one WantsResult) old a (All-cons EndsNone WantsResult [] tt (All-nil EndsNone)) (only-met passes names env (one WantsResult) old a rw) in
        let next = value-done passes done none names env x a b rv in
        keeps-on old a b first next

    record Holds : Type 0 where
      pub box : Box TypedExpr
      pub body : g.body ≡ Expr box

    holds : Holds
    holds = let (v, body, is) = end.body in record { box = v; body = body }

    no-workers : named_workers g.body ≡ []
    no-workers = ap named_workers holds.body

    value-body-ended : (at : Place) (y : Box ExprTree) → BodyEnded (body.Expr y at) u old new
    value-body-ended at y =
        record {
          function = g;
          functions = end.functions ∙ ap (λ fs. fs ++ g ∷ []) done-b.functions;
          unit = end.unit;
          same = came-from old b u end.unit stays-b hand end.at_hand;
          unit_is = end.unit_is;
          told = subst (AreTold old.site.results 1) (sym no-workers) tt;
          many = ap length no-workers;
          workers = end.none_left;
          initialisers = end.initialisers ∙ done-b.initialisers;
          variables = end.variables ∙ done-b.variables;
          results = ap (λ (s : Site). s.results) end.site;
          atoms = atoms-on old b new (record { more = stays-b.goes.more; is = stays-b.goes.atoms }) (atoms-same b new end.atoms);
        }

    value-units : All (IsTypedUnit env place) (units_in_body g.body) → All (IsTypedUnit env place) (members (body_placed (crew_of g) g.body))
    value-units h =
        subst (λ (y : TypedBody). All (IsTypedUnit env place) (members (body_placed (crew_of g) y))) (sym holds.body)
        (subst (λ (y : TypedBody). All (IsTypedUnit env place) (units_in_body y)) holds.body h)

  -- ---- any body

  record BodyWhole (b : Body) (u : UnitAtWork) (old new : State) : Type 0 where
    pub ended : BodyEnded b u old new
    pub units : AreNamed env names place → TakeValues env names place → HasFunctions passes names env place new → Ready ended.function old
        → WorkersAct old.site.workers 1 (workers_of b)
        → All (IsTypedUnit env place) (units_in_body ended.function.body) → All (IsTypedUnit env place) (members (body_placed (crew_of ended.function) ended.function.body))

  body-whole : (d : FunctionDef) (b : Body) (u : UnitAtWork) (old new : State) → HasUnit old → IsLast old.units u → old.done.workers ≡ []
      → Run passes names env (body_needs d b) old new → BodyWhole b u old new
  unfolding block-ended value-body-ended
  body-whole d (body.Block initial workers rest close at) u old new unit hand empty run =
      let stmts : Listed Need = stmts_needs (in_block false) (read_stmts rest.items) in
      let front : Listed Need = one BeginsBlock & stmts_needs (in_initial workers.items rest.items) (read_stmts initial.items) in
      let (s2, r1, more) = parted passes names env front (numbered worker_needs 1 workers.items & (one BeginsBlock & stmts & one (EndsFunction d close))) old new run in
      let (s3, rw, behind) = parted passes names env (numbered worker_needs 1 workers.items) (one BeginsBlock & stmts & one (EndsFunction d close)) s2 new more in
      let (a, rb, r3) = parted passes names env (one BeginsBlock) (stmts & one (EndsFunction d close)) s3 new behind in
      let (s5, r4, re) = parted passes names env stmts (one (EndsFunction d close)) a new r3 in
      let r2 = join-runs passes positions goes names env (one BeginsBlock) stmts s3 a s5 rb r4 in
      let end = function-ended passes d close s5 new re.0 in
      record {
        ended = block-ended d initial.items workers.items rest.items close u old s2 s3 s5 new unit hand empty r1 rw r2 end at initial rest workers refl;
        units = λ named takes far ready acts h. block-units d initial.items workers.items rest.items close u old s2 s3 s5 new unit hand empty r1 rw r2 end named takes far ready acts h;
      }
  body-whole d (body.Expr value at) u old new unit hand empty run =
      let (a, rw, rest) = parted passes names env (one WantsResult) (as_wanted (read_expr value.value) & one (EndsValueFunction d)) old new run in
      let (b, rv, re) = parted passes names env (as_wanted (read_expr value.value)) (one (EndsValueFunction d)) a new rest in
      let end = value-ended d b new re.0 in
      record {
        ended = value-body-ended d value.value u old a b new unit hand rw rv end at value;
        units = λ named takes far ready acts h. value-units d value.value u old a b new unit hand rw rv end h;
      }

  -- ---- the whole

  module _ (bodies_law : AllBodiesAreTyped passes) (d : FunctionDef) (old a b new : State) (begin : FunctionBegun names d old a) (first : IsStanding a)
      (rp : Run passes names env (parameters_needs (assigned_in_body d.body) d.params) a b) (rb : Run passes names env (body_needs d d.body) b new) (empty : old.done.workers ≡ []) where
    n : Named place old.units begin.unit a b
    n =
        parameters-named passes names env place old.units begin.unit a (assigned_in_body d.body) d.params a b
        (record {
          unit = begin.unit;
          units = begin.units;
          same = unit-itself begin.unit;
          stored = by-handles place (function_unit begin.signature begin.slots begin.result) begin.unit begin.same (All-nil _);
          ways = begin.ways;
          atoms = refl;
          site = refl;
          found = refl;
          blocks = refl;
          matches = refl;
          workers = refl;
          functions = refl;
          initialisers = refl;
          variables = refl;
          standing = first;
        }) rp

    hand : IsLast b.units n.unit
    hand = record { kept = old.units; is = n.units }

    unit-b : HasUnit b
    unit-b = (let e = ap length n.units in let l = length-append old.units (n.unit ∷ []) in omega (arith, e, l))

    w : BodyWhole d.body n.unit b new
    w = body-whole d d.body n.unit b new unit-b hand (n.workers ∙ begin.workers ∙ empty) rb

    abbrev e : BodyEnded d.body n.unit b new
    e = w.ended

    abbrev fn : TypedFunction
    fn = e.function

    abbrev ins : Surroundings
    ins = inside_of passes names env place fn

    abbrev told_results : List (Result Shared Fault)
    told_results = Ok begin.result ∷ begin.results

    results-are : b.site.results ≡ told_results
    results-are = ap (λ (s : Site). s.results) (n.site ∙ begin.site)

    peers-are : b.site.workers ≡ worker_names d.body
    peers-are = ap (λ (s : Site). s.workers) (n.site ∙ begin.site)

    ws-told : AreTold told_results 1 (named_workers fn.body)
    ws-told = subst (λ rs. AreTold rs 1 (named_workers fn.body)) results-are e.told

    many-results : length begin.results ≡ length (named_workers fn.body)
    many-results = begin.many ∙ sym e.many

    own-result : sem_of fn.unit.result ≡ sem_of begin.result
    own-result = ap (λ (u : TypedUnit). sem_of u.result) e.unit_is ∙ e.same.result ∙ n.same.result ∙ ap (λ (t : Ty). t.sem) begin.same.result

    told-here : AreResults env ins told_results
    told-here zero t is =
        let same : begin.result ≡ t = cc in
        let all : sem_of fn.unit.result ≡ sem_of t = own-result ∙ ap sem_of same in
        subst (λ s. Sub env (sem_of fn.unit.result) s) all (λ x valid i. i)
    told-here (suc k) t is =
        told-at env told_results 1 (named_workers fn.body) k t ws-told
        (let lt = slice_get_within told_results (suc k) (Ok t) is in let m = many-results in omega (arith, lt, m))
        (let same : suc k ≡ 1 + k = omega arith in subst (λ i. slice_get told_results i ≡ Some (Ok t)) same is)

    results-b : AreResults env ins b.site.results
    results-b = subst (λ rs. AreResults env ins rs) (sym results-are) told-here

    slots-are : ins.slots ≡ map sem_of n.unit.slots ++ e.same.more
    slots-are = ap (λ (u : TypedUnit). slot_types u) e.unit_is ∙ e.same.slots

    kept-b : IsKept ins b
    kept-b =
        record {
          standing = n.standing;
          stored = record {
            unit = n.unit;
            at_hand = hand;
            variables = subst (λ xs. All (InSlots place xs) n.unit.flow.variables) (sym slots-are)
                (more-slots place (map sem_of n.unit.slots) e.same.more n.unit.flow.variables n.stored);
          };
          ways = subst (λ w. IfSome w (WaysAreStored ins)) (sym n.ways) tt;
        }

    begins : (f : TypedFunction) → IsLast new.done.functions f → IsKept (inside_of passes names env place f) b × AreResults env (inside_of passes names env place f) b.site.results
    begins f last =
        let same : fn ≡ f = last-same new.done.functions fn f (record { kept = b.done.functions; is = e.functions }) last in
        subst (λ (f : TypedFunction). IsKept (inside_of passes names env place f) b × AreResults env (inside_of passes names env place f) b.site.results) same (kept-b, results-b)

    comes : AreNamed env names place → TakeValues env names place → HasFunctions passes names env place new → ActsOnItsOwn d → ComesToFunction passes names env place new
    comes named takes far acts =
        bodies_law names env place named takes d d.body b new unit-b rb far begins
        (λ u last. ap (λ (v : UnitAtWork). v.worker) (last-same b.units u n.unit last hand) ∙ n.same.worker ∙ begin.same.worker)
        (subst (λ ns. All (ActsOnPeers ns 0) (members (actions_in_body d.body))) (sym peers-are) acts.default)

    all-units : AreNamed env names place → TakeValues env names place → HasFunctions passes names env place new → ActsOnItsOwn d
        → All (IsTypedUnit env place) (members (function_placed fn))
    all-units named takes far acts =
        let c = comes named takes far acts in
        let same : c.function ≡ fn = last-same new.done.functions c.function fn c.last (record { kept = b.done.functions; is = e.functions }) in
        let own : IsTypedUnit env place (unit_of_function fn) = subst (λ (f : TypedFunction). IsTypedUnit env place (unit_of_function f)) same c.own in
        let in-body : All (IsTypedUnit env place) (units_in_body fn.body) = subst (λ (f : TypedFunction). All (IsTypedUnit env place) (units_in_body f.body)) same c.units in
        All-cons (IsTypedUnit env place) (unit_of_function fn) (members (body_placed (crew_of fn) fn.body)) own
        (w.units named takes far (n.standing, results-b) (subst (λ ns. WorkersAct ns 1 (workers_of d.body)) (sym peers-are) acts.named) in-body)

    -- ---- its unit, by the signature that its name stands for

    own-params : fn.unit.params ≡ length begin.slots
    own-params = ap (λ (u : TypedUnit). u.params) e.unit_is ∙ e.same.params ∙ n.same.params ∙ begin.same.params

    own-slots : slot_types fn.unit ≡ map sem_of begin.slots ++ (n.same.more ++ e.same.more)
    own-slots =
        slots-are ∙ ap (λ ts. ts ++ e.same.more) (n.same.slots ∙ ap (λ ts. ts ++ n.same.more) (types-same begin.slots begin.unit.slots begin.same.slots))
        ∙ append_assoc (map sem_of begin.slots) n.same.more e.same.more

    first-slots : take fn.unit.params (slot_types fn.unit) ≡ map sem_of begin.slots
    first-slots =
        let front : List SemType = map sem_of begin.slots in
        let many : fn.unit.params ≡ length front = own-params ∙ sym (length-map begin.slots sem_of) in
        ap (λ k. take k (slot_types fn.unit)) many ∙ ap (λ ts. take (length front) ts) own-slots ∙ take-append_seam front (n.same.more ++ e.same.more)

    own-fits : IsUnitBy env begin.signature (signature_of (Some (unit_of_function fn)))
    own-fits =
        record {
          params = subst (λ ts. AllZip (Sub env) (parameter_types env begin.signature) ts) (sym first-slots)
              (subst (λ ts. AllZip (Sub env) ts (map sem_of begin.slots)) (sym (parameters-are env begin.signature))
              (copies-below env (begin.signature.params ++ rest_slot begin.signature) begin.slots begin.are_slots));
          captured = refl;
          result = subst (λ t. Sub env t begin.signature.result.sem) (sym own-result)
              (λ x valid i. (In-same env x begin.signature.result.sem (sem_of begin.result) begin.copied.sem).1 i);
          arrow = ap (λ (u : TypedUnit). u.arrow) e.unit_is ∙ e.same.arrow ∙ n.same.arrow ∙ begin.same.arrow;
          future = ap (λ (u : TypedUnit). u.future) e.unit_is ∙ e.same.future ∙ n.same.future ∙ begin.same.future;
        }

    adds : AddsFunction passes names env place d old new
    adds =
        let told : AllTold begin.results = all-told begin.results (named_workers fn.body) (told-without (Ok begin.result) begin.results (named_workers fn.body) ws-told) many-results in
        let all : MoreAtoms old new = atoms-on old a new (begin.told told) (atoms-on a b new (atoms-same a b n.atoms) e.atoms) in
        record {
          function = fn;
          functions = e.functions ∙ ap (λ fs. fs ++ fn ∷ []) (n.functions ∙ begin.functions);
          signature = begin.signature;
          named = begin.named;
          number = ap (λ (u : TypedUnit). u.number) e.unit_is ∙ e.same.number ∙ n.same.number ∙ begin.same.number;
          fits = own-fits;
          units = λ named takes far acts. all-units named takes far acts;
          workers = e.workers;
          initialisers = e.initialisers ∙ n.initialisers ∙ begin.initialisers;
          variables = e.variables ∙ n.variables ∙ begin.variables;
          results = e.results;
          more = all.more;
          atoms = all.is;
        }

  whole-typed : AllBodiesAreTyped passes → WholeFunctionIsTyped passes names env place
  whole-typed bodies_law d old new run empty =
      let params : Listed Need = parameters_needs (assigned_in_body d.body) d.params in
      let (b, front, rb) = parted passes names env (one (BeginsFunction d) & params) (body_needs d d.body) old new run in
      let (a, ra, rp) = parted passes names env (one (BeginsFunction d)) params old b front in
      adds bodies_law d old a b new (function-begun names d old a ra.0) ra.1 rp rb empty

pub all-whole-functions-are-typed : (passes : List AtomDef → Asked → TypeLimit → Type 0) → KeptPositions passes → KeptStmtPositions passes → RunsGoOn passes → DoneIsKept passes
    → TreesEndNone → AllWorkersAreTyped passes → AllBodiesAreTyped passes → AllWholeFunctionsAreTyped passes
all-whole-functions-are-typed passes exprs positions goes done none workers_law bodies_law names env place =
    whole-typed passes exprs positions goes done none workers_law names env place bodies_law
