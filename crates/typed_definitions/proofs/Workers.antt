-- All workers of a function are typed, one behind another.
use Rattle.std.proofs.Common.{All, List, [], ap, length, subst, suc, sym, ℕ, ◌++◌, ◌∙◌, ◌∷◌, ◌≡◌, ◌≤◌}
use Rattle.std.proofs.lemmas.List.Elements.{All-append, All-cons, All-nil}
use Rattle.bal_base.specs.declared.text.Name.{Name}
use Rattle.bal_tree.specs.declared.def.Worker.{Worker}
use Rattle.check_laws.specs.StmtLaws.{HasUnit, KeptStmtPositions}
use Rattle.check_words.proofs.Standing.{front-have}
use Rattle.check_words.specs.State.{BlockAtWork, MatchAtWork, Site, State}
use Rattle.checks.specs.Checks.{gives_some, ◌▷◌}
use Rattle.descriptors.specs.declared.names.Names.{Names}
use Rattle.expr_needs.specs.Needs.{Need}
use Rattle.kept_done.specs.Done.{DoneIsKept, TreesEndNone}
use Rattle.operations.specs.Rows.{Surroundings}
use Rattle.stmt_needs.specs.PackageTable.{numbered, numbered_from, worker_needs}
use Rattle.type_model.specs.Calls.{Asked}
use Rattle.type_model.specs.declared.answers.TypeLimit.{TypeLimit}
use Rattle.type_model.specs.declared.atoms.AtomDef.{AtomDef}
use Rattle.typed_blocks.specs.Actions.{actions_in_block}
use Rattle.typed_bodies.specs.Units.{units_of_clauses, units_of_stmts}
use Rattle.typed_definitions.proofs.Results.{worker-made}
use Rattle.typed_definitions.specs.Acting.{WorkersAct}
use Rattle.typed_exprs.proofs.Steps.{fewer-first, parted}
use Rattle.typed_exprs.specs.Lines.{Run}
use Rattle.typed_needs.proofs.Placed.{last-same}
use Rattle.typed_needs.specs.Between.{IsStanding, IsTypedUnit, IsUnitAt, units_in}
use Rattle.typed_needs.specs.Waits.{AreResults}
use Rattle.typed_needs.specs.WholeRuns.{RunsGoOn}
use Rattle.typed_tree.specs.Listed.{Listed, members, nothing, one, ◌&◌}
use Rattle.typed_tree.specs.declared.expr.TypedExpr.{TypedExpr}
use Rattle.typed_tree.specs.declared.unit.TypedWorker.{TypedWorker}
use Rattle.typed_units.proofs.Functions.{Beside, beside-itself, beside-on, worker-beside}
use Rattle.typed_units.specs.Peers.{ActsOnPeers}
use Rattle.typed_units.specs.Workers.{HasWorkers, WorkerIsTyped, units_of_worker}

module _ (passes : List AtomDef → Asked → TypeLimit → Type 0) (positions : KeptStmtPositions passes) (goes : RunsGoOn passes) (done : DoneIsKept passes) (trees : TreesEndNone) (names : Names)
    (env : List AtomDef) (place : Surroundings) (one_typed : WorkerIsTyped passes names env place) where
  abbrev Besides : Listed Need → Type 0
  Besides needs = (old new : State) → HasUnit old → Run passes names env needs old new → Beside old new

  -- what a run comes to stands, where it begins with what stands
  pub run-stands : (needs : Listed Need) (old new : State) → IsStanding old → Run passes names env needs old new → IsStanding new
  unfolding ◌▷◌ gives_some
  run-stands nothing old new h (is, same) = subst (λ (s : State). IsStanding s) (sym same) h
  run-stands (one n) old new h run = run.1
  run-stands (p & q) old new h (u, m, a, b) = run-stands q m new (run-stands p old m h a) b

  abbrev pub AreAt : TypedWorker → Type 0
  AreAt w = All (IsUnitAt place) (units_of_worker passes names env place w)

  abbrev pub AreTyped : TypedWorker → Type 0
  AreTyped w = All (IsTypedUnit env place) (units_of_worker passes names env place w)

  -- what there is behind a worker is known before it
  before-worker : (m new : State) (w : TypedWorker) → Beside m new → new.done.workers ≡ m.done.workers ++ w ∷ [] → HasWorkers passes names env place new
      → HasWorkers passes names env place m
  before-worker m new w b workers h =
      record {
        first = fewer-first env m new b.stays.goes h.first;
        parts = subst (λ (es : List TypedExpr). All (IsUnitAt place) (units_in es)) b.found h.parts;
        blocks = subst (All (λ (x : BlockAtWork). All (IsUnitAt place) (units_of_stmts x.stmts))) b.blocks h.blocks;
        matches = subst (All (λ (x : MatchAtWork). All (IsUnitAt place) (units_of_clauses x.clauses))) b.matches h.matches;
        workers = front-have AreAt m.done.workers (w ∷ []) (subst (All AreAt) workers h.workers);
      }

  module _ (peers : List Name) where
    pub record Typed (old new : State) : Type 0 where
      pub workers : All AreTyped new.done.workers
      pub standing : IsStanding new

    abbrev pub Makes : Listed Need → Type 0
    Makes needs =
        (old new : State) → HasUnit old → IsStanding old → old.site.workers ≡ peers → AreResults env place old.site.results → All AreTyped old.done.workers
        → Run passes names env needs old new → HasWorkers passes names env place new → Typed old new

    workers-typed : (xs : List Worker) (n : ℕ) (before : Listed Need) → WorkersAct peers n xs → Besides before → Makes before
        → Makes (numbered_from before worker_needs n xs)
    workers-typed [] n before acts beside f = f
    workers-typed (x ∷ xs) n before acts beside f = workers-typed xs (suc n) (before & worker_needs n x) acts.1 both step
      where
        both : Besides (before & worker_needs n x)
        both old new unit run =
            let (m, ra, rb) = parted passes names env before (worker_needs n x) old new run in
            let a = beside old m unit ra in
            beside-on old m new a (worker-beside passes positions goes names env place x n m new (subst (λ us. 1 ≤ length us) (sym a.units) unit) rb)

        step : Makes (before & worker_needs n x)
        step old new unit standing named results typed run far =
            let (m, ra, rb) = parted passes names env before (worker_needs n x) old new run in
            let a = beside old m unit ra in
            let unit-m : HasUnit m = subst (λ us. 1 ≤ length us) (sym a.units) unit in
            let b : Beside m new = worker-beside passes positions goes names env place x n m new unit-m rb in
            let w = worker-made passes positions goes done trees names env place x n m new unit-m rb in
            let d = f old m unit standing named results typed ra (before-worker m new w.worker b w.workers far) in
            let acts-here : All (ActsOnPeers m.site.workers n) (members (actions_in_block x.body)) =
            subst (λ ns. All (ActsOnPeers ns n) (members (actions_in_block x.body))) (sym (ap (λ (s : Site). s.workers) a.stays.site ∙ named)) acts.0 in
            let c = one_typed x n m new unit-m rb d.standing far (subst (λ (s : Site). AreResults env place s.results) (sym a.stays.site) results) acts-here in
            let same : c.worker ≡ w.worker = last-same new.done.workers c.worker w.worker c.last (record { kept = m.done.workers; is = w.workers }) in
            record {
              workers = subst (All AreTyped) (sym w.workers)
                  (All-append AreTyped m.done.workers (w.worker ∷ []) d.workers (All-cons AreTyped w.worker [] (subst AreTyped same c.units) (All-nil AreTyped)));
              standing = run-stands (worker_needs n x) m new d.standing rb;
            }

    none-typed : Makes nothing
    unfolding gives_some
    none-typed old new unit standing named results typed (is, same) far =
        record {
          workers = subst (λ (s : State). All AreTyped s.done.workers) (sym same) typed;
          standing = subst (λ (s : State). IsStanding s) (sym same) standing;
        }

    none-beside : Besides nothing
    unfolding gives_some
    none-beside old new unit (is, same) = subst (λ (s : State). Beside old s) (sym same) (beside-itself old)

    pub all-typed : (xs : List Worker) → WorkersAct peers 1 xs → Makes (numbered worker_needs 1 xs)
    all-typed xs acts = workers-typed xs 1 nothing acts none-beside none-typed
