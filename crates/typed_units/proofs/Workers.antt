-- Workers: their bodies are blocks in units of their own.
use Rattle.std.proofs.Common.{All, Bool, IfSome, List, [], ap, append-nil, arith, false, length, length-append, map, refl, subst, sym, true, ℕ, ◌++◌, ◌∙◌, ◌∷◌, ◌≡◌}
use Rattle.std.proofs.lemmas.List.Elements.{All-append, All-cons, All-head, All-nil, All-tail, All-contains_itself}
use Rattle.std.specs.Prelude.{IsSome}
use Rattle.bal_base.specs.declared.place.Place.{Place}
use Rattle.bal_tree.specs.declared.action.Action.{Action, Flush, Prefix', Receive, Send, Start, SyncSend, WaitAll, WaitAny}
use Rattle.bal_tree.specs.declared.action.Peer.{Peer}
use Rattle.bal_tree.specs.declared.action.Rhs.TheVariants.{Action as ActionRhs, Expr as ExprRhs}
use Rattle.bal_tree.specs.declared.action.Rhs.{Rhs}
use Rattle.bal_tree.specs.declared.def.Worker.{Worker}
use Rattle.bal_tree.specs.declared.stmt.Block.{out-Block}
use Rattle.check_laws.specs.StmtLaws.{HasUnit, IsOneBlockMore}
use Rattle.check_words.proofs.Standing.{last-has}
use Rattle.check_words.specs.Actions.{peer_named}
use Rattle.check_words.specs.Calls.{typed_unit}
use Rattle.check_words.specs.State.{BlockAtWork, IsLast, MatchAtWork, Site, State, UnitAtWork, all_but}
use Rattle.check_words.specs.Units.{ends_by}
use Rattle.checks.specs.Checks.{Gives, gives_some, ◌▷◌}
use Rattle.checks.specs.Questions.{is_below}
use Rattle.bal_base.specs.declared.text.Name.{Name}
use Rattle.check_words.specs.Words.{OfKind}
use Rattle.checks.specs.Checks.{refuses}
use Rattle.descriptors.specs.declared.names.Names.{Names}
use Rattle.eval_model.specs.Expressions.{nil_type}
use Rattle.expr_needs.specs.Needs.{BeginsWorker, EndsWorker, Need}
use Rattle.expr_needs.specs.declared.kind.Kind.TheVariants as kind
use Rattle.needs.specs.Needs.{asks}
use Rattle.operations.specs.Rows.{Surroundings}
use Rattle.stmt_needs.specs.StmtTable.{in_block, read_block}
use Rattle.tree_places.specs.UsedInStmts.{used_in_block}
use Rattle.tree_promises.specs.Laws.{MadeStatementsAreTyped}
use Rattle.tree_promises.specs.Placed.{Placed, begins_captured, slot_types}
use Rattle.type_model.specs.Calls.{Asked}
use Rattle.type_model.specs.Inclusion.{Sub}
use Rattle.type_model.specs.declared.answers.TypeLimit.{TypeLimit}
use Rattle.type_model.specs.declared.atoms.AtomDef.{AtomDef}
use Rattle.type_model.specs.declared.basic.Ty.{Ty}
use Rattle.typed_blocks.specs.Actions.{actions_in_block}
use Rattle.typed_blocks.specs.Trees.{AllTreesAreKnown}
use Rattle.typed_bodies.specs.Claims.{AreDone, CanAct, ComesToBlock, IsOnTheWay, KnowsBlock}
use Rattle.typed_bodies.specs.Units.{units_of_clauses, units_of_stmts}
use Rattle.typed_exprs.proofs.Steps.{before, parted}
use Rattle.typed_exprs.specs.Lines.{Run}
use Rattle.typed_functions.proofs.Captures.{InSlots, more-slots}
use Rattle.typed_needs.proofs.OnTheWay.{unit-came}
use Rattle.typed_needs.proofs.Placed.{all-but-last, last-same}
use Rattle.typed_needs.specs.Between.{IsKept, IsStanding, IsTypedUnit, IsUnitAt, WaysAreStored, place_within, units_in}
use Rattle.typed_needs.specs.Going.{IsSameUnit}
use Rattle.typed_needs.specs.Items.{AreFirst}
use Rattle.typed_needs.specs.Messages.{NamesWorker}
use Rattle.typed_needs.specs.Pieces.{IsBefore}
use Rattle.typed_needs.specs.Placing.{AreNamed, IsPlaced}
use Rattle.typed_needs.specs.TypedRuns.{NamesOfAction, NamesWorkers}
use Rattle.typed_needs.specs.Waits.{AreResults}
use Rattle.typed_stmts.proofs.Ends.{nil-below}
use Rattle.typed_stmts.specs.Assigned.{TakeValues}
use Rattle.typed_tree.specs.Listed.{Listed, members, one, ◌&◌}
use Rattle.typed_tree.specs.SharedTypes.{sem_of}
use Rattle.typed_tree.specs.Units.{OfWorker}
use Rattle.typed_tree.specs.declared.unit.TypedUnit.{TypedUnit}
use Rattle.typed_tree.specs.declared.unit.TypedWorker.{TypedWorker}
use Rattle.typed_bodies.proofs.Trails.{as-many}
use Rattle.typed_units.proofs.Beginning.{WorkerBegun, WorkerEnded, worker-begun, worker-ended}
use Rattle.typed_units.specs.Bodies.{AllBodiesMakeTyped, BodiesMakeTyped}
use Rattle.typed_units.specs.Peers.{ActsOnPeers, HasPeers, IsPeer}
use Rattle.typed_units.specs.Workers.{AllWorkersAreTyped, ComesToWorker, HasWorkers, WorkerIsTyped, units_of_worker}

-- ---- peers

module _ (s : State) (u : UnitAtWork) (last : IsLast s.units u) (workers : List Name) (own : ℕ) (site : s.site.workers ≡ workers) (worker : u.worker ≡ own) where
  names-worker : (p : Peer) → IsPeer workers own p → NamesWorker p s
  names-worker p h =
      record {
        unit = u;
        at_hand = last;
        known = subst (λ n. IsSome (peer_named s.site.workers n p)) (sym worker) (subst (λ ws. IsSome (peer_named ws own p)) (sym site) h);
      }

  names-of : (a : Action) → HasPeers workers own a → NamesOfAction a s
  names-of (Prefix' op _ a at) h = names-of a h
  names-of (Start call at) h = tt
  names-of (WaitAny names at) h = h
  names-of (WaitAll members at) h = tt
  names-of (Flush p at) h = names-worker p h
  names-of (Receive p at) h = names-worker p h
  names-of (Send value p at) h = names-worker p h
  names-of (SyncSend value p at) h = names-worker p h

  pub names-all : (rs : List Rhs) → All (ActsOnPeers workers own) rs → All (λ r. NamesWorkers r s) rs
  names-all [] h = All-nil (λ r. NamesWorkers r s)
  names-all (r ∷ rs) h =
      All-cons (λ r. NamesWorkers r s) r rs (by r (All-head (ActsOnPeers workers own) r rs h)) (names-all rs (All-tail (ActsOnPeers workers own) r rs h))
    where
      by : (r : Rhs) → ActsOnPeers workers own r → NamesWorkers r s
      by (ExprRhs e) h = tt
      by (ActionRhs a) h = names-of a.value h

-- ---- ends

module _ (made : MadeStatementsAreTyped) (passes : List AtomDef → Asked → TypeLimit → Type 0) (names : Names) (env : List AtomDef) where
  -- that nil is below the result was asked, of the atoms that were there
  ends-asked : (u : UnitAtWork) (close : Place) (s t : State) → ends_by passes true u close s (Gives tt) t
      → (nil : Ty) × OfKind kind.Nothing s.atoms nil × Sub s.atoms nil.sem (sem_of u.result)
  unfolding ◌▷◌ gives_some asks is_below refuses
  ends-asked u close s t (nil, a, (nothing, e1), (true, b, ((under, atoms), over), rest)) = (nil, nothing, subst (λ (x : State). Sub x.atoms nil.sem (sem_of u.result)) e1 under)
  ends-asked u close s t (nil, a, (nothing, e1), (false, b, asked, rest)) = absurd rest

  module _ (place : Surroundings) where
    pub nil-is-result : (ends : Bool) (u : UnitAtWork) (close : Place) (n s t : State) → ends_by passes ends u close s (Gives tt) t → s.atoms ≡ n.atoms → IsLast n.units u
        → IsBefore env n → IsPlaced place n → ends ≡ true → Sub env nil_type place.result
    nil-is-result false u close n s t met atoms last before placed e = absurd (let bad : ⊥ = cc in bad)
    nil-is-result true u close n s t met atoms last before placed e =
        let (nil, nothing, under) = ends-asked u close s t met in
        nil-below made passes names env place n u nil before placed last (subst (λ xs. OfKind kind.Nothing xs nil) atoms nothing)
        (subst (λ xs. Sub xs nil.sem (sem_of u.result)) atoms under)

-- ---- workers

module _ (made : MadeStatementsAreTyped) (bodies : AllBodiesMakeTyped) (passes : List AtomDef → Asked → TypeLimit → Type 0) (trees : AllTreesAreKnown passes) (names : Names) (env : List AtomDef)
    (place : Surroundings) (named : AreNamed env names place) (takes : TakeValues env names place) where
  -- its own unit
  abbrev own-of : TypedWorker → Placed
  own-of t =
      record { tree = record { unit = t.unit; body = OfWorker t.stmts.items t.ends }; captured = length t.captured; known = begins_captured t; crew = place.workers }

  abbrev inside : TypedWorker → Surroundings
  inside t = place_within place (own-of t)

  module _ (x : Worker) (number : ℕ) (old a b new : State) (standing : IsStanding old) (far : HasWorkers passes names env place new) (results : AreResults env place old.site.results)
      (peers : All (ActsOnPeers old.site.workers number) (members (actions_in_block x.body))) (start : WorkerBegun place number old a) (standing-a : IsStanding a)
      (run : Run passes names env ((read_block x.body).needs (in_block false)) a b) (end : WorkerEnded passes x (out-Block x.body).close b new) where
    abbrev t : TypedWorker
    t = end.worker

    unit-is : t.unit ≡ typed_unit end.unit 0 0
    unit-is = end.is.1

    abbrev actions : List Rhs
    actions = members (actions_in_block x.body)

    known : KnowsBlock passes names env (inside t) (CanAct env (inside t) actions) (read_block x.body).needs
    known =
        (trees names env (inside t) actions (record { variables = named.variables; functions = named.functions }) takes).block x.body (All-contains_itself actions)

    hand : IsLast a.units start.unit
    hand = record { kept = old.units; is = start.units }

    unit-a : HasUnit a
    unit-a = (let e = ap length start.units in let l = length-append old.units (start.unit ∷ []) in omega (arith, e, l))

    more : IsOneBlockMore a b
    more = known.more (in_block false) a b unit-a run

    same : IsSameUnit start.unit end.unit
    same =
        let c = unit-came a b end.unit (known.goes (in_block false) a b unit-a run) (as-many a.units b.units more.same.units) end.at_hand in
        subst (λ (u : UnitAtWork). IsSameUnit u end.unit) (last-same a.units c.was start.unit c.at_hand hand) c.same

    slots-are : (inside t).slots ≡ map sem_of end.unit.slots
    slots-are = ap (λ (u : TypedUnit). slot_types u) unit-is

    result-is : (inside t).result ≡ sem_of end.unit.result
    result-is = ap (λ (u : TypedUnit). sem_of u.result) unit-is

    -- ---- where it begins

    kept : IsKept (inside t) a
    kept =
        let more-there : All (InSlots place (map sem_of start.unit.slots ++ same.more)) start.unit.flow.variables =
        more-slots place (map sem_of start.unit.slots) same.more start.unit.flow.variables start.stored in
        record {
          standing = standing-a;
          stored = record {
            unit = start.unit;
            at_hand = hand;
            variables = subst (λ xs. All (InSlots place xs) start.unit.flow.variables) (sym (slots-are ∙ same.slots)) more-there;
          };
          ways = subst (λ w. IfSome w (WaysAreStored (inside t))) (sym start.ways) tt;
        }

    can : CanAct env (inside t) actions a
    can =
        record {
          peers = names-all a start.unit hand old.site.workers number (ap (λ (s : Site). s.workers) start.site) start.worker actions peers;
          results = subst (λ (s : Site). AreResults env (inside t) s.results) (sym start.site) results;
        }

    -- ---- what is known from the end

    block-is : more.block ≡ end.block
    block-is = last-same b.blocks more.block end.block (record { kept = a.blocks; is = more.blocks }) end.last

    units-are : units_of_worker passes names env place t ≡ own-of t ∷ units_of_stmts t.stmts.items
    units-are = refl

    these : All (IsUnitAt place) (own-of t ∷ units_of_stmts t.stmts.items)
    these = last-has (λ w. All (IsUnitAt place) (units_of_worker passes names env place w)) new.done.workers t (record { kept = b.done.workers; is = end.workers }) far.workers

    in-block : All (IsUnitAt place) (units_of_stmts more.block.stmts)
    in-block =
        subst (λ ss. All (IsUnitAt place) (units_of_stmts ss)) (end.stmts ∙ ap (λ (y : BlockAtWork). y.stmts) (sym block-is))
        (All-tail (IsUnitAt place) (own-of t) (units_of_stmts t.stmts.items) these)

    blocks-before : All (λ (y : BlockAtWork). All (IsUnitAt place) (units_of_stmts y.stmts)) a.blocks
    blocks-before =
        subst (All (λ (y : BlockAtWork). All (IsUnitAt place) (units_of_stmts y.stmts)))
        (end.blocks ∙ ap (λ bs. all_but 1 bs) more.blocks ∙ all-but-last a.blocks more.block) far.blocks

    way : IsOnTheWay env (inside t) b
    way =
        record {
          parts = record {
            first = subst (AreFirst env) end.atoms far.first;
            placed = record { unit = end.unit; at_hand = end.at_hand; later = []; slots = slots-are ∙ sym (append-nil (map sem_of end.unit.slots)); result = result-is };
            units = subst (λ es. All (IsUnitAt place) (units_in es)) end.found far.parts;
          };
          blocks = subst (All (λ (y : BlockAtWork). All (IsUnitAt place) (units_of_stmts y.stmts))) (sym more.blocks)
              (All-append (λ (y : BlockAtWork). All (IsUnitAt place) (units_of_stmts y.stmts)) a.blocks (more.block ∷ []) blocks-before
              (All-cons (λ (y : BlockAtWork). All (IsUnitAt place) (units_of_stmts y.stmts)) more.block [] in-block (All-nil _)));
          matches = subst (All (λ (m : MatchAtWork). All (IsUnitAt place) (units_of_clauses m.clauses))) end.matches far.matches;
        }

    -- ---- what it comes to

    comes : ComesToBlock env (inside t) false a b
    comes = known.claim (in_block false) a b can unit-a more run kept way

    done : AreDone env (inside t) false t.stmts.items
    done =
        let one : comes.block ≡ end.block = last-same b.blocks comes.block end.block (record { kept = a.blocks; is = comes.blocks }) end.last in
        subst (λ ss. AreDone env (inside t) false ss) (ap (λ (y : BlockAtWork). y.stmts) one ∙ sym end.stmts) comes.done

    ends-so : t.ends ≡ true → Sub env nil_type (inside t).result
    ends-so e =
        nil-is-result made passes names env (inside t) end.unit.flow.reached end.unit (out-Block x.body).close b end.between end.behind end.ends end.same_atoms end.at_hand
        (before env (inside t) b comes.kept way.parts) way.parts.placed (sym end.is.3 ∙ e)

    own : IsTypedUnit env place (own-of t)
    own = let k : BodiesMakeTyped env place (own-of t) = bodies env place (own-of t) in k.worker t.stmts.items t.ends refl done.typed ends-so

    worker-comes : ComesToWorker passes names env place new
    worker-comes =
        record {
          worker = t;
          last = record { kept = b.done.workers; is = end.workers };
          units = All-cons (IsTypedUnit env place) (own-of t) (units_of_stmts t.stmts.items) own done.units;
        }

  worker-typed : WorkerIsTyped passes names env place
  worker-typed x number old new unit run standing far results peers =
      let begins : Listed Need = one (BeginsWorker x number (members (used_in_block x.body))) in
      let body : Listed Need = (read_block x.body).needs (in_block false) in
      let ends : Listed Need = one (EndsWorker x (out-Block x.body).close) in
      let (a, rb, rest) = parted passes names env begins (body & ends) old new run in
      let (b, inner, re) = parted passes names env body ends a new rest in
      worker-comes x number old a b new standing far results peers (worker-begun place x number (members (used_in_block x.body)) old a rb.0) rb.1 inner
      (worker-ended passes x (out-Block x.body).close b new re.0)

pub all-workers-are-typed : MadeStatementsAreTyped → AllBodiesMakeTyped → (passes : List AtomDef → Asked → TypeLimit → Type 0) → AllTreesAreKnown passes → AllWorkersAreTyped passes
all-workers-are-typed made bodies passes trees names env place named takes = worker-typed made bodies passes trees names env place named takes
