-- Bodies of functions with statements: the initial part, the workers, and the rest.
use Rattle.std.proofs.Common.{All, IfSome, List, [], ap, append-nil, arith, false, length, length-append, map, refl, subst, suc, sym, true, ℕ, ◌++◌, ◌∙◌, ◌∷◌, ◌≡◌, ◌≤◌}
use Rattle.std.proofs.lemmas.List.Elements.{All-append, All-cons, All-contains_itself, All-nil, All-tail}
use Rattle.std.specs.Prelude.{Contains}
use Rattle.std.specs.Global.{Vec}
use Rattle.bal_base.specs.declared.place.Place.{Place}
use Rattle.bal_tree.specs.declared.action.Rhs.{Rhs}
use Rattle.bal_tree.specs.declared.def.Body.TheVariants as body
use Rattle.bal_tree.specs.declared.def.FunctionDef.{FunctionDef}
use Rattle.bal_tree.specs.declared.def.Worker.{Worker}
use Rattle.bal_tree.specs.declared.stmt.Block.{out-Block}
use Rattle.bal_tree.specs.declared.stmt.Stmt.{Stmt}
use Rattle.check_laws.specs.Laws.{KeepsPositions}
use Rattle.check_laws.specs.StmtLaws.{HasBlock, HasUnit, IsNoMore, IsOneBlockMore, KeptStmtPositions}
use Rattle.check_words.proofs.Standing.{back-have, front-have, last-has}
use Rattle.check_words.specs.State.{BlockAtWork, IsLast, MatchAtWork, State, UnitAtWork, all_but}
use Rattle.checks.specs.Checks.{gives_some, ◌▷◌}
use Rattle.kept_flows.proofs.Alone.{at-hand}
use Rattle.descriptors.specs.declared.names.Names.{Names}
use Rattle.eval_model.specs.Expressions.{nil_type}
use Rattle.expr_needs.specs.Needs.{BeginsBlock, BeginsWorker, EndsFunction, EndsWorker, Need}
use Rattle.operations.specs.Rows.{Surroundings}
use Rattle.calm_needs.proofs.Calming.{stored-by}
use Rattle.stmt_needs.specs.PackageTable.{in_initial, numbered, numbered_from, read_stmts, worker_needs}
use Rattle.stmt_needs.specs.StmtTable.{Within, in_block, read_block, stmts_needs}
use Rattle.tree_places.specs.UsedInStmts.{used_in_block}
use Rattle.tree_promises.specs.Laws.{MadeStatementsAreTyped}
use Rattle.tree_promises.specs.Placed.{body_placed, crew_of, function_placed, slot_types, worker_placed}
use Rattle.type_model.specs.Calls.{Asked}
use Rattle.type_model.specs.Inclusion.{Sub}
use Rattle.type_model.specs.declared.answers.TypeLimit.{TypeLimit}
use Rattle.type_model.specs.declared.atoms.AtomDef.{AtomDef}
use Rattle.typed_blocks.specs.Actions.{actions_in_stmt, actions_in_stmts}
use Rattle.typed_blocks.specs.Trees.{AllTreesAreKnown, TreesAreKnown}
use Rattle.typed_bodies.proofs.Acting.{can-act}
use Rattle.typed_bodies.proofs.Blocks.{HandIsDone, PutsSome, puts-none, puts-stmts}
use Rattle.typed_bodies.proofs.Choosing.{block-begun}
use Rattle.typed_bodies.proofs.Onward.{onward-begins-block}
use Rattle.typed_bodies.proofs.Trails.{back-blocks, back-same, in-on, in-run, in-same, in-units}
use Rattle.typed_bodies.specs.Claims.{AllKnown, AreDone, CanAct, IsOnTheWay, StaysIn}
use Rattle.typed_bodies.specs.Units.{units_of_clauses, units_of_stmts}
use Rattle.typed_exprs.proofs.Steps.{before, keeps, parted, stored-here}
use Rattle.typed_exprs.specs.Lines.{Run}
use Rattle.typed_functions.proofs.Line.{others-same}
use Rattle.typed_needs.proofs.Placed.{all-but-last, last-same}
use Rattle.typed_needs.specs.Between.{IsKept, IsTypedUnit, IsUnitAt, WaysAreStored, units_in}
use Rattle.typed_needs.specs.Items.{AreFirst}
use Rattle.typed_needs.specs.Placing.{AreNamed}
use Rattle.typed_needs.specs.Waits.{AreResults}
use Rattle.typed_needs.specs.WholeRuns.{RunsGoOn}
use Rattle.typed_stmts.specs.Assigned.{TakeValues}
use Rattle.typed_tree.specs.Listed.{Listed, joined, members, nothing, one, ◌&◌}
use Rattle.typed_tree.specs.SharedTypes.{sem_of}
use Rattle.typed_tree.specs.Units.{OfFunction}
use Rattle.typed_tree.specs.declared.stmt.TypedStmt.{TypedStmt}
use Rattle.typed_tree.specs.declared.unit.TypedBody.TheVariants.{Block}
use Rattle.typed_tree.specs.declared.unit.TypedBody.{TypedBody}
use Rattle.typed_tree.specs.declared.unit.TypedFunction.{TypedFunction}
use Rattle.typed_tree.specs.declared.unit.TypedUnit.{TypedUnit}
use Rattle.typed_tree.specs.declared.unit.TypedWorker.{TypedWorker}
use Rattle.typed_trees.proofs.Leaving.{only-met}
use Rattle.typed_units.proofs.Beginning.{worker-begun, worker-ended}
use Rattle.typed_units.proofs.Ending.{FunctionEnded, function-ended}
use Rattle.typed_units.proofs.ValueBodies.{value-typed}
use Rattle.typed_units.proofs.Workers.{names-all, nil-is-result}
use Rattle.typed_units.specs.Bodies.{AllBodiesMakeTyped, BodiesMakeTyped}
use Rattle.typed_units.proofs.Parts.{BlockBodyIsTyped}
use Rattle.typed_units.specs.Functions.{AllBodiesAreTyped, ComesToFunction, HasFunctions, inside_of, unit_of_function, units_in_body, BodyIsTyped}
use Rattle.typed_units.specs.Peers.{ActsOnPeers}

-- ---- workers that come between

-- the unit at hand, the parts, the blocks and the matches are as they were
pub record Beside (old new : State) : Type 0 where
  pub stays : StaysIn old new
  pub units : new.units ≡ old.units
  pub found : new.found ≡ old.found
  pub blocks : new.blocks ≡ old.blocks
  pub matches : new.matches ≡ old.matches
  pub kept : (place : Surroundings) → IsKept place old → IsKept place new

pub beside-itself : (s : State) → Beside s s
beside-itself s = record { stays = in-same s; units = refl; found = refl; blocks = refl; matches = refl; kept = λ p h. h }

pub beside-on : (r s t : State) → Beside r s → Beside s t → Beside r t
beside-on r s t f g =
    record {
      stays = in-on r s t f.stays g.stays;
      units = g.units ∙ f.units;
      found = g.found ∙ f.found;
      blocks = g.blocks ∙ f.blocks;
      matches = g.matches ∙ f.matches;
      kept = λ p h. g.kept p (f.kept p h);
    }

module _ (passes : List AtomDef → Asked → TypeLimit → Type 0) (positions : KeptStmtPositions passes) (goes : RunsGoOn passes) (names : Names) (env : List AtomDef) (place : Surroundings) where
  abbrev Besides : Listed Need → Type 0
  Besides needs = (old new : State) → HasUnit old → Run passes names env needs old new → Beside old new

  pub worker-beside : (x : Worker) (number : ℕ) → Besides (worker_needs number x)
  worker-beside x number old new unit run =
      let begins : Listed Need = one (BeginsWorker x number (members (used_in_block x.body))) in
      let body : Listed Need = (read_block x.body).needs (in_block false) in
      let ends : Listed Need = one (EndsWorker x (out-Block x.body).close) in
      let met = only-met passes names env (worker_needs number x) old new run in
      let p : KeepsPositions passes names HasUnit IsNoMore (worker_needs number x) = (positions names).worker x number in
      let none : IsNoMore old new = p.comes old new unit met in
      let (a, rb, rest) = parted passes names env begins (body & ends) old new run in
      let (b, inner, re) = parted passes names env body ends a new rest in
      let start = worker-begun place x number (members (used_in_block x.body)) old a rb.0 in
      let end = worker-ended passes x (out-Block x.body).close b new re.0 in
      let unit-a : HasUnit a = (let e = ap length start.units in let l = length-append old.units (start.unit ∷ []) in omega (arith, e, l)) in
      let q : KeepsPositions passes names HasUnit IsOneBlockMore body = (positions names).block x.body (in_block false) in
      let more : IsOneBlockMore a b = q.comes a b unit-a (only-met passes names env body a b inner) in
      let units : new.units ≡ old.units = end.units ∙ others-same a.units b.units more.same.units ∙ ap (λ us. all_but 1 us) start.units ∙ all-but-last old.units start.unit in
      record {
        stays = in-run old new ((goes names).worker x number old new unit met) none.same;
        units = units;
        found = none.found;
        blocks = none.blocks;
        matches = none.same.matches;
        kept = λ p h. record { standing = re.1; stored = stored-by p old new units h.stored; ways = subst (λ w. IfSome w (WaysAreStored p)) (sym end.ways) tt };
      }

  workers-beside : (xs : List Worker) (n : ℕ) (before : Listed Need) → Besides before → Besides (numbered_from before worker_needs n xs)
  workers-beside [] n before f = f
  workers-beside (x ∷ xs) n before f =
      workers-beside xs (suc n) (before & worker_needs n x) (λ old new unit run.
      let (m, ra, rb) = parted passes names env before (worker_needs n x) old new run in
      let one-side = f old m unit ra in
      beside-on old m new one-side (worker-beside x n m new (subst (λ us. 1 ≤ length us) (sym one-side.units) unit) rb))

  none-beside : Besides nothing
  unfolding gives_some
  none-beside old new unit (is, same) = subst (λ (s : State). Beside old s) (sym same) (beside-itself old)

  pub all-beside : (xs : List Worker) → Besides (numbered worker_needs 1 xs)
  all-beside xs = workers-beside xs 1 nothing none-beside

-- ---- the body

module _ (made : MadeStatementsAreTyped) (bodies : AllBodiesMakeTyped) (passes : List AtomDef → Asked → TypeLimit → Type 0) (trees : AllTreesAreKnown passes) (positions : KeptStmtPositions passes)
    (goes : RunsGoOn passes) (names : Names) (env : List AtomDef) (place : Surroundings) (named : AreNamed env names place) (takes : TakeValues env names place) where
  module _ (f : TypedFunction) (actions : List Rhs) where
    abbrev inside : Surroundings
    inside = inside_of passes names env place f

    abbrev Can : State → Type 0
    Can = CanAct env inside actions

    can : (s t : State) → StaysIn s t → Can s → Can t
    can = can-act env inside actions

    known : TreesAreKnown passes names env inside actions
    known = trees names env inside actions (record { variables = named.variables; functions = named.functions }) takes

    all-known : (ss : List Stmt) → All (Contains actions) (members (actions_in_stmts ss)) → AllKnown passes names env inside Can (read_stmts ss)
    all-known [] h = tt
    all-known (s ∷ ss) h =
        let rest : Listed Rhs = actions_in_stmts ss in
        (known.stmt s (front-have (Contains actions) (members (actions_in_stmt s)) (members rest) h), all-known ss (back-have (Contains actions) (members (actions_in_stmt s)) (members rest) h))

    puts : (ss : List Stmt) (w : Within) → All (Contains actions) (members (actions_in_stmts ss)) → PutsSome made passes names env inside Can can w.loop (stmts_needs w (read_stmts ss))
    puts ss w h = puts-stmts made passes names env inside Can can (read_stmts ss) (all-known ss h) w nothing (puts-none made passes names env inside Can can w.loop)

    abbrev OnWay : State → Type 0
    OnWay = IsOnTheWay env inside

    -- a part of a body: a block that begins, with its statements
    pub record Part (old new : State) : Type 0 where
      pub first : State
      pub block : BlockAtWork
      pub begun : first.blocks ≡ old.blocks ++ block ∷ []
      pub now : BlockAtWork
      pub blocks : new.blocks ≡ old.blocks ++ now ∷ []
      pub stays : StaysIn old new
      pub found : new.found ≡ old.found
      pub matches : new.matches ≡ old.matches
      pub back : OnWay new → OnWay old
      pub comes : Can old → IsKept inside old → OnWay new → IsKept inside new × AreDone env inside false now.stmts

    pub part : (ss : List Stmt) (w : Within) → w.loop ≡ false → All (Contains actions) (members (actions_in_stmts ss)) → (old new : State) → HasUnit old
        → Run passes names env (one BeginsBlock & stmts_needs w (read_stmts ss)) old new → Part old new
    part ss w outside h old new unit run =
        let (a, rb, rs) = parted passes names env (one BeginsBlock) (stmts_needs w (read_stmts ss)) old new run in
        let b = block-begun old a rb.0 in
        let o = onward-begins-block old a tt rb.0 in
        let p = puts ss w h in
        let blocks-a = ap (λ (s : State). s.blocks) b.all in
        let has : HasBlock a =
        record {
          unit = subst (λ us. 1 ≤ length us) (sym (ap (λ (s : State). s.units) b.all)) unit;
          block = (let e = ap length blocks-a in let l = length-append old.blocks (b.block ∷ []) in omega (arith, e, l));
        } in
        let g = p.grown a new has rs in
        let in-a : StaysIn old a = in-units old a o.moved.on o.moved.site in
        let blocks : new.blocks ≡ old.blocks ++ g.now ∷ [] =
        g.blocks ∙ ap (λ bs. bs ++ g.now ∷ []) (ap (λ bs. all_but 1 bs) blocks-a ∙ all-but-last old.blocks b.block) in
        record {
          first = a;
          block = b.block;
          begun = blocks-a;
          now = g.now;
          blocks = blocks;
          stays = in-on old a new in-a g.stays;
          found = g.found ∙ ap (λ (s : State). s.found) b.all;
          matches = g.matches ∙ ap (λ (s : State). s.matches) b.all;
          back = λ way. back-blocks env inside old a b.block in-a (ap (λ (s : State). s.found) b.all) blocks-a (ap (λ (s : State). s.matches) b.all) (p.back a new has rs way);
          comes = λ c kept way.
              let kept-a = keeps inside a rb.1 (o.stored inside (stored-here inside old kept)) in
              let empty : HandIsDone made passes names env inside Can can w.loop a =
              (b.block, record { kept = old.blocks; is = blocks-a }, subst (λ xs. AreDone env inside w.loop xs) (sym b.empty) (record { typed = tt; units = All-nil (IsTypedUnit env inside) })) in
              let (kept-new, (x, last, done)) = p.claim a new (can old a in-a c) has rs kept-a way empty in
              let one : x ≡ g.now = last-same new.blocks x g.now last (record { kept = old.blocks; is = blocks }) in
              (kept-new, subst (λ l. AreDone env inside l g.now.stmts) outside (subst (λ (y : BlockAtWork). AreDone env inside w.loop y.stmts) one done));
        }

  -- ---- all of it

  -- the parts of a body, where the function is made of them
  module _ (d : FunctionDef) (initial : List Stmt) (workers : List Worker) (rest : List Stmt) (close : Place) (old s2 s3 s5 new : State) (unit : HasUnit old)
      (r1 : Run passes names env (one BeginsBlock & stmts_needs (in_initial workers rest) (read_stmts initial)) old s2) (rw : Run passes names env (numbered worker_needs 1 workers) s2 s3)
      (r2 : Run passes names env (one BeginsBlock & stmts_needs (in_block false) (read_stmts rest)) s3 s5) (end : FunctionEnded passes d close s5 new)
      (far : HasFunctions passes names env place new) (kept : IsKept (inside_of passes names env place end.function) old)
      (results : AreResults env (inside_of passes names env place end.function) old.site.results) (hand : (u : UnitAtWork) → IsLast old.units u → u.worker ≡ 0)
      (peers : All (ActsOnPeers old.site.workers 0) (members (actions_in_stmts initial & actions_in_stmts rest))) where
    abbrev f : TypedFunction
    f = end.function

    abbrev actions : List Rhs
    actions = members (actions_in_stmts initial & actions_in_stmts rest)

    among : All (Contains actions) (members (actions_in_stmts initial) ++ members (actions_in_stmts rest))
    among = All-contains_itself actions

    abbrev ins : Surroundings
    ins = inside_of passes names env place f

    p1 : Part f actions old s2
    p1 = part f actions initial (in_initial workers rest) refl (front-have (Contains actions) (members (actions_in_stmts initial)) (members (actions_in_stmts rest)) among) old s2 unit r1

    unit-2 : HasUnit s2
    unit-2 = (let many = p1.stays.many in omega (arith, many, unit))

    between : Beside s2 s3
    between = all-beside passes positions goes names env place workers s2 s3 unit-2 rw

    unit-3 : HasUnit s3
    unit-3 = subst (λ us. 1 ≤ length us) (sym between.units) unit-2

    p2 : Part f actions s3 s5
    p2 = part f actions rest (in_block false) refl (back-have (Contains actions) (members (actions_in_stmts initial)) (members (actions_in_stmts rest)) among) s3 s5 unit-3 r2

    -- ---- the blocks

    all-blocks : (old.blocks ++ p1.now ∷ []) ++ p2.now ∷ [] ≡ (end.kept ++ end.initial ∷ []) ++ end.rest ∷ []
    all-blocks = ap (λ bs. bs ++ p2.now ∷ []) (sym (between.blocks ∙ p1.blocks)) ∙ sym p2.blocks ∙ end.blocks

    rest-is : p2.now ≡ end.rest
    rest-is = last-same s5.blocks p2.now end.rest (record { kept = s3.blocks; is = p2.blocks }) (record { kept = end.kept ++ end.initial ∷ []; is = end.blocks })

    front-is : old.blocks ++ p1.now ∷ [] ≡ end.kept ++ end.initial ∷ []
    front-is =
        sym (all-but-last (old.blocks ++ p1.now ∷ []) p2.now) ∙ ap (λ bs. all_but 1 bs) all-blocks ∙ all-but-last (end.kept ++ end.initial ∷ []) end.rest

    initial-is : p1.now ≡ end.initial
    initial-is = last-same (old.blocks ++ p1.now ∷ []) p1.now end.initial (record { kept = old.blocks; is = refl }) (record { kept = end.kept; is = front-is })

    -- ---- what is known from the end

    abbrev At : BlockAtWork → Type 0
    At b = All (IsUnitAt place) (units_of_stmts b.stmts)

    record Made : Type 0 where
      pub first : Vec TypedStmt
      pub second : Vec TypedStmt
      pub between_them : Vec TypedWorker
      pub body : f.body ≡ Block first between_them second end.unit.flow.reached close
      pub is_first : first.items ≡ end.initial.stmts
      pub is_second : second.items ≡ end.rest.stmts

    made-of : Made
    made-of = let (i, r, w, is, ii, iw, ir) = end.body in record { first = i; second = r; between_them = w; body = is; is_first = ii; is_second = ir }

    these : All (IsUnitAt place) (members (function_placed f))
    these = last-has (λ g. All (IsUnitAt place) (members (function_placed g))) new.done.functions f (record { kept = s5.done.functions; is = end.functions }) far.functions

    in-body : All (IsUnitAt place) (members (body_placed (crew_of f) (Block made-of.first made-of.between_them made-of.second end.unit.flow.reached close)))
    in-body =
        subst (λ (b : TypedBody). All (IsUnitAt place) (members (body_placed (crew_of f) b))) made-of.body
        (All-tail (IsUnitAt place) (unit_of_function f) (members (body_placed (crew_of f) f.body)) these)

    in-first : At end.initial
    in-first =
        subst (λ ss. All (IsUnitAt place) (units_of_stmts ss)) made-of.is_first
        (front-have (IsUnitAt place) (units_of_stmts made-of.first.items)
        (members (joined (map (worker_placed (crew_of f)) made-of.between_them.items)) ++ units_of_stmts made-of.second.items) in-body)

    in-second : At end.rest
    in-second =
        subst (λ ss. All (IsUnitAt place) (units_of_stmts ss)) made-of.is_second
        (back-have (IsUnitAt place) (members (joined (map (worker_placed (crew_of f)) made-of.between_them.items))) (units_of_stmts made-of.second.items)
        (back-have (IsUnitAt place) (units_of_stmts made-of.first.items)
        (members (joined (map (worker_placed (crew_of f)) made-of.between_them.items)) ++ units_of_stmts made-of.second.items) in-body))

    slots-are : ins.slots ≡ map sem_of end.unit.slots
    slots-are = ap (λ (u : TypedUnit). slot_types u) end.unit_is

    result-is : ins.result ≡ sem_of end.unit.result
    result-is = ap (λ (u : TypedUnit). sem_of u.result) end.unit_is

    way-5 : IsOnTheWay env ins s5
    way-5 =
        record {
          parts = record {
            first = subst (AreFirst env) end.atoms far.first;
            placed = record { unit = end.unit; at_hand = end.at_hand; later = []; slots = slots-are ∙ sym (append-nil (map sem_of end.unit.slots)); result = result-is };
            units = subst (λ es. All (IsUnitAt place) (units_in es)) end.found far.parts;
          };
          blocks = subst (All At) (sym end.blocks)
              (All-append At (end.kept ++ end.initial ∷ []) (end.rest ∷ [])
              (All-append At end.kept (end.initial ∷ []) (subst (All At) end.left far.blocks) (All-cons At end.initial [] in-first (All-nil At)))
              (All-cons At end.rest [] in-second (All-nil At)));
          matches = subst (All (λ (m : MatchAtWork). All (IsUnitAt place) (units_of_clauses m.clauses))) end.matches far.matches;
        }

    way-2 : IsOnTheWay env ins s2
    way-2 = back-same env ins s2 s3 between.stays between.found between.blocks between.matches (p2.back way-5)

    -- ---- forward

    can-0 : CanAct env ins actions old
    can-0 =
        let (around, u, is) = at-hand old.units unit in
        let last : IsLast old.units u = record { kept = around; is = is } in
        record { peers = names-all old u last old.site.workers 0 refl (hand u last) actions peers; results = results }

    first-done : IsKept ins s2 × AreDone env ins false p1.now.stmts
    first-done = p1.comes can-0 kept way-2

    second-done : IsKept ins s5 × AreDone env ins false p2.now.stmts
    second-done = p2.comes (can f actions s2 s3 between.stays (can f actions old s2 p1.stays can-0)) (between.kept ins first-done.0) way-5

    typed-first : AreDone env ins false made-of.first.items
    typed-first = subst (λ ss. AreDone env ins false ss) (ap (λ (b : BlockAtWork). b.stmts) initial-is ∙ sym made-of.is_first) first-done.1

    typed-second : AreDone env ins false made-of.second.items
    typed-second = subst (λ ss. AreDone env ins false ss) (ap (λ (b : BlockAtWork). b.stmts) rest-is ∙ sym made-of.is_second) second-done.1

    ends-so : end.unit.flow.reached ≡ true → Sub env nil_type ins.result
    ends-so e =
        nil-is-result made passes names env ins end.unit.flow.reached end.unit close s5 end.between end.behind end.ends end.same_atoms end.at_hand
        (before env ins s5 second-done.0 way-5.parts) way-5.parts.placed e

    own : IsTypedUnit env place (unit_of_function f)
    own =
        let k : BodiesMakeTyped env place (unit_of_function f) = bodies env place (unit_of_function f) in
        k.statements made-of.first made-of.between_them made-of.second end.unit.flow.reached close (ap (λ b. OfFunction b) made-of.body) typed-first.typed typed-second.typed ends-so

    body-comes : ComesToFunction passes names env place new
    body-comes =
        record {
          function = f;
          last = record { kept = s5.done.functions; is = end.functions };
          own = own;
          units = subst (λ (b : TypedBody). All (IsTypedUnit env place) (units_in_body b)) (sym made-of.body)
              (All-append (IsTypedUnit env place) (units_of_stmts made-of.first.items) (units_of_stmts made-of.second.items) typed-first.units typed-second.units);
        }

  pub join-runs : (p q : Listed Need) (s m t : State) → Run passes names env p s m → Run passes names env q m t → Run passes names env (p & q) s t
  unfolding ◌▷◌
  join-runs p q s m t x y = (tt, m, x, y)

  body-typed : BlockBodyIsTyped passes names env place
  body-typed d initial workers rest close old new unit run far begins hand peers =
      let stmts : Listed Need = stmts_needs (in_block false) (read_stmts rest) in
      let front : Listed Need = one BeginsBlock & stmts_needs (in_initial workers rest) (read_stmts initial) in
      let (s2, r1, more) = parted passes names env front (numbered worker_needs 1 workers & (one BeginsBlock & stmts & one (EndsFunction d close))) old new run in
      let (s3, rw, behind) = parted passes names env (numbered worker_needs 1 workers) (one BeginsBlock & stmts & one (EndsFunction d close)) s2 new more in
      let (a, rb, r3) = parted passes names env (one BeginsBlock) (stmts & one (EndsFunction d close)) s3 new behind in
      let (s5, r4, re) = parted passes names env stmts (one (EndsFunction d close)) a new r3 in
      let end = function-ended passes d close s5 new re.0 in
      let (kept, results) = begins end.function (record { kept = s5.done.functions; is = end.functions }) in
      body-comes d initial workers rest close old s2 s3 s5 new unit r1 rw (join-runs (one BeginsBlock) stmts s3 a s5 rb r4) end far kept results hand peers

pub all-bodies-are-typed : MadeStatementsAreTyped → AllBodiesMakeTyped → (passes : List AtomDef → Asked → TypeLimit → Type 0) → AllTreesAreKnown passes → KeptStmtPositions passes → RunsGoOn passes
    → AllBodiesAreTyped passes
all-bodies-are-typed made bodies passes trees positions goes names env place named takes = whole
  where
    whole : BodyIsTyped passes names env place
    whole d (body.Block initial workers rest close at) old new unit run far begins hand peers =
        body-typed made bodies passes trees positions goes names env place named takes d initial.items workers.items rest.items close old new unit run far begins hand peers
    whole d (body.Expr value at) old new unit run far begins hand peers = value-typed made bodies passes trees names env place named takes d value.value old new unit run far begins
