-- What statements leave of the flow.
use Rattle.std.proofs.Common.{inl, refl, List, None, Option, Some, [], ap, slice_get, subst, sym, true, ℕ, ◌∙◌, ◌∷◌, ◌≡◌}
use Rattle.bal_base.specs.declared.place.Place.{Place}
use Rattle.check_words.specs.Seen.{SeenVariable}
use Rattle.check_words.specs.State.{BlockAtWork, IsLast, State}
use Rattle.check_words.specs.Statements.{Assigned, AssignsVariable, IsAssigned, assigns_to, performs, store_form}
use Rattle.check_words.specs.StmtViews.{IsBlock, IsBreak, IsContinue, IsIf, IsPerform, IsReturn, IsReturnNil, IsSet, IsWhile}
use Rattle.check_words.specs.declared.access.Access.TheVariants.{Char, Item, Key}
use Rattle.check_words.specs.declared.access.Access.{Access}
use Rattle.checks.specs.Checks.{Gives}
use Rattle.descriptors.specs.declared.names.Names.{Names}
use Rattle.eval_model.specs.Ways.{AreWays}
use Rattle.held_operations.specs.Constructs.{perform_operations}
use Rattle.operations.specs.Rows.{Surroundings}
use Rattle.operations.specs.declared.operation.Operation.TheVariants.{Pop, SetItem, SetKey}
use Rattle.tree_promises.specs.Flows.{Around, flow_ways}
use Rattle.tree_promises.specs.Known.{Flow, FlowBelow, Point, Below, plain, set_in}
use Rattle.tree_promises.specs.Laws.{FlowsAreWays, MadeStatementsAreTyped, MadeStatementsKeepFlows}
use Rattle.tree_promises.specs.MadeFlows.{AllKeep, OpKeeps, OpsKeep}
use Rattle.tree_promises.specs.MadeStmtFlows.{BlockLeaves, Condition, LoopFlow, MadeStmtKeepsFlow, StmtLeaves, Value}
use Rattle.type_model.specs.Calls.{Asked}
use Rattle.type_model.specs.declared.answers.TypeLimit.{TypeLimit}
use Rattle.type_model.specs.declared.atoms.AtomDef.{AtomDef}
use Rattle.type_model.specs.declared.basic.SemType.{SemType}
use Rattle.typed_needs.proofs.Opened.{as-lasts, same-lasts}
use Rattle.typed_needs.proofs.Placed.{last-same}
use Rattle.typed_stmts.proofs.Assigning.{assigned-to, declared-opened, variable-set}
use Rattle.typed_stmts.proofs.Branching.{block-opened, branch-opened, loop-opened, one-gone, two-same}
use Rattle.typed_stmts.proofs.Ends.{jump-opened, nil-opened, performed-opened, return-opened}
use Rattle.typed_stmts.proofs.Seeing.{sees-one, sees-stored}
use Rattle.typed_stmts.proofs.Storing.{store-opened}
use Rattle.typed_stmts.proofs.Words.{put-weaker, waiting-last}
use Rattle.typed_stmts.specs.Adding.{AddsStmt}
use Rattle.typed_stmts.specs.Flowing.{AssignmentLeaves, BlockLeavesAll, BranchLeaves, BreakEnds, ContinueEnds, DeclarationLeaves, EvaluationKeeps, LoopLeaves, NilReturnEnds, PanicEnds, ReturnEnds, StatementsLeave, StoreKeeps}
use Rattle.typed_tree.specs.SharedTypes.{sem_of}
use Rattle.typed_tree.specs.declared.expr.TypedExpr.{TypedExpr}
use Rattle.typed_tree.specs.declared.stmt.PerformForm.TheVariants as perform
use Rattle.typed_tree.specs.declared.stmt.PerformForm.{PerformForm}
use Rattle.typed_tree.specs.declared.stmt.TypedStmt.{TypedStmt}

module _ (made : MadeStatementsAreTyped) (flows : MadeStatementsKeepFlows) (ways : FlowsAreWays) (passes : List AtomDef → Asked → TypeLimit → Type 0) (names : Names) (env : List AtomDef)
    (place : Surroundings) (around : Around) (loop : Option LoopFlow) where
  abbrev Adds : Flow → Flow → List BlockAtWork → State → State → Type 0
  Adds f h = AddsStmt (λ s. StmtLeaves env around loop s f h)

  leaves-by : (s : TypedStmt) (at : Place) → MadeStmtKeepsFlow env around loop s at
  leaves-by s at = (flows env around loop s at).0

  -- whatever the last operand said
  said-plain : (p q : Point) (f : Flow) → Below env p (plain f None) → Below env (plain f None) q → Below env (plain p.flow p.base) q
  said-plain p q f before behind =
      let all : AreWays (flow_ways env around) = ways env around in
      all.come (plain p.flow p.base) (plain f None) q
      (record { flow = before.flow; on_true = before.flow; on_false = before.flow; of = inl refl; twin = inl refl; base = before.base }) behind

  pop-keeps : (f : Flow) → OpKeeps env around None f Pop
  pop-keeps f p q before behind = said-plain p q f before behind

  item-keeps : (f : Flow) → OpKeeps env around None f SetItem
  item-keeps f p q before behind = said-plain p q f before behind

  key-keeps : (f : Flow) → OpKeeps env around None f SetKey
  key-keeps f p q before behind = said-plain p q f before behind

  performed-leaves : (form : PerformForm) (parts : List TypedExpr) (at : Place) (f : Flow) (old new : State) → AddsStmt (IsPerform form parts at) [] old new
      → AllKeep env around None parts f → OpsKeep env around None (perform_operations form) f → Adds f f [] old new
  performed-leaves form parts at f old new put keeps ops =
      put-weaker (IsPerform form parts at) (λ s. StmtLeaves env around loop s f f) [] old new
      (λ s (v, is, items). let p = leaves-by s at in p.performed form v f is (subst (λ xs. AllKeep env around None xs f) (sym items) keeps) ops) put

  one-performed : (form : PerformForm) (at : Place) (old new : State) (e : TypedExpr) → performs form 1 at old (Gives tt) new → IsLast old.found e → AddsStmt (IsPerform form (e ∷ []) at) [] old new
  one-performed form at old new e met last =
      let (parts, lasts, put) = performed-opened made passes names env place true form 1 at old new met in
      subst (λ xs. AddsStmt (IsPerform form xs at) [] old new) (same-lasts old.found 1 parts (e ∷ []) lasts (as-lasts old.found e last)) put

  evaluated : (form : PerformForm) → perform_operations form ≡ Pop ∷ [] → EvaluationKeeps passes names env place around loop form
  evaluated form ops at old new e f met last keeps =
      performed-leaves form (e ∷ []) at f old new (one-performed form at old new e met last) (keeps, tt)
      (subst (λ os. OpsKeep env around None os f) (sym ops) (pop-keeps f, tt))

  panics : PanicEnds passes names env place around loop
  panics at old new e f h met last keeps =
      put-weaker (IsPerform perform.Panic (e ∷ []) at) (λ s. StmtLeaves env around loop s f h) [] old new
      (λ s (v, is, items). let p = leaves-by s at in p.panicked v f h is (subst (λ xs. AllKeep env around None xs f) (sym items) (keeps, tt)))
      (one-performed perform.Panic at old new e met last)

  store-form-keeps : (access : Access) (form : PerformForm) (f : Flow) → store_form access form → OpsKeep env around None (perform_operations form) f
  store-form-keeps Char form f is = absurd is
  store-form-keeps Item form f is = subst (λ (x : PerformForm). OpsKeep env around None (perform_operations x) f) (sym is) (item-keeps f, tt)
  store-form-keeps Key form f is = subst (λ (x : PerformForm). OpsKeep env around None (perform_operations x) f) (sym is) (key-keeps f, tt)

  stored : StoreKeeps passes names env place around loop
  stored at old new parts f met lasts keeps =
      let o = store-opened passes names env place made true at old new met in
      let same : o.parts ≡ parts = same-lasts old.found 3 o.parts parts o.last_parts lasts in
      performed-leaves o.form parts at f old new (subst (λ xs. AddsStmt (IsPerform o.form xs at) [] old new) same o.put) keeps (store-form-keeps o.access o.form f o.is)

  returned : ReturnEnds passes names env place around loop
  returned at old new e f g h met last value =
      let (x, l, put) = return-opened made passes names env place true at old new met in
      let one : e ≡ x = last-same old.found e x last l in
      put-weaker (IsReturn x at) (λ s. StmtLeaves env around loop s f h) [] old new
      (λ s (v, is, same). let p = leaves-by s at in p.returned v f g h is (subst (λ y. Value env around y f g) (one ∙ sym same) value)) put

  nil-returned : NilReturnEnds passes names env place around loop
  nil-returned at old new f h met =
      let (w, nil, last, nothing, under, put) = nil-opened made passes names env place true at old new met in
      put-weaker (IsReturnNil at) (λ s. StmtLeaves env around loop s f h) [] old new (λ s is. let p = leaves-by s at in p.nil_returned f h is) put

  broken : BreakEnds passes names env place around loop
  broken at old new f h l met is below =
      put-weaker (IsBreak at) (λ s. StmtLeaves env around loop s f h) [] old new (λ s tree. let p = leaves-by s at in p.broken f h l tree is below)
      (jump-opened made passes names env place (IsBreak at) old new met)

  continued : ContinueEnds passes names env place around loop
  continued at old new f h l met is below =
      put-weaker (IsContinue at) (λ s. StmtLeaves env around loop s f h) [] old new (λ s tree. let p = leaves-by s at in p.continued f h l tree is below)
      (jump-opened made passes names env place (IsContinue at) old new met)

  -- ---- variables

  set-leaves : (slot : ℕ) (e : TypedExpr) (t : SemType) (at : Place) (f g h : Flow) (old new : State) → Value env around e f g → slice_get around.slots slot ≡ Some t
      → FlowBelow env (set_in slot t g) h → AddsStmt (IsSet slot e at) [] old new → Adds f h [] old new
  set-leaves slot e t at f g h old new value held below put =
      put-weaker (IsSet slot e at) (λ s. StmtLeaves env around loop s f h) [] old new
      (λ s (v, is, same). let p = leaves-by s at in p.set slot v f g h t is (subst (λ y. Value env around y f g) (sym same) value) held below) put

  declared : DeclarationLeaves passes names env place around loop
  declared name final assigned at old new e f g h met last value placed slots below =
      let d = declared-opened passes names env made place true name final assigned at old new met placed in
      let one : e ≡ d.value = last-same old.found e d.value last d.last_part in
      set-leaves d.slot d.value (sem_of d.type) at f g h old new (subst (λ y. Value env around y f g) one value)
      (subst (λ xs. slice_get xs d.slot ≡ Some (sem_of d.type)) (sym slots) d.held) (below d.slot d.type d.last_want d.held) d.put

  assigned : AssignmentLeaves passes names env place around loop
  assigned q at old new e v f g h met last sees stored slots value below =
      let d = assigned-to passes names env made place true q at old new met in
      let one : e ≡ d.value = last-same old.found e d.value last d.last_part in
      let same : d.seen ≡ SeenVariable v = sees-one names old q d.seen (SeenVariable v) d.sees sees in
      let what : d.what ≡ AssignsVariable v = subst (λ x. IsAssigned x d.what) same d.is in
      let held : slice_get place.slots v.slot ≡ Some (sem_of v.declared) = sees-stored names place old q (SeenVariable v) stored sees in
      set-leaves v.slot d.value (sem_of v.declared) at f g h old new (subst (λ y. Value env around y f g) one value)
      (subst (λ xs. slice_get xs v.slot ≡ Some (sem_of v.declared)) (sym slots) held) below
      (variable-set passes names env made place true v d.value at old d.before new d.blocks (subst (λ (x : Assigned). assigns_to x d.value at d.before (Gives tt) new) what d.does))

  -- ---- blocks

  blocks : BlockLeavesAll passes names env place around loop
  blocks at old new b f h met last leaves =
      let (c, put) = block-opened at old new met in
      let same : b ≡ c = one-gone (IsBlock c.stmts at) c b old new put last in
      subst (λ x. Adds f h (x ∷ []) old new) (sym same)
      (put-weaker (IsBlock c.stmts at) (λ s. StmtLeaves env around loop s f h) (c ∷ []) old new
      (λ s (v, is, stmts). let p = leaves-by s at in
      p.blocked v f h is (subst (λ xs. BlockLeaves env around loop xs f h) (ap (λ (x : BlockAtWork). x.stmts) same ∙ sym stmts) leaves)) put)

  branches : BranchLeaves passes names env place around loop
  branches at old new c a b f g met unmet i j h did last condition lasts one other first second =
      let o = branch-opened at old new did in
      let P : TypedStmt → Type 0 = IsIf o.condition o.first.stmts o.second.stmts at in
      let (ea, eb) = two-same a b o.first o.second (same-lasts old.blocks 2 (a ∷ b ∷ []) (o.first ∷ o.second ∷ []) lasts (waiting-last P (o.first ∷ o.second ∷ []) 2 old new refl o.put)) in
      let ec : c ≡ o.condition = last-same old.found c o.condition last o.last_part in
      subst (λ y. Adds f h (a ∷ y ∷ []) old new) (sym eb) (subst (λ x. Adds f h (x ∷ o.second ∷ []) old new) (sym ea)
      (put-weaker P (λ s. StmtLeaves env around loop s f h) (o.first ∷ o.second ∷ []) old new
      (λ s (e, v, w, is, same, stmts, others). let p = leaves-by s at in
      p.branched e v w f g met unmet i j h is (subst (λ x. Condition env around x f g met unmet) (ec ∙ sym same) condition)
      (subst (λ xs. BlockLeaves env around loop xs met i) (ap (λ (x : BlockAtWork). x.stmts) ea ∙ sym stmts) one)
      (subst (λ xs. BlockLeaves env around loop xs unmet j) (ap (λ (x : BlockAtWork). x.stmts) eb ∙ sym others) other) first second) o.put))

  loops : LoopLeaves passes names env place around loop
  loops leaves at old new c b f g met unmet i h l did last block before condition body behind out exits =
      let o = loop-opened leaves at old new did in
      let P : TypedStmt → Type 0 = IsWhile o.condition o.body.stmts at in
      let eb : b ≡ o.body = one-gone P o.body b old new o.put block in
      let ec : c ≡ o.condition = last-same old.found c o.condition last o.last_part in
      subst (λ x. Adds f h (x ∷ []) old new) (sym eb)
      (put-weaker P (λ s. StmtLeaves env around loop s f h) (o.body ∷ []) old new
      (λ s (e, v, is, same, stmts). let p = leaves-by s at in
      p.repeated e v f g met unmet i h l is before (subst (λ x. Condition env around x l.head g met unmet) (ec ∙ sym same) condition)
      (subst (λ xs. BlockLeaves env around (Some l) xs met i) (ap (λ (x : BlockAtWork). x.stmts) eb ∙ sym stmts) body) behind out exits) o.put)

  pub statements-leave : StatementsLeave passes names env place around loop
  statements-leave =
      record {
        ignored = evaluated perform.Ignore refl;
        evaluated = evaluated perform.Evaluate refl;
        stored = stored;
        panics = panics;
        returned = returned;
        nil_returned = nil-returned;
        broken = broken;
        continued = continued;
        declared = declared;
        assigned = assigned;
        blocks = blocks;
        branches = branches;
        loops = loops;
      }
