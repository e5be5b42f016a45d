-- Behind each block the same variables are seen, by induction on trees.
use Rattle.std.proofs.Common.{Bool, List, None, Option, Some, [], ap, arith, false, length, length-append, map, refl, subst, suc, sym, take, true, ◌++◌, ◌∙◌, ◌∷◌, ◌≡◌, ◌≤◌}
use Rattle.std.specs.Global.{Box}
use Rattle.std.specs.List.{AllZip, list_any}
use Rattle.std.specs.Prelude.{⊤}
use Rattle.bal_base.specs.declared.place.Place.{Place}
use Rattle.bal_base.specs.declared.text.Name.{Name}
use Rattle.bal_tree.specs.StmtLayers.{BlockOf, ClauseOf, ElseOf, IfStmtOf, StmtOf}
use Rattle.bal_tree.specs.declared.name.Word.{Word}
use Rattle.bal_tree.specs.declared.stmt.AssignOp.TheVariants as assign
use Rattle.bal_tree.specs.declared.stmt.AssignOp.{AssignOp}
use Rattle.bal_tree.specs.declared.stmt.Block.{Block, Block-F, fold-roll-Block, ind-Block, map-Block, roll-Block}
use Rattle.bal_tree.specs.declared.stmt.Clause.{Clause, Clause-F, fold-roll-Clause, map-Clause, roll-Clause}
use Rattle.bal_tree.specs.declared.stmt.Else.TheOpen as layer
use Rattle.bal_tree.specs.declared.stmt.Else.{Else, Else-F, fold-roll-Else, ind-Else, map-Else, roll-Else}
use Rattle.bal_tree.specs.declared.stmt.IfStmt.{IfStmt, IfStmt-F, fold-roll-IfStmt, map-IfStmt, roll-IfStmt}
use Rattle.bal_tree.specs.declared.stmt.LocalType.TheVariants as local
use Rattle.bal_tree.specs.declared.stmt.LocalType.{LocalType}
use Rattle.bal_tree.specs.declared.stmt.Pattern.{Pattern}
use Rattle.bal_tree.specs.declared.stmt.Range.{Range}
use Rattle.bal_tree.specs.declared.stmt.Stmt.{Stmt, Stmt-F, fold-roll-Stmt, map-Stmt, roll-Stmt}
use Rattle.bal_tree.specs.declared.stmt.Target.TheVariants as target
use Rattle.bal_tree.specs.declared.stmt.Target.{Target}
use Rattle.calm_needs.specs.Calm.{HandSees, IsFlowOf, NeedsAreCalm}
use Rattle.check_laws.specs.Laws.{KeepsPositions}
use Rattle.check_laws.specs.StmtLaws.{HasBlock, HasUnit, IsOneBlockMore, IsOneStmtMore, StmtPositionsAreKept}
use Rattle.check_words.specs.State.{BlockAtWork, ChoiceAtWork, IsLast, MatchAtWork, State, UnitAtWork, all_but, outside}
use Rattle.check_words.specs.Statements.{declares, ends_block, begins_block}
use Rattle.checks.specs.Checks.{Gives, gives_some, refuses, ◌▷◌}
use Rattle.descriptors.specs.declared.names.Names.{Names}
use Rattle.expr_needs.specs.ActionTable.{read_rhs}
use Rattle.expr_needs.specs.ExprTable.{Reading, accessed_needs, against, as_wanted, condition_needs, element_needs, freely, index_needs, read_expr, read_postfix}
use Rattle.expr_needs.specs.Needs.{Assigns, BeginsBlock, BeginsClause, BeginsMatch, Breaks, Continues, Declares, Describes, EndsBlock, EndsClause, ExpectsStored, Fails, HasField, HasItem, HasPattern, Heads, IsAssignable, IsCounter, IsIgnorable, IsItemOfLoop, IsNew, IsOperand, MakesBlock, MakesIf, MakesMatch, MakesWhile, Need, OpensLoop, Performs, ReadsName, ReadsStored, ReadsStoredField, Returns, ReturnsNil, Splits, Stops, Stores, Switches, UpdatesElement, UpdatesField, UpdatesName, WantsCounter, WantsResult, Widens, WidensItem}
use Rattle.expr_needs.specs.declared.expected.Expected.TheVariants as expected
use Rattle.expr_needs.specs.declared.kind.Kind.TheVariants as kind
use Rattle.expr_needs.specs.declared.kind.Kind.{Kind}
use Rattle.flow_narrowing.specs.Flows.{IsSameVariable}
use Rattle.flow_narrowing.specs.declared.flow.Variable.{Variable}
use Rattle.kept_flows.proofs.Alone.{alone, at-hand, of-none, stmt-within, with-nothing}
use Rattle.kept_flows.proofs.Entering.{some-last, split, switch}
use Rattle.kept_flows.proofs.Keeping.{against-fresh, wanted-fresh, FreshReading}
use Rattle.kept_flows.proofs.Seeing.{HandFirst, Sees, SeesSame, aside-sees, both-see, first-on, fresh-see, fresh-sees, hand-first, need-aside, need-onward, none-seen, onward-sees, quiet-see}
use Rattle.kept_flows.proofs.Values.{accessed, expr-fresh, index, postfix-fresh, rhs-fresh}
use Rattle.needs.specs.Needs.{does, in_turn, in_turn_from}
use Rattle.stmt_needs.specs.StmtTable.{StmtReading, Within, assigned_in, assignment_needs, clause_needs, counter_fits, declaration_needs, foreach_needs, if_needs, in_block, is_among, is_any, item_fits, jump_needs, local_needs, loop_body_needs, loop_head_needs, loop_made, loop_type_needs, match_needs, otherwise_needs, pattern_needs, read_block, read_clause, read_else, read_if_stmt, read_stmt, return_needs, set_needs, stmt_reading, stmts_needs_from, stored_needs, through_needs, update_needs, while_needs}
use Rattle.type_model.specs.Calls.{Asked}
use Rattle.type_model.specs.declared.answers.TypeLimit.{TypeLimit}
use Rattle.type_model.specs.declared.atoms.AtomDef.{AtomDef}
use Rattle.typed_bodies.proofs.Aside.{aside-counter, aside-expects, aside-heads, aside-ignorable, aside-is-assignable, aside-item, aside-new, aside-operand, aside-reads-field, aside-reads-name, aside-reads-stored, aside-result, aside-stops, aside-wants-counter, aside-widens, aside-widens-item, aside-describes}
use Rattle.typed_bodies.proofs.Choosing.{if-sees, loop-opens, while-sees}
use Rattle.typed_bodies.proofs.Loops.{foreach-sees, item-put, range-sees}
use Rattle.typed_bodies.proofs.Matches.{IsOnMatch, MatchOf, clause-ended, match-begins-so, match-made, on-match-clause, on-match-on, on-match-pattern}
use Rattle.typed_bodies.proofs.Onward.{onward-adds, onward-assigns, onward-breaks, onward-continues, onward-makes-block, onward-new-slot, onward-performs, onward-returns, onward-returns-nil, onward-stores, onward-takes-part, onward-takes-want, onward-updates-element, onward-updates-field, onward-updates-name}
use Rattle.typed_bodies.proofs.Targets.{field-onward, field-put}
use Rattle.typed_bodies.proofs.Trails.{as-many}
use Rattle.typed_exprs.proofs.Steps.{parted}
use Rattle.typed_exprs.specs.Lines.{Run}
use Rattle.typed_needs.proofs.Going.{each-long}
use Rattle.typed_needs.proofs.Placed.{all-but-last, last-same}
use Rattle.typed_needs.specs.Going.{GoesOn}
use Rattle.typed_needs.specs.WholeRuns.{AllRunsGoOn, RunGoesOn}
use Rattle.calm_needs.proofs.Calming.{on-itself}
use Rattle.check_words.proofs.Handles.{same-variable-through}
use Rattle.check_words.specs.Sharing.{SameVariable}
use Rattle.flow_narrowing.specs.declared.flow.Flow.{Flow}
use Rattle.typed_bodies.proofs.Aside.{set-sees}
use Rattle.typed_stmts.proofs.Words.{flow-changed, flow-seen, last-replaced}
use Rattle.typed_tree.specs.Listed.{Listed, members, nothing, one, ◌&◌}
use Rattle.typed_trees.proofs.Leaving.{only-met}
use Rattle.bal_base.specs.declared.fault.FaultCode.TheVariants.{BadBreak}
use Rattle.typed_tree.specs.declared.stmt.PerformForm.TheVariants as perform

-- where statements are met one behind another in a block of their own
pub record InBlock (s t : State) : Type 0 where
  pub unit : HasUnit t
  pub scope : (kept : List BlockAtWork) (b : BlockAtWork) → s.blocks ≡ kept ++ b ∷ [] → (c : BlockAtWork) × (t.blocks ≡ kept ++ c ∷ []) × (c.scope ≡ b.scope)
  pub sees : (vs : List Variable) → HandFirst vs s → HandFirst vs t

in-block-on : (r s t : State) → InBlock r s → InBlock s t → InBlock r t
in-block-on r s t f g =
    record {
      unit = g.unit;
      scope = λ kept b is. let (c, blocks, same) = f.scope kept b is in let (d, after, equal) = g.scope kept c blocks in (d, after, equal ∙ same);
      sees = λ vs h. g.sees vs (f.sees vs h);
    }

-- ---- variables that come and go

grown : (vs ws : List Variable) (n : Variable) (xs : List Variable) → AllZip IsSameVariable vs ws → AllZip SameVariable (ws ++ n ∷ []) xs → AllZip IsSameVariable vs (take (length vs) xs)
grown [] ws n xs h k = tt
grown (v ∷ vs) (w ∷ ws) n (x ∷ xs) h k = (let same : SameVariable w x = k.0 in same-variable-through v w x h.0 same.variable, grown vs ws n xs h.1 k.1)
grown (v ∷ vs) [] n xs h k = absurd h
grown (v ∷ vs) (w ∷ ws) n [] h k = absurd k

zip-length : (vs ws : List Variable) → AllZip IsSameVariable vs ws → length ws ≡ length vs
zip-length [] [] h = refl
zip-length (v ∷ vs) (w ∷ ws) h = ap (λ n. suc n) (zip-length vs ws h.1)
zip-length [] (w ∷ ws) h = absurd h
zip-length (v ∷ vs) [] h = absurd h

-- a block remembers how many variables are seen where it begins
record BeginsAt (old new : State) : Type 0 where
  pub block : BlockAtWork
  pub blocks : new.blocks ≡ old.blocks ++ block ∷ []
  pub units : new.units ≡ old.units
  pub scope : (u : UnitAtWork) → IsLast old.units u → block.scope ≡ length u.flow.variables

begun-scope : (old new : State) → begins_block old (Gives tt) new → BeginsAt old new
unfolding ◌▷◌ does
begun-scope old new (f, a, seen, e) =
    let (w, last, is, same) = flow-seen f old a seen in
    let b : BlockAtWork = record { stmts = []; scope = length f.variables } in
    let all : new ≡ record old { blocks = old.blocks ++ b ∷ [] } = e ∙ ap (λ (s : State). record s { blocks = s.blocks ++ b ∷ [] }) same in
    record {
      block = b;
      blocks = ap (λ (s : State). s.blocks) all;
      units = ap (λ (s : State). s.units) all;
      scope = λ u other. ap (λ (x : Flow). length x.variables) is ∙ ap (λ (x : UnitAtWork). length x.flow.variables) (last-same old.units w u last other);
    }

-- and leaves so many
cut-off : (vs : List Variable) (c : BlockAtWork) (old new : State) → ends_block old (Gives tt) new → IsLast old.blocks c → length vs ≡ c.scope → HandFirst vs old → HandSees vs new
unfolding ◌▷◌ gives_some
cut-off vs c old new (b, mid, (lb, e), met) last long h =
    let s = flow-changed (outside b.scope) tt mid new met in
    let one : b ≡ c = last-same old.blocks b c lb last in
    let many : length vs ≡ b.scope = long ∙ ap (λ (x : BlockAtWork). x.scope) (sym one) in
    let hand : IsLast old.units s.was = subst (λ (x : State). IsLast x.units s.was) e s.before in
    let of : IsFlowOf vs (outside b.scope s.was.flow) = subst (λ n. AllZip IsSameVariable vs (take n s.was.flow.variables)) many (h s.was hand) in
    set-sees vs (outside b.scope s.was.flow) mid new (record { was = s.was; now = s.now; before = s.before; same = s.same; all = s.all }) of

-- a match that nothing changes
on-itself-match : (kept : List MatchAtWork) (was : MatchAtWork) (s : State) → s.matches ≡ kept ++ was ∷ [] → IsOnMatch kept was s s
on-itself-match kept was s e =
    record {
      moved = record { on = on-itself s; site = refl };
      found = refl;
      blocks = refl;
      choices = refl;
      now = was;
      matches = e;
      clauses = refl;
      known = λ place h. h;
      stored = λ place h k. k;
      seen = λ vs h. h;
      sees = λ vs h k. k;
    }

module _ (passes : List AtomDef → Asked → TypeLimit → Type 0) (names : Names) (env : List AtomDef) (calm : NeedsAreCalm passes names) (positions : StmtPositionsAreKept passes names)
    (goes : AllRunsGoOn passes names) where
  abbrev pub Runs : Listed Need → State → State → Type 0
  Runs = Run passes names env

  abbrev See : Listed Need → Type 0
  See = Sees passes names env calm

  abbrev Same : State → State → Type 0
  Same = SeesSame passes names env calm

  abbrev FreshOne : Reading → Type 0
  FreshOne = FreshReading passes names env calm

  -- ---- the claims

  -- of a statement: variables may come
  pub record StmtFacts (needs : Within → Listed Need) : Type 0 where
    pub more : (w : Within) (old new : State) → HasBlock old → Runs (needs w) old new → IsOneStmtMore old new
    pub sees : (w : Within) (old new : State) → HasBlock old → Runs (needs w) old new → (vs : List Variable) → HandSees vs old → HandFirst vs new

  -- of a block: none come
  pub record BlockFacts (needs : Within → Listed Need) : Type 0 where
    pub more : (w : Within) (old new : State) → HasUnit old → Runs (needs w) old new → IsOneBlockMore old new
    pub sees : (w : Within) (old new : State) → HasUnit old → Runs (needs w) old new → (vs : List Variable) → HandSees vs old → HandSees vs new

  -- of a clause: of the match at hand no other variables are known
  record ClauseGoes (kept : List MatchAtWork) (was : MatchAtWork) (old new : State) : Type 0 where
    pub now : MatchAtWork
    pub matches : new.matches ≡ kept ++ now ∷ []
    pub unit : HasUnit new
    pub of : (vs : List Variable) → MatchOf vs was → HandSees vs old → MatchOf vs now × HandSees vs new

  abbrev ClauseFacts : (Within → Listed Need) → Type 0
  ClauseFacts needs = (w : Within) (kept : List MatchAtWork) (was : MatchAtWork) (old new : State) → HasUnit old → old.matches ≡ kept ++ was ∷ [] → Runs (needs w) old new
      → ClauseGoes kept was old new

  -- a statement behind which just the same variables are seen
  abbrev Exact : (Within → Listed Need) → Type 0
  Exact needs = (w : Within) (old new : State) → HasUnit old → Runs (needs w) old new → (vs : List Variable) → HandSees vs old → HandSees vs new

  abbrev Line : (Within → Listed Need) → Type 0
  Line needs = (w : Within) (old new : State) → HasBlock old → Runs (needs w) old new → (vs : List Variable) → HandSees vs old → HandFirst vs new

  exactly : (needs : Within → Listed Need) → Exact needs → Line needs
  exactly needs f w old new block run vs h = hand-first vs new (f w old new block.unit run vs h)

  simply : (needs : Within → Listed Need) → ((w : Within) → See (needs w)) → Line needs
  simply needs f w old new block run vs h = hand-first vs new ((f w old new run).sees vs h)

  see : (needs : Listed Need) → See needs → See needs
  see needs f = f

  both : (p q : Listed Need) → See p → See q → See (p & q)
  both = both-see passes names env calm

  -- ---- values

  free : (a : Reading) → FreshOne a → See (freely a)
  free a k = fresh-see passes names env calm (freely a) (k expected.Nothing)

  want : (a : Reading) → FreshOne a → See (as_wanted a)
  want a k = fresh-see passes names env calm (as_wanted a) (wanted-fresh passes names env calm a k)

  kind-of : (k : Kind) (a : Reading) → FreshOne a → See (against k a)
  kind-of k a f = fresh-see passes names env calm (against k a) (against-fresh passes names env calm k a f)

  -- ---- simple statements

  ignored : (a : Reading) (at : Place) → FreshOne a → See (freely a & one (Performs perform.Ignore 1 at))
  ignored a at k = both (freely a) (one (Performs perform.Ignore 1 at)) (free a k) (need-onward passes names env calm (Performs perform.Ignore 1 at) (onward-performs perform.Ignore 1 at))

  evaluated : (a : Reading) (at : Place) → FreshOne a → See (freely a & one (IsIgnorable at) & one (Performs perform.Evaluate 1 at))
  evaluated a at k =
      both (freely a) (one (IsIgnorable at) & one (Performs perform.Evaluate 1 at)) (free a k)
      (both (one (IsIgnorable at)) (one (Performs perform.Evaluate 1 at)) (need-aside passes names env calm (IsIgnorable at) (aside-ignorable passes at))
      (need-onward passes names env calm (Performs perform.Evaluate 1 at) (onward-performs perform.Evaluate 1 at)))

  panicked : (a : Reading) (at : Place) → FreshOne a → See (against kind.AnyError a & one (Performs perform.Panic 1 at) & one Stops)
  panicked a at k =
      both (against kind.AnyError a) (one (Performs perform.Panic 1 at) & one Stops) (kind-of kind.AnyError a k)
      (both (one (Performs perform.Panic 1 at)) (one Stops) (need-onward passes names env calm (Performs perform.Panic 1 at) (onward-performs perform.Panic 1 at)) (need-aside passes names env calm Stops aside-stops))

  returned : (a : Reading) (at : Place) → FreshOne a → See (one WantsResult & as_wanted a & one (Returns at))
  returned a at k =
      both (one WantsResult) (as_wanted a & one (Returns at)) (need-aside passes names env calm WantsResult aside-result)
      (both (as_wanted a) (one (Returns at)) (want a k) (need-onward passes names env calm (Returns at) (onward-returns at)))

  nil-returned : (at : Place) → See (one (ReturnsNil at))
  nil-returned at = need-onward passes names env calm (ReturnsNil at) (onward-returns-nil passes at)

  never-so : {P : Type 0} (at : Place) (old new : State) → Runs (one (Fails BadBreak at)) old new → P
  unfolding refuses
  never-so at old new run = absurd run.0

  jump : (n : Need) (at : Place) (loop : Bool) → See (one n) → See (jump_needs n at loop)
  jump n at true f = f
  jump n at false f = λ old new run. never-so at old new run

  -- ---- assignments

  item-of : (a i : Reading) → FreshOne a → FreshOne i → See (element_needs false a i)
  item-of a i ka ki =
      both (accessed_needs false a) (index_needs i) (fresh-see passes names env calm (accessed_needs false a) (accessed passes names env calm false a ka))
      (quiet-see passes names env calm (index_needs i) (index passes names env calm i ki))

  field-sees : (w : Word) → See (one (HasField w))
  field-sees w old new run = onward-sees passes names env calm old new (field-onward old new (field-put w old new run.0))

  field-of : (a : Reading) (w : Word) → FreshOne a → See (against kind.AnyMapping a & one (HasField w))
  field-of a w k = both (against kind.AnyMapping a) (one (HasField w)) (kind-of kind.AnyMapping a k) (field-sees w)

  stored : (t : Target) → See (stored_needs t)
  stored (target.Name q) = none-seen passes names env calm
  stored (target.Index a i at) =
      both (element_needs false (read_postfix a.value) (read_expr i.value)) (one (ExpectsStored at))
      (item-of (read_postfix a.value) (read_expr i.value) (postfix-fresh passes names env calm a.value) (expr-fresh passes names env calm i.value))
      (need-aside passes names env calm (ExpectsStored at) (aside-expects passes at))
  stored (target.Field a field at) =
      both (against kind.AnyMapping (read_postfix a.value) & one (HasField field)) (one (ExpectsStored at))
      (field-of (read_postfix a.value) field (postfix-fresh passes names env calm a.value)) (need-aside passes names env calm (ExpectsStored at) (aside-expects passes at))

  set : (t : Target) (r : Reading) (at : Place) → FreshOne r → See (set_needs t r at)
  set (target.Name q) r at k =
      both (one (IsAssignable q)) (as_wanted r & one (Assigns q at)) (need-aside passes names env calm (IsAssignable q) (aside-is-assignable names q))
      (both (as_wanted r) (one (Assigns q at)) (want r k) (need-onward passes names env calm (Assigns q at) (onward-assigns names q at)))
  set (target.Index a i there) r at k =
      both (stored_needs (target.Index a i there)) (as_wanted r & one (Stores at)) (stored (target.Index a i there))
      (both (as_wanted r) (one (Stores at)) (want r k) (need-onward passes names env calm (Stores at) (onward-stores at)))
  set (target.Field a field there) r at k =
      both (stored_needs (target.Field a field there)) (as_wanted r & one (Stores at)) (stored (target.Field a field there))
      (both (as_wanted r) (one (Stores at)) (want r k) (need-onward passes names env calm (Stores at) (onward-stores at)))

  operand : (o : AssignOp) (there : Place) (r : Reading) → FreshOne r → See (one (IsOperand o there) & as_wanted r)
  operand o there r k = both (one (IsOperand o there)) (as_wanted r) (need-aside passes names env calm (IsOperand o there) (aside-operand passes o there)) (want r k)

  updated : (t : Target) (o : AssignOp) (r : Reading) (at : Place) → FreshOne r → See (update_needs t o r at)
  updated (target.Name q) o r at k =
      both (one (IsAssignable q) & one (ReadsName q)) ((one (IsOperand o q.at) & as_wanted r) & one (UpdatesName q o at))
      (both (one (IsAssignable q)) (one (ReadsName q)) (need-aside passes names env calm (IsAssignable q) (aside-is-assignable names q)) (need-aside passes names env calm (ReadsName q) (aside-reads-name names q)))
      (both (one (IsOperand o q.at) & as_wanted r) (one (UpdatesName q o at)) (operand o q.at r k) (need-onward passes names env calm (UpdatesName q o at) (onward-updates-name passes names q o at)))
  updated (target.Index a i there) o r at k =
      both (stored_needs (target.Index a i there) & one (ReadsStored there)) ((one (IsOperand o there) & as_wanted r) & one (UpdatesElement o at))
      (both (stored_needs (target.Index a i there)) (one (ReadsStored there)) (stored (target.Index a i there)) (need-aside passes names env calm (ReadsStored there) (aside-reads-stored passes there)))
      (both (one (IsOperand o there) & as_wanted r) (one (UpdatesElement o at)) (operand o there r k) (need-onward passes names env calm (UpdatesElement o at) (onward-updates-element passes o at)))
  updated (target.Field a field there) o r at k =
      both (stored_needs (target.Field a field there) & one (ReadsStoredField field there)) ((one (IsOperand o there) & as_wanted r) & one (UpdatesField field o at))
      (both (stored_needs (target.Field a field there)) (one (ReadsStoredField field there)) (stored (target.Field a field there)) (need-aside passes names env calm (ReadsStoredField field there) (aside-reads-field passes field there)))
      (both (one (IsOperand o there) & as_wanted r) (one (UpdatesField field o at)) (operand o there r k) (need-onward passes names env calm (UpdatesField field o at) (onward-updates-field passes field o at)))

  assigned : (o : AssignOp) (t : Target) (r : Reading) (at : Place) → FreshOne r → See (assignment_needs o t r at)
  assigned assign.Set t r at k = set t r at k
  assigned assign.Add t r at k = updated t assign.Add r at k
  assigned assign.Subtract t r at k = updated t assign.Subtract r at k
  assigned assign.Multiply t r at k = updated t assign.Multiply r at k
  assigned assign.Divide t r at k = updated t assign.Divide r at k

  -- ---- declarations

  local-sees : (t : LocalType) (name : Word) (r : Reading) → FreshOne r → See (local_needs t name r)
  local-sees (local.«Type» t) name r k =
      both (one (Describes t.value) & one (IsNew name)) (as_wanted r)
      (both (one (Describes t.value)) (one (IsNew name)) (need-aside passes names env calm (Describes t.value) (aside-describes names t.value)) (need-aside passes names env calm (IsNew name) (aside-new name))) (want r k)
  local-sees (local.Var at) name r k =
      both (one (IsNew name)) (freely r & one (Widens r.at)) (need-aside passes names env calm (IsNew name) (aside-new name))
      (both (freely r) (one (Widens r.at)) (free r k) (need-aside passes names env calm (Widens r.at) (aside-widens passes r.at)))

  -- one variable comes, behind those that are seen
  declared : (name : Name) (final more : Bool) (at : Place) (old new : State) → declares name final more at old (Gives tt) new → (vs : List Variable) → HandSees vs old → HandFirst vs new
  unfolding ◌▷◌
  declared name final more at old new (value, s1, x1, (t, s2, x2, (slot, s3, x3, (u, s4, x4, x5)))) vs h =
      let h1 = (onward-takes-part old s1 value x1).sees vs h in
      let h2 = (onward-takes-want s1 s2 t x2).sees vs h1 in
      let h3 = (onward-new-slot t s2 s3 slot x3).sees vs h2 in
      let s = flow-changed _ u s3 s4 x4 in
      let units = ap (λ (x : State). x.units) s.all in
      let last : IsLast s4.units s.now = subst (λ us. IsLast us s.now) (sym units) (last-replaced s3.units s.now) in
      let first : AllZip IsSameVariable vs (take (length vs) s.now.flow.variables) = grown vs s.was.flow.variables _ s.now.flow.variables (h3 s.was s.before) s.same.flow.variables in
      let here : HandFirst vs s4 = λ w other. subst (λ (x : UnitAtWork). AllZip IsSameVariable vs (take (length vs) x.flow.variables)) (last-same s4.units s.now w last other) first in
      first-on vs s4 new (some-last s4.units s.now last) (λ ws k. hand-first ws new ((onward-adds _ s4 new tt x5).sees ws k)) here

  declaration : (final : Bool) (t : LocalType) (name : Word) (r : Reading) (at : Place) → FreshOne r → Line (declaration_needs final t name r at)
  declaration final t name r at k w old new block run vs h =
      let (m, rl, rd) = parted passes names env (local_needs t name r) (one (Declares name.name final _ at)) old new run in
      declared name.name final _ at m new rd.0 vs ((local-sees t name r k old m rl).sees vs h)

  -- ---- branches

  branched : (c : Reading) (first : Within → Listed Need) (second : Within → Listed Need) (at : Place) → FreshOne c → BlockFacts first → BlockFacts second
      → Exact (λ w. (condition_needs c & first w & one Switches) & (second w & one (MakesIf at)))
  branched c first second at kc kf ks w old new unit run vs h =
      let (s4, front, rest) = parted passes names env (condition_needs c & first w & one Switches) (second w & one (MakesIf at)) old new run in
      let (s5, r2, made) = parted passes names env (second w) (one (MakesIf at)) s4 new rest in
      let (s2, cond, body) = parted passes names env (condition_needs c) (first w & one Switches) old s4 front in
      let (s1, rc, rs) = parted passes names env (against kind.Truth c) (one (Splits true)) old s2 cond in
      let (s3, r1, rw) = parted passes names env (first w) (one Switches) s2 s4 body in
      let k = against-fresh passes names env calm kind.Truth c kc old s1 rc in
      let sp = split true s1 s2 rs.0 in
      let one-more = kf.more w s2 s3 sp.unit r1 in
      let sw = switch sp.choice s3 s4 (record { kept = s1.choices; is = one-more.same.choices ∙ sp.choices }) rw.0 in
      let two-more = ks.more w s4 s5 sw.unit r2 in
      let unclosed : s4.choices ≡ s1.choices ++ sw.choice ∷ [] =
      sw.choices ∙ ap (λ cs. cs ++ sw.choice ∷ []) (ap (λ cs. all_but 1 cs) (one-more.same.choices ∙ sp.choices) ∙ all-but-last s1.choices sp.choice) in
      let (of, sees) = sp.of vs ((fresh-sees passes names env calm old s1 k).sees vs h) (k.tells vs h) in
      let (of-4, sees-4) = sw.of vs (kf.sees w s2 s3 sp.unit r1 vs sees) of in
      if-sees vs at s5 new sw.choice made.0 (record { kept = s1.choices; is = two-more.same.choices ∙ unclosed }) of-4.first

  -- ---- loops

  while : (c : Reading) (body : StmtReading) (at : Place) → FreshOne c → BlockFacts body.needs → Exact (λ w. while_needs c body at)
  while c body at kc kb w old new unit run vs h =
      let heads : Need = Heads (members body.assigned) in
      let (s3, front, rest) = parted passes names env (one heads & condition_needs c) (body.needs (in_block true) & one (MakesWhile _ at)) old new run in
      let (s4, rb, made) = parted passes names env (body.needs (in_block true)) (one (MakesWhile _ at)) s3 new rest in
      let (s1, rh, cond) = parted passes names env (one heads) (condition_needs c) old s3 front in
      let (s2, rc, rs) = parted passes names env (against kind.Truth c) (one (Splits true)) s1 s3 cond in
      let h1 = (aside-heads (members body.assigned) old s1 tt rh.0).sees vs h in
      let k = against-fresh passes names env calm kind.Truth c kc s1 s2 rc in
      let sp = split true s2 s3 rs.0 in
      let more = kb.more (in_block true) s3 s4 sp.unit rb in
      let (of, sees) = sp.of vs ((fresh-sees passes names env calm s1 s2 k).sees vs h1) (k.tells vs h1) in
      while-sees vs _ at s4 new sp.choice made.0 (record { kept = s2.choices; is = more.same.choices ∙ sp.choices }) of.before

  loop-type : (t : LocalType) → See (loop_type_needs t)
  loop-type (local.«Type» t) = need-aside passes names env calm (Describes t.value) (aside-describes names t.value)
  loop-type (local.Var at) = none-seen passes names env calm

  item-fits : (t : LocalType) (at : Place) → See (one (item_fits t at))
  item-fits (local.«Type» t) at = need-aside passes names env calm (IsItemOfLoop at) (aside-item passes at)
  item-fits (local.Var here) at = need-aside passes names env calm (WidensItem at) (aside-widens-item passes at)

  counter-fits : (t : LocalType) (at : Place) → See (one (counter_fits t at))
  counter-fits (local.«Type» t) at = need-aside passes names env calm (IsCounter at) (aside-counter passes at)
  counter-fits (local.Var here) at = need-aside passes names env calm WantsCounter aside-wants-counter

  through : (t : LocalType) (from : Reading) (range : Option Range) → FreshOne from → See (through_needs t from range)
  through t from None k = both (against kind.AnyList from) (one (item_fits t from.at)) (kind-of kind.AnyList from k) (item-fits t from.at)
  through t from (Some r) k =
      both (against kind.Integer from & against kind.Integer (read_expr r.end.value)) (one (counter_fits t from.at))
      (both (against kind.Integer from) (against kind.Integer (read_expr r.end.value)) (kind-of kind.Integer from k)
      (kind-of kind.Integer (read_expr r.end.value) (expr-fresh passes names env calm r.end.value)))
      (counter-fits t from.at)

  loop-head : (t : LocalType) (name : Word) (from : Reading) (range : Option Range) → FreshOne from → See (loop_head_needs t name from range)
  loop-head t name from range k =
      both (loop_type_needs t & one (IsNew name)) (through_needs t from range)
      (both (loop_type_needs t) (one (IsNew name)) (loop-type t) (need-aside passes names env calm (IsNew name) (aside-new name))) (through t from range k)

  looped : (range : Option Range) (at : Place) (c : ChoiceAtWork) (old new : State) → Runs (one (loop_made range at)) old new → IsLast old.choices c → (vs : List Variable)
      → IsFlowOf vs c.before → HandSees vs new
  looped None at c old new run last vs of = foreach-sees vs at old new c run.0 last of
  looped (Some r) at c old new run last vs of = range-sees vs r.op at old new c run.0 last of

  foreach : (t : LocalType) (name : Word) (from : Reading) (range : Option Range) (body : StmtReading) (at : Place) → FreshOne from → BlockFacts body.needs
      → Exact (λ w. foreach_needs t name from range body at)
  foreach t name from range body at kf kb w old new unit run vs h =
      let heads : Need = Heads (members body.assigned) in
      let among : Bool = is_among name.name (members body.assigned) in
      let item : Need = HasItem name.name among in
      let (s1, head, rest) = parted passes names env (loop_head_needs t name from range) (loop_body_needs name body & one (loop_made range at)) old new run in
      let (s5, inner, made) = parted passes names env (loop_body_needs name body) (one (loop_made range at)) s1 new rest in
      let (s3, opening, more) = parted passes names env (one heads & one OpensLoop) (one item & body.needs (in_block true)) s1 s5 inner in
      let (s2, rh, ro) = parted passes names env (one heads) (one OpensLoop) s1 s3 opening in
      let (s4, ri, rb) = parted passes names env (one item) (body.needs (in_block true)) s3 s5 more in
      let before = loop-head t name from range kf old s1 head in
      let headed = aside-sees passes names env calm s1 s2 (aside-heads (members body.assigned) s1 s2 tt rh.0) in
      let o = loop-opens s2 s3 ro.0 in
      let put = item-put name.name among s3 s4 ri.0 in
      let unit-2 : HasUnit s2 = headed.unit (before.unit unit) in
      let unit-3 : HasUnit s3 = subst (λ us. 1 ≤ length us) (sym (ap (λ (s : State). s.units) o.all)) unit-2 in
      let unit-4 : HasUnit s4 = (let long = each-long s3.units s4.units put.stays.on.each in omega (arith, long, unit-3)) in
      let block = kb.more (in_block true) s4 s5 unit-4 rb in
      let unclosed : s5.choices ≡ s2.choices ++ o.choice ∷ [] = block.same.choices ∙ put.stays.choices ∙ ap (λ (s : State). s.choices) o.all in
      looped range at o.choice s5 new made (record { kept = s2.choices; is = unclosed }) vs (o.before vs (headed.sees vs (before.sees vs h)))

  -- ---- matches

  patterns : (ps : List Pattern) (before : Listed Need) → ((kept : List MatchAtWork) (was : MatchAtWork) (old new : State) → old.matches ≡ kept ++ was ∷ [] → Runs before old new → IsOnMatch kept was old new)
      → (kept : List MatchAtWork) (was : MatchAtWork) (old new : State) → old.matches ≡ kept ++ was ∷ [] → Runs (in_turn_from before pattern_needs ps) old new → IsOnMatch kept was old new
  patterns [] before f kept was old new e run = f kept was old new e run
  patterns (p ∷ ps) before f kept was old new e run =
      patterns ps (before & pattern_needs p)
      (λ kept was old new e run.
      let (m, ra, rp) = parted passes names env before (one (HasPattern p)) old new run in
      let a = f kept was old m e ra in
      on-match-on kept was old m new a (on-match-pattern names p kept a.now m new tt a.matches rp.0))
      kept was old new e run

  no-pattern : (kept : List MatchAtWork) (was : MatchAtWork) (old new : State) → old.matches ≡ kept ++ was ∷ [] → Runs nothing old new → IsOnMatch kept was old new
  unfolding gives_some
  no-pattern kept was old new e (is, same) = subst (λ (s : State). IsOnMatch kept was old s) (sym same) (on-itself-match kept was old e)

  clause : (ps : List Pattern) (body : StmtReading) (at : Place) → BlockFacts body.needs → ClauseFacts (clause_needs ps body at)
  clause ps body at kb w kept was old new unit e run =
      let front : Listed Need = in_turn pattern_needs ps & one (BeginsClause (list_any is_any ps)) in
      let (s2, rf, rest) = parted passes names env front (body.needs w & one (EndsClause at)) old new run in
      let (s1, rp, rb) = parted passes names env (in_turn pattern_needs ps) (one (BeginsClause (list_any is_any ps))) old s2 rf in
      let (s3, inner, ends) = parted passes names env (body.needs w) (one (EndsClause at)) s2 new rest in
      let a = patterns ps nothing no-pattern kept was old s1 e rp in
      let b = on-match-on kept was old s1 s2 a (on-match-clause passes (list_any is_any ps) kept a.now s1 s2 tt a.matches rb.0) in
      let unit-2 : HasUnit s2 = (let long = each-long old.units s2.units b.moved.on.each in omega (arith, long, unit)) in
      let block = kb.more w s2 s3 unit-2 inner in
      let m = clause-ended at kept b.now s3 new (block.same.matches ∙ b.matches) ends.0 in
      let units : new.units ≡ s3.units = ap (λ (s : State). s.units) m.all in
      record {
        now = m.now;
        matches = m.matches;
        unit = subst (λ us. 1 ≤ length us) (sym units) (let long = as-many s2.units s3.units block.same.units in omega (arith, long, unit-2));
        of = λ vs of h.
            let h2 = b.sees vs of h in
            let h3 = kb.sees w s2 s3 unit-2 inner vs h2 in
            (m.seen vs h3 (b.seen vs of), λ u last. h3 u (subst (λ us. IsLast us u) units last));
      }

  clause-on : (kept : List MatchAtWork) (was : MatchAtWork) (r s t : State) → (f : ClauseGoes kept was r s) → ClauseGoes kept f.now s t → ClauseGoes kept was r t
  clause-on kept was r s t f g =
      record { now = g.now; matches = g.matches; unit = g.unit; of = λ vs of h. let (k, hand) = f.of vs of h in g.of vs k hand }

  abbrev AllClauses : List StmtReading → Type 0
  AllClauses [] = ⊤
  AllClauses (c ∷ cs) = ClauseFacts c.needs × AllClauses cs

  clauses : (cs : List StmtReading) → AllClauses cs → (w : Within) (before : Listed Need)
      → ((kept : List MatchAtWork) (was : MatchAtWork) (old new : State) → HasUnit old → old.matches ≡ kept ++ was ∷ [] → Runs before old new → ClauseGoes kept was old new)
      → (kept : List MatchAtWork) (was : MatchAtWork) (old new : State) → HasUnit old → old.matches ≡ kept ++ was ∷ [] → Runs (in_turn_from before (λ (c : StmtReading). c.needs w) cs) old new
      → ClauseGoes kept was old new
  clauses [] known w before f kept was old new unit e run = f kept was old new unit e run
  clauses (c ∷ cs) known w before f kept was old new unit e run =
      clauses cs known.1 w (before & c.needs w)
      (λ kept was old new unit e run.
      let (m, ra, rc) = parted passes names env before (c.needs w) old new run in
      let a = f kept was old m unit e ra in
      clause-on kept was old m new a (known.0 w kept a.now m new a.unit a.matches rc))
      kept was old new unit e run

  no-clause : (kept : List MatchAtWork) (was : MatchAtWork) (old new : State) → HasUnit old → old.matches ≡ kept ++ was ∷ [] → Runs nothing old new → ClauseGoes kept was old new
  unfolding gives_some
  no-clause kept was old new unit e (is, same) =
      subst (λ (s : State). ClauseGoes kept was old s) (sym same) (record { now = was; matches = e; unit = unit; of = λ vs of h. (of, h) })

  matched : (a : Reading) (cs : List StmtReading) (at : Place) → FreshOne a → AllClauses cs → Exact (match_needs a cs at)
  matched a cs at ka known w old new unit run vs h =
      let (s2, front, rest) = parted passes names env (freely a & one (BeginsMatch a.name a.at)) (in_turn (λ (c : StmtReading). c.needs w) cs & one (MakesMatch _ at)) old new run in
      let (s1, ra, rb) = parted passes names env (freely a) (one (BeginsMatch a.name a.at)) old s2 front in
      let (s3, inner, made) = parted passes names env (in_turn (λ (c : StmtReading). c.needs w) cs) (one (MakesMatch _ at)) s2 new rest in
      let k = free a ka old s1 ra in
      let b = match-begins-so a.name a.at s1 s2 rb.0 in
      let h1 = k.sees vs h in
      let units : s2.units ≡ s1.units = ap (λ (s : State). s.units) b.all in
      let unit-2 : HasUnit s2 = subst (λ us. 1 ≤ length us) (sym units) (k.unit unit) in
      let c = clauses cs known w nothing no-clause s1.matches b.begun s2 s3 unit-2 (ap (λ (s : State). s.matches) b.all) inner in
      let (of, h3) = c.of vs (b.seen vs h1) (λ u last. h1 u (subst (λ us. IsLast us u) units last)) in
      (match-made passes _ at c.now s3 new made.0 (record { kept = s1.matches; is = c.matches })).sees vs of

  -- ---- statements one behind another, and blocks of them

  one-in-block : (s t : State) → HasBlock s → IsOneStmtMore s t → ((vs : List Variable) → HandSees vs s → HandFirst vs t) → InBlock s t
  one-in-block s t block more sees =
      record {
        unit = (let long = as-many s.units t.units more.same.units in let some = block.unit in omega (arith, long, some));
        scope = λ kept b is.
            let one : b ≡ more.block = last-same s.blocks b more.block (record { kept = kept; is = is }) (record { kept = more.around; is = more.was }) in
            let front : more.around ≡ kept = sym (all-but-last more.around more.block) ∙ ap (λ bs. all_but 1 bs) (sym more.was ∙ is) ∙ all-but-last kept b in
            let c : BlockAtWork = record more.block { stmts = more.block.stmts ++ more.stmt ∷ [] } in
            (c, more.now ∙ ap (λ bs. bs ++ c ∷ []) front, ap (λ (x : BlockAtWork). x.scope) (sym one));
        sees = λ vs h. first-on vs s t block.unit sees h;
      }

  abbrev AllFacts : List StmtReading → Type 0
  AllFacts [] = ⊤
  AllFacts (s ∷ ss) = StmtFacts s.needs × AllFacts ss

  abbrev InOwn : Listed Need → Type 0
  InOwn needs = (kept : List BlockAtWork) (b : BlockAtWork) (s t : State) → HasUnit s → s.blocks ≡ kept ++ b ∷ [] → Runs needs s t → InBlock s t

  has-block : (kept : List BlockAtWork) (b : BlockAtWork) (s : State) → HasUnit s → s.blocks ≡ kept ++ b ∷ [] → HasBlock s
  has-block kept b s unit is = record { unit = unit; block = (let e = ap length is in let l = length-append kept (b ∷ []) in omega (arith, e, l)) }

  own-one : (w : Within) (needs : Within → Listed Need) → StmtFacts needs → InOwn (needs w)
  own-one w needs k kept b s t unit is run =
      let block = has-block kept b s unit is in one-in-block s t block (k.more w s t block run) (k.sees w s t block run)

  own-none : InOwn nothing
  unfolding gives_some
  own-none kept b s t unit is (x, same) =
      subst (λ (y : State). InBlock s y) (sym same) (record { unit = unit; scope = λ kept b is. (b, is, refl); sees = λ vs h. h })

  own-stmts : (ss : List StmtReading) → AllFacts ss → (w : Within) (before : Listed Need) → InOwn before → InOwn (stmts_needs_from before w ss)
  own-stmts [] known w before f = f
  own-stmts (s ∷ ss) known w before f =
      let inner : Within = record w { behind = members (assigned_in ss) ++ w.behind } in
      own-stmts ss known.1 w (before & s.needs inner)
      (λ kept b x y unit is run.
      let (m, ra, rs) = parted passes names env before (s.needs inner) x y run in
      let a = f kept b x m unit is ra in
      let (c, blocks, same) = a.scope kept b is in
      in-block-on x m y a (own-one inner s.needs known.0 kept c m y a.unit blocks rs))

  -- what was declared in the block is seen no more behind it
  enclosed : (needs : Listed Need) → InOwn needs → (old new : State) → HasUnit old → Runs (one BeginsBlock & needs & one EndsBlock) old new → (vs : List Variable) → HandSees vs old → HandSees vs new
  enclosed needs inner old new unit run vs h =
      let (a, rb, rest) = parted passes names env (one BeginsBlock) (needs & one EndsBlock) old new run in
      let (z, rs, re) = parted passes names env needs (one EndsBlock) a new rest in
      let b = begun-scope old a rb.0 in
      let units : a.units ≡ old.units = b.units in
      let unit-a : HasUnit a = subst (λ us. 1 ≤ length us) (sym units) unit in
      let i = inner old.blocks b.block a z unit-a b.blocks rs in
      let (c, blocks, same) = i.scope old.blocks b.block b.blocks in
      let there : HandSees vs a = λ u last. h u (subst (λ us. IsLast us u) units last) in
      let (kept, hand, is) = at-hand old.units unit in
      let long : length vs ≡ b.block.scope = sym (zip-length vs hand.flow.variables (h hand (record { kept = kept; is = is }))) ∙ sym (b.scope hand (record { kept = kept; is = is })) in
      cut-off vs c z new re.0 (record { kept = old.blocks; is = blocks }) (long ∙ sym same) (i.sees vs (hand-first vs a there))

  -- ---- the whole

  abbrev ClaimElse : Else → Type 0
  ClaimElse e = BlockFacts (read_else e).needs

  abbrev AnElse : Type 0
  AnElse = (e : Else) × ClaimElse e

  abbrev ClaimStmt : Stmt → Type 0
  ClaimStmt e = StmtFacts (read_stmt e).needs

  abbrev AStmt : Type 0
  AStmt = (e : Stmt) × ClaimStmt e

  abbrev ClaimBlock : Block → Type 0
  ClaimBlock e = BlockFacts (read_block e).needs

  abbrev ABlock : Type 0
  ABlock = (e : Block) × ClaimBlock e

  abbrev ClaimClause : Clause → Type 0
  ClaimClause e = ClauseFacts (read_clause e).needs

  abbrev AClause : Type 0
  AClause = (e : Clause) × ClaimClause e

  abbrev ClaimIfStmt : IfStmt → Type 0
  ClaimIfStmt e = StmtFacts (read_if_stmt e).needs

  abbrev AnIfStmt : Type 0
  AnIfStmt = (e : IfStmt) × ClaimIfStmt e

  abbrev firsts_of_else : Else-F AnElse AStmt ABlock AClause AnIfStmt → Else-F Else Stmt Block Clause IfStmt
  firsts_of_else = map-Else AnElse AStmt ABlock AClause AnIfStmt Else Stmt Block Clause IfStmt (λ e. e.0) (λ e. e.0) (λ e. e.0) (λ e. e.0) (λ e. e.0)

  abbrev parts_of_else : Else-F Else Stmt Block Clause IfStmt → ElseOf StmtReading
  parts_of_else = map-Else Else Stmt Block Clause IfStmt StmtReading StmtReading StmtReading StmtReading StmtReading read_else read_stmt read_block read_clause read_if_stmt

  rolled-else : (x : Else-F Else Stmt Block Clause IfStmt) → read_else (roll-Else x) ≡ stmt_reading.else (parts_of_else x)
  rolled-else x = fold-roll-Else StmtReading StmtReading StmtReading StmtReading StmtReading stmt_reading.else stmt_reading.stmt stmt_reading.block stmt_reading.clause stmt_reading.if_stmt x

  abbrev firsts_of_stmt : Stmt-F AnElse AStmt ABlock AClause AnIfStmt → Stmt-F Else Stmt Block Clause IfStmt
  firsts_of_stmt = map-Stmt AnElse AStmt ABlock AClause AnIfStmt Else Stmt Block Clause IfStmt (λ e. e.0) (λ e. e.0) (λ e. e.0) (λ e. e.0) (λ e. e.0)

  abbrev parts_of_stmt : Stmt-F Else Stmt Block Clause IfStmt → StmtOf StmtReading
  parts_of_stmt = map-Stmt Else Stmt Block Clause IfStmt StmtReading StmtReading StmtReading StmtReading StmtReading read_else read_stmt read_block read_clause read_if_stmt

  rolled-stmt : (x : Stmt-F Else Stmt Block Clause IfStmt) → read_stmt (roll-Stmt x) ≡ stmt_reading.stmt (parts_of_stmt x)
  rolled-stmt x = fold-roll-Stmt StmtReading StmtReading StmtReading StmtReading StmtReading stmt_reading.else stmt_reading.stmt stmt_reading.block stmt_reading.clause stmt_reading.if_stmt x

  abbrev firsts_of_block : Block-F AnElse AStmt ABlock AClause AnIfStmt → Block-F Else Stmt Block Clause IfStmt
  firsts_of_block = map-Block AnElse AStmt ABlock AClause AnIfStmt Else Stmt Block Clause IfStmt (λ e. e.0) (λ e. e.0) (λ e. e.0) (λ e. e.0) (λ e. e.0)

  abbrev parts_of_block : Block-F Else Stmt Block Clause IfStmt → BlockOf StmtReading
  parts_of_block = map-Block Else Stmt Block Clause IfStmt StmtReading StmtReading StmtReading StmtReading StmtReading read_else read_stmt read_block read_clause read_if_stmt

  rolled-block : (x : Block-F Else Stmt Block Clause IfStmt) → read_block (roll-Block x) ≡ stmt_reading.block (parts_of_block x)
  rolled-block x = fold-roll-Block StmtReading StmtReading StmtReading StmtReading StmtReading stmt_reading.else stmt_reading.stmt stmt_reading.block stmt_reading.clause stmt_reading.if_stmt x

  abbrev firsts_of_clause : Clause-F AnElse AStmt ABlock AClause AnIfStmt → Clause-F Else Stmt Block Clause IfStmt
  firsts_of_clause = map-Clause AnElse AStmt ABlock AClause AnIfStmt Else Stmt Block Clause IfStmt (λ e. e.0) (λ e. e.0) (λ e. e.0) (λ e. e.0) (λ e. e.0)

  abbrev parts_of_clause : Clause-F Else Stmt Block Clause IfStmt → ClauseOf StmtReading
  parts_of_clause = map-Clause Else Stmt Block Clause IfStmt StmtReading StmtReading StmtReading StmtReading StmtReading read_else read_stmt read_block read_clause read_if_stmt

  rolled-clause : (x : Clause-F Else Stmt Block Clause IfStmt) → read_clause (roll-Clause x) ≡ stmt_reading.clause (parts_of_clause x)
  rolled-clause x = fold-roll-Clause StmtReading StmtReading StmtReading StmtReading StmtReading stmt_reading.else stmt_reading.stmt stmt_reading.block stmt_reading.clause stmt_reading.if_stmt x

  abbrev firsts_of_if_stmt : IfStmt-F AnElse AStmt ABlock AClause AnIfStmt → IfStmt-F Else Stmt Block Clause IfStmt
  firsts_of_if_stmt = map-IfStmt AnElse AStmt ABlock AClause AnIfStmt Else Stmt Block Clause IfStmt (λ e. e.0) (λ e. e.0) (λ e. e.0) (λ e. e.0) (λ e. e.0)

  abbrev parts_of_if_stmt : IfStmt-F Else Stmt Block Clause IfStmt → IfStmtOf StmtReading
  parts_of_if_stmt = map-IfStmt Else Stmt Block Clause IfStmt StmtReading StmtReading StmtReading StmtReading StmtReading read_else read_stmt read_block read_clause read_if_stmt

  rolled-if_stmt : (x : IfStmt-F Else Stmt Block Clause IfStmt) → read_if_stmt (roll-IfStmt x) ≡ stmt_reading.if_stmt (parts_of_if_stmt x)
  rolled-if_stmt x = fold-roll-IfStmt StmtReading StmtReading StmtReading StmtReading StmtReading stmt_reading.else stmt_reading.stmt stmt_reading.block stmt_reading.clause stmt_reading.if_stmt x

  -- an `if` is a statement
  as-stmt : (x : IfStmt) → read_stmt (roll-Stmt (layer.«Stmt::If» x)) ≡ read_if_stmt x
  as-stmt x = rolled-stmt (layer.«Stmt::If» x)

  if-more : (x : IfStmt) (w : Within) (old new : State) → HasBlock old → Runs ((read_if_stmt x).needs w) old new → IsOneStmtMore old new
  if-more x w old new block run =
      let p : KeepsPositions passes names HasBlock IsOneStmtMore ((read_if_stmt x).needs w) =
      subst (λ (r : StmtReading). KeepsPositions passes names HasBlock IsOneStmtMore (r.needs w)) (as-stmt x) (positions.stmt (roll-Stmt (layer.«Stmt::If» x)) w) in
      p.comes old new block (only-met passes names env ((read_if_stmt x).needs w) old new run)

  if-goes : (x : IfStmt) (w : Within) (old new : State) → HasBlock old → Runs ((read_if_stmt x).needs w) old new → GoesOn old new
  if-goes x w old new block run =
      let g : RunGoesOn passes names HasBlock ((read_if_stmt x).needs w) =
      subst (λ (r : StmtReading). RunGoesOn passes names HasBlock (r.needs w)) (as-stmt x) (goes.stmt (roll-Stmt (layer.«Stmt::If» x)) w) in
      g old new block (only-met passes names env ((read_if_stmt x).needs w) old new run)

  stmt-facts : (xs : List AStmt) → AllFacts (map read_stmt (map (λ x. x.0) xs))
  stmt-facts [] = tt
  stmt-facts (x ∷ xs) = (x.1, stmt-facts xs)

  clause-facts : (xs : List AClause) → AllClauses (map read_clause (map (λ x. x.0) xs))
  clause-facts [] = tt
  clause-facts (x ∷ xs) = (x.1, clause-facts xs)

  stmt-layer : (y : Stmt-F AnElse AStmt ABlock AClause AnIfStmt) → Line (stmt_reading.stmt (parts_of_stmt (firsts_of_stmt y))).needs
  stmt-layer (layer.Local final t name value at) = declaration final t name (read_rhs value) at (rhs-fresh passes names env calm value)
  stmt-layer (layer.Assign what o value at) = simply (λ w. assignment_needs o what (read_rhs value) at) (λ w. assigned o what (read_rhs value) at (rhs-fresh passes names env calm value))
  stmt-layer (layer.Ignore value at) = simply (λ w. freely (read_rhs value) & one (Performs perform.Ignore 1 at)) (λ w. ignored (read_rhs value) at (rhs-fresh passes names env calm value))
  stmt-layer (layer.Rhs value at) = simply (λ w. freely (read_rhs value) & one (IsIgnorable at) & one (Performs perform.Evaluate 1 at)) (λ w. evaluated (read_rhs value) at (rhs-fresh passes names env calm value))
  stmt-layer (layer.«Stmt::If» s) = s.1.sees
  stmt-layer (layer.While c body at) = exactly (λ w. while_needs (read_expr c.value) (read_block body.0) at) (while (read_expr c.value) (read_block body.0) at (expr-fresh passes names env calm c.value) body.1)
  stmt-layer (layer.Foreach t name from range body at) =
      exactly (λ w. foreach_needs t name (read_expr from.value) range (read_block body.0) at) (foreach t name (read_expr from.value) range (read_block body.0) at (expr-fresh passes names env calm from.value) body.1)
  stmt-layer (layer.Match value clauses at) =
      exactly (match_needs (read_expr value.value) (map read_clause (map (λ (x : AClause). x.0) clauses.items)) at)
      (matched (read_expr value.value) (map read_clause (map (λ (x : AClause). x.0) clauses.items)) at (expr-fresh passes names env calm value.value) (clause-facts clauses.items))
  stmt-layer (layer.Return None at) = simply (λ w. return_needs None at) (λ w. nil-returned at)
  stmt-layer (layer.Return (Some value) at) = simply (λ w. return_needs (Some (read_rhs value)) at) (λ w. returned (read_rhs value) at (rhs-fresh passes names env calm value))
  stmt-layer (layer.Panic value at) = simply (λ w. against kind.AnyError (read_expr value.value) & one (Performs perform.Panic 1 at) & one Stops) (λ w. panicked (read_expr value.value) at (expr-fresh passes names env calm value.value))
  stmt-layer (layer.Break at) = simply (λ w. jump_needs (Breaks at) at w.loop) (λ w. jump (Breaks at) at w.loop (need-onward passes names env calm (Breaks at) (onward-breaks at)))
  stmt-layer (layer.Continue at) = simply (λ w. jump_needs (Continues at) at w.loop) (λ w. jump (Continues at) at w.loop (need-onward passes names env calm (Continues at) (onward-continues at)))
  stmt-layer (layer.«Stmt::Block» b) = λ w old new block run vs h.
      let f : BlockFacts (read_block b.0).needs = b.1 in
      let (m, rb, rm) = parted passes names env ((read_block b.0).needs w) (one (MakesBlock (read_block b.0).at)) old new run in
      hand-first vs new ((onward-makes-block (read_block b.0).at m new tt rm.0).sees vs (f.sees w old m block.unit rb vs h))

  block-sees : (y : Block-F AnElse AStmt ABlock AClause AnIfStmt) (w : Within) (old new : State) → HasUnit old → Runs ((stmt_reading.block (parts_of_block (firsts_of_block y))).needs w) old new
      → (vs : List Variable) → HandSees vs old → HandSees vs new
  block-sees y w old new unit run vs h =
      let ss : List StmtReading = map read_stmt (map (λ (x : AStmt). x.0) y.stmts.items) in
      enclosed (stmts_needs_from nothing (in_block w.loop) ss) (own-stmts ss (stmt-facts y.stmts.items) (in_block w.loop) nothing own-none) old new unit run vs h

  none-facts : BlockFacts (otherwise_needs None)
  none-facts =
      record {
        more = λ w old new unit run. (of-none passes names env old new unit run).more;
        sees = λ w old new unit run vs h. enclosed nothing own-none old new unit (with-nothing passes names env old new run) vs h;
      }

  else-facts : (y : Else-F AnElse AStmt ABlock AClause AnIfStmt) → BlockFacts (stmt_reading.else (parts_of_else (firsts_of_else y))).needs
  else-facts (layer.«Else::If» s) =
      let k : StmtFacts (read_if_stmt s.0).needs = s.1 in
      record {
        more = λ w old new unit run.
            (alone passes names env ((read_if_stmt s.0).needs w) (λ a b block r. stmt-within a b (if-goes s.0 w a b block r) (k.more w a b block r)) old new unit run).more;
        sees = λ w old new unit run vs h. enclosed ((read_if_stmt s.0).needs w) (own-one w (read_if_stmt s.0).needs k) old new unit run vs h;
      }
  else-facts (layer.«Else::Block» b) = b.1

  if-line : (y : IfStmt-F AnElse AStmt ABlock AClause AnIfStmt) → Line (stmt_reading.if_stmt (parts_of_if_stmt (firsts_of_if_stmt y))).needs
  if-line y = by y y.otherwise
    where
      by : (z : IfStmt-F AnElse AStmt ABlock AClause AnIfStmt) (second : Option (Box AnElse)) → Line (stmt_reading.if_stmt (parts_of_if_stmt (firsts_of_if_stmt (record z { otherwise = second })))).needs
      by z None = exactly (if_needs (read_expr z.condition.value) (read_block z.then.0) None z.at) (branched (read_expr z.condition.value) (read_block z.then.0).needs (otherwise_needs None) z.at (expr-fresh passes names env calm z.condition.value) z.then.1 none-facts)
      by z (Some e) =
          exactly (if_needs (read_expr z.condition.value) (read_block z.then.0) (Some (record { ptr = e.ptr; alloc = e.alloc; value = read_else e.value.0 })) z.at)
          (branched (read_expr z.condition.value) (read_block z.then.0).needs (read_else e.value.0).needs z.at (expr-fresh passes names env calm z.condition.value) z.then.1 e.value.1)

  -- ---- steps

  else-step : (x : Else-F Else Stmt Block Clause IfStmt) (y : Else-F AnElse AStmt ABlock AClause AnIfStmt) → firsts_of_else y ≡ x → ClaimElse (roll-Else x)
  else-step x y is = subst (λ z. ClaimElse (roll-Else z)) is (subst (λ (r : StmtReading). BlockFacts r.needs) (sym (rolled-else (firsts_of_else y))) (else-facts y))

  stmt-step : (x : Stmt-F Else Stmt Block Clause IfStmt) (y : Stmt-F AnElse AStmt ABlock AClause AnIfStmt) → firsts_of_stmt y ≡ x → ClaimStmt (roll-Stmt x)
  stmt-step x y is = subst (λ z. ClaimStmt (roll-Stmt z)) is
      (let whole : Stmt = roll-Stmt (firsts_of_stmt y) in
      record {
        more = λ w old new block run. (positions.stmt whole w).comes old new block (only-met passes names env ((read_stmt whole).needs w) old new run);
        sees = subst (λ (r : StmtReading). Line r.needs) (sym (rolled-stmt (firsts_of_stmt y))) (stmt-layer y);
      })

  block-step : (x : Block-F Else Stmt Block Clause IfStmt) (y : Block-F AnElse AStmt ABlock AClause AnIfStmt) → firsts_of_block y ≡ x → ClaimBlock (roll-Block x)
  block-step x y is = subst (λ z. ClaimBlock (roll-Block z)) is
      (let whole : Block = roll-Block (firsts_of_block y) in
      record {
        more = λ w old new unit run. (positions.block whole w).comes old new unit (only-met passes names env ((read_block whole).needs w) old new run);
        sees = subst (λ (r : StmtReading). Exact r.needs) (sym (rolled-block (firsts_of_block y))) (block-sees y);
      })

  clause-step : (x : Clause-F Else Stmt Block Clause IfStmt) (y : Clause-F AnElse AStmt ABlock AClause AnIfStmt) → firsts_of_clause y ≡ x → ClaimClause (roll-Clause x)
  clause-step x y is = subst (λ z. ClaimClause (roll-Clause z)) is
      (subst (λ (r : StmtReading). ClauseFacts r.needs) (sym (rolled-clause (firsts_of_clause y))) (clause y.patterns.items (read_block y.body.0) y.at y.body.1))

  if_stmt-step : (x : IfStmt-F Else Stmt Block Clause IfStmt) (y : IfStmt-F AnElse AStmt ABlock AClause AnIfStmt) → firsts_of_if_stmt y ≡ x → ClaimIfStmt (roll-IfStmt x)
  if_stmt-step x y is = subst (λ z. ClaimIfStmt (roll-IfStmt z)) is
      (let inner : IfStmt = roll-IfStmt (firsts_of_if_stmt y) in
      record {
        more = λ w old new block run. if-more inner w old new block run;
        sees = subst (λ (r : StmtReading). Line r.needs) (sym (rolled-if_stmt (firsts_of_if_stmt y))) (if-line y);
      })

  pub block-facts : (e : Block) → BlockFacts (read_block e).needs
  block-facts = ind-Block ClaimElse ClaimStmt ClaimBlock ClaimClause ClaimIfStmt else-step stmt-step block-step clause-step if_stmt-step

  pub else-known : (e : Else) → BlockFacts (read_else e).needs
  else-known = ind-Else ClaimElse ClaimStmt ClaimBlock ClaimClause ClaimIfStmt else-step stmt-step block-step clause-step if_stmt-step

  pub none-known : BlockFacts (otherwise_needs None)
  none-known = none-facts
