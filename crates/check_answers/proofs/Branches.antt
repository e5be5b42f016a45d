-- Branches and loops: two runs of each need agree.
use Rattle.std.proofs.Common.{◌≡◌, ◌&&◌, ℕ, Bool, true, List, [], ◌∷◌, Some, None, refl, ap, ◌∙◌}
use Rattle.std.specs.List.{AllZip}
use Rattle.bal_base.specs.declared.place.Place.{Place}
use Rattle.bal_base.specs.declared.text.Name.{Name}
use Rattle.bal_tree.specs.declared.name.Word.{Word}
use Rattle.bal_tree.specs.declared.stmt.RangeOp.{RangeOp}
use Rattle.checks.specs.Agreement.{AreTwins}
use Rattle.checks.specs.Checks.{◌▷◌}
use Rattle.flow_narrowing.specs.declared.flow.Flow.{Flow}
use Rattle.type_model.specs.declared.answers.Keys.TheVariants.{AnyIndex}
use Rattle.type_model.specs.declared.answers.TypeLimit.{TypeLimit}
use Rattle.type_model.specs.declared.atoms.AtomDef.{AtomDef}
use Rattle.type_model.specs.declared.basic.SemType.{SemType}
use Rattle.type_model.specs.declared.basic.Ty.{Ty}
use Rattle.type_model.specs.Calls.{Asked}
use Rattle.typed_tree.specs.declared.expr.TypedExpr.{TypedExpr}
use Rattle.typed_tree.specs.declared.stmt.RangeEnd.{RangeEnd}
use Rattle.typed_tree.specs.declared.stmt.Source.{Source}
use Rattle.typed_tree.specs.declared.stmt.TypedStmt.{TypedStmt}
use Rattle.typed_tree.specs.Exprs.{type_of}
use Rattle.typed_tree.specs.Listed.{◌&◌}
use Rattle.typed_tree.specs.SharedTypes.{sem_of}
use Rattle.expr_needs.specs.declared.kind.Kind.{Kind}
use Rattle.expr_needs.specs.declared.kind.Kind.TheVariants as kind
use Rattle.check_words.specs.Branches.{at_head, behind, has_item, heads, is_counter, is_item_of_loop, item_type_at, item_variable, kind_slot, makes_foreach, makes_if, makes_range, makes_while, opens_loop, range_end, wants_counter, widens_item}
use Rattle.check_words.specs.State.{BlockAtWork, State, with_type}
use Rattle.check_words.specs.Statements.{adds_stmt, closes_block, takes_part}
use Rattle.check_words.specs.StmtViews.{IsForeach, IsIf, IsListSource, IsRangeSource, IsWhile}
use Rattle.check_words.specs.Words.{Atoms, Step, closes_choice, sem, sets_flow}
use Rattle.check_answers.specs.Pieces as say
use Rattle.check_answers.specs.Pieces.{SamePieces, expr_pieces, says, source_pieces}
use Rattle.check_answers.specs.TwinStates.{BlockTwins, ChoiceTwins, FlowTwins, PartTwins, SharedTwins, StmtTwins, VariableTwins}
use Rattle.check_answers.specs.TwinTypes.{TwinTypes}
use Rattle.check_answers.proofs.Fixed.{These, these-choice-closed, these-flow}
use Rattle.check_answers.proofs.Keeping.{WithParts, keeps-block, keeps-choice, keeps-flow, leads-parts, part-kept}
use Rattle.check_answers.proofs.Leading.{Any2, Leads, Pairs, leads-from, leads-over, leads-some, leads-then}
use Rattle.check_answers.proofs.Meanings.{kinds-twin}
use Rattle.check_answers.proofs.MemberReads.{member-at-leads, plain-twins}
use Rattle.check_answers.proofs.Narrowing.{flow-retyped}
use Rattle.check_answers.proofs.Questions.{Before, Behind, D, Equal, W, before-atoms, before-behind, below-leads}
use Rattle.check_answers.proofs.SameTrees.{whole-same}
use Rattle.check_answers.proofs.Statements.{adds-stmt-leads, closes-block-leads, has-local-leads, pieces-equal, stmts-same, takes-part-leads, takes-want-leads}
use Rattle.check_answers.proofs.StmtWriting.{foreach-written, if-written, while-written}
use Rattle.check_answers.proofs.Values.{joins-leads, wants-some-weak, wants-weak, widened-leads}
use Rattle.check_answers.proofs.Words.{changes-flow-leads, closes-choice-leads, flow-leads, new-slot-leads, opens-choice-leads, part-leads, sets-flow-leads, takes-leads, two-leads, wanted-leads}
use Rattle.check_answers.proofs.Zips.{zip-last}

module _ (m n : Atoms) where
  abbrev B : Pairs
  B = Before m n

  abbrev A : Pairs
  A = Behind m n

  abbrev E : Ty → Ty → Type 0
  E = D m n

  abbrev V : Ty → Ty → Type 0
  V = W m n

  abbrev PartsD : TypedExpr → TypedExpr → Type 0
  PartsD = PartTwins E E

  -- ---- branches

  if-same : (e f : TypedExpr) (b c d g : BlockAtWork) (at : Place) (s t : TypedStmt) → PartsD e f → BlockTwins E b d → BlockTwins E c g
      → IsIf e b.stmts c.stmts at s → IsIf f d.stmts g.stmts at t → StmtTwins E s t
  if-same e f b c d g at s t h k i x y =
      pieces-equal E _ _ _ _ (if-written e b.stmts c.stmts at s x) (if-written f d.stmts g.stmts at t y)
      (refl, (whole-same E e f h, (stmts-same m n b.stmts d.stmts k.stmts, stmts-same m n c.stmts g.stmts i.stmts)))

  abbrev Closing : Place → Step
  Closing at = closes_block ▷ λ second. closes_block ▷ λ first. takes_part ▷ λ condition. adds_stmt (IsIf condition first.stmts second.stmts at)

  module _ (es fs : List TypedExpr) (parts : AllZip PartsD es fs) where
    abbrev P : Pairs
    P = WithParts es fs B

    abbrev N : Pairs
    N = WithParts es fs A

    closing : (at : Place) → Leads N A Any2 (Closing at) (Closing at)
    closing at =
        leads-then N N A (BlockTwins E) Any2 _ _ _ _ (leads-parts es fs A A (BlockTwins E) closes_block closes_block keeps-block keeps-block (closes-block-leads m n V))
        (λ c d h. leads-then N N A (BlockTwins E) Any2 _ _ _ _
        (leads-parts es fs A A (BlockTwins E) closes_block closes_block keeps-block keeps-block (closes-block-leads m n V))
        (λ b g k. leads-then N A A PartsD Any2 _ _ _ _ (part-kept m n E V es fs parts)
        (λ e f i. adds-stmt-leads m n V _ _ (λ s t x y. if-same e f b c g d at s t i k h x y))))

    -- the flow becomes one with wider types
    pub sets-wider : (a b : Flow) → FlowTwins E V a b → Leads P N Any2 (sets_flow a) (sets_flow b)
    sets-wider a b h =
        leads-parts es fs B A Any2 (sets_flow a) (sets_flow b) (keeps-flow a) (keeps-flow b)
        (leads-from B A A Any2 _ _ (before-behind m n) (sets-flow-leads m n E V a b h))

  these-choice-kept : (s t : State) (p : B s t) → Leads (These s t) (P s.found t.found p.states.found) (ChoiceTwins E E) closes_choice closes_choice
  these-choice-kept s t p =
      leads-from (These s t) (WithParts s.found t.found (These s t)) (P s.found t.found p.states.found) (ChoiceTwins E E) _ _
      (λ i j e. (e, ap (λ (k : State). k.found) e.0, ap (λ (k : State). k.found) e.1))
      (leads-parts s.found t.found (These s t) B (ChoiceTwins E E) closes_choice closes_choice keeps-choice keeps-choice (these-choice-closed m n E E s t p))

  pub if-leads : (at : Place) (s t : State) → B s t → Leads (These s t) A Any2 (makes_if at) (makes_if at)
  if-leads at s t p =
      let es = s.found in let fs = t.found in let z = p.states.found in
      leads-then (These s t) (These s t) A (FlowTwins E E) Any2 _ _ _ _ (these-flow m n E E s t p)
      (λ f g h. leads-then (These s t) (P es fs z) A (ChoiceTwins E E) Any2 _ _ _ _ (these-choice-kept s t p)
      (λ c d k. leads-then (P es fs z) (P es fs z) A (FlowTwins E V) Any2 _ _ _ _
      (joins-leads m n (P es fs z) c.first f d.first g (λ i j q. before-atoms m n i j q.0) k.first h)
      (λ a b i. leads-then (P es fs z) (N es fs z) A Any2 Any2 _ _ _ _ (sets-wider es fs z a b i) (λ x y o. closing es fs z at))))

  -- ---- loops

  head-same : (ws : List Word) (f g : Flow) → FlowTwins E E f g → FlowTwins E E (at_head ws f) (at_head ws g)
  head-same [] f g h = h
  head-same (w ∷ ws) f g h = head-same ws (with_type w.name None f) (with_type w.name None g) (flow-retyped E E w.name None None f g h tt)

  pub heads-leads : (ws : List Word) → Leads B B Any2 (heads ws) (heads ws)
  heads-leads ws = changes-flow-leads m n E E _ _ (head-same ws)

  pub opens-loop-leads : Leads B B Any2 opens_loop opens_loop
  opens-loop-leads =
      leads-then B B B _ Any2 _ _ _ _ (flow-leads m n E E)
      (λ f g h. opens-choice-leads m n E E _ _ (record { before = h; other = h; first = h }))

  behind-same : (leaves : Bool) (f g : Flow) → FlowTwins E E f g → FlowTwins E E (behind leaves f) (behind leaves g)
  behind-same leaves f g h = record { variables = h.variables; reached = ap (λ b. b && leaves) h.reached }

  while-same : (e f : TypedExpr) (b d : BlockAtWork) (at : Place) (s t : TypedStmt) → PartsD e f → BlockTwins E b d → IsWhile e b.stmts at s
      → IsWhile f d.stmts at t → StmtTwins E s t
  while-same e f b d at s t h k x y =
      pieces-equal E _ _ _ _ (while-written e b.stmts at s x) (while-written f d.stmts at t y) (refl, (whole-same E e f h, stmts-same m n b.stmts d.stmts k.stmts))

  pub while-leads : (leaves : Bool) (at : Place) → Leads B B Any2 (makes_while leaves at) (makes_while leaves at)
  while-leads leaves at =
      leads-then B B B _ Any2 _ _ _ _ (closes-choice-leads m n E E)
      (λ c d h. leads-then B B B Any2 Any2 _ _ _ _ (sets-flow-leads m n E E _ _ (behind-same leaves c.before d.before h.before))
      (λ x y k. leads-then B B B (BlockTwins E) Any2 _ _ _ _ (closes-block-leads m n E)
      (λ b g i. leads-then B B B PartsD Any2 _ _ _ _ (takes-part-leads m n)
      (λ e f j. adds-stmt-leads m n E _ _ (λ s t p q. while-same e f b g at s t j i p q)))))

  pub has-item-leads : (name : Name) (assigned : Bool) → Leads B B Any2 (has_item name assigned) (has_item name assigned)
  has-item-leads name assigned =
      leads-then B B B _ Any2 _ _ _ _ (takes-want-leads m n)
      (λ t u h. leads-then B B B _ Any2 _ _ _ _ (new-slot-leads m n E E t u h)
      (λ k l e. has-local-leads m n name k l t u true assigned e h))

  item-leads : Leads B B (VariableTwins E E) item_variable item_variable
  item-leads =
      leads-then B B B _ (VariableTwins E E) _ _ _ _ (flow-leads m n E E)
      (λ f g h. leads-some B _ _ _ (λ s t a b p x y. zip-last (VariableTwins E E) f.variables g.variables a b h.variables x y))

  -- a slot for ints or the like, of a type that may be written otherwise
  slot-leads : (k : Kind) → Leads A A Equal (kind_slot k) (kind_slot k)
  slot-leads k =
      leads-then A A A (SharedTwins E V) Equal _ _ _ _
      (leads-over m n A _ _ _ (λ s t p. (p.first, p.second)) (λ t u x y. kinds-twin m n k t.value u.value x y))
      (λ t u h. new-slot-leads m n E V t u h)

  list-same : (own other : ℕ) (e f : TypedExpr) (o p : Source) → other ≡ own → PartsD e f → IsListSource own e o → IsListSource other f p
      → SamePieces E (source_pieces o) (source_pieces p)
  list-same own other e f o p i h (l, x, y) (k, v, w) =
      pieces-equal E (says (say.OverList own) & expr_pieces e) (says (say.OverList other) & expr_pieces f) (source_pieces o) (source_pieces p)
      (ap source_pieces x ∙ ap (λ j. says (say.OverList own) & expr_pieces j) y) (ap source_pieces v ∙ ap (λ j. says (say.OverList other) & expr_pieces j) w)
      (ap say.OverList i, whole-same E e f h)

  foreach-same : (k l : ℕ) (o p : Source) (b d : BlockAtWork) (at : Place) (s t : TypedStmt) → l ≡ k → SamePieces E (source_pieces o) (source_pieces p)
      → BlockTwins E b d → IsForeach k o b.stmts at s → IsForeach l p d.stmts at t → StmtTwins E s t
  foreach-same k l o p b d at s t e h i x y =
      pieces-equal E _ _ _ _ (foreach-written k o b.stmts at s x) (foreach-written l p d.stmts at t y)
      (ap (λ j. say.IsForeach j at) e, (h, stmts-same m n b.stmts d.stmts i.stmts))

  pub foreach-leads : (at : Place) → Leads B A Any2 (makes_foreach at) (makes_foreach at)
  foreach-leads at =
      leads-then B B A (VariableTwins E E) Any2 _ _ _ _ item-leads
      (λ v u h. leads-then B B A _ Any2 _ _ _ _ (closes-choice-leads m n E E)
      (λ c d k. leads-then B B A Any2 Any2 _ _ _ _ (sets-flow-leads m n E E c.before d.before k.before)
      (λ a1 a2 a3. leads-then B B A (BlockTwins E) Any2 _ _ _ _ (closes-block-leads m n E)
      (λ b g i. leads-then B B A PartsD Any2 _ _ _ _ (takes-part-leads m n)
      (λ e f j. leads-then B B A Equal Any2 _ _ _ _ (new-slot-leads m n E E (type_of e) (type_of f) j.ty)
      (λ own other o. leads-from B A A Any2 _ _ (before-behind m n) (leads-then A A A Equal Any2 _ _ _ _ (slot-leads kind.Integer)
      (λ index last q. leads-then A A A (λ x y. SamePieces E (source_pieces x) (source_pieces y)) Any2 _ _ _ _
      (leads-some A _ _ _ (λ s t x y p r w. list-same own other e f x y o j r w))
      (λ x y r. adds-stmt-leads m n V _ _ (λ s t p w. foreach-same v.slot u.slot x y b g at s t h.slot r i p w))))))))))

  range-same : (own other : ℕ) (end : RangeEnd) (a b c d : TypedExpr) (o p : Source) → other ≡ own → PartsD a c → PartsD b d → IsRangeSource own end a b o
      → IsRangeSource other end c d p → SamePieces E (source_pieces o) (source_pieces p)
  range-same own other end a b c d o p i h k (f, t, x, y, z) (g, u, v, w, r) =
      pieces-equal E (says (say.OverRange own end) & expr_pieces a & expr_pieces b) (says (say.OverRange other end) & expr_pieces c & expr_pieces d)
      (source_pieces o) (source_pieces p)
      (ap source_pieces x ∙ ap (λ j. says (say.OverRange own end) & expr_pieces j & expr_pieces t.value) y
      ∙ ap (λ j. says (say.OverRange own end) & expr_pieces a & expr_pieces j) z)
      (ap source_pieces v ∙ ap (λ j. says (say.OverRange other end) & expr_pieces j & expr_pieces u.value) w
      ∙ ap (λ j. says (say.OverRange other end) & expr_pieces c & expr_pieces j) r)
      (ap (λ j. say.OverRange j end) i, (whole-same E a c h, whole-same E b d k))

  pub range-leads : (op : RangeOp) (at : Place) → Leads B A Any2 (makes_range op at) (makes_range op at)
  range-leads op at =
      leads-then B B A (VariableTwins E E) Any2 _ _ _ _ item-leads
      (λ v u h. leads-then B B A _ Any2 _ _ _ _ (closes-choice-leads m n E E)
      (λ c d k. leads-then B B A Any2 Any2 _ _ _ _ (sets-flow-leads m n E E c.before d.before k.before)
      (λ a1 a2 a3. leads-then B B A (BlockTwins E) Any2 _ _ _ _ (closes-block-leads m n E)
      (λ b g i. leads-then B B A _ Any2 _ _ _ _ (two-leads m n E E)
      (λ p q j. leads-then B B A _ Any2 _ _ _ _ (takes-leads m n E E 2)
      (λ es fs zs. leads-from B A A Any2 _ _ (before-behind m n) (leads-then A A A Equal Any2 _ _ _ _ (slot-leads kind.Integer)
      (λ own other o. leads-then A A A Equal Any2 _ _ _ _ (slot-leads kind.Integer)
      (λ l1 l2 l3. leads-then A A A Equal Any2 _ _ _ _ (slot-leads kind.Truth)
      (λ r1 r2 r3. leads-then A A A (λ x y. SamePieces E (source_pieces x) (source_pieces y)) Any2 _ _ _ _
      (leads-some A _ _ _ (λ s t x y z r w. range-same own other (range_end op) p.0 p.1 q.0 q.1 x y o j.0 j.1 r w))
      (λ x y r. adds-stmt-leads m n V _ _ (λ s t z w. foreach-same v.slot u.slot x y b g at s t h.slot r i z w))))))))))))

  pub wants-counter-leads : Leads B A Any2 wants_counter wants_counter
  wants-counter-leads = wants-some-weak m n _ _ (kinds-twin m n kind.Integer)

  module _ (passes : List AtomDef → Asked → TypeLimit → Type 0) where
    abbrev TwinSems : SemType → SemType → Type 0
    TwinSems a b = AreTwins m a n b

    item-type-leads : (at : Place) → Leads B B TwinSems (item_type_at passes at) (item_type_at passes at)
    item-type-leads at =
        leads-then B B B PartsD TwinSems _ _ _ _ (part-leads m n E E)
        (λ e f h. member-at-leads m n passes (sem e) (sem f) AnyIndex AnyIndex at refl h.ty.twins.shapes)

    pub is-item-leads : (at : Place) → Leads B B Any2 (is_item_of_loop passes at) (is_item_of_loop passes at)
    is-item-leads at =
        leads-then B B B TwinSems Any2 _ _ _ _ (item-type-leads at)
        (λ a b h. leads-then B B B _ Any2 _ _ _ _ (wanted-leads m n E E)
        (λ t u k. below-leads passes m n B (before-atoms m n) a (sem_of t) b (sem_of u) (Some at) h k.twins.shapes))

    pub widens-item-leads : (at : Place) → Leads B A Any2 (widens_item passes at) (widens_item passes at)
    widens-item-leads at =
        leads-then B B A TwinSems Any2 _ _ _ _ (item-type-leads at)
        (λ a b h. leads-then B B A (SharedTwins E V) Any2 _ _ _ _
        (leads-over m n B _ _ _ (before-atoms m n) (λ t u x y. plain-twins m n a b t.value u.value h x y))
        (λ t u k. leads-then B B A (SharedTwins E V) Any2 _ _ _ _ (widened-leads m n passes t u at k)
        (λ v w i. wants-weak m n (Some v) (Some w) i)))

    pub is-counter-leads : (at : Place) → Leads B B Any2 (is_counter passes at) (is_counter passes at)
    is-counter-leads at =
        leads-then B B B _ Any2 _ _ _ _ (wanted-leads m n E E)
        (λ t u h. leads-then B B B (TwinTypes m n) Any2 _ _ _ _ (leads-over m n B _ _ _ (before-atoms m n) (kinds-twin m n kind.Integer))
        (λ a b k. below-leads passes m n B (before-atoms m n) a.sem (sem_of t) b.sem (sem_of u) (Some at) k.shapes h.twins.shapes))
