-- Loops over lists and ranges: what they go through, their variable, and what they keep.
use Rattle.std.proofs.Common.{true, Bool, List, Some, [], ap, arith, inl, inr, length, length-append, refl, subst, sym, ℕ, ◌++◌, ◌+◌, ◌∙◌, ◌∷◌, ◌≡◌}
use Rattle.std.proofs.lemmas.List.Elements.{Contains-get_or}
use Rattle.std.proofs.lemmas.Option.{get_or_from_slice_get, slice_get_within}
use Rattle.std.specs.Global.{Box, Vec}
use Rattle.std.specs.List.{AllZip}
use Rattle.std.specs.Prelude.{Contains, slice_get, option_map}
use Rattle.bal_base.specs.Valid.{IsValid}
use Rattle.bal_base.specs.declared.place.Place.{Place}
use Rattle.bal_base.specs.declared.shape.Shape.{Shape, Nil, Bool as BoolShape, Int, Str, List', Mapping', Error', Function, Future', items-the_row-Shape as shapes_in}
use Rattle.bal_base.specs.declared.text.Name.{Name}
use Rattle.bal_tree.specs.declared.stmt.RangeOp.TheVariants.{Through, Below}
use Rattle.bal_tree.specs.declared.stmt.RangeOp.{RangeOp}
use Rattle.check_words.specs.Branches.{has_item, item_variable, kind_slot, makes_foreach, makes_range, range_end}
use Rattle.check_words.specs.Kinds.{IsOfKind, IsWrittenSo, is_simple}
use Rattle.check_words.specs.Sharing.{SameShared, SameVariable}
use Rattle.check_words.specs.State.{AreLast, BlockAtWork, IsLast, State, UnitAtWork, replaced, with_variable}
use Rattle.check_words.specs.Statements.{local_variable}
use Rattle.check_words.specs.StmtViews.{IsForeach, IsListSource, IsRangeSource}
use Rattle.check_words.specs.Words.{OfKind}
use Rattle.checks.specs.Checks.{Gives, gives_some, ◌▷◌}
use Rattle.descriptors.specs.declared.names.Names.{Names}
use Rattle.expr_needs.specs.declared.kind.Kind.TheVariants as kind
use Rattle.expr_needs.specs.declared.kind.Kind.{Kind}
use Rattle.flow_narrowing.specs.declared.flow.Flow.{Flow}
use Rattle.flow_narrowing.specs.declared.flow.Variable.{Variable}
use Rattle.operations.specs.Kinds.{IsBoolean, IsInteger, IsList}
use Rattle.operations.specs.Rows.{IsWithin, ResultHas, StandsAtIndex, Surroundings}
use Rattle.tree_promises.specs.Laws.{MadeLoopsAreTyped}
use Rattle.tree_promises.specs.Made.{sem}
use Rattle.tree_promises.specs.MadeLoops.{MadeLoopIsTyped, Takes}
use Rattle.tree_promises.specs.MadeStmts.{AreTypedStmts, IsTypedStmt}
use Rattle.tree_promises.specs.Types.{IsTypedExpr}
use Rattle.type_model.proofs.DefinedLaws.{NamesBelow-more}
use Rattle.type_model.specs.Calls.{Asked, KeepsTypes}
use Rattle.type_model.specs.Defined.{IsDefined, NamesBelow}
use Rattle.type_model.specs.Inclusion.{HasExactly, Sub}
use Rattle.type_model.specs.Membership.{In}
use Rattle.type_model.specs.Parts.{StandsIn}
use Rattle.type_model.specs.declared.answers.Keys.TheVariants.{AnyIndex, Index}
use Rattle.type_model.specs.declared.answers.TypeLimit.{TypeLimit}
use Rattle.type_model.specs.declared.atoms.AtomDef.{AtomDef}
use Rattle.type_model.specs.declared.basic.SemType.{SemType}
use Rattle.type_model.specs.declared.basic.Ty.{Ty}
use Rattle.typed_needs.proofs.Opened.{exactly-later, same-lasts}
use Rattle.typed_needs.proofs.Placed.{last-same}
use Rattle.typed_needs.specs.Pieces.{IsBefore}
use Rattle.typed_needs.specs.Placing.{IsPlaced, IsStored}
use Rattle.typed_stmts.proofs.Branching.{one-gone, two-same}
use Rattle.typed_stmts.proofs.Words.{UnitSet, block-closed, choice-closed, flow-changed, flow-seen, flow-set, last-replaced, part-taken, parts-taken, placed-beside, placed-flow, placed-more, put-before, put-behind, put-from, put-weaker, slot-put, stmt-put, want-taken, with_flows, with_units}
use Rattle.typed_stmts.specs.Adding.{AddsStmt, AddsTyped}
use Rattle.typed_stmts.specs.Branched.{CountIsTyped, HasInts, HasItems, ItemIsDeclared, WalkIsTyped}
use Rattle.typed_tree.specs.Exprs.{type_of}
use Rattle.typed_tree.specs.SharedTypes.{Shared, sem_of}
use Rattle.typed_tree.specs.declared.expr.TypedExpr.{TypedExpr}
use Rattle.typed_tree.specs.declared.stmt.RangeEnd.TheVariants.{Included, Excluded}
use Rattle.typed_tree.specs.declared.stmt.RangeEnd.{RangeEnd}
use Rattle.typed_tree.specs.declared.stmt.Source.TheVariants as source
use Rattle.typed_tree.specs.declared.stmt.Source.{Source}
use Rattle.typed_tree.specs.declared.stmt.TypedStmt.TheOpen as layer
use Rattle.typed_tree.specs.declared.stmt.TypedStmt.{TypedStmt, out-TypedStmt}

-- ---- slots one behind another

zip-long : {A B : Type 0} (R : A → B → Type 0) (xs : List A) (ys : List B) → AllZip R xs ys → length ys ≡ length xs
zip-long R [] [] h = refl
zip-long R (x ∷ xs) (y ∷ ys) h = let more = zip-long R xs ys h.1 in omega (arith, more)
zip-long R [] (y ∷ ys) h = absurd h
zip-long R (x ∷ xs) [] h = absurd h

pub zip-last : {A B : Type 0} (R : A → B → Type 0) (xs : List A) (x : A) (ys : List B) → AllZip R (xs ++ x ∷ []) ys → (y : B) × IsLast ys y × R x y
zip-last R [] x (y ∷ []) h = (y, record { kept = []; is = refl }, h.0)
zip-last R [] x [] h = absurd h
zip-last R [] x (y ∷ z ∷ ys) h = absurd h.1
zip-last R (w ∷ xs) x (y ∷ ys) h = let (z, last, r) = zip-last R xs x ys h.1 in (z, record { kept = y ∷ last.kept; is = ap (λ l. y ∷ l) last.is }, r)
zip-last R (w ∷ xs) x [] h = absurd h

-- the next one has the next number
pub next-slot : (t u : Shared) (own next : ℕ) (a b c d : State) → (s : UnitSet a b (λ w. record w { slots = w.slots ++ t ∷ [] }) with_units) → own ≡ length s.was.slots
    → c.units ≡ b.units → (r : UnitSet c d (λ w. record w { slots = w.slots ++ u ∷ [] }) with_units) → next ≡ length r.was.slots → next ≡ own + 1
next-slot t u own next a b c d s is same r are =
    let units : c.units ≡ replaced a.units s.now = same ∙ ap (λ (x : State). x.units) s.all in
    let one : r.was ≡ s.now = last-same c.units r.was s.now r.before (subst (λ us. IsLast us s.now) (sym units) (last-replaced a.units s.now)) in
    let long : length s.now.slots ≡ length (s.was.slots ++ t ∷ []) = zip-long SameShared (s.was.slots ++ t ∷ []) s.now.slots s.same.slots in
    let more = length-append s.was.slots (t ∷ []) in
    let first : length r.was.slots ≡ length s.now.slots = ap (λ (w : UnitAtWork). length w.slots) one in
    omega (arith, is, are, long, more, first)

record KindSlot (k : Kind) (own : ℕ) (old new : State) : Type 0 where
  pub type : Shared
  pub of : OfKind k old.atoms type.value
  pub set : UnitSet old new (λ w. record w { slots = w.slots ++ type ∷ [] }) with_units
  pub number : own ≡ length set.was.slots

kind-slot-put : (k : Kind) (own : ℕ) (old new : State) → kind_slot k old (Gives own) new → KindSlot k own old new
unfolding ◌▷◌ gives_some
kind-slot-put k own old new (t, a, (of, e), slotted) =
    let (s, is) = slot-put t own a new slotted in
    record {
      type = t;
      of = of;
      set = record { was = s.was; now = s.now; before = subst (λ (x : State). IsLast x.units s.was) e s.before; same = s.same; all = s.all ∙ ap (λ (x : State). with_units x (replaced x.units s.now)) e };
      number = is;
    }

-- a type that names no atom has the same shapes over all
named-none : (n : ℕ) (t : SemType) → IsDefined [] t → NamesBelow n t
named-none n t defined = NamesBelow-more 0 n (omega arith) t defined

simple-later : (k : Kind) (old env : List AtomDef) (t : Ty) → KeepsTypes old env → is_simple k ≡ true → OfKind k old t → HasExactly env t.sem (IsOfKind k)
simple-later k old env t keeps simple (plain, written) =
    exactly-later env old (IsOfKind k) t.sem keeps (named-none (length old) t.sem (subst (λ b. IsWrittenSo b t.sem) simple written)) plain.shapes

-- ---- the variable of the loop

pub variable-seen : (v : Variable) (old new : State) → item_variable old (Gives v) new → (u : UnitAtWork) × IsLast old.units u × IsLast u.flow.variables v × (new ≡ old)
unfolding ◌▷◌ gives_some
variable-seen v old new (f, a, seen, (last, e2)) =
    let (w, hand, is, e1) = flow-seen f old a seen in
    (w, hand, subst (λ (g : Flow). IsLast g.variables v) is last, e2 ∙ e1)

item-declared-opened : (place : Surroundings) (name : Name) (assigned : Bool) (old new : State) → has_item name assigned old (Gives tt) new → IsPlaced place new
    → (t : Shared) × (v : Variable) × (u : UnitAtWork) × IsLast old.wants (Some t) × IsLast new.units u × IsLast u.flow.variables v × IsStored place v × (v.declared.value ≡ t.value)
unfolding ◌▷◌
item-declared-opened place name assigned old new (t, a, wanted, (slot, b, slotted, flowed)) placed =
    let (l1, e1) = want-taken t old a wanted in
    let (s2, is) = slot-put t slot a b slotted in
    let w : Variable = local_variable name slot t true assigned in
    let s3 = flow-changed (with_variable w) tt b new flowed in
    let units = ap (λ (x : State). x.units) s3.all in
    let (before, held) = placed-more place t slot a b s2 is (placed-flow place (λ u. with_variable w u.flow) with_flows b new s3 units placed) in
    let (v, last, same) = zip-last SameVariable s3.was.flow.variables w s3.now.flow.variables s3.same.flow.variables in (
      t,
      v,
      s3.now,
      l1,
      subst (λ us. IsLast us s3.now) (sym units) (last-replaced b.units s3.now),
      last,
      subst (λ n. slice_get place.slots n ≡ Some (sem_of v.declared)) (sym same.variable.slot) (held ∙ ap (λ (y : Ty). Some y.sem) (sym same.variable.declared)),
      same.variable.declared,
    )

-- ---- loops over lists

pub record WalkOpened (place : Surroundings) (at : Place) (old new : State) : Type 0 where
  pub list : TypedExpr
  pub body : BlockAtWork
  pub variable : Variable
  pub hand : UnitAtWork
  pub at_hand : IsLast old.units hand
  pub seen : IsLast hand.flow.variables variable
  pub own : ℕ
  pub int : Shared
  pub over : Source
  pub last_part : IsLast old.found list
  pub goes_over : IsListSource own list over
  pub held : slice_get place.slots own ≡ Some (sem list)
  pub counted : slice_get place.slots (own + 1) ≡ Some (sem_of int)
  pub is_int : OfKind kind.Integer new.atoms int.value
  pub put : AddsStmt (IsForeach variable.slot over body.stmts at) (body ∷ []) old new

pub walk-opened : (place : Surroundings) (at : Place) (old new : State) → makes_foreach at old (Gives tt) new → IsPlaced place new → WalkOpened place at old new
unfolding ◌▷◌ gives_some
walk-opened place at old new
    (v, s1, item, (c, s2, closed, (u, s3, flowed, (body, s4, close, (list, s5, taken, (own, s6, slotted, (index, s7, slotted', (over, s8, (source, e8), added)))))))) placed =
    let (w, hand, last, e1) = variable-seen v old s1 item in
    let (lc, e2) = choice-closed c s1 s2 closed in
    let f = flow-set c.before u s2 s3 flowed in
    let (l4, e4) = block-closed body s3 s4 close in
    let (l5, e5) = part-taken list s4 s5 taken in
    let (s, is) = slot-put (type_of list) own s5 s6 slotted in
    let k = kind-slot-put kind.Integer index s6 s7 slotted' in
    let P : TypedStmt → Type 0 = IsForeach v.slot over body.stmts at in
    let put = stmt-put P tt s8 new added in
    let at-7 = placed-beside place s7 new (ap (λ (x : State). x.units) put.all ∙ ap (λ (x : State). x.units) e8) placed in
    let (at-6, counted) = placed-more place k.type index s6 s7 k.set k.number at-7 in
    let (at-5, held) = placed-more place (type_of list) own s5 s6 s is at-6 in
    let next : index ≡ own + 1 = next-slot (type_of list) k.type own index s5 s6 s6 s7 s is refl k.set k.number in
    let found : s4.found ≡ old.found =
    ap (λ (x : State). x.found) e4 ∙ ap (λ (x : State). x.found) f.all ∙ ap (λ (x : State). x.found) e2 ∙ ap (λ (x : State). x.found) e1 in
    let before : s3.blocks ≡ old.blocks = ap (λ (x : State). x.blocks) f.all ∙ ap (λ (x : State). x.blocks) e2 ∙ ap (λ (x : State). x.blocks) e1 in
    let blocks : s8.blocks ≡ s4.blocks =
    ap (λ (x : State). x.blocks) e8 ∙ ap (λ (x : State). x.blocks) k.set.all ∙ ap (λ (x : State). x.blocks) s.all ∙ ap (λ (x : State). x.blocks) e5 in
    let atoms : new.atoms ≡ s6.atoms = ap (λ (x : State). x.atoms) put.all ∙ ap (λ (x : State). x.atoms) e8 ∙ ap (λ (x : State). x.atoms) k.set.all in
    record {
      list = list;
      body = body;
      variable = v;
      hand = w;
      at_hand = hand;
      seen = last;
      own = own;
      int = k.type;
      over = over;
      last_part = subst (λ xs. IsLast xs list) found l5;
      goes_over = source;
      held = held;
      counted = subst (λ n. slice_get place.slots n ≡ Some (sem_of k.type)) next counted;
      is_int = subst (λ xs. OfKind kind.Integer xs k.type.value) (sym atoms) k.of;
      put = put-before P (body ∷ []) old s3 new before (put-behind P [] body s3 s4 new l4 (ap (λ (x : State). x.blocks) e4) (put-from P s4 s8 new blocks put));
    }

pub record CountOpened (place : Surroundings) (op : RangeOp) (at : Place) (old new : State) : Type 0 where
  pub from : TypedExpr
  pub to : TypedExpr
  pub body : BlockAtWork
  pub variable : Variable
  pub hand : UnitAtWork
  pub at_hand : IsLast old.units hand
  pub seen : IsLast hand.flow.variables variable
  pub own : ℕ
  pub next : Shared
  pub last : Shared
  pub left : Shared
  pub over : Source
  pub last_parts : AreLast old.found 2 (from ∷ to ∷ [])
  pub goes_over : IsRangeSource own (range_end op) from to over
  pub next_held : slice_get place.slots own ≡ Some (sem_of next)
  pub last_held : slice_get place.slots (own + 1) ≡ Some (sem_of last)
  pub left_held : slice_get place.slots (own + 2) ≡ Some (sem_of left)
  pub is_next : OfKind kind.Integer new.atoms next.value
  pub is_last : OfKind kind.Integer new.atoms last.value
  pub is_left : OfKind kind.Truth new.atoms left.value
  pub put : AddsStmt (IsForeach variable.slot over body.stmts at) (body ∷ []) old new

pub count-opened : (place : Surroundings) (op : RangeOp) (at : Place) (old new : State) → makes_range op at old (Gives tt) new → IsPlaced place new → CountOpened place op at old new
unfolding ◌▷◌ gives_some
count-opened place op at old new
    (v, s1, item, (c, s2, closed, (u, s3, flowed, (body, s4, close, (p, s5, (pair, e5), (ps, s6, taken, (own, s7, first, (two, s8, second, (three, s9, third, (over, s10, (source, e10), added))))))))))
    placed =
    let (w, hand, last, e1) = variable-seen v old s1 item in
    let (lc, e2) = choice-closed c s1 s2 closed in
    let f = flow-set c.before u s2 s3 flowed in
    let (l4, e4) = block-closed body s3 s4 close in
    let (l6, e6) = parts-taken 2 ps s5 s6 taken in
    let k = kind-slot-put kind.Integer own s6 s7 first in
    let l = kind-slot-put kind.Integer two s7 s8 second in
    let m = kind-slot-put kind.Truth three s8 s9 third in
    let P : TypedStmt → Type 0 = IsForeach v.slot over body.stmts at in
    let put = stmt-put P tt s10 new added in
    let at-9 = placed-beside place s9 new (ap (λ (x : State). x.units) put.all ∙ ap (λ (x : State). x.units) e10) placed in
    let (at-8, left-held) = placed-more place m.type three s8 s9 m.set m.number at-9 in
    let (at-7, last-held) = placed-more place l.type two s7 s8 l.set l.number at-8 in
    let (at-6, next-held) = placed-more place k.type own s6 s7 k.set k.number at-7 in
    let second-next : two ≡ own + 1 = next-slot k.type l.type own two s6 s7 s7 s8 k.set k.number refl l.set l.number in
    let third-next : three ≡ two + 1 = next-slot l.type m.type two three s7 s8 s8 s9 l.set l.number refl m.set m.number in
    let found : s4.found ≡ old.found =
    ap (λ (x : State). x.found) e4 ∙ ap (λ (x : State). x.found) f.all ∙ ap (λ (x : State). x.found) e2 ∙ ap (λ (x : State). x.found) e1 in
    let before : s3.blocks ≡ old.blocks = ap (λ (x : State). x.blocks) f.all ∙ ap (λ (x : State). x.blocks) e2 ∙ ap (λ (x : State). x.blocks) e1 in
    let blocks : s10.blocks ≡ s4.blocks =
    ap (λ (x : State). x.blocks) e10 ∙ ap (λ (x : State). x.blocks) m.set.all ∙ ap (λ (x : State). x.blocks) l.set.all ∙ ap (λ (x : State). x.blocks) k.set.all
    ∙ ap (λ (x : State). x.blocks) e6 ∙ ap (λ (x : State). x.blocks) e5 in
    let to-8 : new.atoms ≡ s8.atoms = ap (λ (x : State). x.atoms) put.all ∙ ap (λ (x : State). x.atoms) e10 ∙ ap (λ (x : State). x.atoms) m.set.all in
    let to-7 : new.atoms ≡ s7.atoms = to-8 ∙ ap (λ (x : State). x.atoms) l.set.all in
    let to-6 : new.atoms ≡ s6.atoms = to-7 ∙ ap (λ (x : State). x.atoms) k.set.all in
    record {
      from = p.0;
      to = p.1;
      body = body;
      variable = v;
      hand = w;
      at_hand = hand;
      seen = last;
      own = own;
      next = k.type;
      last = l.type;
      left = m.type;
      over = over;
      last_parts = subst (λ xs. AreLast xs 2 (p.0 ∷ p.1 ∷ [])) found pair;
      goes_over = source;
      next_held = next-held;
      last_held = subst (λ n. slice_get place.slots n ≡ Some (sem_of l.type)) second-next last-held;
      left_held = subst (λ n. slice_get place.slots n ≡ Some (sem_of m.type)) (omega (arith, second-next, third-next)) left-held;
      is_next = subst (λ xs. OfKind kind.Integer xs k.type.value) (sym to-6) k.of;
      is_last = subst (λ xs. OfKind kind.Integer xs l.type.value) (sym to-7) l.of;
      is_left = subst (λ xs. OfKind kind.Truth xs m.type.value) (sym to-8) m.of;
      put = put-before P (body ∷ []) old s3 new before (put-behind P [] body s3 s4 new l4 (ap (λ (x : State). x.blocks) e4) (put-from P s4 s10 new blocks put));
    }

-- what stands at some index stands at any
at-any : (n : ℕ) (whole part : Shape) → StandsIn (Index n) whole part → StandsIn AnyIndex whole part
at-any n (List' mark _ items) part at =
    let xs = shapes_in _ items in
    subst (Contains xs) (get_or_from_slice_get xs n part part at) (Contains-get_or xs n part (slice_get_within xs n part at))
at-any n Nil part at = absurd at
at-any n (BoolShape b) part at = absurd at
at-any n (Int i) part at = absurd at
at-any n (Str t) part at = absurd at
at-any n (Mapping' mark _ fields) part at = absurd at
at-any n (Error' _ detail) part at = absurd at
at-any n (Function isolated graph) part at = absurd at
at-any n (Future' _ results) part at = absurd at

module _ (passes : List AtomDef → Asked → TypeLimit → Type 0) (names : Names) (env : List AtomDef) (place : Surroundings) where
  -- whatever an index names of the list is one of its items
  item-at : (list : TypedExpr) (int t : SemType) → HasItems passes names env place list t → (x : Shape) → IsValid x → StandsAtIndex env (sem list) int x → In env x t
  item-at list int t has x valid (keys, inl (n, single, is), (whole, shape, stands)) =
      has x valid (whole, shape, at-any n whole x (subst (λ k. StandsIn k whole x) is stands))
  item-at list int t has x valid (keys, inr (none, is), (whole, shape, stands)) = has x valid (whole, shape, subst (λ k. StandsIn k whole x) is stands)

  pub item-declared : ItemIsDeclared passes names env place
  item-declared name assigned old new t met want placed =
      let (u, v, w, last, hand, seen, stored, same) = item-declared-opened place name assigned old new met placed in
      let one : Some u ≡ Some t = last-same old.wants (Some u) (Some t) last want in
      let value : Some u.value ≡ Some t.value = ap (option_map (λ (y : Shared). y.value)) one in
      (v, (w, hand, seen), stored, same ∙ some-same u.value t.value value)
    where
      some-same : (s t : Ty) → Some s ≡ Some t → s ≡ t
      some-same s t e = let q : s ≡ t = cc in q

  module _ (made : MadeLoopsAreTyped) (inside : Bool) where
    pub walk-typed : WalkIsTyped passes names env place inside
    walk-typed at old new list b v truth after booleans met last typed is-list (u, hand, seen) stored has block body placed =
        let o = walk-opened place at old new met placed in
        let P : TypedStmt → Type 0 = IsForeach o.variable.slot o.over o.body.stmts at in
        let el : list ≡ o.list = last-same old.found list o.list last o.last_part in
        let eb : b ≡ o.body = one-gone P o.body b old new o.put block in
        let eu : u ≡ o.hand = last-same old.units u o.hand hand o.at_hand in
        let ev : v ≡ o.variable = last-same o.hand.flow.variables v o.variable (subst (λ (w : UnitAtWork). IsLast w.flow.variables v) eu seen) o.seen in
        let exact : HasExactly env (sem_of o.int) IsInteger = simple-later kind.Integer new.atoms env o.int.value after.keeps refl o.is_int in
        let declared : SemType = sem_of o.variable.declared in
        let list-of : IsWithin env IsList (sem o.list) = subst (λ (x : TypedExpr). IsWithin env IsList (sem x)) el is-list in
        let ints : IsWithin env IsInteger (sem_of o.int) = λ x i. (exact x i.0).0 i.1 in
        let has-ints : ResultHas env (Some (sem_of o.int)) IsInteger = λ x valid i. (exact x valid).1 i in
        let items : HasItems passes names env place o.list declared =
        subst (λ (y : TypedExpr). HasItems passes names env place y declared) el (subst (λ (y : Variable). HasItems passes names env place list (sem_of y.declared)) ev has) in
        let takes : Takes env place o.variable.slot declared = (declared, subst (λ (y : Variable). IsStored place y) ev stored, λ x valid i. i) in
        let (box, over, value) = o.goes_over in
        subst (λ x. AddsTyped env place inside (x ∷ []) old new) (sym eb)
        (put-weaker P (IsTypedStmt env place inside) (o.body ∷ []) old new
        (λ s (vec, is, stmts). let p : MadeLoopIsTyped env place truth inside s at = made env place inside truth s at in
        p.over_list o.variable.slot o.own box vec (sem o.list) (sem_of o.int) declared booleans (is ∙ ap (λ y. layer.Foreach o.variable.slot y vec at) over)
        (subst (λ x. IsTypedExpr env place x) (el ∙ sym value) typed) o.held (subst (λ (x : TypedExpr). Sub env (sem x) (sem o.list)) (sym value) (λ x valid i. i)) (o.counted, exact)
        (refl, (list-of, (refl, has-ints))) (list-of, ints, item-at o.list (sem_of o.int) declared items) takes
        (subst (λ xs. AreTypedStmts env place true xs) (ap (λ (x : BlockAtWork). x.stmts) eb ∙ sym stmts) body)) o.put)

    -- `ends`: whether the end is included
    range-typed : (op : RangeOp) (at : Place) (old new : State) (o : CountOpened place op at old new) → IsBefore env new → IsTypedExpr env place o.from → IsTypedExpr env place o.to
        → IsWithin env IsInteger (sem o.from) → IsWithin env IsInteger (sem o.to) → IsStored place o.variable → HasInts passes names env place (sem_of o.variable.declared)
        → AreTypedStmts env place true o.body.stmts → (s : TypedStmt) (vec : Vec TypedStmt) → out-TypedStmt s ≡ layer.Foreach o.variable.slot o.over vec at → vec.items ≡ o.body.stmts
        → IsTypedStmt env place inside s
    range-typed op at old new o after typed typed' ints ints' stored has body s vec is stmts =
        let next : HasExactly env (sem_of o.next) IsInteger = simple-later kind.Integer new.atoms env o.next.value after.keeps refl o.is_next in
        let last : HasExactly env (sem_of o.last) IsInteger = simple-later kind.Integer new.atoms env o.last.value after.keeps refl o.is_last in
        let left : HasExactly env (sem_of o.left) IsBoolean = simple-later kind.Truth new.atoms env o.left.value after.keeps refl o.is_left in
        let (f, t, over, is-from, is-to) = o.goes_over in
        let p : MadeLoopIsTyped env place (sem_of o.left) inside s at = made env place inside (sem_of o.left) s at in
        let from-typed : IsTypedExpr env place f.value = subst (λ x. IsTypedExpr env place x) (sym is-from) typed in
        let to-typed : IsTypedExpr env place t.value = subst (λ x. IsTypedExpr env place x) (sym is-to) typed' in
        let from-below : Sub env (sem f.value) (sem_of o.next) = subst (λ (e : TypedExpr). Sub env (sem e) (sem_of o.next)) (sym is-from) (λ x valid i. (next x valid).1 (ints x (valid, i))) in
        let to-below : Sub env (sem t.value) (sem_of o.last) = subst (λ (e : TypedExpr). Sub env (sem e) (sem_of o.last)) (sym is-to) (λ x valid i. (last x valid).1 (ints' x (valid, i))) in
        let takes : Takes env place o.variable.slot (sem_of o.next) = (sem_of o.variable.declared, stored, λ x valid i. has x valid ((next x valid).0 i)) in
        let block : AreTypedStmts env place true vec.items = subst (λ xs. AreTypedStmts env place true xs) (sym stmts) body in
        let tree : out-TypedStmt s ≡ layer.Foreach o.variable.slot (source.Range o.own (range_end op) f t) vec at = is ∙ ap (λ y. layer.Foreach o.variable.slot y vec at) over in
        by op f t tree (λ e. p.through_end o.variable.slot o.own f t vec (sem_of o.next) (sem_of o.last) left e from-typed to-typed (o.next_held, next) from-below (o.last_held, last) to-below o.left_held takes block)
        (λ e. p.below_end o.variable.slot o.own f t vec (sem_of o.next) (sem_of o.last) left e from-typed to-typed (o.next_held, next) from-below (o.last_held, last) to-below takes block)
      where
        Tree : RangeEnd → Box TypedExpr → Box TypedExpr → Type 0
        Tree e f t = out-TypedStmt s ≡ layer.Foreach o.variable.slot (source.Range o.own e f t) vec at

        by : (op : RangeOp) (f t : Box TypedExpr) → Tree (range_end op) f t → (Tree Included f t → IsTypedStmt env place inside s) → (Tree Excluded f t → IsTypedStmt env place inside s)
            → IsTypedStmt env place inside s
        by Through f t e through below = through e
        by Below f t e through below = below e

    pub count-typed : CountIsTyped passes names env place inside
    count-typed op at old new from to b v after met lasts typed typed' ints ints' (u, hand, seen) stored has block body placed =
        let o = count-opened place op at old new met placed in
        let P : TypedStmt → Type 0 = IsForeach o.variable.slot o.over o.body.stmts at in
        let (ef, et) = two-same from to o.from o.to (same-lasts old.found 2 (from ∷ to ∷ []) (o.from ∷ o.to ∷ []) lasts o.last_parts) in
        let eb : b ≡ o.body = one-gone P o.body b old new o.put block in
        let eu : u ≡ o.hand = last-same old.units u o.hand hand o.at_hand in
        let ev : v ≡ o.variable = last-same o.hand.flow.variables v o.variable (subst (λ (w : UnitAtWork). IsLast w.flow.variables v) eu seen) o.seen in
        subst (λ x. AddsTyped env place inside (x ∷ []) old new) (sym eb)
        (put-weaker P (IsTypedStmt env place inside) (o.body ∷ []) old new
        (λ s (vec, is, stmts). range-typed op at old new o after (subst (λ x. IsTypedExpr env place x) ef typed) (subst (λ x. IsTypedExpr env place x) et typed')
        (subst (λ (x : TypedExpr). IsWithin env IsInteger (sem x)) ef ints) (subst (λ (x : TypedExpr). IsWithin env IsInteger (sem x)) et ints')
        (subst (λ (y : Variable). IsStored place y) ev stored) (subst (λ (y : Variable). HasInts passes names env place (sem_of y.declared)) ev has)
        (subst (λ (x : BlockAtWork). AreTypedStmts env place true x.stmts) eb body) s vec is stmts) o.put)
