-- Assignments with an operator to members.
use Rattle.std.proofs.Common.{Bool, List, None, Some, [], ap, append-nil, append_assoc, refl, subst, sym, ℕ, ◌++◌, ◌+◌, ◌∙◌, ◌∷◌, ◌≡◌}
use Rattle.std.specs.Prelude.{slice_get}
use Rattle.bal_base.specs.declared.place.Place.{Place}
use Rattle.bal_tree.specs.declared.name.Word.{Word}
use Rattle.bal_tree.specs.declared.stmt.AssignOp.{AssignOp}
use Rattle.check_words.specs.Members.{container_kind, index_kind, read_of, takes_access}
use Rattle.check_words.specs.State.{AreLast, IsLast, State}
use Rattle.check_words.specs.Statements.{keeps_two, result_fits, takes_operator, update_operator, updates, updates_member}
use Rattle.check_words.specs.StmtViews.{IsMemberTarget, IsUpdate}
use Rattle.check_words.specs.Words.{Step, takes}
use Rattle.check_words.specs.declared.access.Access.TheVariants.{Char, Item, Key}
use Rattle.check_words.specs.declared.access.Access.{Access}
use Rattle.checks.specs.Checks.{Gives, gives_some, ◌▷◌}
use Rattle.descriptors.specs.declared.names.Names.{Names}
use Rattle.eval_model.specs.Statements.{reads_member, sets_member}
use Rattle.eval_model.specs.Walk.{OpsOver}
use Rattle.held_operations.specs.Constructs.{operator_operations}
use Rattle.operations.specs.Kinds.{IsBoolean}
use Rattle.operations.specs.Rows.{Surroundings}
use Rattle.operations.specs.Typing.{OpTyped}
use Rattle.operations.specs.declared.operation.Operation.TheVariants.{GetField, GetItem, GetKey, Load}
use Rattle.operations.specs.declared.operation.Operation.{Operation}
use Rattle.tree_promises.proofs.Order.{types-itself}
use Rattle.tree_promises.proofs.Rows.{does-row, load-given}
use Rattle.tree_promises.specs.Laws.{MadeLoopsAreTyped, MadeStatementsAreTyped}
use Rattle.tree_promises.specs.Made.{AreTypedExprs, LeadsTo, sem}
use Rattle.tree_promises.specs.MadeLoops.{MadeLoopIsTyped}
use Rattle.tree_promises.specs.MadeStmts.{IsTypedStmt}
use Rattle.tree_promises.specs.Types.{DoesTypes, IsTypedExpr, type_ways}
use Rattle.type_model.specs.Calls.{Asked}
use Rattle.type_model.specs.Inclusion.{HasExactly, Sub}
use Rattle.type_model.specs.declared.answers.TypeLimit.{TypeLimit}
use Rattle.type_model.specs.declared.atoms.AtomDef.{AtomDef}
use Rattle.type_model.specs.declared.basic.SemType.{SemType}
use Rattle.typed_needs.proofs.Opened.{same-lasts}
use Rattle.typed_needs.proofs.Placed.{last-same}
use Rattle.typed_needs.specs.Asked.{IsOfIt}
use Rattle.typed_needs.specs.Pieces.{IsBefore}
use Rattle.typed_needs.specs.Placing.{IsPlaced}
use Rattle.typed_stmts.proofs.ElementReads.{field-read, member-read, structure-chosen}
use Rattle.typed_stmts.proofs.Looping.{next-slot}
use Rattle.typed_stmts.proofs.NameUpdates.{leads-so, result-under, same-three}
use Rattle.typed_stmts.proofs.Updating.{operator-taken, result-taken, update-fits}
use Rattle.typed_stmts.proofs.Words.{StmtPut, access-taken, parts-taken, placed-beside, placed-more, put-before, put-from, put-weaker, slot-put, stmt-put}
use Rattle.typed_stmts.specs.Adding.{AddsStmt, AddsTyped}
use Rattle.typed_stmts.specs.Elements.{ElementUpdateIsTyped, ElementsAreTyped, FieldUpdateIsTyped, HasAllThere, IsStructure}
use Rattle.typed_stmts.specs.Stored.{AllMayStand}
use Rattle.typed_stmts.specs.Updated.{UpdateFits}
use Rattle.typed_tree.specs.Exprs.{type_of}
use Rattle.typed_tree.specs.SharedTypes.{Shared, sem_of}
use Rattle.typed_tree.specs.declared.expr.TypedExpr.{TypedExpr}
use Rattle.typed_tree.specs.declared.form.Operator.{Operator}
use Rattle.typed_tree.specs.declared.form.Read.TheVariants as member
use Rattle.typed_tree.specs.declared.form.Read.{Read}
use Rattle.typed_tree.specs.declared.stmt.TypedStmt.TheOpen as layer
use Rattle.typed_tree.specs.declared.stmt.UpdateTarget.{UpdateTarget}

-- ---- what is kept

record TwoKept (place : Surroundings) (container key : TypedExpr) (own : ℕ) (old new : State) : Type 0 where
  pub held : slice_get place.slots own ≡ Some (sem container)
  pub named : slice_get place.slots (own + 1) ≡ Some (sem key)
  pub blocks : new.blocks ≡ old.blocks

two-kept : (place : Surroundings) (container key : TypedExpr) (own : ℕ) (old new : State) → keeps_two container key old (Gives own) new → IsPlaced place new
    → TwoKept place container key own old new
unfolding ◌▷◌ gives_some
two-kept place container key own old new (first, a, one, (next, b, two, (is, e))) placed =
    let (s, n) = slot-put (type_of container) first old a one in
    let (r, m) = slot-put (type_of key) next a b two in
    let at-b = placed-beside place b new (ap (λ (x : State). x.units) e) placed in
    let (at-a, named) = placed-more place (type_of key) next a b r m at-b in
    let (at-old, held) = placed-more place (type_of container) first old a s n at-a in
    let behind : next ≡ first + 1 = next-slot (type_of container) (type_of key) first next old a a b s n refl r m in
    record {
      held = subst (λ k. slice_get place.slots k ≡ Some (sem container)) (sym is) held;
      named = subst (λ k. slice_get place.slots k ≡ Some (sem key)) (behind ∙ ap (λ k. k + 1) (sym is)) named;
      blocks = ap (λ (x : State). x.blocks) e ∙ ap (λ (x : State). x.blocks) r.all ∙ ap (λ (x : State). x.blocks) s.all;
    }

update-put : (P : UpdateTarget → Type 0) (op : Operator) (value : TypedExpr) (at : Place) (u : Unit {0}) (old new : State) → updates P op value at old (Gives u) new
    → (what : UpdateTarget) × P what × StmtPut (IsUpdate what op value at) old new
unfolding ◌▷◌ gives_some
update-put P op value at u old new (what, a, (holds, e), added) =
    (what, holds, subst (λ (s : State). StmtPut (IsUpdate what op value at) s new) e (stmt-put (IsUpdate what op value at) u a new added))

pub record MemberPut (place : Surroundings) (how : Read) (of : Shared) (op : Operator) (parts : List TypedExpr) (at : Place) (old new : State) : Type 0 where
  pub container : TypedExpr
  pub key : TypedExpr
  pub value : TypedExpr
  pub parts_are : parts ≡ container ∷ key ∷ value ∷ []
  pub own : ℕ
  pub held : slice_get place.slots own ≡ Some (sem container)
  pub named : slice_get place.slots (own + 1) ≡ Some (sem key)
  pub what : UpdateTarget
  pub is : IsMemberTarget own how container key of what
  pub put : AddsStmt (IsUpdate what op value at) [] old new

member-put : (place : Surroundings) (how : Read) (of : Shared) (op : Operator) (parts : List TypedExpr) (at : Place) (old new : State)
    → updates_member how of op parts at old (Gives tt) new → IsPlaced place new → MemberPut place how of op parts at old new
unfolding ◌▷◌ gives_some
member-put place how of op parts at old new (p, a, (are, e1), (own, b, kept, updated)) placed =
    let (what, is, put) = update-put (IsMemberTarget own how p.0 p.1 of) op p.2 at tt b new updated in
    let two = two-kept place p.0 p.1 own a b kept (placed-beside place b new (ap (λ (x : State). x.units) put.all) placed) in
    record {
      container = p.0;
      key = p.1;
      value = p.2;
      parts_are = are;
      own = own;
      held = two.held;
      named = two.named;
      what = what;
      is = is;
      put = put-from (IsUpdate what op p.2 at) old b new (two.blocks ∙ ap (λ (x : State). x.blocks) e1) put;
    }

-- ---- the need

module _ (passes : List AtomDef → Asked → TypeLimit → Type 0) (names : Names) (env : List AtomDef) (place : Surroundings) where
  -- what members are read by, by what they are taken of
  abbrev updating : (Access → Read) → AssignOp → Place → Step
  updating how assign at =
      result_fits passes at ▷ λ read_type. takes_operator assign ▷ λ op. takes_access ▷ λ a. takes 3 ▷ λ parts. updates_member (how a) read_type op parts at

  pub record MemberUpdated (how : Access → Read) (assign : AssignOp) (at : Place) (old new : State) : Type 0 where
    pub read : Shared
    pub result : Shared
    pub stored : Shared
    pub lasts : AreLast old.wants 3 (Some stored ∷ Some read ∷ Some result ∷ [])
    pub under : Sub old.atoms (sem_of result) (sem_of stored)
    pub op : Operator
    pub ints : Bool
    pub last_sort : IsLast old.sorts ints
    pub is_op : update_operator assign ints op
    pub access : Access
    pub last_access : IsLast old.accesses access
    pub parts : List TypedExpr
    pub last_parts : AreLast old.found 3 parts
    pub before : State
    pub blocks : before.blocks ≡ old.blocks
    pub put : MemberPut place (how access) read op parts at before new

  pub member-updated : (how : Access → Read) (assign : AssignOp) (at : Place) (old new : State) → updating how assign at old (Gives tt) new → IsPlaced place new
      → MemberUpdated how assign at old new
  unfolding ◌▷◌
  member-updated how assign at old new (read, a, fits, (op, b, operator, (access, c, accessed, (parts, d, taken, updated)))) placed =
      let r = result-taken passes at read old a fits in
      let (ints, sort, is-op, e2) = operator-taken assign op a b operator in
      let (la, e3) = access-taken access b c accessed in
      let (lp, e4) = parts-taken 3 parts c d taken in
      record {
        read = read;
        result = r.result;
        stored = r.stored;
        lasts = r.lasts;
        under = r.under;
        op = op;
        ints = ints;
        last_sort = subst (λ xs. IsLast xs ints) (ap (λ (s : State). s.sorts) r.all) sort;
        is_op = is-op;
        access = access;
        last_access = subst (λ xs. IsLast xs access) (ap (λ (s : State). s.accesses) e2 ∙ ap (λ (s : State). s.accesses) r.all) la;
        parts = parts;
        last_parts = subst (λ xs. AreLast xs 3 parts) (ap (λ (s : State). s.found) e3 ∙ ap (λ (s : State). s.found) e2 ∙ ap (λ (s : State). s.found) r.all) lp;
        before = d;
        blocks = ap (λ (s : State). s.blocks) e4 ∙ ap (λ (s : State). s.blocks) e3 ∙ ap (λ (s : State). s.blocks) e2 ∙ ap (λ (s : State). s.blocks) r.all;
        put = member-put place (how access) read op parts at d new updated placed;
      }

  -- ---- what is loaded and read

  -- an operation behind one load, or two
  one-loaded : (own : ℕ) (op : Operation) (held r : SemType) → slice_get place.slots own ≡ Some held → OpTyped env place op (held ∷ []) (Some r)
      → LeadsTo env place (Load own ∷ op ∷ []) [] r
  one-loaded own op held r is row below =
      subst (λ z. OpsOver (type_ways env place) (Load own ∷ op ∷ []) z (below ++ r ∷ [])) (sym (append-nil below))
      (below ++ held ∷ [], load-given env place own below held held is (λ x valid i. i), (below ++ r ∷ [], does-row env place op below (held ∷ []) r row, types-itself env (below ++ r ∷ [])))

  two-loaded : (own : ℕ) (op : Operation) (held named r : SemType) → slice_get place.slots own ≡ Some held → slice_get place.slots (own + 1) ≡ Some named
      → OpTyped env place op (held ∷ named ∷ []) (Some r) → LeadsTo env place (Load own ∷ Load (own + 1) ∷ op ∷ []) [] r
  two-loaded own op held named r is are row below =
      subst (λ z. OpsOver (type_ways env place) (Load own ∷ Load (own + 1) ∷ op ∷ []) z (below ++ r ∷ [])) (sym (append-nil below)) (
        below ++ held ∷ [],
        load-given env place own below held held is (λ x valid i. i),
        (
          below ++ held ∷ named ∷ [],
          subst (λ z. DoesTypes env place (Load (own + 1)) (below ++ held ∷ []) z) (append_assoc below (held ∷ []) (named ∷ []))
              (load-given env place (own + 1) (below ++ held ∷ []) named named are (λ x valid i. i)),
          (below ++ r ∷ [], does-row env place op below (held ∷ named ∷ []) r row, types-itself env (below ++ r ∷ [])),
        ),
      )

  -- ---- the whole

  module _ (made : MadeStatementsAreTyped) (loops : MadeLoopsAreTyped) (inside : Bool) where
    reads-so : (access : Access) (own : ℕ) (a i : TypedExpr) (read : SemType) → IsStructure access → IsOfIt passes names env (container_kind access) a
        → IsOfIt passes names env (index_kind access) i → HasAllThere passes names env access a i read → slice_get place.slots own ≡ Some (sem a)
        → slice_get place.slots (own + 1) ≡ Some (sem i) → LeadsTo env place (reads_member (read_of access) own) [] read
    reads-so Char own a i read structure container key has held named = absurd structure
    reads-so Item own a i read structure container key has held named = two-loaded own GetItem (sem a) (sem i) read held named (container, key, has)
    reads-so Key own a i read structure container key has held named = two-loaded own GetKey (sem a) (sem i) read held named (container, key, has)

    sets-so : (access : Access) (a i : TypedExpr) (r stored : SemType) → IsStructure access → IsOfIt passes names env (container_kind access) a
        → IsOfIt passes names env (index_kind access) i → AllMayStand passes names env access a i stored → Sub env r stored
        → OpTyped env place (sets_member (read_of access)) (sem a ∷ sem i ∷ r ∷ []) None
    sets-so Char a i r stored structure container key fits under = absurd structure
    sets-so Item a i r stored structure container key fits under = ((container, key, λ x h. fits x h.0 (under x h.0 h.1)), refl)
    sets-so Key a i r stored structure container key fits under = ((container, key, λ x h. fits x h.0 (under x h.0 h.1)), refl)

    member-so : (how : Read) (own : ℕ) (a i e : TypedExpr) (read result : Shared) (op : Operator) (what : UpdateTarget) (at : Place) (truth : SemType) (old new : State)
        → AddsStmt (IsUpdate what op e at) [] old new → IsMemberTarget own how a i read what → AreTypedExprs env place (a ∷ i ∷ e ∷ [])
        → slice_get place.slots own ≡ Some (sem a) → slice_get place.slots (own + 1) ≡ Some (sem i) → LeadsTo env place (reads_member how own) [] (sem_of read)
        → LeadsTo env place (operator_operations op) (sem_of read ∷ sem e ∷ []) (sem_of result)
        → OpTyped env place (sets_member how) (sem a ∷ sem i ∷ sem_of result ∷ []) None → AddsTyped env place inside [] old new
    member-so how own a i e read result op what at truth old new put (c, k, is, container, key) typed held named reads leads sets =
        put-weaker (IsUpdate what op e at) (IsTypedStmt env place inside) [] old new
        (λ s (box, tree, value). let p : MadeLoopIsTyped env place truth inside s at = loops env place inside truth s at in
        p.member_updated own how c k read op box (sem a) (sem i) (sem_of read) (sem_of result) (tree ∙ ap (λ w. layer.Update w op box at) is)
        (subst (λ x. IsTypedExpr env place x) (sym container) typed.0) (subst (λ x. IsTypedExpr env place x) (sym key) typed.1.0)
        (subst (λ x. IsTypedExpr env place x) (sym value) typed.1.1.0) held (subst (λ (x : TypedExpr). Sub env (sem x) (sem a)) (sym container) (λ x valid h. h)) named
        (subst (λ (x : TypedExpr). Sub env (sem x) (sem i)) (sym key) (λ x valid h. h)) reads
        (subst (λ (x : TypedExpr). LeadsTo env place (operator_operations op) (sem_of read ∷ sem x ∷ []) (sem_of result)) (sym value) leads) sets) put

    three-same : (a b c x y z : TypedExpr) → a ∷ b ∷ c ∷ [] ≡ x ∷ y ∷ z ∷ [] → (a ≡ x) × (b ≡ y) × (c ≡ z)
    three-same a b c x y z e = ((let p : a ≡ x = cc in p), (let q : b ≡ y = cc in q), (let r : c ≡ z = cc in r))

    update-typed : (how : Access → Read) (assign : AssignOp) (at : Place) (old new : State) (a i e : TypedExpr) (access : Access) (stored read result : Shared) (ints : Bool)
        (truth : SemType) → IsBefore env old → HasExactly env truth IsBoolean → updating how assign at old (Gives tt) new
        → AreLast old.wants 3 (Some stored ∷ Some read ∷ Some result ∷ []) → IsLast old.sorts ints → UpdateFits passes names env assign ints read result e
        → IsLast old.accesses access → AreLast old.found 3 (a ∷ i ∷ e ∷ []) → AreTypedExprs env place (a ∷ i ∷ e ∷ [])
        → ((own : ℕ) → slice_get place.slots own ≡ Some (sem a) → slice_get place.slots (own + 1) ≡ Some (sem i) → LeadsTo env place (reads_member (how access) own) [] (sem_of read))
        → (Sub env (sem_of result) (sem_of stored) → OpTyped env place (sets_member (how access)) (sem a ∷ sem i ∷ sem_of result ∷ []) None)
        → IsPlaced place new → AddsTyped env place inside [] old new
    update-typed how assign at old new a i e access stored read result ints truth before booleans met lasts sort fits la parts typed reads sets placed =
        let o = member-updated how assign at old new met placed in
        let m = o.put in
        let (es, er, et) = same-three made passes names env place inside o.stored o.read o.result stored read result
        (same-lasts old.wants 3 (Some o.stored ∷ Some o.read ∷ Some o.result ∷ []) (Some stored ∷ Some read ∷ Some result ∷ []) o.lasts lasts) in
        let ei : o.ints ≡ ints = last-same old.sorts o.ints ints o.last_sort sort in
        let ea : o.access ≡ access = last-same old.accesses o.access access o.last_access la in
        let (ec, ek, ev) = three-same m.container m.key m.value a i e (sym m.parts_are ∙ same-lasts old.found 3 o.parts (a ∷ i ∷ e ∷ []) o.last_parts parts) in
        let is-op : update_operator assign ints o.op = subst (λ b. update_operator assign b o.op) ei o.is_op in
        let under : Sub env (sem_of result) (sem_of stored) =
        result-under made passes names env place inside old stored read result before lasts
        (subst (λ (x : Shared). Sub old.atoms (sem_of x) (sem_of stored)) et (subst (λ (x : Shared). Sub old.atoms (sem_of o.result) (sem_of x)) es o.under)) in
        let leads = leads-so made passes names env place inside truth o.op (sem_of read) (sem e) (sem_of result) booleans
        (update-fits passes names env assign ints o.op read result e is-op fits) in
        let is : IsMemberTarget m.own (how access) a i read m.what =
        subst (λ (x : Shared). IsMemberTarget m.own (how access) a i x m.what) er
        (subst (λ (x : TypedExpr). IsMemberTarget m.own (how access) a x o.read m.what) ek
        (subst (λ (x : TypedExpr). IsMemberTarget m.own (how access) x m.key o.read m.what) ec
        (subst (λ (x : Access). IsMemberTarget m.own (how x) m.container m.key o.read m.what) ea m.is))) in
        let held : slice_get place.slots m.own ≡ Some (sem a) = subst (λ (x : TypedExpr). slice_get place.slots m.own ≡ Some (sem x)) ec m.held in
        let named : slice_get place.slots (m.own + 1) ≡ Some (sem i) = subst (λ (x : TypedExpr). slice_get place.slots (m.own + 1) ≡ Some (sem x)) ek m.named in
        member-so (how access) m.own a i e read result o.op m.what at truth old new
        (subst (λ (x : TypedExpr). AddsStmt (IsUpdate m.what o.op x at) [] old new) ev (put-before (IsUpdate m.what o.op m.value at) [] old o.before new o.blocks m.put))
        is typed held named (reads m.own held named) leads (sets under)

    element-update : ElementUpdateIsTyped passes names env place inside
    element-update assign at old new a i e access stored read result ints truth before booleans met lasts sort fits la structure parts typed container key has may placed =
        update-typed read_of assign at old new a i e access stored read result ints truth before booleans met lasts sort fits la parts typed
        (λ own held named. reads-so access own a i (sem_of read) structure container key has held named)
        (λ under. sets-so access a i (sem_of result) (sem_of stored) structure container key may under) placed

    -- by a key, whatever it is read by
    field-sets : (access : Access) (a i : TypedExpr) (r stored : SemType) (w : Word) → access ≡ Key → IsOfIt passes names env (container_kind access) a
        → IsOfIt passes names env (index_kind access) i → AllMayStand passes names env access a i stored → Sub env r stored
        → OpTyped env place (sets_member (member.Field w.name)) (sem a ∷ sem i ∷ r ∷ []) None
    field-sets Char a i r stored w is container key fits under = absurd (let bad : ⊥ = cc in bad)
    field-sets Item a i r stored w is container key fits under = absurd (let bad : ⊥ = cc in bad)
    field-sets Key a i r stored w is container key fits under = sets-so Key a i r stored tt container key fits under

    field-update : FieldUpdateIsTyped passes names env place inside
    field-update w assign at old new a i e access stored read result ints truth before booleans met lasts sort fits la structure parts typed container key (is, has) may placed =
        update-typed (λ x. member.Field w.name) assign at old new a i e access stored read result ints truth before booleans met lasts sort fits la parts typed
        (λ own held named. one-loaded own (GetField w.name) (sem a) (sem_of read) held (has.has, has.all))
        (λ under. field-sets access a i (sem_of result) (sem_of stored) w is container key may under) placed

    pub elements-are-typed : ElementsAreTyped passes names env place inside
    elements-are-typed =
        record {
          chosen = structure-chosen passes names env;
          members_read = member-read passes names env;
          fields_read = field-read passes names env;
          elements = element-update;
          fields = field-update;
        }
