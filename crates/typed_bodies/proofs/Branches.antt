-- `if` and `while`.
use Rattle.std.proofs.Common.{All, Bool, List, [], ap, append_assoc, arith, refl, subst, sym, true, ◌++◌, ◌∙◌, ◌∷◌, ◌≡◌}
use Rattle.std.proofs.lemmas.List.Elements.{All-append, All-cons, All-nil}
use Rattle.bal_base.specs.declared.place.Place.{Place}
use Rattle.bal_tree.specs.declared.name.Word.{Word}
use Rattle.calm_needs.specs.Calm.{ChoiceIsStored, NeedsAreCalm}
use Rattle.check_laws.specs.StmtLaws.{HasUnit}
use Rattle.check_words.proofs.Standing.{back-have, front-have}
use Rattle.check_words.specs.State.{AreLast, BlockAtWork, ChoiceAtWork, IsLast, State, all_but}
use Rattle.check_words.specs.StmtViews.{IsIf, IsWhile}
use Rattle.descriptors.specs.declared.names.Names.{Names}
use Rattle.expr_needs.specs.ExprTable.{Reading, against, condition_needs}
use Rattle.expr_needs.specs.Needs.{Heads, MakesIf, MakesWhile, Need, Splits, Switches}
use Rattle.expr_needs.specs.declared.kind.Kind.TheVariants as kind
use Rattle.operations.specs.Rows.{Surroundings}
use Rattle.stmt_needs.specs.StmtTable.{Within, in_block}
use Rattle.tree_promises.specs.Laws.{MadeStatementsAreTyped}
use Rattle.tree_promises.specs.Placed.{Placed}
use Rattle.tree_promises.specs.Types.{IsTypedExpr}
use Rattle.type_model.specs.Calls.{Asked}
use Rattle.type_model.specs.declared.answers.TypeLimit.{TypeLimit}
use Rattle.type_model.specs.declared.atoms.AtomDef.{AtomDef}
use Rattle.typed_bodies.proofs.Aside.{aside-heads}
use Rattle.typed_bodies.proofs.Choosing.{Opened, if-stored, moved-makes-if, moved-makes-while, split-opened, switch-opened, while-stored}
use Rattle.typed_bodies.proofs.Puts.{behind-waiting, done}
use Rattle.typed_bodies.proofs.StmtUnits.{HasUnits, branched-units, repeated-units}
use Rattle.typed_bodies.proofs.Trails.{BlockAt, MatchAt, OnWay, aside-keeps, back-block, back-put, back-same, back-value, in-on, in-run, in-stays, in-units}
use Rattle.typed_bodies.proofs.Values.{Given, Knows, kind-given, kind-left}
use Rattle.typed_bodies.specs.Claims.{AreDone, IsDone, KnowsBlock, StaysIn, StmtClaim}
use Rattle.typed_bodies.specs.Units.{units_of_stmts}
use Rattle.typed_exprs.proofs.Steps.{Step, keeps, parted, stored-here}
use Rattle.typed_exprs.specs.Lines.{Left, Run}
use Rattle.typed_needs.proofs.Opened.{same-lasts}
use Rattle.typed_needs.proofs.Placed.{last-same}
use Rattle.typed_needs.specs.Asked.{IsOfIt}
use Rattle.typed_needs.specs.Between.{IsKept, IsTypedUnit, IsUnitAt, units_in}
use Rattle.typed_stmts.proofs.Branching.{branch-opened, branch-typed, loop-opened, loop-typed, one-gone, two-same}
use Rattle.typed_stmts.proofs.Words.{put-weaker, waiting-last}
use Rattle.typed_stmts.specs.Adding.{AddsStmt}
use Rattle.typed_tree.specs.Listed.{Listed, one, ◌&◌}
use Rattle.typed_tree.specs.declared.expr.TypedExpr.{TypedExpr}
use Rattle.typed_tree.specs.declared.stmt.TypedStmt.{TypedStmt}

module _ (made : MadeStatementsAreTyped) (passes : List AtomDef → Asked → TypeLimit → Type 0) (names : Names) (calm : NeedsAreCalm passes names) (env : List AtomDef) (place : Surroundings)
    (Can : State → Type 0) (can : (s t : State) → StaysIn s t → Can s → Can t) where
  -- ---- a condition, one way of which is entered

  -- `k`: behind the condition
  pub record Entered (c : Reading) (old l : State) : Type 0 where
    pub k : State
    pub left : Left old k
    pub opened : Opened k.choices k l
    pub run : Run passes names env (against kind.Truth c) old k
    pub step : Step passes names env (Splits true) k l

  entered : (c : Reading) → Knows passes names env place Can c → (old l : State) → HasUnit old → Run passes names env (condition_needs c) old l → Entered c old l
  entered c knows old l unit run =
      let (k, rc, s) = parted passes names env (against kind.Truth c) (one (Splits true)) old l run in
      record { k = k; left = kind-left passes names env place Can kind.Truth c knows old k unit rc; opened = split-opened true k l s.0; run = rc; step = s }

  entered-in : (c : Reading) (old l : State) → Entered c old l → StaysIn old l
  entered-in c old l e = in-on old e.k l (in-run old e.k e.left.path.goes e.left.more.same) (in-units e.k l e.opened.moved.on e.opened.moved.site)

  entered-back : (c : Reading) (old l : State) (e : Entered c old l) → OnWay env place l → OnWay env place e.k × OnWay env place old
  entered-back c old l e way =
      let way-k = back-same env place e.k l (in-units e.k l e.opened.moved.on e.opened.moved.site) e.opened.found e.opened.blocks e.opened.matches way in
      (way-k, back-value env place old e.k e.left way-k)

  -- what it comes to
  pub record Condition (c : Reading) (old l : State) (e : Entered c old l) : Type 0 where
    pub given : Given passes names env place Can (IsOfIt passes names env kind.Truth) old e.k
    pub kept : IsKept place l
    pub choice : ChoiceAtWork
    pub last : IsLast l.choices choice
    pub stored : ChoiceIsStored place choice

  condition : (c : Reading) → Knows passes names env place Can c → (old l : State) (e : Entered c old l) → Can old → HasUnit old → IsKept place old → OnWay env place l
      → Condition c old l e
  condition c knows old l e can-old unit kept way =
      let (way-k, way-old) = entered-back c old l e way in
      let x = kind-given passes names env place Can kind.Truth c knows old e.k can-old unit e.run kept way-k.parts in
      let o = calm.splits true place e.k l (stored-here place e.k x.kept) e.step.0 in
      record {
        given = x;
        kept = keeps place l e.step.1 o.stored;
        choice = o.choice;
        last = record { kept = e.k.choices; is = o.choices };
        stored = o.is_stored;
      }

  units-two : (a b : List TypedStmt) → All (IsUnitAt place) (units_of_stmts a ++ units_of_stmts b) → All (IsUnitAt place) (units_of_stmts a) × All (IsUnitAt place) (units_of_stmts b)
  units-two a b h = (front-have (IsUnitAt place) (units_of_stmts a) (units_of_stmts b) h, back-have (IsUnitAt place) (units_of_stmts a) (units_of_stmts b) h)

  two-more : {A : Type 0} (xs ys zs : List A) (a b : A) → ys ≡ xs ++ a ∷ [] → zs ≡ ys ++ b ∷ [] → zs ≡ xs ++ a ∷ b ∷ []
  two-more xs ys zs a b e f = f ∙ ap (λ l. l ++ b ∷ []) e ∙ append_assoc xs (a ∷ []) (b ∷ [])

  -- ---- `if`

  if-put : (at : Place) (m new : State) (c : TypedExpr) (a b : BlockAtWork) → Step passes names env (MakesIf at) m new → IsLast m.found c → AreLast m.blocks 2 (a ∷ b ∷ [])
      → AddsStmt (HasUnits (units_in (c ∷ []) ++ (units_of_stmts a.stmts ++ units_of_stmts b.stmts))) (a ∷ b ∷ []) m new
  if-put at m new c a b s last lasts =
      let o = branch-opened at m new s.0 in
      let P : TypedStmt → Type 0 = IsIf o.condition o.first.stmts o.second.stmts at in
      let (ea, eb) = two-same a b o.first o.second (same-lasts m.blocks 2 (a ∷ b ∷ []) (o.first ∷ o.second ∷ []) lasts (waiting-last P (o.first ∷ o.second ∷ []) 2 m new refl o.put)) in
      let ec : c ≡ o.condition = last-same m.found c o.condition last o.last_part in
      subst (λ y. AddsStmt (HasUnits (units_in (c ∷ []) ++ (units_of_stmts a.stmts ++ units_of_stmts b.stmts))) (a ∷ y ∷ []) m new) (sym eb)
      (subst (λ x. AddsStmt (HasUnits (units_in (c ∷ []) ++ (units_of_stmts a.stmts ++ units_of_stmts b.stmts))) (x ∷ o.second ∷ []) m new) (sym ea)
      (put-weaker P (HasUnits (units_in (c ∷ []) ++ (units_of_stmts a.stmts ++ units_of_stmts b.stmts))) (o.first ∷ o.second ∷ []) m new
      (λ t v. branched-units o.condition o.first.stmts o.second.stmts at t v
      ∙ ap (λ (e : TypedExpr). units_in (e ∷ []) ++ (units_of_stmts o.first.stmts ++ units_of_stmts o.second.stmts)) (sym ec)
      ∙ ap (λ (x : BlockAtWork). units_in (c ∷ []) ++ (units_of_stmts x.stmts ++ units_of_stmts o.second.stmts)) (sym ea)
      ∙ ap (λ (x : BlockAtWork). units_in (c ∷ []) ++ (units_of_stmts a.stmts ++ units_of_stmts x.stmts)) (sym eb)) o.put))

  pub branched : (c : Reading) (first second : Within → Listed Need) (at : Place) → Knows passes names env place Can c → KnowsBlock passes names env place Can first
      → KnowsBlock passes names env place Can second
      → StmtClaim passes names env place Can (λ w. (condition_needs c & first w & one Switches) & (second w & one (MakesIf at)))
  branched c first second at kc ka kb w old new can-old block more run kept way =
      let (n, r1, r2) = parted passes names env (condition_needs c & first w & one Switches) (second w & one (MakesIf at)) old new run in
      let (l, rc, r3) = parted passes names env (condition_needs c) (first w & one Switches) old n r1 in
      let (m, ra, sw) = parted passes names env (first w) (one Switches) l n r3 in
      let (o, rb, s) = parted passes names env (second w) (one (MakesIf at)) n new r2 in
      -- what stands where
      let e = entered c kc old l block.unit rc in
      let in-l = entered-in c old l e in
      let unit-l : HasUnit l = (let u = block.unit in let q = in-l.many in omega (arith, u, q)) in
      let a = ka.more w l m unit-l ra in
      let goes-a = ka.goes w l m unit-l ra in
      let in-m = in-run l m goes-a a.same in
      let sd = switch-opened m n sw.0 in
      let in-n = in-units m n sd.moved.on sd.moved.site in
      let unit-n : HasUnit n = (let u = unit-l in let q = in-m.many in let p = in-n.many in omega (arith, u, q, p)) in
      let b = kb.more w n o unit-n rb in
      let goes-b = kb.goes w n o unit-n rb in
      let part = e.left.more.part in
      let found-l : l.found ≡ old.found ++ part ∷ [] = e.opened.found ∙ e.left.more.found in
      let found-o : o.found ≡ old.found ++ part ∷ [] = b.found ∙ sd.found ∙ a.found ∙ found-l in
      let last-o : IsLast o.found part = record { kept = old.found; is = found-o } in
      let blocks-l : l.blocks ≡ old.blocks = e.opened.blocks ∙ e.left.more.blocks in
      let blocks-n : n.blocks ≡ old.blocks ++ a.block ∷ [] = sd.blocks ∙ a.blocks ∙ ap (λ bs. bs ++ a.block ∷ []) blocks-l in
      let blocks-o : o.blocks ≡ old.blocks ++ a.block ∷ b.block ∷ [] = two-more old.blocks n.blocks o.blocks a.block b.block blocks-n b.blocks in
      let lasts : AreLast o.blocks 2 (a.block ∷ b.block ∷ []) = record { kept = old.blocks; is = blocks-o; many = refl } in
      let put = if-put at o new part a.block b.block s last-o lasts in
      let moved = moved-makes-if at o new tt s.0 in
      let matches-o : o.matches ≡ old.matches = b.same.matches ∙ sd.matches ∙ a.same.matches ∙ e.opened.matches ∙ e.left.more.same.matches in
      -- what is known from the end
      let inner : List Placed = units_of_stmts a.block.stmts ++ units_of_stmts b.block.stmts in
      let way-o = back-put env place (part ∷ []) inner (a.block ∷ b.block ∷ []) o new put (in-units o new moved.on moved.site) (found-o ∙ ap (λ xs. xs ++ part ∷ []) (sym more.found))
      (λ h. let (x, y) = units-two a.block.stmts b.block.stmts h in
      All-cons (BlockAt env place) a.block (b.block ∷ []) x (All-cons (BlockAt env place) b.block [] y (All-nil (BlockAt env place))))
      (λ h ms. subst (All (MatchAt env place)) (more.same.matches ∙ sym matches-o) ms) way in
      let way-n = back-block env place n o goes-b b way-o in
      let way-m = back-same env place m n in-n sd.found sd.blocks sd.matches way-n in
      let way-l = back-block env place l m goes-a a way-m in
      -- what is kept, and what it comes to
      let x = condition c kc old l e can-old block.unit kept way-l in
      let can-l = can old l in-l can-old in
      let y = ka.claim w l m can-l unit-l a ra x.kept way-m in
      let last-m : IsLast m.choices x.choice = subst (λ cs. IsLast cs x.choice) (sym a.same.choices) x.last in
      let z = calm.switches place m n x.choice (stored-here place m y.kept) sw.0 last-m x.stored in
      let kept-n = keeps place n sw.1 z.stored in
      let v = kb.claim w n o (can m n in-n (can l m in-m can-l)) unit-n b rb kept-n way-o in
      let last-c : IsLast o.choices z.choice = record { kept = all_but 1 m.choices; is = b.same.choices ∙ z.choices } in
      let stored = if-stored place at o new z.choice s.0 (stored-here place o v.kept) last-c z.is_stored in
      let one-part : x.given.part ≡ part = last-same e.k.found x.given.part part (record { kept = old.found; is = x.given.found }) (record { kept = old.found; is = e.left.more.found }) in
      let ea : y.block ≡ a.block = last-same m.blocks y.block a.block (record { kept = l.blocks; is = y.blocks }) (record { kept = l.blocks; is = a.blocks }) in
      let eb : v.block ≡ b.block = last-same o.blocks v.block b.block (record { kept = n.blocks; is = v.blocks }) (record { kept = n.blocks; is = b.blocks }) in
      let da : AreDone env place w.loop a.block.stmts = subst (λ (q : BlockAtWork). AreDone env place w.loop q.stmts) ea y.done in
      let db : AreDone env place w.loop b.block.stmts = subst (λ (q : BlockAtWork). AreDone env place w.loop q.stmts) eb v.done in
      let typed-part = subst (λ (q : TypedExpr). IsTypedExpr env place q) one-part x.given.typed in
      let truth = subst (λ (q : TypedExpr). IsOfIt passes names env kind.Truth q) one-part x.given.holds in
      let units-part = subst (λ (q : TypedExpr). All (IsTypedUnit env place) (units_in (q ∷ []))) one-part x.given.units in
      record {
        adds = behind-waiting (IsDone env place w.loop) (a.block ∷ b.block ∷ []) old o new blocks-o
            (done env place w.loop (part ∷ []) inner (a.block ∷ b.block ∷ []) o new
            (branch-typed made passes names env place w.loop at o new part a.block b.block s.0 last-o typed-part truth lasts da.typed db.typed) put units-part
            (All-append (IsTypedUnit env place) (units_of_stmts a.block.stmts) (units_of_stmts b.block.stmts) da.units db.units));
        kept = keeps place new s.1 stored;
      }

  -- ---- `while`

  while-put : (leaves : Bool) (at : Place) (m new : State) (c : TypedExpr) (b : BlockAtWork) → Step passes names env (MakesWhile leaves at) m new → IsLast m.found c
      → IsLast m.blocks b → AddsStmt (HasUnits (units_in (c ∷ []) ++ units_of_stmts b.stmts)) (b ∷ []) m new
  while-put leaves at m new c b s last block =
      let o = loop-opened leaves at m new s.0 in
      let P : TypedStmt → Type 0 = IsWhile o.condition o.body.stmts at in
      let eb : b ≡ o.body = one-gone P o.body b m new o.put block in
      let ec : c ≡ o.condition = last-same m.found c o.condition last o.last_part in
      subst (λ x. AddsStmt (HasUnits (units_in (c ∷ []) ++ units_of_stmts b.stmts)) (x ∷ []) m new) (sym eb)
      (put-weaker P (HasUnits (units_in (c ∷ []) ++ units_of_stmts b.stmts)) (o.body ∷ []) m new
      (λ t v. repeated-units o.condition o.body.stmts at t v ∙ ap (λ (e : TypedExpr). units_in (e ∷ []) ++ units_of_stmts o.body.stmts) (sym ec)
      ∙ ap (λ (x : BlockAtWork). units_in (c ∷ []) ++ units_of_stmts x.stmts) (sym eb)) o.put)

  pub repeated : (words : List Word) (leaves : Bool) (c : Reading) (body : Within → Listed Need) (at : Place) → Knows passes names env place Can c
      → KnowsBlock passes names env place Can body
      → StmtClaim passes names env place Can (λ w. (one (Heads words) & condition_needs c) & body (in_block true) & one (MakesWhile leaves at))
  repeated words leaves c body at kc kb w old new can-old block more run kept way =
      let (l, r1, r2) = parted passes names env (one (Heads words) & condition_needs c) (body (in_block true) & one (MakesWhile leaves at)) old new run in
      let (h, sh, rc) = parted passes names env (one (Heads words)) (condition_needs c) old l r1 in
      let (m, rb, s) = parted passes names env (body (in_block true)) (one (MakesWhile leaves at)) l new r2 in
      let head = aside-heads words old h tt sh.0 in
      let in-h = in-stays old h head.stays in
      let unit-h : HasUnit h = (let u = block.unit in let q = in-h.many in omega (arith, u, q)) in
      let e = entered c kc h l unit-h rc in
      let in-l = entered-in c h l e in
      let unit-l : HasUnit l = (let u = unit-h in let q = in-l.many in omega (arith, u, q)) in
      let b = kb.more (in_block true) l m unit-l rb in
      let goes-b = kb.goes (in_block true) l m unit-l rb in
      let part = e.left.more.part in
      let found-m : m.found ≡ old.found ++ part ∷ [] = b.found ∙ e.opened.found ∙ e.left.more.found ∙ ap (λ xs. xs ++ part ∷ []) head.stays.found in
      let last-m : IsLast m.found part = record { kept = old.found; is = found-m } in
      let blocks-m : m.blocks ≡ old.blocks ++ b.block ∷ [] = b.blocks ∙ ap (λ bs. bs ++ b.block ∷ []) (e.opened.blocks ∙ e.left.more.blocks ∙ head.stays.blocks) in
      let last-b : IsLast m.blocks b.block = record { kept = old.blocks; is = blocks-m } in
      let put = while-put leaves at m new part b.block s last-m last-b in
      let moved = moved-makes-while leaves at m new tt s.0 in
      let matches-m : m.matches ≡ old.matches = b.same.matches ∙ e.opened.matches ∙ e.left.more.same.matches ∙ head.stays.matches in
      let way-m = back-put env place (part ∷ []) (units_of_stmts b.block.stmts) (b.block ∷ []) m new put (in-units m new moved.on moved.site)
      (found-m ∙ ap (λ xs. xs ++ part ∷ []) (sym more.found)) (λ q. All-cons (BlockAt env place) b.block [] q (All-nil (BlockAt env place)))
      (λ q ms. subst (All (MatchAt env place)) (more.same.matches ∙ sym matches-m) ms) way in
      let way-l = back-block env place l m goes-b b way-m in
      let kept-h = aside-keeps env place old h head sh.1 kept in
      let x = condition c kc h l e (can old h in-h can-old) unit-h kept-h way-l in
      let v = kb.claim (in_block true) l m (can h l in-l (can old h in-h can-old)) unit-l b rb x.kept way-m in
      let last-c : IsLast m.choices x.choice = subst (λ cs. IsLast cs x.choice) (sym b.same.choices) x.last in
      let stored = while-stored place leaves at m new x.choice s.0 last-c x.stored in
      let one-part : x.given.part ≡ part = last-same e.k.found x.given.part part (record { kept = h.found; is = x.given.found }) (record { kept = h.found; is = e.left.more.found }) in
      let eb : v.block ≡ b.block = last-same m.blocks v.block b.block (record { kept = l.blocks; is = v.blocks }) (record { kept = l.blocks; is = b.blocks }) in
      let db : AreDone env place true b.block.stmts = subst (λ (q : BlockAtWork). AreDone env place true q.stmts) eb v.done in
      let typed-part = subst (λ (q : TypedExpr). IsTypedExpr env place q) one-part x.given.typed in
      let truth = subst (λ (q : TypedExpr). IsOfIt passes names env kind.Truth q) one-part x.given.holds in
      let units-part = subst (λ (q : TypedExpr). All (IsTypedUnit env place) (units_in (q ∷ []))) one-part x.given.units in
      record {
        adds = behind-waiting (IsDone env place w.loop) (b.block ∷ []) old m new blocks-m
            (done env place w.loop (part ∷ []) (units_of_stmts b.block.stmts) (b.block ∷ []) m new
            (loop-typed made passes names env place w.loop leaves at m new part b.block s.0 last-m typed-part truth last-b db.typed) put units-part db.units);
        kept = keeps place new s.1 stored;
      }
