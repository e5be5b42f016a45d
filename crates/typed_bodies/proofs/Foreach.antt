-- `foreach` over lists and ranges: what it goes through, and the whole.
use Rattle.std.proofs.Common.{All, Bool, List, Some, [], ap, append_assoc, arith, length, refl, subst, sym, true, ℕ, ◌++◌, ◌∙◌, ◌∷◌, ◌≡◌}
use Rattle.std.proofs.lemmas.List.Elements.{All-append, All-cons, All-nil}
use Rattle.bal_base.specs.declared.place.Place.{Place}
use Rattle.bal_tree.specs.declared.name.Word.{Word}
use Rattle.bal_tree.specs.declared.stmt.LocalType.TheVariants as local
use Rattle.bal_tree.specs.declared.stmt.LocalType.{LocalType}
use Rattle.bal_tree.specs.declared.stmt.RangeOp.{RangeOp}
use Rattle.bal_tree.specs.declared.types.TypeTree.{TypeTree}
use Rattle.calm_needs.proofs.PlacedParts.{units-append}
use Rattle.calm_needs.specs.Calm.{ChoiceIsStored, IsStoredAt}
use Rattle.check_laws.specs.StmtLaws.{HasUnit}
use Rattle.check_words.specs.Branches.{range_end}
use Rattle.check_words.specs.State.{AreLast, BlockAtWork, ChoiceAtWork, IsLast, State}
use Rattle.check_words.specs.StmtViews.{IsForeach}
use Rattle.descriptors.specs.declared.names.Names.{Names}
use Rattle.expr_needs.specs.ExprTable.{Reading, against}
use Rattle.expr_needs.specs.Needs.{Describes, IsNew, MakesForeach, MakesRange, Need}
use Rattle.expr_needs.specs.declared.kind.Kind.TheVariants as kind
use Rattle.operations.specs.Kinds.{IsBoolean}
use Rattle.operations.specs.Rows.{Surroundings}
use Rattle.stmt_needs.specs.StmtTable.{Within, counter_fits, item_fits, loop_type_needs}
use Rattle.tree_promises.specs.Laws.{MadeLoopsAreTyped, MadeStatementsAreTyped}
use Rattle.flow_narrowing.specs.declared.flow.Variable.{Variable}
use Rattle.tree_promises.specs.Made.{AreTypedExprs}
use Rattle.tree_promises.specs.MadeStmts.{AreTypedStmts}
use Rattle.tree_promises.specs.Types.{IsTypedExpr}
use Rattle.type_model.specs.Calls.{Asked}
use Rattle.type_model.specs.Inclusion.{HasExactly}
use Rattle.type_model.specs.declared.answers.TypeLimit.{TypeLimit}
use Rattle.type_model.specs.declared.atoms.AtomDef.{AtomDef}
use Rattle.type_model.specs.declared.basic.SemType.{SemType}
use Rattle.typed_bodies.proofs.Aside.{IsAside, aside-counter, aside-describes, aside-item, aside-itself, aside-wants-counter, aside-widens-item}
use Rattle.typed_bodies.proofs.Blocks.{met-nothing}
use Rattle.typed_bodies.proofs.Declaring.{described-put, new-leaves}
use Rattle.typed_bodies.proofs.Loops.{foreach-stored, moved-makes-foreach, moved-makes-range, range-stored}
use Rattle.typed_bodies.proofs.Onward.{IsMoved}
use Rattle.typed_bodies.proofs.Puts.{behind-waiting, done}
use Rattle.typed_bodies.proofs.StmtUnits.{HasUnits, counted-units, walked-units}
use Rattle.typed_bodies.proofs.Trails.{BlockAt, MatchAt, OnWay, aside-keeps, back-aside, back-put, back-value, in-on, in-run, in-stays, in-units}
use Rattle.typed_bodies.proofs.Values.{Knows, kind-given, kind-left}
use Rattle.typed_bodies.proofs.Walks.{body-blocks, body-choice, body-found, body-is, body-matches, body-run, body-way, body_needs, BodyRun, BodyIs}
use Rattle.typed_bodies.specs.Claims.{IsDone, KnowsBlock, StaysIn, StmtClaim, ComesToStmt}
use Rattle.typed_bodies.specs.Units.{units_of_stmts}
use Rattle.typed_exprs.proofs.Steps.{Step, before, keeps, parted}
use Rattle.typed_exprs.specs.Lines.{Left, Run}
use Rattle.typed_needs.proofs.Opened.{as-lasts, same-lasts}
use Rattle.typed_needs.proofs.Placed.{last-same}
use Rattle.typed_needs.specs.Asked.{IsOfIt}
use Rattle.typed_needs.specs.Between.{IsKept, IsTypedUnit, units_in}
use Rattle.typed_needs.specs.Pieces.{IsBefore}
use Rattle.typed_needs.specs.Placing.{IsPlaced, IsStored}
use Rattle.typed_stmts.proofs.Branching.{one-gone}
use Rattle.typed_stmts.proofs.Items.{counter-fits, counter-wanted, item-fits, item-wanted}
use Rattle.typed_stmts.proofs.Looping.{count-opened, count-typed, walk-opened, walk-typed}
use Rattle.typed_stmts.proofs.Words.{put-weaker}
use Rattle.typed_stmts.specs.Adding.{AddsStmt, AddsTyped}
use Rattle.typed_stmts.specs.Branched.{HasInts, HasItems, SeesLast}
use Rattle.typed_tree.specs.Listed.{Listed, nothing, one, ◌&◌}
use Rattle.typed_tree.specs.SharedTypes.{Shared, sem_of}
use Rattle.typed_tree.specs.declared.expr.TypedExpr.{TypedExpr}
use Rattle.typed_tree.specs.declared.stmt.TypedStmt.{TypedStmt}

module _ (made : MadeStatementsAreTyped) (loops : MadeLoopsAreTyped) (passes : List AtomDef → Asked → TypeLimit → Type 0) (names : Names) (env : List AtomDef) (place : Surroundings)
    (Can : State → Type 0) (can : (s t : State) → StaysIn s t → Can s → Can t) where
  -- ---- what a loop goes through

  record Head (old c : State) : Type 0 where
    pub parts : List TypedExpr
    pub found : c.found ≡ old.found ++ parts
    pub blocks : c.blocks ≡ old.blocks
    pub matches : c.matches ≡ old.matches
    pub stays : StaysIn old c
    pub back : OnWay env place c → OnWay env place old

  -- of a type that is wanted is the variable
  record HeadIs (Fits : List TypedExpr → SemType → Type 0) (old c : State) (h : Head old c) : Type 0 where
    pub typed : AreTypedExprs env place h.parts
    pub units : All (IsTypedUnit env place) (units_in h.parts)
    pub kept : IsKept place c
    pub want : Shared
    pub last : IsLast c.wants (Some want)
    pub fits : Fits h.parts (sem_of want)

  record KnowsHead (Fits : List TypedExpr → SemType → Type 0) (needs : Listed Need) : Type 0 where
    pub head : (old c : State) → HasUnit old → Run passes names env needs old c → Head old c
    pub claim : (old c : State) (unit : HasUnit old) (run : Run passes names env needs old c) → Can old → IsKept place old → OnWay env place c → HeadIs Fits old c (head old c unit run)

  abbrev ListFits : List TypedExpr → SemType → Type 0
  ListFits ps t = (l : TypedExpr) × (ps ≡ l ∷ []) × IsOfIt passes names env kind.AnyList l × HasItems passes names env place l t

  abbrev RangeFits : List TypedExpr → SemType → Type 0
  RangeFits ps t = (a b : TypedExpr) × (ps ≡ a ∷ b ∷ []) × IsOfIt passes names env kind.Integer a × IsOfIt passes names env kind.Integer b × HasInts passes names env place t

  -- ---- what stands before what it goes through: the type, where it is written, and a new name

  record Typed (old a : State) : Type 0 where
    pub aside : IsAside old a
    pub standing : IsKept place old → IsKept place a

  abbrev type_needs : LocalType → Word → Listed Need
  type_needs t name = loop_type_needs t & one (IsNew name)

  typed-so : (t : LocalType) (name : Word) (old a : State) → Run passes names env (type_needs t name) old a → Typed old a
  typed-so (local.«Type» t) name old a run =
      let (l, sd, sn) = parted passes names env (one (Describes t.value)) (one (IsNew name)) old a run in
      let first = aside-describes names t.value old l tt sd.0 in
      let same : a ≡ l = new-leaves name l a tt sn.0 in
      subst (λ (s : State). Typed old s) (sym same) (record { aside = first; standing = λ kept. aside-keeps env place old l first sd.1 kept })
  typed-so (local.Var here) name old a run =
      let (l, sd, sn) = parted passes names env nothing (one (IsNew name)) old a run in
      let same : a ≡ old = new-leaves name l a tt sn.0 ∙ met-nothing made passes names env place Can can old l sd in
      subst (λ (s : State). Typed old s) (sym same) (record { aside = aside-itself old; standing = λ kept. kept })

  -- where it is written it is wanted
  typed-wanted : (t : TypeTree) (name : Word) (old a : State) → Run passes names env (one (Describes t) & one (IsNew name)) old a → (w : Shared) × IsLast a.wants (Some w)
  typed-wanted t name old a run =
      let (l, sd, sn) = parted passes names env (one (Describes t)) (one (IsNew name)) old a run in
      let (w, last) = described-put names t old l sd.0 in
      let same : a ≡ l = new-leaves name l a tt sn.0 in
      (w, subst (λ (s : State). IsLast s.wants (Some w)) (sym same) last)

  -- ---- lists

  item-aside : (t : LocalType) (at : Place) (b c : State) → Step passes names env (item_fits t at) b c → IsAside b c
  item-aside (local.«Type» t) at b c s = aside-item passes at b c tt s.0
  item-aside (local.Var here) at b c s = aside-widens-item passes at b c tt s.0

  abbrev list_needs : LocalType → Word → Reading → Listed Need
  list_needs t name from = type_needs t name & (against kind.AnyList from & one (item_fits t from.at))

  record ListRun (t : LocalType) (name : Word) (from : Reading) (old c : State) : Type 0 where
    pub a : State
    pub b : State
    pub run_a : Run passes names env (type_needs t name) old a
    pub run_b : Run passes names env (against kind.AnyList from) a b
    pub step : Step passes names env (item_fits t from.at) b c
    pub typed : Typed old a
    pub unit_a : HasUnit a
    pub left : Left a b

  list-run : (t : LocalType) (name : Word) (from : Reading) → Knows passes names env place Can from → (old c : State) → HasUnit old → Run passes names env (list_needs t name from) old c
      → ListRun t name from old c
  list-run t name from k old c unit run =
      let (a, ra, rest) = parted passes names env (type_needs t name) (against kind.AnyList from & one (item_fits t from.at)) old c run in
      let (b, rb, s) = parted passes names env (against kind.AnyList from) (one (item_fits t from.at)) a c rest in
      let typed = typed-so t name old a ra in
      let in-a = in-stays old a typed.aside.stays in
      let unit-a : HasUnit a = (let u = unit in let m = in-a.many in omega (arith, u, m)) in
      record { a = a; b = b; run_a = ra; run_b = rb; step = s; typed = typed; unit_a = unit-a; left = kind-left passes names env place Can kind.AnyList from k a b unit-a rb }

  list-head : (t : LocalType) (name : Word) (from : Reading) (old c : State) → ListRun t name from old c → Head old c
  list-head t name from old c r =
      let item = item-aside t from.at r.b c r.step in
      record {
        parts = r.left.more.part ∷ [];
        found = item.stays.found ∙ r.left.more.found ∙ ap (λ xs. xs ++ r.left.more.part ∷ []) r.typed.aside.stays.found;
        blocks = item.stays.blocks ∙ r.left.more.blocks ∙ r.typed.aside.stays.blocks;
        matches = item.stays.matches ∙ r.left.more.same.matches ∙ r.typed.aside.stays.matches;
        stays = in-on old r.b c (in-on old r.a r.b (in-stays old r.a r.typed.aside.stays) (in-run r.a r.b r.left.path.goes r.left.more.same)) (in-stays r.b c item.stays);
        back = λ way. back-aside env place old r.a r.typed.aside.stays (back-value env place r.a r.b r.left (back-aside env place r.b c item.stays way));
      }

  -- the items are of a type that is wanted
  item-so : (t : LocalType) (name : Word) (at : Place) (old a b c : State) (list : TypedExpr) → Run passes names env (type_needs t name) old a → b.wants ≡ a.wants
      → Step passes names env (item_fits t at) b c → IsBefore env b → IsBefore env c → IsLast b.found list
      → (w : Shared) × IsLast c.wants (Some w) × HasItems passes names env place list (sem_of w)
  item-so (local.«Type» t) name at old a b c list run same s before-b before-c last =
      let (w, want) = typed-wanted t.value name old a run in
      let here : IsLast b.wants (Some w) = subst (λ ws. IsLast ws (Some w)) (sym same) want in
      let (has, still) = item-fits passes names env place at b c list w before-b s.0 last here in
      (w, subst (λ (x : State). IsLast x.wants (Some w)) (sym still) here, has)
  item-so (local.Var here) name at old a b c list run same s before-b before-c last =
      let (w, all, has) = item-wanted passes names env place at b c list before-b before-c s.0 last in
      (w, record { kept = b.wants; is = ap (λ (x : State). x.wants) all }, has)

  list-is : (t : LocalType) (name : Word) (from : Reading) → Knows passes names env place Can from → (old c : State) (r : ListRun t name from old c) → Can old → IsKept place old
      → OnWay env place c → HeadIs ListFits old c (list-head t name from old c r)
  unfolding list-head
  list-is t name from k old c r can-old kept way =
      let item = item-aside t from.at r.b c r.step in
      let way-b = back-aside env place r.b c item.stays way in
      let x = kind-given passes names env place Can kind.AnyList from k r.a r.b (can old r.a (in-stays old r.a r.typed.aside.stays) can-old) r.unit_a r.run_b (r.typed.standing kept) way-b.parts in
      let kept-c = aside-keeps env place r.b c item r.step.1 x.kept in
      let ex : x.part ≡ r.left.more.part =
      last-same r.b.found x.part r.left.more.part (record { kept = r.a.found; is = x.found }) (record { kept = r.a.found; is = r.left.more.found }) in
      let (w, last, has) = item-so t name from.at old r.a r.b c x.part r.run_a r.left.more.same.wants r.step (before env place r.b x.kept way-b.parts) (before env place c kept-c way.parts)
      (record { kept = r.a.found; is = x.found }) in
      record {
        typed = (subst (λ (z : TypedExpr). IsTypedExpr env place z) ex x.typed, tt);
        units = subst (λ (z : TypedExpr). All (IsTypedUnit env place) (units_in (z ∷ []))) ex x.units;
        kept = kept-c;
        want = w;
        last = last;
        fits = subst (λ (z : TypedExpr). ListFits (z ∷ []) (sem_of w)) ex (x.part, refl, x.holds, has);
      }

  lists : (t : LocalType) (name : Word) (from : Reading) → Knows passes names env place Can from → KnowsHead ListFits (list_needs t name from)
  lists t name from k =
      record {
        head = λ old c unit run. list-head t name from old c (list-run t name from k old c unit run);
        claim = λ old c unit run can-old kept way. list-is t name from k old c (list-run t name from k old c unit run) can-old kept way;
      }

  -- ---- ranges

  counter-aside : (t : LocalType) (at : Place) (b c : State) → Step passes names env (counter_fits t at) b c → IsAside b c
  counter-aside (local.«Type» t) at b c s = aside-counter passes at b c tt s.0
  counter-aside (local.Var here) at b c s = aside-wants-counter b c tt s.0

  abbrev range_needs : LocalType → Word → Reading → Reading → Listed Need
  range_needs t name from to = type_needs t name & ((against kind.Integer from & against kind.Integer to) & one (counter_fits t from.at))

  record RangeRun (t : LocalType) (name : Word) (from to : Reading) (old c : State) : Type 0 where
    pub a : State
    pub m : State
    pub b : State
    pub run_a : Run passes names env (type_needs t name) old a
    pub run_m : Run passes names env (against kind.Integer from) a m
    pub run_b : Run passes names env (against kind.Integer to) m b
    pub step : Step passes names env (counter_fits t from.at) b c
    pub typed : Typed old a
    pub unit_a : HasUnit a
    pub unit_m : HasUnit m
    pub first : Left a m
    pub second : Left m b

  range-run : (t : LocalType) (name : Word) (from to : Reading) → Knows passes names env place Can from → Knows passes names env place Can to → (old c : State) → HasUnit old
      → Run passes names env (range_needs t name from to) old c → RangeRun t name from to old c
  range-run t name from to kf kt old c unit run =
      let (a, ra, rest) = parted passes names env (type_needs t name) ((against kind.Integer from & against kind.Integer to) & one (counter_fits t from.at)) old c run in
      let (b, both, s) = parted passes names env (against kind.Integer from & against kind.Integer to) (one (counter_fits t from.at)) a c rest in
      let (m, rm, rb) = parted passes names env (against kind.Integer from) (against kind.Integer to) a b both in
      let typed = typed-so t name old a ra in
      let in-a = in-stays old a typed.aside.stays in
      let unit-a : HasUnit a = (let u = unit in let n = in-a.many in omega (arith, u, n)) in
      let first = kind-left passes names env place Can kind.Integer from kf a m unit-a rm in
      let unit-m : HasUnit m = (let u = unit-a in let n = first.path.many in omega (arith, u, n)) in
      record {
        a = a;
        m = m;
        b = b;
        run_a = ra;
        run_m = rm;
        run_b = rb;
        step = s;
        typed = typed;
        unit_a = unit-a;
        unit_m = unit-m;
        first = first;
        second = kind-left passes names env place Can kind.Integer to kt m b unit-m rb;
      }

  range-head : (t : LocalType) (name : Word) (from to : Reading) (old c : State) → RangeRun t name from to old c → Head old c
  range-head t name from to old c r =
      let item = counter-aside t from.at r.b c r.step in
      let x = r.first.more.part in let y = r.second.more.part in
      let in-m = in-on old r.a r.m (in-stays old r.a r.typed.aside.stays) (in-run r.a r.m r.first.path.goes r.first.more.same) in
      record {
        parts = x ∷ y ∷ [];
        found = item.stays.found ∙ r.second.more.found ∙ ap (λ xs. xs ++ y ∷ []) (r.first.more.found ∙ ap (λ xs. xs ++ x ∷ []) r.typed.aside.stays.found)
            ∙ append_assoc old.found (x ∷ []) (y ∷ []);
        blocks = item.stays.blocks ∙ r.second.more.blocks ∙ r.first.more.blocks ∙ r.typed.aside.stays.blocks;
        matches = item.stays.matches ∙ r.second.more.same.matches ∙ r.first.more.same.matches ∙ r.typed.aside.stays.matches;
        stays = in-on old r.b c (in-on old r.m r.b in-m (in-run r.m r.b r.second.path.goes r.second.more.same)) (in-stays r.b c item.stays);
        back = λ way. back-aside env place old r.a r.typed.aside.stays
            (back-value env place r.a r.m r.first (back-value env place r.m r.b r.second (back-aside env place r.b c item.stays way)));
      }

  -- all ints are of a type that is wanted
  counter-so : (t : LocalType) (name : Word) (at : Place) (old a b c : State) → Run passes names env (type_needs t name) old a → b.wants ≡ a.wants
      → Step passes names env (counter_fits t at) b c → IsBefore env b → IsBefore env c → (w : Shared) × IsLast c.wants (Some w) × HasInts passes names env place (sem_of w)
  counter-so (local.«Type» t) name at old a b c run same s before-b before-c =
      let (w, want) = typed-wanted t.value name old a run in
      let here : IsLast b.wants (Some w) = subst (λ ws. IsLast ws (Some w)) (sym same) want in
      let (has, still) = counter-fits passes names env place at b c w before-b s.0 here in
      (w, subst (λ (x : State). IsLast x.wants (Some w)) (sym still) here, has)
  counter-so (local.Var here) name at old a b c run same s before-b before-c =
      let (w, all, has) = counter-wanted passes names env place b c before-c s.0 in
      (w, record { kept = b.wants; is = ap (λ (x : State). x.wants) all }, has)

  two-more-units : (a b : TypedExpr) → All (IsTypedUnit env place) (units_in (a ∷ [])) → All (IsTypedUnit env place) (units_in (b ∷ []))
      → All (IsTypedUnit env place) (units_in (a ∷ b ∷ []))
  two-more-units a b h k =
      subst (All (IsTypedUnit env place)) (sym (units-append (a ∷ []) (b ∷ []))) (All-append (IsTypedUnit env place) (units_in (a ∷ [])) (units_in (b ∷ [])) h k)

  range-is : (t : LocalType) (name : Word) (from to : Reading) → Knows passes names env place Can from → Knows passes names env place Can to → (old c : State)
      (r : RangeRun t name from to old c) → Can old → IsKept place old → OnWay env place c → HeadIs RangeFits old c (range-head t name from to old c r)
  unfolding range-head
  range-is t name from to kf kt old c r can-old kept way =
      let item = counter-aside t from.at r.b c r.step in
      let way-b = back-aside env place r.b c item.stays way in
      let way-m = back-value env place r.m r.b r.second way-b in
      let can-a = can old r.a (in-stays old r.a r.typed.aside.stays) can-old in
      let x = kind-given passes names env place Can kind.Integer from kf r.a r.m can-a r.unit_a r.run_m (r.typed.standing kept) way-m.parts in
      let y = kind-given passes names env place Can kind.Integer to kt r.m r.b (can r.a r.m (in-run r.a r.m r.first.path.goes r.first.more.same) can-a) r.unit_m r.run_b x.kept way-b.parts in
      let kept-c = aside-keeps env place r.b c item r.step.1 y.kept in
      let ex : x.part ≡ r.first.more.part =
      last-same r.m.found x.part r.first.more.part (record { kept = r.a.found; is = x.found }) (record { kept = r.a.found; is = r.first.more.found }) in
      let ey : y.part ≡ r.second.more.part =
      last-same r.b.found y.part r.second.more.part (record { kept = r.m.found; is = y.found }) (record { kept = r.m.found; is = r.second.more.found }) in
      let (w, last, has) = counter-so t name from.at old r.a r.b c r.run_a (r.second.more.same.wants ∙ r.first.more.same.wants) r.step (before env place r.b y.kept way-b.parts)
      (before env place c kept-c way.parts) in
      record {
        typed = (subst (λ (z : TypedExpr). IsTypedExpr env place z) ex x.typed, (subst (λ (z : TypedExpr). IsTypedExpr env place z) ey y.typed, tt));
        units = two-more-units r.first.more.part r.second.more.part (subst (λ (z : TypedExpr). All (IsTypedUnit env place) (units_in (z ∷ []))) ex x.units)
            (subst (λ (z : TypedExpr). All (IsTypedUnit env place) (units_in (z ∷ []))) ey y.units);
        kept = kept-c;
        want = w;
        last = last;
        fits = (
          r.first.more.part,
          r.second.more.part,
          refl,
          subst (λ (z : TypedExpr). IsOfIt passes names env kind.Integer z) ex x.holds,
          subst (λ (z : TypedExpr). IsOfIt passes names env kind.Integer z) ey y.holds,
          has,
        );
      }

  ranges : (t : LocalType) (name : Word) (from to : Reading) → Knows passes names env place Can from → Knows passes names env place Can to
      → KnowsHead RangeFits (range_needs t name from to)
  ranges t name from to kf kt =
      record {
        head = λ old c unit run. range-head t name from to old c (range-run t name from to kf kt old c unit run);
        claim = λ old c unit run can-old kept way. range-is t name from to kf kt old c (range-run t name from to kf kt old c unit run) can-old kept way;
      }

  -- ---- the whole

  same-sem : (t u : Shared) → Some t ≡ Some u → sem_of t ≡ sem_of u
  same-sem t u e = let q : t ≡ u = cc in ap sem_of q

  abbrev Puts : List TypedExpr → BlockAtWork → State → State → Type 0
  Puts ps b g new = AddsStmt (HasUnits (units_in ps ++ units_of_stmts b.stmts)) (b ∷ []) g new

  -- what the need does that makes the loop of its parts and its body
  module _ (Fits : List TypedExpr → SemType → Type 0) (makes : Need) (count : ℕ) (moved : (g new : State) → Step passes names env makes g new → IsMoved g new)
      (stored : (g new : State) (c : ChoiceAtWork) → Step passes names env makes g new → IsLast g.choices c → ChoiceIsStored place c → IsStoredAt place new)
      (put : (g new : State) (ps : List TypedExpr) (b : BlockAtWork) → Step passes names env makes g new → AreLast g.found count ps → IsLast g.blocks b → IsPlaced place new → Puts ps b g new)
      (typed : (inside : Bool) (g new : State) (ps : List TypedExpr) (b : BlockAtWork) (v : Variable) → Step passes names env makes g new → AreLast g.found count ps
      → AreTypedExprs env place ps → Fits ps (sem_of v.declared) → SeesLast passes names env place g v → IsStored place v → IsLast g.blocks b → AreTypedStmts env place true b.stmts
      → IsBefore env new → IsPlaced place new → AddsTyped env place inside (b ∷ []) g new) where
    module _ (needs : Listed Need) (words : List Word) (name : Word) (assigned : Bool) (body : Within → Listed Need) (kh : KnowsHead Fits needs)
        (many : (old c : State) (unit : HasUnit old) (run : Run passes names env needs old c) → length (kh.head old c unit run).parts ≡ count)
        (kb : KnowsBlock passes names env place Can body) where
      abbrev bodies : Listed Need
      bodies = body_needs made passes names env place Can can words name assigned body

      -- what stands where; `c`: behind what it goes through, `g`: behind the body
      record LoopRun (old new : State) : Type 0 where
        pub c : State
        pub g : State
        pub unit : HasUnit old
        pub run : Run passes names env needs old c
        pub head : Head old c
        pub same : head ≡ kh.head old c unit run
        pub step : Step passes names env makes g new
        pub body_run : BodyRun made passes names env place Can can words name assigned body c g
        pub found_g : g.found ≡ old.found ++ head.parts
        pub blocks_g : g.blocks ≡ old.blocks ++ body_run.more.block ∷ []
        pub matches_g : g.matches ≡ old.matches
        pub lasts : AreLast g.found count head.parts

      loop-so : (old c g new : State) (unit : HasUnit old) (run : Run passes names env needs old c) (h : Head old c) → h ≡ kh.head old c unit run → length h.parts ≡ count
          → Run passes names env bodies c g → Step passes names env makes g new → LoopRun old new
      loop-so old c g new unit run h same long rb s =
          let m = h.stays.many in
          let unit-c : HasUnit c = omega (arith, unit, m) in
          let r = body-run made passes names env place Can can words name assigned body kb c g unit-c rb in
          let found-g : g.found ≡ old.found ++ h.parts = body-found made passes names env place Can can words name assigned body c g r ∙ h.found in
          record {
            c = c;
            g = g;
            unit = unit;
            run = run;
            head = h;
            same = same;
            step = s;
            body_run = r;
            found_g = found-g;
            blocks_g = body-blocks made passes names env place Can can words name assigned body c g r ∙ ap (λ bs. bs ++ r.more.block ∷ []) h.blocks;
            matches_g = body-matches made passes names env place Can can words name assigned body c g r ∙ h.matches;
            lasts = record { kept = old.found; is = found-g; many = long };
          }

      loop-run : (old new : State) → HasUnit old → Run passes names env (needs & bodies & one makes) old new → LoopRun old new
      loop-run old new unit run =
          let (c, rh, rest) = parted passes names env needs (bodies & one makes) old new run in
          let (g, rb, s) = parted passes names env bodies (one makes) c new rest in
          loop-so old c g new unit rh (kh.head old c unit rh) refl (many old c unit rh) rb s

      last-block : (old new : State) (m : LoopRun old new) → IsLast m.g.blocks m.body_run.more.block
      last-block old new m = record { kept = old.blocks; is = m.blocks_g }

      loop-way : (old new : State) (m : LoopRun old new) → new.found ≡ old.found → new.matches ≡ old.matches → Puts m.head.parts m.body_run.more.block m.g new → OnWay env place new
          → OnWay env place m.g
      loop-way old new m found matches stmt way =
          let go = moved m.g new m.step in
          back-put env place m.head.parts (units_of_stmts m.body_run.more.block.stmts) (m.body_run.more.block ∷ []) m.g new stmt (in-units m.g new go.on go.site)
          (m.found_g ∙ ap (λ xs. xs ++ m.head.parts) (sym found)) (λ q. All-cons (BlockAt env place) m.body_run.more.block [] q (All-nil (BlockAt env place)))
          (λ q ms. subst (All (MatchAt env place)) (matches ∙ sym m.matches_g) ms) way

      loop-fits : (old new : State) (m : LoopRun old new) (x : HeadIs Fits old m.c m.head) (y : BodyIs made passes names env place Can can words name assigned body m.c m.g m.body_run)
          → Fits m.head.parts (sem_of y.variable.declared)
      loop-fits old new m x y =
          let one-want : Some m.body_run.item.want ≡ Some x.want =
          last-same m.c.wants (Some m.body_run.item.want) (Some x.want) (subst (λ ws. IsLast ws (Some m.body_run.item.want)) m.body_run.wants_e m.body_run.item.last) x.last in
          subst (λ t. Fits m.head.parts t) (sym (y.type ∙ same-sem m.body_run.item.want x.want one-want)) x.fits

      loop-done : (inside : Bool) (old new : State) (m : LoopRun old new) (x : HeadIs Fits old m.c m.head)
          (y : BodyIs made passes names env place Can can words name assigned body m.c m.g m.body_run) → IsPlaced place new → OnWay env place new
          → Puts m.head.parts m.body_run.more.block m.g new → ComesToStmt env place inside old new
      loop-done inside old new m x y placed way stmt =
          let choice = body-choice made passes names env place Can can words name assigned body m.c m.g m.body_run in
          let kept-new = keeps place new m.step.1 (stored m.g new m.body_run.opens.choice m.step choice y.known) in
          record {
            adds = behind-waiting (IsDone env place inside) (m.body_run.more.block ∷ []) old m.g new m.blocks_g
                (done env place inside m.head.parts (units_of_stmts m.body_run.more.block.stmts) (m.body_run.more.block ∷ []) m.g new
                (typed inside m.g new m.head.parts m.body_run.more.block y.variable m.step m.lasts x.typed (loop-fits old new m x y) y.seen y.stored (last-block old new m) y.done.typed
                (before env place new kept-new way.parts) placed) stmt x.units y.done.units);
            kept = kept-new;
          }

      loop-comes : (inside : Bool) (old new : State) → LoopRun old new → Can old → new.found ≡ old.found → new.matches ≡ old.matches → IsKept place old → OnWay env place new
          → ComesToStmt env place inside old new
      loop-comes inside old new m can-old found matches kept way =
          let stmt = put m.g new m.head.parts m.body_run.more.block m.step m.lasts (last-block old new m) way.parts.placed in
          let way-g = loop-way old new m found matches stmt way in
          let way-c = body-way made passes names env place Can can words name assigned body m.c m.g m.body_run way-g in
          let x : HeadIs Fits old m.c m.head = subst (λ (h : Head old m.c). HeadIs Fits old m.c h) (sym m.same) (kh.claim old m.c m.unit m.run can-old kept way-c) in
          let y = body-is made passes names env place Can can words name assigned body m.c m.g m.body_run kb (can old m.c m.head.stays can-old) x.kept way-g in
          loop-done inside old new m x y way.parts.placed way stmt

      looped : StmtClaim passes names env place Can (λ w. needs & bodies & one makes)
      looped w old new can-old block more run kept way = loop-comes w.loop old new (loop-run old new block.unit run) can-old more.found more.same.matches kept way

  walk-put : (at : Place) (g new : State) (ps : List TypedExpr) (b : BlockAtWork) → Step passes names env (MakesForeach at) g new → AreLast g.found 1 ps → IsLast g.blocks b
      → IsPlaced place new → Puts ps b g new
  walk-put at g new ps b s lasts block placed =
      let o = walk-opened place at g new s.0 placed in
      let P : TypedStmt → Type 0 = IsForeach o.variable.slot o.over o.body.stmts at in
      let eb : b ≡ o.body = one-gone P o.body b g new o.put block in
      let ep : o.list ∷ [] ≡ ps = same-lasts g.found 1 (o.list ∷ []) ps (as-lasts g.found o.list o.last_part) lasts in
      subst (λ xs. Puts xs b g new) ep
      (subst (λ x. AddsStmt (HasUnits (units_in (o.list ∷ []) ++ units_of_stmts b.stmts)) (x ∷ []) g new) (sym eb)
      (put-weaker P (HasUnits (units_in (o.list ∷ []) ++ units_of_stmts b.stmts)) (o.body ∷ []) g new
      (λ t v. walked-units o.variable.slot o.own o.list o.over o.body.stmts at t o.goes_over v
      ∙ ap (λ (x : BlockAtWork). units_in (o.list ∷ []) ++ units_of_stmts x.stmts) (sym eb)) o.put))

  count-put : (op : RangeOp) (at : Place) (g new : State) (ps : List TypedExpr) (b : BlockAtWork) → Step passes names env (MakesRange op at) g new → AreLast g.found 2 ps → IsLast g.blocks b
      → IsPlaced place new → Puts ps b g new
  count-put op at g new ps b s lasts block placed =
      let o = count-opened place op at g new s.0 placed in
      let P : TypedStmt → Type 0 = IsForeach o.variable.slot o.over o.body.stmts at in
      let eb : b ≡ o.body = one-gone P o.body b g new o.put block in
      let ep : o.from ∷ o.to ∷ [] ≡ ps = same-lasts g.found 2 (o.from ∷ o.to ∷ []) ps o.last_parts lasts in
      subst (λ xs. Puts xs b g new) ep
      (subst (λ x. AddsStmt (HasUnits (units_in (o.from ∷ o.to ∷ []) ++ units_of_stmts b.stmts)) (x ∷ []) g new) (sym eb)
      (put-weaker P (HasUnits (units_in (o.from ∷ o.to ∷ []) ++ units_of_stmts b.stmts)) (o.body ∷ []) g new
      (λ t v. counted-units o.variable.slot o.own (range_end op) o.from o.to o.over o.body.stmts at t o.goes_over v
      ∙ ap (λ (x : BlockAtWork). units_in (o.from ∷ o.to ∷ []) ++ units_of_stmts x.stmts) (sym eb)) o.put))

  list-many : (t : LocalType) (name : Word) (from : Reading) (k : Knows passes names env place Can from) (old c : State) (unit : HasUnit old)
      (run : Run passes names env (list_needs t name from) old c) → length (list-head t name from old c (list-run t name from k old c unit run)).parts ≡ 1
  unfolding list-head
  list-many t name from k old c unit run = refl

  range-many : (t : LocalType) (name : Word) (from to : Reading) (kf : Knows passes names env place Can from) (kt : Knows passes names env place Can to) (old c : State) (unit : HasUnit old)
      (run : Run passes names env (range_needs t name from to) old c) → length (range-head t name from to old c (range-run t name from to kf kt old c unit run)).parts ≡ 2
  unfolding range-head
  range-many t name from to kf kt old c unit run = refl

  module _ (truth : SemType) (booleans : HasExactly env truth IsBoolean) where
    pub walked : (t : LocalType) (name : Word) (from : Reading) (words : List Word) (assigned : Bool) (body : Within → Listed Need) (at : Place) → Knows passes names env place Can from
        → KnowsBlock passes names env place Can body
        → StmtClaim passes names env place Can (λ w. list_needs t name from & body_needs made passes names env place Can can words name assigned body & one (MakesForeach at))
    unfolding lists list-head
    walked t name from words assigned body at kf kb =
        looped ListFits (MakesForeach at) 1 (λ g new s. moved-makes-foreach at g new tt s.0) (λ g new c s last known. foreach-stored place at g new c s.0 last known) (walk-put at)
        (λ inside g new ps b v s lasts typed it seen stored block body-typed after placed.
        let (l, are, of, has) = it in
        let lasts' : AreLast g.found 1 (l ∷ []) = subst (λ xs. AreLast g.found 1 xs) are lasts in
        let typed' : AreTypedExprs env place (l ∷ []) = subst (λ xs. AreTypedExprs env place xs) are typed in
        walk-typed passes names env place loops inside at g new l b v truth after booleans s.0 (record { kept = lasts'.kept; is = lasts'.is }) typed'.0 of seen stored has block body-typed placed)
        (list_needs t name from) words name assigned body (lists t name from kf) (list-many t name from kf) kb

    pub counted : (t : LocalType) (name : Word) (from to : Reading) (op : RangeOp) (words : List Word) (assigned : Bool) (body : Within → Listed Need) (at : Place)
        → Knows passes names env place Can from → Knows passes names env place Can to → KnowsBlock passes names env place Can body
        → StmtClaim passes names env place Can (λ w. range_needs t name from to & body_needs made passes names env place Can can words name assigned body & one (MakesRange op at))
    unfolding ranges range-head
    counted t name from to op words assigned body at kf kt kb =
        looped RangeFits (MakesRange op at) 2 (λ g new s. moved-makes-range op at g new tt s.0) (λ g new c s last known. range-stored place op at g new c s.0 last known) (count-put op at)
        (λ inside g new ps b v s lasts typed it seen stored block body-typed after placed.
        let (x, y, are, of-x, of-y, has) = it in
        let typed' : AreTypedExprs env place (x ∷ y ∷ []) = subst (λ xs. AreTypedExprs env place xs) are typed in
        count-typed passes names env place loops inside op at g new x y b v after s.0 (subst (λ xs. AreLast g.found 2 xs) are lasts) typed'.0 typed'.1.0 of-x of-y seen stored has block body-typed placed)
        (range_needs t name from to) words name assigned body (ranges t name from to kf kt) (range-many t name from to kf kt) kb
