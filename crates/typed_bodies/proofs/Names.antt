-- Assignments to names, with an operator and without one.
use Rattle.std.proofs.Common.{Bool, IfSome, List, None, Option, Some, [], ap, append_assoc, arith, length, refl, subst, sym, true, false, ◌++◌, ◌∙◌, ◌∷◌, ◌≡◌, ◌≤◌}
use Rattle.std.specs.List.{AllZip}
use Rattle.std.specs.Prelude.{IsSomeAnd, if◌then◌else◌}
use Rattle.bal_base.specs.declared.place.Place.{Place}
use Rattle.bal_base.specs.declared.text.Name.{Name}
use Rattle.bal_tree.specs.declared.name.Prefix.TheVariants.{Word as WordPrefix, Int as IntPrefix}
use Rattle.bal_tree.specs.declared.name.Prefix.{Prefix}
use Rattle.bal_tree.specs.declared.name.QualifiedName.{QualifiedName}
use Rattle.bal_tree.specs.declared.stmt.AssignOp.{AssignOp}
use Rattle.check_laws.specs.Laws.{IsReady}
use Rattle.check_laws.specs.StmtLaws.{HasUnit}
use Rattle.check_words.specs.Seen.{Seen, SeenVariable, seen_as, seen_behind, variable_or}
use Rattle.check_words.specs.Sharing.{SameFlow, SameVariable}
use Rattle.check_words.specs.State.{IsLast, Site, State, UnitAtWork, find_variable, shared_now}
use Rattle.descriptors.specs.declared.names.Names.{Names}
use Rattle.expr_needs.specs.ExprTable.{Reading, as_wanted}
use Rattle.expr_needs.specs.Needs.{Assigns, IsAssignable, IsOperand, IsWanted, ReadsName, UpdatesName}
use Rattle.expr_needs.specs.declared.expected.Expected.TheVariants as expected
use Rattle.flow_narrowing.specs.Flows.{AreSame}
use Rattle.flow_narrowing.specs.declared.flow.Variable.{Variable}
use Rattle.operations.specs.Kinds.{IsBoolean}
use Rattle.operations.specs.Rows.{Surroundings}
use Rattle.tree_promises.specs.Laws.{MadeStatementsAreTyped}
use Rattle.tree_promises.specs.Made.{sem}
use Rattle.tree_promises.specs.Types.{IsTypedExpr}
use Rattle.type_model.specs.Calls.{Asked}
use Rattle.type_model.specs.Inclusion.{HasExactly, Sub}
use Rattle.type_model.specs.Places.{is_same_text}
use Rattle.type_model.specs.declared.answers.TypeLimit.{TypeLimit}
use Rattle.type_model.specs.declared.atoms.AtomDef.{AtomDef}
use Rattle.type_model.specs.declared.basic.SemType.{SemType}
use Rattle.type_model.specs.declared.basic.Ty.{Ty}
use Rattle.typed_bodies.proofs.Aside.{IsAside, aside-is-assignable, aside-itself, aside-operand, aside-reads-name}
use Rattle.typed_bodies.proofs.MemberUpdates.{operand-put}
use Rattle.typed_bodies.proofs.Onward.{onward-assigns, onward-updates-name}
use Rattle.typed_bodies.proofs.Puts.{assigns-put, updates-put}
use Rattle.typed_bodies.proofs.Trails.{in-on, in-stays}
use Rattle.typed_bodies.proofs.Values.{Given, Knows, value-put, value-put-behind, want-given, want-left, wanted-ready}
use Rattle.typed_bodies.specs.Claims.{ComesToStmt, IsDone, SameAtHand, StaysIn, StmtClaim}
use Rattle.typed_exprs.proofs.Steps.{Step, before, calm-path, keeps, parted, so-far, stored-here}
use Rattle.typed_exprs.specs.Lines.{Left, Run}
use Rattle.typed_needs.proofs.Asking.{wanted-leaves}
use Rattle.typed_needs.specs.Between.{IsKept, IsSoFar, units_in}
use Rattle.typed_needs.specs.Placing.{AreNamed}
use Rattle.typed_stmts.proofs.Assigning.{assignments-are-typed}
use Rattle.typed_stmts.proofs.NameUpdates.{updates-are-typed}
use Rattle.typed_stmts.proofs.Words.{put-before}
use Rattle.typed_stmts.proofs.Updating.{operand-wanted}
use Rattle.typed_stmts.specs.Adding.{AddsTyped}
use Rattle.typed_stmts.specs.Assigned.{AssignmentsAreTyped, HasSame, Sees, TakeValues, assigned_type}
use Rattle.typed_stmts.specs.Updated.{OperandWanted, UpdateFits, UpdatesAreTyped, read_type}
use Rattle.typed_tree.specs.Listed.{one, ◌&◌}
use Rattle.typed_tree.specs.SharedTypes.{Shared, sem_of}
use Rattle.typed_tree.specs.declared.expr.TypedExpr.{TypedExpr}

-- ---- what a name stands for where the same is known of variables

-- both are variables of which the same is known, or the same thing
pub record SameSeen (x y : Seen) : Type 0 where
  pub assigned : assigned_type y ≡ assigned_type x
  pub read : read_type y ≡ read_type x

same-itself : (x y : Seen) → y ≡ x → SameSeen x y
same-itself x y e = record { assigned = ap assigned_type e; read = ap read_type e }

same-now : (v u : Variable) → SameVariable v u → sem_of (shared_now u) ≡ sem_of (shared_now v)
same-now v u h = by v.narrowed u.narrowed refl refl h.narrowed
  where
    now-of : (w : Variable) (n : Option Shared) → w.narrowed ≡ n → shared_now w ≡ shared_now (record w { narrowed = n })
    now-of w n e = ap (λ m. shared_now (record w { narrowed = m })) e

    by : (n m : Option Shared) → v.narrowed ≡ n → u.narrowed ≡ m → AreSame n m → sem_of (shared_now u) ≡ sem_of (shared_now v)
    by None None e f same = ap sem_of (now-of u None f) ∙ ap (λ (t : Ty). t.sem) h.variable.declared ∙ sym (ap sem_of (now-of v None e))
    by (Some s) (Some t) e f same = ap sem_of (now-of u (Some t) f) ∙ ap (λ (y : Ty). y.sem) same ∙ sym (ap sem_of (now-of v (Some s) e))
    by None (Some t) e f same = absurd same
    by (Some s) None e f same = absurd same

same-variable : (v u : Variable) → SameVariable v u → SameSeen (SeenVariable v) (SeenVariable u)
same-variable v u h =
    record { assigned = ap (λ (t : Ty). Some t.sem) h.variable.declared; read = ap (λ (t : SemType). Some t) (same-now v u h) }

module _ (names : Names) (site : Site) (q : QualifiedName) where
  same-found : (vs us : List Variable) (name : Name) → AllZip SameVariable vs us → SameSeen (variable_or names site q (find_variable vs name)) (variable_or names site q (find_variable us name))
  same-found [] [] name h = same-itself _ _ refl
  same-found (v ∷ vs) (u ∷ us) name h = by (same-found vs us name h.1) (is_same_text v.name name) (is_same_text u.name name) refl refl
    where
      texts : is_same_text u.name name ≡ is_same_text v.name name
      texts = ap (λ n. is_same_text n name) h.0.variable.name

      found-of : (w : Variable) (ws : List Variable) (b : Bool) → is_same_text w.name name ≡ b → find_variable (w ∷ ws) name ≡ (if b then Some w else find_variable ws name)
      found-of w ws b e = ap (λ c. if c then Some w else find_variable ws name) e

      by : SameSeen (variable_or names site q (find_variable vs name)) (variable_or names site q (find_variable us name)) → (b c : Bool) → is_same_text v.name name ≡ b
          → is_same_text u.name name ≡ c → SameSeen (variable_or names site q (find_variable (v ∷ vs) name)) (variable_or names site q (find_variable (u ∷ us) name))
      by rest true true e f =
          subst (λ x. SameSeen (variable_or names site q x) (variable_or names site q (find_variable (u ∷ us) name))) (sym (found-of v vs true e))
          (subst (λ x. SameSeen (SeenVariable v) (variable_or names site q x)) (sym (found-of u us true f)) (same-variable v u h.0))
      by rest false false e f =
          subst (λ x. SameSeen (variable_or names site q x) (variable_or names site q (find_variable (u ∷ us) name))) (sym (found-of v vs false e))
          (subst (λ x. SameSeen (variable_or names site q (find_variable vs name)) (variable_or names site q x)) (sym (found-of u us false f)) rest)
      by rest true false e f = absurd (let g : false ≡ true = sym f ∙ texts ∙ e in let bad : ⊥ = cc in bad)
      by rest false true e f = absurd (let g : true ≡ false = sym f ∙ texts ∙ e in let bad : ⊥ = cc in bad)
  same-found [] (u ∷ us) name h = absurd h
  same-found (v ∷ vs) [] name h = absurd h

  same-seen : (vs us : List Variable) → AllZip SameVariable vs us → SameSeen (seen_as names site vs q) (seen_as names site us q)
  same-seen vs us h = by q.prefix
    where
      by : (p : Option Prefix) → SameSeen (seen_behind names site vs q p) (seen_behind names site us q p)
      by None = same-found vs us q.word.name h
      by (Some (IntPrefix at)) = same-itself _ _ refl
      by (Some (WordPrefix w)) = same-itself _ _ refl

pub last-there : {A : Type 0} (xs : List A) → 1 ≤ length xs → (x : A) × IsLast xs x
last-there [] long = absurd (omega (arith, long))
last-there (x ∷ []) long = (x, record { kept = []; is = refl })
last-there (x ∷ y ∷ xs) long = let (z, last) = last-there (y ∷ xs) (omega arith) in (z, record { kept = x ∷ last.kept; is = ap (λ l. x ∷ l) last.is })

fits-some : (env : List AtomDef) (o : Option SemType) (e w : SemType) → IsSomeAnd o (λ t. HasSame env t w) → Sub env e w → IfSome o (Sub env e)
fits-some env (Some t) e w same under = λ x valid i. (same x).1 (under x valid i)
fits-some env None e w same under = absurd same

if-some : (o : Option SemType) (P : SemType → Type 0) → IsSomeAnd o P → IfSome o P
if-some (Some t) P h = h
if-some None P h = absurd h

same-type : (env : List AtomDef) (o p : Option SemType) (w : Shared) → p ≡ o → IsSomeAnd o (λ t. HasSame env t (sem_of w)) → IfSome p (λ t. HasSame env t (sem_of w))
same-type env o p w e h = if-some p (λ t. HasSame env t (sem_of w)) (subst (λ x. IsSomeAnd x (λ t. HasSame env t (sem_of w))) (sym e) h)

module _ (made : MadeStatementsAreTyped) (passes : List AtomDef → Asked → TypeLimit → Type 0) (names : Names) (env : List AtomDef) (place : Surroundings) (Can : State → Type 0) (can : (s t : State) → StaysIn s t → Can s → Can t)
    (takes : TakeValues env names place) where
  -- what a name stands for behind a value, where it was this before it
  record SeenBehind (q : QualifiedName) (seen : Seen) (m : State) : Type 0 where
    pub then_seen : Seen
    pub sees : Sees names m q then_seen
    pub same : SameSeen seen then_seen

  -- `u`: the unit at hand before it
  seen-behind : (r : Reading) → Knows passes names env place Can r → (q : QualifiedName) (p m : State) (u : UnitAtWork) → HasUnit p → HasUnit m → IsLast p.units u → m.site ≡ p.site
      → SameAtHand p m → SeenBehind q (seen_as names p.site u.flow.variables q) m
  seen-behind r k q p m u unit unit-m hand site flow =
      let (v, hand-m) = last-there m.units unit-m in
      let same : SameFlow u.flow v.flow = flow u v hand hand-m in
      record {
        then_seen = seen_as names m.site v.flow.variables q;
        sees = (v, hand-m, refl);
        same = subst (λ (x : Site). SameSeen (seen_as names p.site u.flow.variables q) (seen_as names x v.flow.variables q)) (sym site)
            (same-seen names p.site q u.flow.variables v.flow.variables same.variables);
      }

  want-flow : (r : Reading) → Knows passes names env place Can r → (p m : State) → IsReady expected.Wanted p → Run passes names env (as_wanted r) p m → SameAtHand p m
  want-flow r k p m ready run =
      let (n, ra, rs) = parted passes names env (r.needs expected.Wanted) (one (IsWanted r.at)) p m run in
      subst (λ (s : State). SameAtHand p s) (sym (wanted-leaves passes r.at n m tt rs.0)) (k.flow expected.Wanted p n ready ra)

  -- ---- `x = r;`

  pub assigned : (q : QualifiedName) (r : Reading) (at : Place) → Knows passes names env place Can r
      → StmtClaim passes names env place Can (λ w. one (IsAssignable q) & as_wanted r & one (Assigns q at))
  assigned q r at k w old new c block more run kept way =
      let (p, sq, rest) = parted passes names env (one (IsAssignable q)) (as_wanted r & one (Assigns q at)) old new run in
      let (m, ra, s) = parted passes names env (as_wanted r) (one (Assigns q at)) p new rest in
      let a : AssignmentsAreTyped passes names env place w.loop = assignments-are-typed passes names env made place w.loop in
      let first = aside-is-assignable names q old p tt sq.0 in
      let (u, hand) = last-there old.units block.unit in
      let seen = seen_as names old.site u.flow.variables q in
      let (want, all, same) = a.wanted q old p seen sq.0 (u, hand, refl) in
      let in-p = in-stays old p first.stays in
      let unit : HasUnit p = (let y = block.unit in let z = in-p.many in omega (arith, y, z)) in
      let last : IsLast p.wants (Some want) = record { kept = old.wants; is = ap (λ (x : State). x.wants) all } in
      let ready = wanted-ready p want unit last in
      let left = want-left passes names env place Can r k p m ready ra in
      let unit-m : HasUnit m = (let y = unit in let z = left.path.many in omega (arith, y, z)) in
      let hand-p : IsLast p.units u = subst (λ us. IsLast us u) (sym (ap (λ (x : State). x.units) all)) hand in
      let b = seen-behind r k q p m u unit unit-m hand-p left.more.same.site (want-flow r k p m ready ra) in
      let same-p : IsSomeAnd (assigned_type (seen_as names p.site u.flow.variables q)) (λ t. HasSame env t (sem_of want)) =
      subst (λ (x : Site). IsSomeAnd (assigned_type (seen_as names x u.flow.variables q)) (λ t. HasSame env t (sem_of want))) (sym first.stays.site) same in
      let same-m : IsSomeAnd (assigned_type b.then_seen) (λ t. HasSame env t (sem_of want)) =
      subst (λ o. IsSomeAnd o (λ t. HasSame env t (sem_of want))) (sym b.same.assigned) same-p in
      let h = onward-assigns names q at m new tt s.0 in
      let kept-p = keeps place p sq.1 (first.stored place (stored-here place old kept)) in
      let comes = value-put passes names env place Can w.loop (λ e. Sub env (sem e) (sem_of want)) p m new left (more.found ∙ sym first.stays.found) (more.same.matches ∙ sym first.stays.matches)
      h.moved (h.stored place) s.1
      (assigns-put made passes names env place w.loop q at m new left.more.part s.0 (record { kept = p.found; is = left.more.found }))
      (λ far. want-given passes names env place Can r k want p m (can old p in-p c) ready ra kept-p last far)
      (λ x. a.assigned q at m new x.part b.then_seen s.0 (record { kept = p.found; is = x.found }) x.typed b.sees
      (fits-some env (assigned_type b.then_seen) (sem x.part) (sem_of want) same-m x.holds) x.kept.stored takes) way in
      record { adds = put-before (IsDone env place w.loop) [] old p new first.stays.blocks comes.adds; kept = comes.kept }

  -- ---- `x += r;`

  -- what the operator gives, and that it fits; `s`, `t`: before and behind what is asked of what was read
  record UpdatesWith (assign : AssignOp) (read : Shared) (s t : State) (e : TypedExpr) : Type 0 where
    pub result : Shared
    pub ints : Bool
    pub wants : t.wants ≡ s.wants ++ Some result ∷ []
    pub sorts : t.sorts ≡ s.sorts ++ ints ∷ []
    pub fits : UpdateFits passes names env assign ints read result e

  -- what stands where; `p`, `p2`, `p3`: behind what is wanted for what is stored, for what was read, and for the operand; `m`: behind the value
  record NameRun (q : QualifiedName) (assign : AssignOp) (r : Reading) (at : Place) (old new : State) : Type 0 where
    pub p : State
    pub p2 : State
    pub p3 : State
    pub m : State
    pub stored : Shared
    pub read : Shared
    pub result : Shared
    pub ints : Bool
    pub step_1 : Step passes names env (IsAssignable q) old p
    pub step_2 : Step passes names env (ReadsName q) p p2
    pub step_3 : Step passes names env (IsOperand assign q.at) p2 p3
    pub run : Run passes names env (as_wanted r) p3 m
    pub step : Step passes names env (UpdatesName q assign at) m new
    pub first : IsAside old p
    pub second : IsAside p p2
    pub third : IsAside p2 p3
    pub wants_1 : p.wants ≡ old.wants ++ Some stored ∷ []
    pub wants_2 : p2.wants ≡ p.wants ++ Some read ∷ []
    pub wants_3 : p3.wants ≡ p2.wants ++ Some result ∷ []
    pub sorts_3 : p3.sorts ≡ p2.sorts ++ ints ∷ []
    pub in_3 : StaysIn old p3
    pub ready : IsReady expected.Wanted p3
    pub left : Left p3 m
    pub behind : Seen
    pub sees : Sees names m q behind
    pub stores : IfSome (assigned_type behind) (λ t. HasSame env t (sem_of stored))
    pub reads : IfSome (read_type behind) (λ t. HasSame env t (sem_of read))

  name-run : (q : QualifiedName) (assign : AssignOp) (r : Reading) (at : Place) → Knows passes names env place Can r → (old new : State) → HasUnit old
      → Run passes names env ((one (IsAssignable q) & one (ReadsName q)) & (one (IsOperand assign q.at) & as_wanted r) & one (UpdatesName q assign at)) old new
      → NameRun q assign r at old new
  name-run q assign r at k old new has-unit run =
      let (p2, r1, r2) = parted passes names env (one (IsAssignable q) & one (ReadsName q)) ((one (IsOperand assign q.at) & as_wanted r) & one (UpdatesName q assign at)) old new run in
      let (p, sq, sr) = parted passes names env (one (IsAssignable q)) (one (ReadsName q)) old p2 r1 in
      let (m, r3, s) = parted passes names env (one (IsOperand assign q.at) & as_wanted r) (one (UpdatesName q assign at)) p2 new r2 in
      let (p3, so, ra) = parted passes names env (one (IsOperand assign q.at)) (as_wanted r) p2 m r3 in
      names-so q assign r at k old p p2 p3 m new has-unit sq sr so ra s
    where
      names-so : (q : QualifiedName) (assign : AssignOp) (r : Reading) (at : Place) → Knows passes names env place Can r → (old p p2 p3 m new : State) → HasUnit old
          → Step passes names env (IsAssignable q) old p → Step passes names env (ReadsName q) p p2 → Step passes names env (IsOperand assign q.at) p2 p3
          → Run passes names env (as_wanted r) p3 m → Step passes names env (UpdatesName q assign at) m new → NameRun q assign r at old new
      names-so q assign r at k old p p2 p3 m new has-unit sq sr so ra s =
          let a : AssignmentsAreTyped passes names env place true = assignments-are-typed passes names env made place true in
          let d : UpdatesAreTyped passes names env place true = updates-are-typed made passes names env place true in
          let a1 = aside-is-assignable names q old p tt sq.0 in
          let a2 = aside-reads-name names q p p2 tt sr.0 in
          let a3 = aside-operand passes assign q.at p2 p3 tt so.0 in
          let (u, hand) = last-there old.units has-unit in
          let (stored, all1, same1) = a.wanted q old p (seen_as names old.site u.flow.variables q) sq.0 (u, hand, refl) in
          let hand-p : IsLast p.units u = subst (λ us. IsLast us u) (sym (ap (λ (x : State). x.units) all1)) hand in
          let (read, all2, same2) = d.names_read q p p2 (seen_as names p.site u.flow.variables q) sr.0 (u, hand-p, refl) in
          let x3 = operand-put passes assign q.at p2 p3 so.0 in
          let hand-3 : IsLast p3.units u = subst (λ us. IsLast us u) (sym (ap (λ (x : State). x.units) x3.all ∙ ap (λ (x : State). x.units) all2)) hand-p in
          let in-3 = in-on old p2 p3 (in-on old p p2 (in-stays old p a1.stays) (in-stays p p2 a2.stays)) (in-stays p2 p3 a3.stays) in
          let unit : HasUnit p3 = (let y = has-unit in let z = in-3.many in omega (arith, y, z)) in
          let wants3 : p3.wants ≡ p2.wants ++ Some x3.want ∷ [] = ap (λ (y : State). y.wants) x3.all in
          let ready = wanted-ready p3 x3.want unit (record { kept = p2.wants; is = wants3 }) in
          let left = want-left passes names env place Can r k p3 m ready ra in
          let unit-m : HasUnit m = (let y = unit in let z = left.path.many in omega (arith, y, z)) in
          let b = seen-behind r k q p3 m u unit unit-m hand-3 left.more.same.site (want-flow r k p3 m ready ra) in
          let site-3 : p3.site ≡ p.site = a3.stays.site ∙ a2.stays.site in
          record {
            p = p;
            p2 = p2;
            p3 = p3;
            m = m;
            stored = stored;
            read = read;
            result = x3.want;
            ints = x3.ints;
            step_1 = sq;
            step_2 = sr;
            step_3 = so;
            run = ra;
            step = s;
            first = a1;
            second = a2;
            third = a3;
            wants_1 = ap (λ (y : State). y.wants) all1;
            wants_2 = ap (λ (y : State). y.wants) all2;
            wants_3 = wants3;
            sorts_3 = ap (λ (y : State). y.sorts) x3.all;
            in_3 = in-3;
            ready = ready;
            left = left;
            behind = b.then_seen;
            sees = b.sees;
            stores = same-type env (assigned_type (seen_as names old.site u.flow.variables q)) (assigned_type b.then_seen) stored
                (b.same.assigned ∙ ap (λ (x : Site). assigned_type (seen_as names x u.flow.variables q)) (site-3 ∙ a1.stays.site)) same1;
            reads = same-type env (read_type (seen_as names p.site u.flow.variables q)) (read_type b.then_seen) read
                (b.same.read ∙ ap (λ (x : Site). read_type (seen_as names x u.flow.variables q)) site-3) same2;
          }

  module _ (named : AreNamed env names place) (truth : SemType) (booleans : HasExactly env truth IsBoolean) where
    -- behind the value; `o`: what is wanted of it, `x`: the value
    name-typed : (q : QualifiedName) (assign : AssignOp) (r : Reading) (at : Place) (inside : Bool) (old new : State) (n : NameRun q assign r at old new) (e : TypedExpr) (result : Shared) (ints : Bool)
        → UpdateFits passes names env assign ints n.read result e → n.p3.wants ≡ n.p2.wants ++ Some result ∷ [] → n.p3.sorts ≡ n.p2.sorts ++ ints ∷ []
        → n.m.found ≡ n.p3.found ++ e ∷ [] → IsTypedExpr env place e → IsKept place n.m → IsSoFar env place n.m → AddsTyped env place inside [] n.m new
    name-typed q assign r at inside old new n e result ints fits wants sorts found typed kept far =
        let d : UpdatesAreTyped passes names env place inside = updates-are-typed made passes names env place inside in
        let all : n.m.wants ≡ old.wants ++ Some n.stored ∷ Some n.read ∷ Some result ∷ [] =
        n.left.more.same.wants ∙ wants ∙ ap (λ ws. ws ++ Some result ∷ []) (n.wants_2 ∙ ap (λ ws. ws ++ Some n.read ∷ []) n.wants_1)
        ∙ ap (λ ws. ws ++ Some result ∷ []) (append_assoc old.wants (Some n.stored ∷ []) (Some n.read ∷ []))
        ∙ append_assoc old.wants (Some n.stored ∷ Some n.read ∷ []) (Some result ∷ []) in
        d.names_updated q assign at n.m new e n.behind n.stored n.read result ints truth (before env place n.m kept far) booleans n.step.0
        (record { kept = old.wants; is = all; many = refl }) (record { kept = n.p2.sorts; is = n.left.more.same.sorts ∙ sorts }) fits
        (record { kept = n.p3.found; is = found }) typed n.sees n.reads n.stores kept.stored named takes

    -- what the value is
    name-given : (q : QualifiedName) (assign : AssignOp) (r : Reading) (at : Place) → Knows passes names env place Can r → (old new : State) (n : NameRun q assign r at old new) → Can old
        → IsKept place old → IsSoFar env place n.m → Given passes names env place Can (λ e. UpdatesWith assign n.read n.p2 n.p3 e) n.p3 n.m
    name-given q assign r at k old new n c kept far =
        let far-3 = so-far env place n.p3 n.m n.left.path far in
        let far-2 = so-far env place n.p2 n.p3 (calm-path n.p2 n.p3 n.third.stays.on (ap (λ (xs : List TypedExpr). units_in xs) n.third.stays.found)) far-3 in
        let kept-1 = keeps place n.p n.step_1.1 (n.first.stored place (stored-here place old kept)) in
        let kept-2 = keeps place n.p2 n.step_2.1 (n.second.stored place (stored-here place n.p kept-1)) in
        let kept-3 = keeps place n.p3 n.step_3.1 (n.third.stored place (stored-here place n.p2 kept-2)) in
        let last-read : IsLast n.p2.wants (Some n.read) = record { kept = n.p.wants; is = n.wants_2 } in
        let o : OperandWanted passes names env assign n.read n.p2 n.p3 =
        operand-wanted passes names env assign q.at n.p2 n.p3 n.read (before env place n.p2 kept-2 far-2) (before env place n.p3 kept-3 far-3) n.step_3.0 last-read in
        given-so q assign r at k old new n c kept-3 far o
      where
        given-so : (q : QualifiedName) (assign : AssignOp) (r : Reading) (at : Place) → Knows passes names env place Can r → (old new : State) (n : NameRun q assign r at old new) → Can old
            → IsKept place n.p3 → IsSoFar env place n.m → OperandWanted passes names env assign n.read n.p2 n.p3
            → Given passes names env place Can (λ e. UpdatesWith assign n.read n.p2 n.p3 e) n.p3 n.m
        given-so q assign r at k old new n c kept-3 far o =
            let wants : n.p3.wants ≡ n.p2.wants ++ Some o.want ∷ [] = ap (λ (y : State). y.wants) o.all in
            let last-want : IsLast n.p3.wants (Some o.want) = record { kept = n.p2.wants; is = wants } in
            let x = want-given passes names env place Can r k o.want n.p3 n.m (can old n.p3 n.in_3 c) n.ready n.run kept-3 last-want far in
            record {
              part = x.part;
              found = x.found;
              typed = x.typed;
              units = x.units;
              kept = x.kept;
              holds = record {
                result = o.want;
                ints = o.ints;
                wants = wants;
                sorts = ap (λ (y : State). y.sorts) o.all;
                fits = record { suits = o.suits; read_so = o.read_so; value_so = λ y i. (o.exactly y i.0).0 (x.holds y i.0 i.1); exactly = o.exactly };
              };
            }

    pub updated : (q : QualifiedName) (assign : AssignOp) (r : Reading) (at : Place) → Knows passes names env place Can r
        → StmtClaim passes names env place Can (λ w. (one (IsAssignable q) & one (ReadsName q)) & (one (IsOperand assign q.at) & as_wanted r) & one (UpdatesName q assign at))
    updated q assign r at k w old new c block more run kept way = so (name-run q assign r at k old new block.unit run)
      where
        so : NameRun q assign r at old new → ComesToStmt env place w.loop old new
        so n =
            let h = onward-updates-name passes names q assign at n.m new tt n.step.0 in
            let found3 = n.third.stays.found ∙ n.second.stays.found ∙ n.first.stays.found in
            let matches3 = n.third.stays.matches ∙ n.second.stays.matches ∙ n.first.stays.matches in
            let blocks3 = n.third.stays.blocks ∙ n.second.stays.blocks ∙ n.first.stays.blocks in
            let comes = value-put-behind passes names env place Can w.loop (λ e. UpdatesWith assign n.read n.p2 n.p3 e) n.p3 n.m n.m new n.left (aside-itself n.m) (λ y. y)
            (more.found ∙ sym found3) (more.same.matches ∙ sym matches3) h.moved (h.stored place) n.step.1
            (updates-put made passes names env place w.loop q assign at n.m new n.left.more.part n.step.0 (record { kept = n.p3.found; is = n.left.more.found }))
            (λ far. name-given q assign r at k old new n c kept far)
            (λ x found kept-m far-m. name-typed q assign r at w.loop old new n x.part x.holds.result x.holds.ints x.holds.fits x.holds.wants x.holds.sorts found x.typed kept-m far-m) way in
            record { adds = put-before (IsDone env place w.loop) [] old n.p3 new blocks3 comes.adds; kept = comes.kept }
