-- Assignments with an operator to members.
use Rattle.typed_stmts.specs.Adding.{AddsTyped}
use Rattle.typed_needs.specs.Between.{IsKept}
use Rattle.check_laws.specs.Laws.{IsReady}
use Rattle.std.proofs.Common.{Bool, List, Some, [], ap, append_assoc, arith, refl, subst, sym, ◌++◌, ◌∙◌, ◌∷◌, ◌≡◌}
use Rattle.bal_base.specs.declared.place.Place.{Place}
use Rattle.bal_tree.specs.declared.name.Word.{Word}
use Rattle.bal_tree.specs.declared.stmt.AssignOp.TheVariants.{Add, Divide, Multiply, Set, Subtract}
use Rattle.bal_tree.specs.declared.stmt.AssignOp.{AssignOp}
use Rattle.check_laws.specs.StmtLaws.{HasUnit}
use Rattle.check_words.specs.State.{AreLast, IsLast, State}
use Rattle.check_words.specs.Statements.{is_operand, operand_kind, operand_sort}
use Rattle.check_words.specs.Values.{sort_kind}
use Rattle.check_words.specs.Words.{OfKind}
use Rattle.check_words.specs.declared.access.Access.TheVariants.{Key}
use Rattle.check_words.specs.declared.access.Access.{Access}
use Rattle.checks.specs.Checks.{Gives, gives_some, ◌▷◌}
use Rattle.descriptors.specs.declared.names.Names.{Names}
use Rattle.expr_needs.specs.ExprTable.{Reading, against, as_wanted}
use Rattle.expr_needs.specs.Needs.{ExpectsStored, HasField, IsOperand, Need, ReadsStored, ReadsStoredField, UpdatesElement, UpdatesField}
use Rattle.expr_needs.specs.declared.expected.Expected.TheVariants as expected
use Rattle.expr_needs.specs.declared.kind.Kind.TheVariants as kind
use Rattle.needs.specs.Needs.{does}
use Rattle.std.specs.Prelude.{⊤}
use Rattle.typed_needs.specs.Placing.{IsPlaced}
use Rattle.operations.specs.Kinds.{IsBoolean}
use Rattle.operations.specs.Rows.{Surroundings}
use Rattle.tree_promises.specs.Laws.{MadeLoopsAreTyped, MadeStatementsAreTyped}
use Rattle.tree_promises.specs.Made.{sem}
use Rattle.tree_promises.specs.Types.{IsTypedExpr}
use Rattle.type_model.specs.Calls.{Asked}
use Rattle.type_model.specs.Inclusion.{HasExactly, Sub}
use Rattle.type_model.specs.declared.answers.TypeLimit.{TypeLimit}
use Rattle.type_model.specs.declared.atoms.AtomDef.{AtomDef}
use Rattle.type_model.specs.declared.basic.SemType.{SemType}
use Rattle.typed_bodies.proofs.Aside.{IsAside, aside-operand, aside-reads-field, aside-reads-stored}
use Rattle.typed_bodies.proofs.Members.{KnowsIt, expects, expects-in, expects-is, last-access-of, lasts-q, target-put, three-typed, two-last, way-q, Expects, ExpectsIs}
use Rattle.typed_bodies.proofs.Onward.{IsOnward, onward-updates-element, onward-updates-field}
use Rattle.typed_bodies.proofs.Puts.{PutsOf, element-put, field-put}
use Rattle.typed_bodies.proofs.Targets.{KnowsTarget, Target, field-by-key, fields}
use Rattle.typed_bodies.proofs.Trails.{aside-keeps, back-aside, back-value, in-on, in-stays, OnWay}
use Rattle.typed_bodies.proofs.Values.{Knows, want-given, want-left, wanted-ready, Given}
use Rattle.typed_bodies.specs.Claims.{StaysIn, StmtClaim, ComesToStmt}
use Rattle.typed_exprs.proofs.Steps.{Step, before, parted}
use Rattle.typed_exprs.specs.Lines.{Run, Left}
use Rattle.typed_needs.proofs.Asking.{whether-leaves, within-leaves}
use Rattle.typed_needs.proofs.Leaving.{LeavesAll, all-some, all-then}
use Rattle.typed_needs.specs.Pieces.{IsBefore}
use Rattle.typed_stmts.proofs.ElementReads.{field-opened, field-read, member-read, stored-opened}
use Rattle.typed_stmts.proofs.ElementUpdates.{elements-are-typed}
use Rattle.typed_stmts.proofs.Items.{one-of}
use Rattle.typed_stmts.proofs.Updating.{operand-wanted}
use Rattle.typed_stmts.proofs.Words.{want-some-put}
use Rattle.typed_stmts.specs.Elements.{ElementsAreTyped, HasAllThere, MemberUpdateIsTyped, ReadsField}
use Rattle.typed_stmts.specs.Updated.{OperandWanted, UpdateFits}
use Rattle.typed_tree.specs.Listed.{Listed, one, ◌&◌}
use Rattle.typed_tree.specs.SharedTypes.{Shared, sem_of}
use Rattle.typed_tree.specs.declared.expr.TypedExpr.{TypedExpr}

-- ---- the operand, whatever it is asked of

module _ (passes : List AtomDef → Asked → TypeLimit → Type 0) where
  sort-leaves : (assign : AssignOp) (t : Shared) (at : Place) → LeavesAll (operand_sort passes assign t at)
  sort-leaves Set t at = all-some _
  sort-leaves Add t at =
      all-then _ _ (whether-leaves passes _ _ at) (λ ints. all-then _ _ (one-of ints _ _ (all-some _) (within-leaves passes _ _ at)) (λ u. all-some _))
  sort-leaves Subtract t at = all-some _
  sort-leaves Multiply t at = all-some _
  sort-leaves Divide t at = all-some _

  pub record OperandPut (old new : State) : Type 0 where
    pub ints : Bool
    pub want : Shared
    pub all : new ≡ record old { sorts = old.sorts ++ ints ∷ []; wants = old.wants ++ Some want ∷ [] }

  pub operand-put : (assign : AssignOp) (at : Place) (old new : State) → is_operand passes assign at old (Gives tt) new → OperandPut old new
  unfolding ◌▷◌ gives_some does
  operand-put assign at old new (t, a, (last, e1), (u, b, within, (ints, c, sort, (v, d, e4, put)))) =
      let e2 : b ≡ a = within-leaves passes (OfKind (operand_kind passes assign)) (sem_of t) at a b u within in
      let e3 : c ≡ b = sort-leaves assign t at b c ints sort in
      let (w, e5, of) = want-some-put (OfKind (sort_kind ints)) tt d new put in
      record {
        ints = ints;
        want = w;
        all = e5 ∙ ap (λ (x : State). record x { wants = x.wants ++ Some w ∷ [] }) (e4 ∙ ap (λ (x : State). record x { sorts = x.sorts ++ ints ∷ [] }) (e3 ∙ e2 ∙ e1));
      }

-- a type more is wanted, and all else is so, but for atoms
pub record ReadPut (old new : State) : Type 0 where
  pub want : Shared
  pub wants : new.wants ≡ old.wants ++ Some want ∷ []
  pub sorts : new.sorts ≡ old.sorts
  pub accesses : new.accesses ≡ old.accesses

module _ (made : MadeStatementsAreTyped) (passes : List AtomDef → Asked → TypeLimit → Type 0) (names : Names) (env : List AtomDef) (place : Surroundings)
    (Can : State → Type 0) (can : (s t : State) → StaysIn s t → Can s → Can t) (truth : SemType) (booleans : HasExactly env truth IsBoolean) where
  -- `reads` wants the type of what is there, of which this is known then, and `puts` puts the statement
  module _ (needs : Listed Need) (there : Place) (r : Reading) (assign : AssignOp) (reads puts : Need) (HasRead : Access → TypedExpr → TypedExpr → SemType → Type 0)
      (Fits : Access → Type 0) (aside : (s t : State) → Step passes names env reads s t → IsAside s t) (put : (s t : State) → Step passes names env reads s t → ReadPut s t)
      (read-is : (s t : State) (a i : TypedExpr) (access : Access) → IsBefore env s → IsBefore env t → Step passes names env reads s t → AreLast s.found 2 (a ∷ i ∷ [])
      → IsLast s.accesses access → Fits access → (w : Shared) × (t.wants ≡ s.wants ++ Some w ∷ []) × HasRead access a i (sem_of w))
      (onward : (s t : State) → Step passes names env puts s t → IsOnward s t)
      (parts-put : (inside : Bool) (s t : State) (es : List TypedExpr) → Step passes names env puts s t → AreLast s.found 3 es → IsPlaced place t → PutsOf es s t)
      (typed : (inside : Bool) → MemberUpdateIsTyped passes names env place inside puts HasRead assign) where
    -- what stands where; `p`, `p2`, `p3`: behind what is wanted for what is stored, for what was read, and for the operand; `q`: behind the value
    record MemberRun (kt : KnowsIt made passes names env place Can can needs) (old new : State) : Type 0 where
      pub p : State
      pub p2 : State
      pub p3 : State
      pub q : State
      pub e : Expects made passes names env place Can can needs there kt old p
      pub step_2 : Step passes names env reads p p2
      pub step_3 : Step passes names env (IsOperand assign there) p2 p3
      pub run : Run passes names env (as_wanted r) p3 q
      pub step : Step passes names env puts q new
      pub second : IsAside p p2
      pub third : IsAside p2 p3
      pub read : ReadPut p p2
      pub operand : OperandPut passes p2 p3
      pub in_3 : StaysIn old p3
      pub ready : IsReady expected.Wanted p3
      pub left : Left p3 q
      pub goes_on : IsOnward q new
      pub found_3 : p3.found ≡ e.n.found
      pub blocks_3 : p3.blocks ≡ e.n.blocks
      pub matches_3 : p3.matches ≡ e.n.matches

    member-so : (kt : KnowsIt made passes names env place Can can needs) → Knows passes names env place Can r → (old p p2 p3 q new : State) → HasUnit old
        → Run passes names env (needs & one (ExpectsStored there)) old p → Step passes names env reads p p2 → Step passes names env (IsOperand assign there) p2 p3
        → Run passes names env (as_wanted r) p3 q → Step passes names env puts q new → MemberRun kt old new
    member-so kt kr old p p2 p3 q new has-unit rt sr so rv s =
        let e = expects made passes names env place Can can needs there kt old p has-unit rt in
        let a2 = aside p p2 sr in
        let a3 = aside-operand passes assign there p2 p3 tt so.0 in
        let x3 = operand-put passes assign there p2 p3 so.0 in
        let in-p = expects-in made passes names env place Can can needs there kt old p e in
        let in-p3 = in-on old p2 p3 (in-on old p p2 in-p (in-stays p p2 a2.stays)) (in-stays p2 p3 a3.stays) in
        let unit : HasUnit p3 = (let u = has-unit in let m = in-p3.many in omega (arith, u, m)) in
        let last-result : IsLast p3.wants (Some x3.want) = record { kept = p2.wants; is = ap (λ (y : State). y.wants) x3.all } in
        let ready = wanted-ready p3 x3.want unit last-result in
        record {
          p = p;
          p2 = p2;
          p3 = p3;
          q = q;
          e = e;
          step_2 = sr;
          step_3 = so;
          run = rv;
          step = s;
          second = a2;
          third = a3;
          read = put p p2 sr;
          operand = x3;
          in_3 = in-p3;
          ready = ready;
          left = want-left passes names env place Can r kr p3 q ready rv;
          goes_on = onward q new s;
          found_3 = a3.stays.found ∙ a2.stays.found ∙ e.aside.stays.found;
          blocks_3 = a3.stays.blocks ∙ a2.stays.blocks ∙ e.aside.stays.blocks;
          matches_3 = a3.stays.matches ∙ a2.stays.matches ∙ e.aside.stays.matches;
        }

    member-run : (kt : KnowsIt made passes names env place Can can needs) → Knows passes names env place Can r → (old new : State) → HasUnit old
        → Run passes names env (((needs & one (ExpectsStored there)) & one reads) & (one (IsOperand assign there) & as_wanted r) & one puts) old new → MemberRun kt old new
    member-run kt kr old new has-unit run =
        let (p2, r1, r2) = parted passes names env ((needs & one (ExpectsStored there)) & one reads) ((one (IsOperand assign there) & as_wanted r) & one puts) old new run in
        let (p, rt, sr) = parted passes names env (needs & one (ExpectsStored there)) (one reads) old p2 r1 in
        let (q, r3, s) = parted passes names env (one (IsOperand assign there) & as_wanted r) (one puts) p2 new r2 in
        let (p3, so, rv) = parted passes names env (one (IsOperand assign there)) (as_wanted r) p2 q r3 in
        member-so kt kr old p p2 p3 q new has-unit rt sr so rv s

    -- what is kept, and what it is
    record MemberIs (kt : KnowsIt made passes names env place Can can needs) (old new : State) (m : MemberRun kt old new) : Type 0 where
      pub is : ExpectsIs made passes names env place Can can needs there kt old m.p m.e
      pub kept_2 : IsKept place m.p2
      pub kept_3 : IsKept place m.p3
      pub read : Shared
      pub wants_2 : m.p2.wants ≡ m.p.wants ++ Some read ∷ []
      pub has : HasRead m.e.target.access m.e.target.container m.e.target.key (sem_of read)
      pub operand : OperandWanted passes names env assign read m.p2 m.p3
      pub fits : Fits m.e.target.access

    access-there : (kt : KnowsIt made passes names env place Can can needs) (old new : State) (m : MemberRun kt old new) → IsLast m.p.accesses m.e.target.access
    access-there kt old new m =
        subst (λ xs. IsLast xs m.e.target.access) (sym (ap (λ (y : State). y.accesses) m.e.all)) (last-access-of made passes names env place Can can needs there kt old m.p m.e)

    member-is : (kt : KnowsIt made passes names env place Can can needs) → ((old n : State) (unit : HasUnit old) (run : Run passes names env needs old n) → Fits (kt.target old n unit run).access)
        → (old new : State) (m : MemberRun kt old new) → Can old → IsKept place old → OnWay env place m.p3 → MemberIs kt old new m
    member-is kt fits-so old new m c kept far-p3 =
        let far-p2 = back-aside env place m.p2 m.p3 m.third.stays far-p3 in
        let far-p = back-aside env place m.p m.p2 m.second.stays far-p2 in
        let is = expects-is made passes names env place Can can needs there kt old m.p m.e c kept far-p in
        let kept-p2 = aside-keeps env place m.p m.p2 m.second m.step_2.1 is.kept in
        let kept-p3 = aside-keeps env place m.p2 m.p3 m.third m.step_3.1 kept-p2 in
        is-so kt fits-so old new m is kept-p2 kept-p3 (before env place m.p is.kept far-p.parts) (before env place m.p2 kept-p2 far-p2.parts) (before env place m.p3 kept-p3 far-p3.parts)
      where
        is-so : (kt : KnowsIt made passes names env place Can can needs) → ((old n : State) (unit : HasUnit old) (run : Run passes names env needs old n) → Fits (kt.target old n unit run).access)
            → (old new : State) (m : MemberRun kt old new) → ExpectsIs made passes names env place Can can needs there kt old m.p m.e → IsKept place m.p2 → IsKept place m.p3
            → IsBefore env m.p → IsBefore env m.p2 → IsBefore env m.p3 → MemberIs kt old new m
        is-so kt fits-so old new m is kept-p2 kept-p3 b-p b-p2 b-p3 =
            let lasts-p : AreLast m.p.found 2 (m.e.target.container ∷ m.e.target.key ∷ []) =
            subst (λ xs. AreLast xs 2 (m.e.target.container ∷ m.e.target.key ∷ [])) (sym m.e.aside.stays.found) (two-last made passes names env place Can can needs there kt old m.p m.e) in
            let fits : Fits m.e.target.access = subst (λ (z : Target passes names env place Can can old m.e.n). Fits z.access) (sym m.e.same) (fits-so old m.e.n m.e.unit m.e.run) in
            let (read, wants2, has) = read-is m.p m.p2 m.e.target.container m.e.target.key m.e.target.access b-p b-p2 m.step_2 lasts-p (access-there kt old new m) fits in
            let last-read : IsLast m.p2.wants (Some read) = record { kept = m.p.wants; is = wants2 } in
            record {
              is = is;
              kept_2 = kept-p2;
              kept_3 = kept-p3;
              read = read;
              wants_2 = wants2;
              has = has;
              operand = operand-wanted passes names env assign there m.p2 m.p3 read b-p2 b-p3 m.step_3.0 last-read;
              fits = fits;
            }

    -- the value
    member-given : (kt : KnowsIt made passes names env place Can can needs) → Knows passes names env place Can r → (old new : State) (m : MemberRun kt old new) → (i : MemberIs kt old new m) → Can old
        → OnWay env place m.q → Given passes names env place Can (λ y. Sub env (sem y) (sem_of i.operand.want)) m.p3 m.q
    member-given kt kr old new m i c far-q =
        let last-want : IsLast m.p3.wants (Some i.operand.want) = record { kept = m.p2.wants; is = ap (λ (y : State). y.wants) i.operand.all } in
        want-given passes names env place Can r kr i.operand.want m.p3 m.q (can old m.p3 m.in_3 c) m.ready m.run i.kept_3 last-want far-q.parts

    member-typed : (kt : KnowsIt made passes names env place Can can needs) (inside : Bool) (old new : State) (m : MemberRun kt old new) (i : MemberIs kt old new m) → IsKept place m.q
        → OnWay env place m.q → AreLast m.q.found 3 (m.e.target.container ∷ m.e.target.key ∷ m.left.more.part ∷ []) → Sub env (sem m.left.more.part) (sem_of i.operand.want)
        → IsTypedExpr env place m.left.more.part → IsPlaced place new → AddsTyped env place inside [] m.q new
    member-typed kt inside old new m i kept-q far-q lasts holds typed-part placed =
        let o = i.operand in
        let fits : UpdateFits passes names env assign o.ints i.read o.want m.left.more.part =
        record { suits = o.suits; read_so = o.read_so; value_so = λ y w. (o.exactly y w.0).0 (holds y w.0 w.1); exactly = o.exactly } in
        let wants-q : m.q.wants ≡ m.e.n.wants ++ Some m.e.want ∷ Some i.read ∷ Some o.want ∷ [] =
        m.left.more.same.wants ∙ ap (λ (y : State). y.wants) o.all ∙ ap (λ ws. ws ++ Some o.want ∷ []) (i.wants_2 ∙ ap (λ ws. ws ++ Some i.read ∷ []) (ap (λ (y : State). y.wants) m.e.all))
        ∙ ap (λ ws. ws ++ Some o.want ∷ []) (append_assoc m.e.n.wants (Some m.e.want ∷ []) (Some i.read ∷ [])) ∙ append_assoc m.e.n.wants (Some m.e.want ∷ Some i.read ∷ []) (Some o.want ∷ []) in
        let sorts-q : IsLast m.q.sorts o.ints = record { kept = m.p2.sorts; is = m.left.more.same.sorts ∙ ap (λ (y : State). y.sorts) o.all } in
        let access-q : IsLast m.q.accesses m.e.target.access =
        subst (λ xs. IsLast xs m.e.target.access) (sym (m.left.more.same.accesses ∙ ap (λ (y : State). y.accesses) o.all ∙ m.read.accesses)) (access-there kt old new m) in
        typed inside m.q new m.e.target.container m.e.target.key m.left.more.part m.e.target.access m.e.want i.read o.want o.ints truth (before env place m.q kept-q far-q.parts) booleans m.step.0
        (record { kept = m.e.n.wants; is = wants-q; many = refl }) sorts-q fits access-q m.e.target.structure lasts
        (three-typed made passes names env place Can can old m.e.n m.e.target m.left.more.part i.is.is typed-part)
        i.is.is.container_is i.is.is.key_is i.has i.is.may placed

    updated : (kt : KnowsIt made passes names env place Can can needs) → ((old n : State) (unit : HasUnit old) (run : Run passes names env needs old n) → Fits (kt.target old n unit run).access)
        → Knows passes names env place Can r
        → StmtClaim passes names env place Can (λ w. ((needs & one (ExpectsStored there)) & one reads) & (one (IsOperand assign there) & as_wanted r) & one puts)
    updated kt fits-so kr w old new c block more run kept way = assembled kt fits-so kr w.loop old new c more.found more.same.matches kept way (member-run kt kr old new block.unit run)
      where
        target-so : (kt : KnowsIt made passes names env place Can can needs) (inside : Bool) (old new : State) (m : MemberRun kt old new) (i : MemberIs kt old new m) → new.found ≡ old.found
            → new.matches ≡ old.matches → IsPlaced place new → OnWay env place m.q → AreLast m.q.found 3 (m.e.target.container ∷ m.e.target.key ∷ m.left.more.part ∷ [])
            → PutsOf (m.e.target.container ∷ m.e.target.key ∷ m.left.more.part ∷ []) m.q new
            → Given passes names env place Can (λ y. Sub env (sem y) (sem_of i.operand.want)) m.p3 m.q → ComesToStmt env place inside old new
        target-so kt inside old new m i found matches placed far-q lasts stmt x =
            target-put made passes names env place Can can needs there kt inside old m.p m.p3 m.q new m.e m.found_3 m.blocks_3 m.matches_3 m.left found matches m.goes_on.moved stmt
            (m.goes_on.stored place) m.step.1 i.is.is (λ y. Sub env (sem y) (sem_of i.operand.want)) x
            (λ is-part. member-typed kt inside old new m i x.kept far-q lasts (subst (λ (z : TypedExpr). Sub env (sem z) (sem_of i.operand.want)) is-part x.holds)
            (subst (λ (y : TypedExpr). IsTypedExpr env place y) is-part x.typed) placed)

        assembled : (kt : KnowsIt made passes names env place Can can needs) → ((old n : State) (unit : HasUnit old) (run : Run passes names env needs old n) → Fits (kt.target old n unit run).access)
            → Knows passes names env place Can r → (inside : Bool) (old new : State) → Can old → new.found ≡ old.found → new.matches ≡ old.matches → IsKept place old → OnWay env place new
            → MemberRun kt old new → ComesToStmt env place inside old new
        assembled kt fits-so kr inside old new c found matches kept way m =
            let lasts =
            lasts-q made passes names env place Can can needs there kt inside old m.p m.p3 m.q new m.e m.found_3 m.blocks_3 m.matches_3 m.left found matches m.goes_on.moved in
            let stmt = parts-put inside m.q new (m.e.target.container ∷ m.e.target.key ∷ m.left.more.part ∷ []) m.step lasts way.parts.placed in
            let far-q =
            way-q made passes names env place Can can needs there kt inside old m.p m.p3 m.q new m.e m.found_3 m.blocks_3 m.matches_3 m.left found matches m.goes_on.moved stmt way in
            let i = member-is kt fits-so old new m c kept (back-value env place m.p3 m.q m.left far-q) in
            target-so kt inside old new m i found matches way.parts.placed far-q lasts stmt (member-given kt kr old new m i c far-q)

  module _ (loops : MadeLoopsAreTyped) where
    stored-put : (there : Place) (s t : State) → Step passes names env (ReadsStored there) s t → ReadPut s t
    stored-put there s t step =
        let o = stored-opened passes there s t step.0 in
        record { want = o.want; wants = ap (λ (x : State). x.wants) o.all; sorts = ap (λ (x : State). x.sorts) o.all; accesses = ap (λ (x : State). x.accesses) o.all }

    field-opened-put : (w : Word) (there : Place) (s t : State) → Step passes names env (ReadsStoredField w there) s t → ReadPut s t
    field-opened-put w there s t step =
        let o = field-opened passes w there s t step.0 in
        record { want = o.want; wants = ap (λ (x : State). x.wants) o.all; sorts = ap (λ (x : State). x.sorts) o.all; accesses = ap (λ (x : State). x.accesses) o.all }

    pub element-updated : (needs : Listed Need) (there at : Place) (r : Reading) (assign : AssignOp) → KnowsTarget passes names env place Can can needs → Knows passes names env place Can r
        → StmtClaim passes names env place Can (λ w. ((needs & one (ExpectsStored there)) & one (ReadsStored there)) & (one (IsOperand assign there) & as_wanted r) & one (UpdatesElement assign at))
    element-updated needs there at r assign kt kr =
        updated needs there r assign (ReadsStored there) (UpdatesElement assign at) (HasAllThere passes names env) (λ access. ⊤) (λ s t step. aside-reads-stored passes there s t tt step.0)
        (stored-put there)
        (λ s t a i access b d step lasts last fits.
        let (want, all, has) = member-read passes names env there s t a i access b d step.0 lasts last in (want, ap (λ (x : State). x.wants) all, has))
        (λ s t step. onward-updates-element passes assign at s t tt step.0)
        (λ inside s t es step lasts placed. element-put made passes names env place inside assign at s t es step.0 lasts placed)
        (λ inside. let p : ElementsAreTyped passes names env place inside = elements-are-typed passes names env place made loops inside in p.elements assign at)
        kt (λ old n unit run. tt) kr

    -- what a field is read of is accessed by a key
    pub field-updated : (a : Reading) (w : Word) (there at : Place) (r : Reading) (assign : AssignOp) → Knows passes names env place Can a → Knows passes names env place Can r
        → StmtClaim passes names env place Can (λ v. (((against kind.AnyMapping a & one (HasField w)) & one (ExpectsStored there)) & one (ReadsStoredField w there))
        & (one (IsOperand assign there) & as_wanted r) & one (UpdatesField w assign at))
    field-updated a w there at r assign ka kr =
        updated (against kind.AnyMapping a & one (HasField w)) there r assign (ReadsStoredField w there) (UpdatesField w assign at)
        (λ access x i t. (access ≡ Key) × ReadsField passes names env w.name x t) (λ access. access ≡ Key) (λ s t step. aside-reads-field passes w there s t tt step.0) (field-opened-put w there)
        (λ s t x i access b d step lasts last fits.
        let (want, all, has) = field-read passes names env w there s t x i b d step.0 lasts in (want, ap (λ (y : State). y.wants) all, (fits, has)))
        (λ s t step. onward-updates-field passes w assign at s t tt step.0)
        (λ inside s t es step lasts placed. field-put made passes names env place inside w assign at s t es step.0 lasts placed)
        (λ inside. let p : ElementsAreTyped passes names env place inside = elements-are-typed passes names env place made loops inside in p.fields w assign at)
        (fields passes names env place Can can a w ka) (field-by-key passes names env place Can can a w ka (fields passes names env place Can can a w ka) refl) kr
