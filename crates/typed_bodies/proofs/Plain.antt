-- Statements that evaluate something, end a way, or put a variable.
use Rattle.std.proofs.Common.{All, Bool, List, None, Some, [], ap, append-nil, arith, false, subst, sym, true, ◌∙◌, ◌≡◌}
use Rattle.std.proofs.lemmas.List.Elements.{All-nil}
use Rattle.std.specs.Prelude.{⊤, length, ◌≤◌}
use Rattle.bal_base.specs.declared.fault.FaultCode.TheVariants.{BadBreak, Ignored}
use Rattle.bal_base.specs.declared.place.Place.{Place}
use Rattle.check_words.specs.State.{IsLast, State}
use Rattle.check_words.specs.Statements.{is_ignorable}
use Rattle.check_words.specs.Values.{wants_result}
use Rattle.checks.specs.Checks.{Gives, ◌▷◌}
use Rattle.descriptors.specs.declared.names.Names.{Names}
use Rattle.expr_needs.specs.ExprTable.{Reading, against, as_wanted, freely}
use Rattle.expr_needs.specs.Needs.{Breaks, Continues, IsIgnorable, Need, Performs, Returns, Stops, WantsResult}
use Rattle.expr_needs.specs.declared.expected.Expected.TheVariants as expected
use Rattle.expr_needs.specs.declared.kind.Kind.TheVariants as kind
use Rattle.operations.specs.Rows.{Surroundings}
use Rattle.stmt_needs.specs.StmtTable.{Within, jump_needs, return_needs}
use Rattle.tree_promises.specs.Laws.{MadeStatementsAreTyped}
use Rattle.tree_promises.specs.Made.{sem}
use Rattle.type_model.specs.Calls.{Asked}
use Rattle.type_model.specs.Inclusion.{Sub}
use Rattle.type_model.specs.declared.answers.TypeLimit.{TypeLimit}
use Rattle.type_model.specs.declared.atoms.AtomDef.{AtomDef}
use Rattle.type_model.specs.declared.basic.SemType.{SemType}
use Rattle.typed_bodies.proofs.Aside.{aside-result, aside-stops}
use Rattle.typed_bodies.proofs.Onward.{onward-breaks, onward-continues, onward-performs, onward-returns, onward-returns-nil}
use Rattle.typed_bodies.proofs.Puts.{PutsOf, breaks-put, continues-put, done, nil-put, performs-put, returns-put}
use Rattle.typed_bodies.proofs.Trails.{BlockAt, MatchAt, back-aside, back-put, in-stays, in-units}
use Rattle.typed_bodies.proofs.Values.{Knows, kind-given, kind-left, nothing-ready, value-put, want-given, want-left, wanted-ready}
use Rattle.typed_bodies.specs.Claims.{ComesToStmt, IsDone, IsOnTheWay, StaysIn, StmtClaim}
use Rattle.typed_exprs.proofs.Operands.{as-operand}
use Rattle.typed_exprs.proofs.Steps.{Step, before, calm-path, keeps, parted, so-far, stored-here}
use Rattle.typed_exprs.specs.Lines.{Run}
use Rattle.typed_needs.proofs.Asking.{whether-leaves}
use Rattle.typed_needs.proofs.Leaving.{LeavesAll, all-some, all-then}
use Rattle.typed_needs.proofs.Strict.{never, unless-leaves}
use Rattle.typed_needs.specs.Asked.{IsOfIt}
use Rattle.typed_needs.specs.Between.{IsKept, IsTypedUnit, units_in}
use Rattle.typed_stmts.proofs.Ends.{all-ends-are-typed}
use Rattle.typed_stmts.proofs.Words.{put-before, put-then, want-put-some}
use Rattle.typed_stmts.specs.Ended.{EndsAreTyped, EvaluationIsTyped, JumpIsTyped, JumpsAreTyped}
use Rattle.typed_tree.specs.Listed.{Listed, one, ◌&◌}
use Rattle.typed_tree.specs.SharedTypes.{Shared}
use Rattle.typed_tree.specs.declared.expr.TypedExpr.{TypedExpr}
use Rattle.typed_tree.specs.declared.stmt.PerformForm.TheVariants as perform
use Rattle.typed_tree.specs.declared.stmt.PerformForm.{PerformForm}

pub result-put : (old m : State) → wants_result old (Gives tt) m → (t : Shared) × IsLast m.wants (Some t)
unfolding ◌▷◌
result-put old m (u, a, seen, put) =
    let (x, is, value) = want-put-some u.result tt a m put in (x, record { kept = a.wants; is = ap (λ (s : State). s.wants) is })

module _ (made : MadeStatementsAreTyped) (passes : List AtomDef → Asked → TypeLimit → Type 0) (names : Names) (env : List AtomDef) (place : Surroundings) (Can : State → Type 0) (can : (s t : State) → StaysIn s t → Can s → Can t) where
  abbrev Claim : (Within → Listed Need) → Type 0
  Claim = StmtClaim passes names env place Can

  ends : (inside : Bool) → EndsAreTyped passes names env place inside
  ends = (all-ends-are-typed made passes names env place).0

  jumps : JumpsAreTyped passes names env place
  jumps = (all-ends-are-typed made passes names env place).1

  -- ---- evaluations

  -- behind the value, in a state that is the end of the value's run
  performed-so : (form : PerformForm) (r : Reading) (at : Place) (w : Within) (old m new : State) → EvaluationIsTyped passes names env place w.loop form → Knows passes names env place Can r
      → Can old → 1 ≤ length old.units → new.found ≡ old.found → new.matches ≡ old.matches → Run passes names env (freely r) old m → Step passes names env (Performs form 1 at) m new
      → IsKept place old → IsOnTheWay env place new → ComesToStmt env place w.loop old new
  performed-so form r at w old m new typed k c unit found matches ra s kept way =
      let left = k.leaves expected.Nothing old m (nothing-ready old unit) ra in
      let h = onward-performs form 1 at m new tt s.0 in
      value-put passes names env place Can w.loop (λ e. ⊤) old m new left found matches h.moved (h.stored place) s.1
      (performs-put made passes names env place w.loop form at m new left.more.part s.0 (record { kept = old.found; is = left.more.found }))
      (λ far. as-operand passes names env place old m (k.claim expected.Nothing old m c (nothing-ready old unit) ra kept far))
      (λ x. typed at m new x.part s.0 (record { kept = old.found; is = x.found }) x.typed) way

  pub ignored : (r : Reading) (at : Place) → Knows passes names env place Can r → Claim (λ w. freely r & one (Performs perform.Ignore 1 at))
  ignored r at k w old new c block more run kept way =
      let (m, ra, s) = parted passes names env (freely r) (one (Performs perform.Ignore 1 at)) old new run in
      let e = ends w.loop in
      performed-so perform.Ignore r at w old m new e.ignored k c block.unit more.found more.same.matches ra s kept way

  ignorable-leaves : (at : Place) → LeavesAll (is_ignorable passes at)
  ignorable-leaves at = all-then _ _ (all-some _) (λ e. all-then _ _ (whether-leaves passes _ _ at) (λ b. unless-leaves b Ignored at))

  pub evaluated : (r : Reading) (at : Place) → Knows passes names env place Can r → Claim (λ w. freely r & one (IsIgnorable at) & one (Performs perform.Evaluate 1 at))
  evaluated r at k w old new c block more run kept way =
      let (m, ra, rest) = parted passes names env (freely r) (one (IsIgnorable at) & one (Performs perform.Evaluate 1 at)) old new run in
      let (n, i, s) = parted passes names env (one (IsIgnorable at)) (one (Performs perform.Evaluate 1 at)) m new rest in
      let same : n ≡ m = ignorable-leaves at m n tt i.0 in
      let e = ends w.loop in
      performed-so perform.Evaluate r at w old m new e.evaluated k c block.unit more.found more.same.matches ra
      (subst (λ (x : State). Step passes names env (Performs perform.Evaluate 1 at) x new) same s) kept way

  pub panicked : (r : Reading) (at : Place) → Knows passes names env place Can r
      → Claim (λ w. against kind.AnyError r & one (Performs perform.Panic 1 at) & one Stops)
  panicked r at k w old new c block more run kept way =
      let (m, ra, rest) = parted passes names env (against kind.AnyError r) (one (Performs perform.Panic 1 at) & one Stops) old new run in
      let (n, s, t) = parted passes names env (one (Performs perform.Panic 1 at)) (one Stops) m new rest in
      let left = kind-left passes names env place Can kind.AnyError r k old m block.unit ra in
      let h = onward-performs perform.Panic 1 at m n tt s.0 in
      let stop = aside-stops n new tt t.0 in
      let e = ends w.loop in
      let comes = value-put passes names env place Can w.loop (IsOfIt passes names env kind.AnyError) old m n left (sym stop.stays.found ∙ more.found) (sym stop.stays.matches ∙ more.same.matches)
      h.moved (h.stored place) s.1
      (performs-put made passes names env place w.loop perform.Panic at m n left.more.part s.0 (record { kept = old.found; is = left.more.found }))
      (λ far. kind-given passes names env place Can kind.AnyError r k old m c block.unit ra kept far)
      (λ x. e.panics at m n x.part s.0 (record { kept = old.found; is = x.found }) x.typed x.holds) (back-aside env place n new stop.stays way) in
      record {
        adds = put-then (IsDone env place w.loop) [] old n new comes.adds stop.stays.blocks;
        kept = keeps place new t.1 (stop.stored place (stored-here place n comes.kept));
      }

  -- ---- statements without a value

  pub jump : (need : Place → Need) (at : Place) → JumpIsTyped passes names env place need
      → ((old new : State) → Step passes names env (need at) old new → PutsOf [] old new) → ((old new : State) → Step passes names env (need at) old new → IsKept place old → IsKept place new)
      → Claim (λ w. jump_needs (need at) at w.loop)
  jump need at typed put keep w old new c block more run kept way = by w.loop run
    where
      by : (loop : Bool) → Run passes names env (jump_needs (need at) at loop) old new → ComesToStmt env place loop old new
      by true s = record { adds = done env place true [] [] [] old new (typed at old new s.0) (put old new s) (All-nil (IsTypedUnit env place)) (All-nil (IsTypedUnit env place)); kept = keep old new s kept }
      by false s = absurd (never BadBreak at old new s.0)

  pub broken : (at : Place) → Claim (λ w. jump_needs (Breaks at) at w.loop)
  broken at =
      jump Breaks at jumps.breaks (λ old new s. breaks-put made passes names env place true at old new s.0)
      (λ old new s kept. let h = onward-breaks at old new tt s.0 in keeps place new s.1 (h.stored place (stored-here place old kept)))

  pub continued : (at : Place) → Claim (λ w. jump_needs (Continues at) at w.loop)
  continued at =
      jump Continues at jumps.continues (λ old new s. continues-put made passes names env place true at old new s.0)
      (λ old new s kept. let h = onward-continues at old new tt s.0 in keeps place new s.1 (h.stored place (stored-here place old kept)))

  pub nil-returned : (at : Place) → Claim (λ w. return_needs None at)
  nil-returned at w old new c block more s kept way =
      let h = onward-returns-nil passes at old new tt s.0 in
      let put = nil-put made passes names env place w.loop at old new s.0 in
      let far = back-put env place [] [] [] old new put (in-units old new h.moved.on h.moved.site) (sym more.found ∙ sym (append-nil new.found)) (λ x. All-nil (BlockAt env place))
      (λ x all. subst (All (MatchAt env place)) more.same.matches all) way in
      let e = ends w.loop in
      record {
        adds = done env place w.loop [] [] [] old new (e.nil_returned at old new (before env place old kept far.parts) s.0 far.parts.placed) put (All-nil (IsTypedUnit env place)) (All-nil (IsTypedUnit env place));
        kept = keeps place new s.1 (h.stored place (stored-here place old kept));
      }

  -- ---- a value is returned

  pub returned : (r : Reading) (at : Place) → Knows passes names env place Can r → Claim (λ w. return_needs (Some r) at)
  returned r at k w old new c block more run kept way =
      let (m, sw, rest) = parted passes names env (one WantsResult) (as_wanted r & one (Returns at)) old new run in
      let (n, ra, s) = parted passes names env (as_wanted r) (one (Returns at)) m new rest in
      let first = aside-result old m tt sw.0 in
      let unit : 1 ≤ length m.units = (let u = block.unit in let q = in-stays old m first.stays in let p = q.many in omega (arith, u, p)) in
      let t = result-put old m sw.0 in
      let ready = wanted-ready m t.0 unit t.1 in
      let left = want-left passes names env place Can r k m n ready ra in
      let h = onward-returns at n new tt s.0 in
      let e = ends w.loop in
      let comes = value-put passes names env place Can w.loop (λ x. Sub env (sem x) place.result) m n new left (more.found ∙ sym first.stays.found) (more.same.matches ∙ sym first.stays.matches)
      h.moved (h.stored place) s.1
      (returns-put made passes names env place w.loop at n new left.more.part s.0 (record { kept = m.found; is = left.more.found }))
      (λ far.
      let far-m = so-far env place m n left.path far in
      let far-old = so-far env place old m (calm-path old m first.stays.on (ap (λ (xs : List TypedExpr). units_in xs) first.stays.found)) far-m in
      let (want, all, is) = e.wanted old m sw.0 far-old.placed in
      let last : IsLast m.wants (Some want) = record { kept = old.wants; is = ap (λ (x : State). x.wants) all } in
      let kept-m = keeps place m sw.1 (first.stored place (stored-here place old kept)) in
      let x = want-given passes names env place Can r k want m n (can old m (in-stays old m first.stays) c) (wanted-ready m want unit last) ra kept-m last far in
      record { part = x.part; found = x.found; typed = x.typed; units = x.units; kept = x.kept; holds = subst (λ (y : SemType). Sub env (sem x.part) y) is x.holds })
      (λ x. e.returned at n new x.part s.0 (record { kept = m.found; is = x.found }) x.typed x.holds) way in
      record { adds = put-before (IsDone env place w.loop) [] old m new first.stays.blocks comes.adds; kept = comes.kept }
