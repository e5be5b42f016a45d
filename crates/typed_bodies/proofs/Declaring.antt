-- Declarations of variables.
use Rattle.std.proofs.Common.{Bool, List, Some, [], ap, arith, false, length, subst, sym, true, ◌++◌, ◌∙◌, ◌∷◌, ◌≡◌, ◌≤◌}
use Rattle.bal_base.specs.declared.fault.FaultCode.TheVariants.{Duplicate}
use Rattle.bal_base.specs.declared.place.Place.{Place}
use Rattle.std.specs.Prelude.{⊤}
use Rattle.bal_tree.specs.declared.name.Word.{Word}
use Rattle.bal_tree.specs.declared.stmt.LocalType.TheVariants as local
use Rattle.bal_tree.specs.declared.stmt.LocalType.{LocalType}
use Rattle.bal_tree.specs.declared.types.TypeTree.{TypeTree}
use Rattle.check_words.specs.Calls.{is_new}
use Rattle.check_words.specs.State.{IsLast, State}
use Rattle.check_words.specs.Values.{describes, widens}
use Rattle.check_words.specs.Words.{done, fails}
use Rattle.checks.specs.Checks.{either, Gives, gives_some, ◌▷◌}
use Rattle.descriptors.specs.declared.names.Names.{Names}
use Rattle.expr_needs.specs.ExprTable.{Reading, as_wanted, freely}
use Rattle.expr_needs.specs.Needs.{Declares, Describes, IsNew, Widens}
use Rattle.expr_needs.specs.declared.expected.Expected.TheVariants as expected
use Rattle.expr_needs.specs.declared.kind.Kind.TheVariants as kind
use Rattle.operations.specs.Rows.{Surroundings}
use Rattle.stmt_needs.specs.StmtTable.{Within, declaration_needs, is_among}
use Rattle.tree_promises.specs.Laws.{MadeStatementsAreTyped}
use Rattle.tree_promises.specs.Made.{sem}
use Rattle.type_model.specs.Calls.{Asked}
use Rattle.type_model.specs.Inclusion.{Sub}
use Rattle.type_model.specs.Membership.{In}
use Rattle.type_model.specs.declared.answers.TypeLimit.{TypeLimit}
use Rattle.type_model.specs.declared.atoms.AtomDef.{AtomDef}
use Rattle.type_model.specs.declared.basic.Ty.{Ty}
use Rattle.typed_bodies.proofs.Aside.{aside-describes, aside-widens}
use Rattle.typed_bodies.proofs.Onward.{moved-declares}
use Rattle.typed_bodies.proofs.Puts.{declares-put}
use Rattle.typed_bodies.proofs.Trails.{in-stays}
use Rattle.typed_bodies.proofs.Values.{Knows, nothing-ready, value-put, value-put-behind, want-given, want-left, wanted-ready}
use Rattle.typed_bodies.specs.Claims.{IsDone, StaysIn, StmtClaim}
use Rattle.typed_exprs.proofs.Operands.{as-operand}
use Rattle.typed_exprs.proofs.Steps.{before, keeps, parted, stored-here}
use Rattle.typed_exprs.specs.Lines.{Run}
use Rattle.typed_needs.proofs.Leaving.{LeavesAll, all-some, all-then}
use Rattle.typed_needs.proofs.Opened.{last-defined, sub-later}
use Rattle.typed_needs.proofs.Placed.{last-same}
use Rattle.typed_needs.proofs.Strict.{never}
use Rattle.typed_stmts.proofs.Assigning.{assignments-are-typed}
use Rattle.typed_stmts.proofs.Items.{want-defined, widened-so, widens-to-leaves}
use Rattle.typed_stmts.proofs.Keeping.{stmts-keep-stored}
use Rattle.typed_stmts.proofs.Words.{put-before, want-put-some, want-some-put}
use Rattle.typed_stmts.specs.Assigned.{AssignmentsAreTyped}
use Rattle.typed_stmts.specs.Kept.{StmtsKeepStored}
use Rattle.typed_tree.specs.Exprs.{type_of}
use Rattle.typed_tree.specs.Listed.{one, ◌&◌}
use Rattle.typed_tree.specs.SharedTypes.{Shared, sem_of}
use Rattle.typed_tree.specs.declared.expr.TypedExpr.{TypedExpr}

-- a new name is only asked for
pub new-leaves : (w : Word) → LeavesAll (is_new w)
new-leaves w = all-then _ _ (all-some _) (λ b. by b)
  where
    by : (b : Bool) → LeavesAll (either b (fails Duplicate w.at) done)
    by true = λ old new a x. absurd (never Duplicate w.at old new x)
    by false = all-some _

-- the described type is wanted
pub described-put : (names : Names) (tree : TypeTree) (old new : State) → describes names tree old (Gives tt) new → (t : Shared) × IsLast new.wants (Some t)
unfolding ◌▷◌
described-put names tree old new (scope, a, is, (t, b, asked, put)) =
    let (w, e, value) = want-some-put (λ env u. u ≡ t) tt b new put in (w, record { kept = b.wants; is = ap (λ (s : State). s.wants) e })

-- a type that is widened has all of the value
pub record Widened (old new : State) : Type 0 where
  pub part : TypedExpr
  pub want : Shared
  pub last : IsLast old.found part
  pub under : Sub old.atoms (sem part) (sem_of want)
  pub all : new ≡ record old { wants = old.wants ++ Some want ∷ [] }

pub widened-put : (passes : List AtomDef → Asked → TypeLimit → Type 0) (at : Place) (old new : State) → widens passes at old (Gives tt) new → Widened old new
unfolding ◌▷◌ gives_some
widened-put passes at old new (e, a, (last, e1), (u, b, wide, put)) =
    let kinds = kind.Integer ∷ kind.Text ∷ kind.Truth ∷ [] in
    let e2 : b ≡ a = widens-to-leaves passes kinds (type_of e) at a b u wide in
    let (w, e3, value) = want-put-some u tt b new put in
    let under : Sub old.atoms (sem e) (sem_of u) = subst (λ (s : State). Sub s.atoms (sem e) (sem_of u)) e1 (widened-so passes kinds (type_of e) u at a b wide) in
    record {
      part = e;
      want = w;
      last = last;
      under = λ x valid i. subst (λ (y : Ty). In old.atoms x y.sem) (sym value) (under x valid i);
      all = e3 ∙ ap (λ (s : State). record s { wants = s.wants ++ Some w ∷ [] }) (e2 ∙ e1);
    }

module _ (made : MadeStatementsAreTyped) (passes : List AtomDef → Asked → TypeLimit → Type 0) (names : Names) (env : List AtomDef) (place : Surroundings) (Can : State → Type 0) (can : (s t : State) → StaysIn s t → Can s → Can t) where
  -- `T x = r;`
  described : (final : Bool) (t : TypeTree) (name : Word) (r : Reading) (at : Place) (assigned : Within → Bool) → Knows passes names env place Can r
      → StmtClaim passes names env place Can (λ w. ((one (Describes t) & one (IsNew name)) & as_wanted r) & one (Declares name.name final (assigned w) at))
  described final t name r at assigned k w old new c block more run kept way =
      let (n, r1, s) = parted passes names env ((one (Describes t) & one (IsNew name)) & as_wanted r) (one (Declares name.name final (assigned w) at)) old new run in
      let (m, r2, ra) = parted passes names env (one (Describes t) & one (IsNew name)) (as_wanted r) old n r1 in
      let (l, sd, sn) = parted passes names env (one (Describes t)) (one (IsNew name)) old m r2 in
      let first = aside-describes names t old l tt sd.0 in
      let same : m ≡ l = new-leaves name l m tt sn.0 in
      let in-l = in-stays old l first.stays in
      let unit : 1 ≤ length l.units = (let u = block.unit in let q = in-l.many in omega (arith, u, q)) in
      let (want, last) = described-put names t old l sd.0 in
      let ra' : Run passes names env (as_wanted r) l n = subst (λ (x : State). Run passes names env (as_wanted r) x n) same ra in
      let ready = wanted-ready l want unit last in
      let left = want-left passes names env place Can r k l n ready ra' in
      let kept-l = keeps place l sd.1 (first.stored place (stored-here place old kept)) in
      let placed = way.parts.placed in
      let moved = moved-declares name.name final (assigned w) at n new tt s.0 in
      let d : StmtsKeepStored passes names env place = stmts-keep-stored passes names env place in
      let a : AssignmentsAreTyped passes names env place w.loop = assignments-are-typed passes names env made place w.loop in
      let last-n : IsLast n.wants (Some want) = subst (λ ws. IsLast ws (Some want)) (sym left.more.same.wants) last in
      let comes = value-put passes names env place Can w.loop (λ e. Sub env (sem e) (sem_of want)) l n new left (more.found ∙ sym first.stays.found) (more.same.matches ∙ sym first.stays.matches)
      moved (λ h. d.declares name.name final (assigned w) at n new s.0 placed h) s.1
      (declares-put made passes names env place w.loop name.name final (assigned w) at n new left.more.part s.0 (record { kept = l.found; is = left.more.found }) placed)
      (λ far. want-given passes names env place Can r k want l n (can old l in-l c) ready ra' kept-l last far)
      (λ x. a.declared name.name final (assigned w) at n new x.part want s.0 (record { kept = l.found; is = x.found }) x.typed last-n x.holds placed) way in
      record { adds = put-before (IsDone env place w.loop) [] old l new first.stays.blocks comes.adds; kept = comes.kept }

  -- `var x = r;`
  inferred : (final : Bool) (name : Word) (r : Reading) (at : Place) (assigned : Within → Bool) → Knows passes names env place Can r
      → StmtClaim passes names env place Can (λ w. (one (IsNew name) & freely r & one (Widens r.at)) & one (Declares name.name final (assigned w) at))
  inferred final name r at assigned k w old new c block more run kept way =
      let (n, r1, s) = parted passes names env (one (IsNew name) & freely r & one (Widens r.at)) (one (Declares name.name final (assigned w) at)) old new run in
      let (l, sn, r2) = parted passes names env (one (IsNew name)) (freely r & one (Widens r.at)) old n r1 in
      let (m, ra, sw) = parted passes names env (freely r) (one (Widens r.at)) l n r2 in
      let same : l ≡ old = new-leaves name old l tt sn.0 in
      let ra' : Run passes names env (freely r) old m = subst (λ (x : State). Run passes names env (freely r) x m) same ra in
      let ready = nothing-ready old block.unit in
      let left = k.leaves expected.Nothing old m ready ra' in
      let aside = aside-widens passes r.at m n tt sw.0 in
      let wide = widened-put passes r.at m n sw.0 in
      let placed = way.parts.placed in
      let moved = moved-declares name.name final (assigned w) at n new tt s.0 in
      let d : StmtsKeepStored passes names env place = stmts-keep-stored passes names env place in
      let a : AssignmentsAreTyped passes names env place w.loop = assignments-are-typed passes names env made place w.loop in
      let last-want : IsLast n.wants (Some wide.want) = record { kept = m.wants; is = ap (λ (x : State). x.wants) wide.all } in
      let last-part : IsLast n.found left.more.part = record { kept = old.found; is = aside.stays.found ∙ left.more.found } in
      value-put-behind passes names env place Can w.loop (λ e. ⊤) old m n new left aside (λ h. sw.1) more.found more.same.matches
      moved (λ h. d.declares name.name final (assigned w) at n new s.0 placed h) s.1
      (declares-put made passes names env place w.loop name.name final (assigned w) at n new left.more.part s.0 last-part placed)
      (λ far. as-operand passes names env place old m (k.claim expected.Nothing old m c ready ra' kept far))
      (λ x found kept-n far-n.
      let before-n = before env place n kept-n far-n in
      let last-x : IsLast n.found x.part = record { kept = old.found; is = found } in
      let one-part : x.part ≡ wide.part = last-same m.found x.part wide.part (record { kept = old.found; is = x.found }) wide.last in
      let atoms : n.atoms ≡ m.atoms = ap (λ (y : State). y.atoms) wide.all in
      let under : Sub n.atoms (sem x.part) (sem_of wide.want) =
      subst (λ (e : TypedExpr). Sub n.atoms (sem e) (sem_of wide.want)) (sym one-part) (subst (λ xs. Sub xs (sem wide.part) (sem_of wide.want)) (sym atoms) wide.under) in
      let later : Sub env (sem x.part) (sem_of wide.want) =
      sub-later env n.atoms (sem x.part) (sem_of wide.want) before-n.keeps (last-defined env n x.part before-n last-x) (want-defined passes names env place n wide.want before-n last-want) under in
      a.declared name.name final (assigned w) at n new x.part wide.want s.0 last-x x.typed last-want later placed) way

  pub declaration : (final : Bool) (t : LocalType) (name : Word) (r : Reading) (at : Place) → Knows passes names env place Can r
      → StmtClaim passes names env place Can (declaration_needs final t name r at)
  declaration final (local.«Type» t) name r at k = described final t.value name r at (λ w. is_among name.name w.behind) k
  declaration final (local.Var here) name r at k = inferred final name r at (λ w. is_among name.name w.behind) k
