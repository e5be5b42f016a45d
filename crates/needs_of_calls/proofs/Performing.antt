-- Statements that evaluate something.
use Rattle.std.proofs.Common.{◌≡◌, ◌++◌, ℕ, List, [], ◌∷◌, length, All, None, Result, Ok, Err, refl, sym, subst, ap}
use Rattle.bal_base.specs.declared.fault.Fault.{Fault}
use Rattle.bal_base.specs.declared.fault.FaultCode.TheVariants.{Ignored}
use Rattle.bal_base.specs.declared.place.Place.{Place}
use Rattle.bal_base.specs.declared.stop.Stop.{Stop}
use Rattle.checks.specs.Checks.{Comes}
use Rattle.checks.proofs.Steps.{stops}
use Rattle.expr_needs.specs.declared.kind.Kind.TheVariants as kind
use Rattle.std.specs.Prelude.{Bool}
use Rattle.type_model.specs.declared.answers.TypeLimit.{TypeLimit}
use Rattle.type_model.specs.declared.atoms.AtomDef.{AtomDef}
use Rattle.type_model.specs.Calls.{Asked}
use Rattle.typed_tree.specs.declared.expr.TypedExpr.{TypedExpr}
use Rattle.typed_tree.specs.declared.stmt.PerformForm.{PerformForm}
use Rattle.typed_tree.specs.declared.stmt.TypedStmt.{TypedStmt}
use Rattle.check_words.specs.Stands.{PartBelow, Stands}
use Rattle.check_words.specs.State.{AreLast, BlockAtWork, IsLast, State, all_but}
use Rattle.check_words.specs.Statements.{adds_stmt, is_ignorable, performs}
use Rattle.check_words.specs.StmtViews.{IsPerform}
use Rattle.check_words.specs.Words.{OfKind, sem, takes, unless, whether_within}
use Rattle.check_words.proofs.Blocks.{stmt-added, with_stmt}
use Rattle.check_words.proofs.Coming.{became-this, given, next}
use Rattle.check_words.proofs.Standing.{others-have, stands-beside, stands-found}

-- ---- statements

-- so many of the last parts are taken away
parts-taken : (s : State) (count : ℕ) (parts es : List TypedExpr) → AreLast s.found count parts → es ≡ all_but count s.found
    → Comes (takes count) s (Ok parts) (record s { found = es; ways = None })
parts-taken s count parts es last fewer = let mid : State = record s { found = es; ways = None } in
    next _ _ _ _ _ parts s (given _ s parts last)
    (next _ _ _ _ _ tt mid (became-this _ s mid (ap (λ xs. record s { found = xs; ways = None }) fewer)) (given _ mid parts refl))

pub performs-come : (s : State) (form : PerformForm) (count : ℕ) (at : Place) (parts es : List TypedExpr) → AreLast s.found count parts → es ≡ all_but count s.found
    → (kept : List BlockAtWork) (b : BlockAtWork) → s.blocks ≡ kept ++ b ∷ [] → (stmt : TypedStmt) (bs : List BlockAtWork) → bs ≡ kept ++ with_stmt b stmt ∷ [] → IsPerform form parts at stmt
    → Comes (performs form count at) s (Ok tt) (record s { found = es; blocks = bs; ways = None })
performs-come s form count at parts es last fewer kept b is stmt bs more made =
    let mid : State = record s { found = es; ways = None } in
    next _ _ _ _ _ parts mid (parts-taken s count parts es last fewer)
    (subst (λ xs. Comes (adds_stmt (IsPerform form parts at)) mid (Ok tt) (record mid { blocks = xs })) (sym more) (stmt-added (IsPerform form parts at) mid kept b stmt is made))

pub performed-stands : (s : State) → Stands s → (count : ℕ) (es : List TypedExpr) (bs : List BlockAtWork) → es ≡ all_but count s.found
    → Stands (record s { found = es; blocks = bs; ways = None })
performed-stands s h count es bs fewer = let n : ℕ = length s.atoms in
    stands-beside (record s { found = es; ways = None }) (stands-found s h es (subst (All (PartBelow n)) (sym fewer) (others-have (PartBelow n) count s.found h.found))) s.sorts s.accesses bs s.done

-- ---- what may be ignored

module _ (passes : List AtomDef → Asked → TypeLimit → Type 0) (at : Place) (s : State) (e : TypedExpr) (last : IsLast s.found e) where
  pub ignorable-so : (b : Bool) (mid new : State) (r : Result (Unit {0}) (Stop Fault)) → Comes (whether_within passes (OfKind kind.Nothing) (sem e) at) s (Ok b) mid → Comes (unless b Ignored at) mid r new
      → Comes (is_ignorable passes at) s r new
  ignorable-so b mid new r h k = next _ _ _ _ _ e s (given _ s e last) (next _ _ _ _ _ b mid h k)

  pub ignorable-stops : (new : State) (stop : Stop Fault) → Comes (whether_within passes (OfKind kind.Nothing) (sem e) at) s (Err stop) new → Comes (is_ignorable passes at) s (Err stop) new
  ignorable-stops new stop h = next _ _ _ _ _ e s (given _ s e last) (stops _ _ s new stop h)
