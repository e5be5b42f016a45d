-- Parts that are found, taken and stored.
use Rattle.std.proofs.Common.{◌≡◌, ◌++◌, ◌∙◌, ℕ, List, [], ◌∷◌, All, Option, None, Ok, append-nil, length, refl, rules, sym, subst, ap}
use Rattle.bal_base.specs.declared.place.Place.{Place}
use Rattle.bal_tree.specs.declared.name.Word.{Word}
use Rattle.checks.specs.Checks.{Comes}
use Rattle.flow_narrowing.specs.Flows.{IfShared}
use Rattle.operations.specs.declared.operation.Constant.{Constant}
use Rattle.type_model.specs.Defined.{TyBelow}
use Rattle.typed_tree.specs.declared.expr.TypedExpr.{TypedExpr}
use Rattle.typed_tree.specs.declared.stmt.PerformForm.{PerformForm}
use Rattle.typed_tree.specs.declared.stmt.TypedStmt.{TypedStmt}
use Rattle.typed_tree.specs.Exprs.{type_of}
use Rattle.typed_tree.specs.SharedTypes.{Shared}
use Rattle.typed_tree.specs.Views.{IsImplied}
use Rattle.typed_tree.proofs.ExprLayers.{expr_layers}
use Rattle.check_words.specs.declared.access.Access.{Access}
use Rattle.check_words.specs.declared.access.Access.TheVariants.{Key}
use Rattle.check_words.specs.Members.{has_field}
use Rattle.check_words.specs.Stands.{PartBelow, Stands}
use Rattle.check_words.specs.State.{AreLast, BlockAtWork, State, all_but}
use Rattle.check_words.specs.Statements.{adds_stmt, store_form, stores}
use Rattle.check_words.specs.StmtViews.{IsPerform}
use Rattle.check_words.specs.Words.{takes}
use Rattle.check_words.proofs.Blocks.{stmt-added}
use Rattle.check_words.proofs.Coming.{became-this, given, made, next}
use Rattle.check_words.proofs.LastOnes.{kept-is}
use Rattle.check_words.proofs.Standing.{also-has, others-have, stands-beside, stands-found, stands-wants}
use Rattle.check_work.specs.Blocks.{IsAdded}
use Rattle.check_work.proofs.Making.{part-below}
use Rattle.needs_of_members.specs.Fronts.{IsKey}
use Rattle.needs_of_members.proofs.Answered.{access-taken}

-- ---- parts that are taken

pub parts-taken : (count : ℕ) (s : State) (parts es : List TypedExpr) → AreLast s.found count parts → es ≡ all_but count s.found
    → Comes (takes count) s (Ok parts) (record s { found = es; ways = None })
parts-taken count s parts es last e = let new : State = record s { found = es; ways = None } in
    next _ _ _ _ _ parts s (given _ s parts last)
    (next _ _ _ _ _ tt new (became-this _ s new (ap (λ xs. record s { found = xs; ways = None }) e)) (given _ new parts refl))

pub added : (P : TypedStmt → Type 0) (s : State) (stmt : TypedStmt) (bs : List BlockAtWork) → IsAdded stmt s.blocks bs → P stmt
    → Comes (adds_stmt P) s (Ok tt) (record s { blocks = bs })
added P s stmt bs a p = subst (λ cs. Comes (adds_stmt P) s (Ok tt) (record s { blocks = cs })) (sym a.after) (stmt-added P s a.kept a.block stmt a.is p)

-- ---- a store

module _ (s : State) (ws : List (Option Shared)) (accs : List Access) (es : List TypedExpr) (bs : List BlockAtWork) where
  abbrev pub with_stored : State
  with_stored = record s { wants = ws; accesses = accs; found = es; ways = None; blocks = bs }

  pub stores-come : (a : Access) (parts : List TypedExpr) (form : PerformForm) (stmt : TypedStmt) (at : Place) → ws ≡ all_but 1 s.wants → s.accesses ≡ accs ++ a ∷ []
      → AreLast s.found 3 parts → es ≡ all_but 3 s.found → store_form a form → IsPerform form parts at stmt → IsAdded stmt s.blocks bs
      → Comes (stores at) s (Ok tt) with_stored
  stores-come a parts form stmt at wanted is last kept so made-of more =
      let first : State = record s { wants = ws } in
      let second : State = record first { accesses = accs } in
      let third : State = record second { found = es; ways = None } in
      next _ _ _ _ _ tt first (became-this _ s first (ap (λ vs. record s { wants = vs }) wanted))
      (next _ _ _ _ _ a second (access-taken first accs a is)
      (next _ _ _ _ _ parts third (parts-taken 3 second parts es last kept)
      (next _ _ _ _ _ form third (given _ third form so) (added (IsPerform form parts at) third stmt bs more made-of))))

  pub stored-stands : Stands s → ws ≡ all_but 1 s.wants → es ≡ all_but 3 s.found → Stands with_stored
  stored-stands h wanted kept =
      let n : ℕ = length s.atoms in
      let first = stands-wants s h ws (subst (All (IfShared (TyBelow n))) (sym wanted) (others-have (IfShared (TyBelow n)) 1 s.wants h.wants)) in
      let second = stands-found (record s { wants = ws }) first es (subst (All (PartBelow n)) (sym kept) (others-have (PartBelow n) 3 s.found h.found)) in
      stands-beside (record s { wants = ws; found = es; ways = None }) second s.sorts accs bs s.done

-- ---- a field that is a key

implied-type : (value : Constant) (t : Shared) (at : Place) (e : TypedExpr) → IsImplied value t at e → type_of e ≡ t
implied-type value t at e is = search (rules, expr_layers)

nothing-last : {A : Type 0} (xs : List A) → AreLast xs 0 []
nothing-last xs = record { kept = xs; is = sym (append-nil xs); many = refl }

module _ (s : State) (w : Word) (e : TypedExpr) (key : IsKey w.name w.at e) (es : List TypedExpr) (more : es ≡ s.found ++ e ∷ [])
    (accs : List Access) (also : accs ≡ s.accesses ++ Key ∷ []) where
  abbrev pub with_field : State
  with_field = record s { found = es; ways = None; accesses = accs }

  pub field-comes : Comes (has_field w) s (Ok tt) with_field
  field-comes =
      let mid : State = record s { found = es; ways = None } in
      next _ _ _ _ _ tt mid
      (made 0 _ s mid [] e (nothing-last s.found) (key.0, key.1 s.atoms, key.3)
      (ap (λ xs. record s { found = xs; ways = None }) (more ∙ ap (λ xs. xs ++ e ∷ []) (sym (kept-is 0 s.found s.found [] (sym (append-nil s.found)) refl)))))
      (became-this _ mid with_field (ap (λ xs. record mid { accesses = xs }) also))

  pub field-stands : Stands s → Stands with_field
  field-stands h =
      let n : ℕ = length s.atoms in
      stands-beside (record s { found = es; ways = None })
      (stands-found s h es
      (subst (All (PartBelow n)) (sym more) (also-has (PartBelow n) s.found e h.found (part-below n e key.0 (implied-type _ key.0 w.at e key.3) (key.2 n)))))
      s.sorts accs s.blocks s.done
