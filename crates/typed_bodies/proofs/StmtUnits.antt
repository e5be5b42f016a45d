-- The units in a statement that was made are those in the parts and blocks that it was made of.
use Rattle.std.proofs.Common.{Bool, List, None, Some, [], ap, append-nil, append_assoc, map, refl, sym, ℕ, ◌++◌, ◌∙◌, ◌∷◌, ◌≡◌}
use Rattle.bal_base.specs.declared.place.Place.{Place}
use Rattle.calm_needs.proofs.PlacedParts.{one-units, units_of}
use Rattle.check_words.specs.StmtViews.{IsBlock, IsBreak, IsContinue, IsForeach, IsIf, IsListSource, IsMatch, IsMemberTarget, IsPerform, IsRangeSource, IsReturn, IsReturnNil, IsSet, IsUpdate, IsWhile}
use Rattle.tree_promises.specs.Placed.{Placed, source_placed}
use Rattle.typed_bodies.specs.Units.{units_of_clauses, units_of_stmts}
use Rattle.typed_needs.specs.Between.{units_in}
use Rattle.typed_tree.specs.Listed.{Listed, joined, members}
use Rattle.typed_tree.specs.SharedTypes.{Shared}
use Rattle.typed_tree.specs.StmtLayers.{TypedClauseOf, TypedStmtOf}
use Rattle.typed_tree.specs.declared.expr.TypedExpr.{TypedExpr}
use Rattle.typed_tree.specs.declared.form.Operator.{Operator}
use Rattle.typed_tree.specs.declared.form.Read.{Read}
use Rattle.typed_tree.specs.declared.stmt.PerformForm.{PerformForm}
use Rattle.typed_tree.specs.declared.stmt.RangeEnd.{RangeEnd}
use Rattle.typed_tree.specs.declared.stmt.Source.{Source}
use Rattle.typed_tree.specs.declared.stmt.TypedClause.{TypedClause, fold-TypedClause, fold_out-TypedClause, map-TypedClause, out-TypedClause}
use Rattle.typed_tree.specs.declared.stmt.TypedStmt.TheOpen as layer
use Rattle.typed_tree.specs.declared.stmt.TypedStmt.{TypedStmt, TypedStmt-F, fold-TypedStmt, fold_out-TypedStmt, map-TypedStmt, out-TypedStmt}
use Rattle.typed_tree.specs.declared.stmt.UpdateTarget.TheVariants as target
use Rattle.typed_tree.specs.declared.stmt.UpdateTarget.{UpdateTarget}

-- ---- by layers

module _ (A : Type 0) (stmt : TypedStmtOf A → A) (clause : TypedClauseOf A → A) where
  stmt-at : (s : TypedStmt) (x : TypedStmt-F TypedStmt TypedClause) → out-TypedStmt s ≡ x
      → fold-TypedStmt A A stmt clause s ≡ stmt (map-TypedStmt TypedStmt TypedClause A A (fold-TypedStmt A A stmt clause) (fold-TypedClause A A stmt clause) x)
  stmt-at s x o =
      fold_out-TypedStmt A A stmt clause s
      ∙ ap (λ y. stmt (map-TypedStmt TypedStmt TypedClause A A (fold-TypedStmt A A stmt clause) (fold-TypedClause A A stmt clause) y)) o

  clause-at : (c : TypedClause)
      → fold-TypedClause A A stmt clause c ≡ clause (map-TypedClause TypedStmt TypedClause A A (fold-TypedStmt A A stmt clause) (fold-TypedClause A A stmt clause) (out-TypedClause c))
  clause-at c = fold_out-TypedClause A A stmt clause c

-- ---- statements one behind another

joined-append : (f : TypedStmt → Listed Placed) (ss ts : List TypedStmt) → members (joined (map f (ss ++ ts))) ≡ members (joined (map f ss)) ++ members (joined (map f ts))
joined-append f [] ts = refl
joined-append f (s ∷ ss) ts =
    ap (λ l. members (f s) ++ l) (joined-append f ss ts) ∙ sym (append_assoc (members (f s)) (members (joined (map f ss))) (members (joined (map f ts))))

pub stmts-append : (ss ts : List TypedStmt) → units_of_stmts (ss ++ ts) ≡ units_of_stmts ss ++ units_of_stmts ts
stmts-append ss ts = joined-append _ ss ts

-- ---- what statements are made of

-- the units of a statement are these
abbrev pub HasUnits : List Placed → TypedStmt → Type 0
HasUnits us s = units_of_stmts (s ∷ []) ≡ us

pub set-units : (slot : ℕ) (value : TypedExpr) (at : Place) (s : TypedStmt) → IsSet slot value at s → HasUnits (units_in (value ∷ [])) s
set-units slot value at s (v, o, is) = ap (λ l. members l ++ []) (stmt-at _ _ _ s (layer.Set slot v at) o) ∙ ap (λ (x : TypedExpr). units_of x ++ []) is

pub performed-units : (form : PerformForm) (parts : List TypedExpr) (at : Place) (s : TypedStmt) → IsPerform form parts at s → HasUnits (units_in parts) s
performed-units form parts at s (v, o, is) =
    ap (λ l. members l ++ []) (stmt-at _ _ _ s (layer.Perform form v at) o) ∙ append-nil (units_in v.items) ∙ ap (λ (xs : List TypedExpr). units_in xs) is

pub local-units : (slot : ℕ) (narrowed : Bool) (t : Shared) (op : Operator) (value : TypedExpr) (at : Place) (s : TypedStmt) → IsUpdate (target.Local slot narrowed t) op value at s
    → HasUnits (units_in (value ∷ [])) s
local-units slot narrowed t op value at s (v, o, is) =
    ap (λ l. members l ++ []) (stmt-at _ _ _ s (layer.Update (target.Local slot narrowed t) op v at) o) ∙ ap (λ (x : TypedExpr). units_of x ++ []) is

pub variable-units : (x : ℕ) (op : Operator) (value : TypedExpr) (at : Place) (s : TypedStmt) → IsUpdate (target.Variable x) op value at s → HasUnits (units_in (value ∷ [])) s
variable-units x op value at s (v, o, is) =
    ap (λ l. members l ++ []) (stmt-at _ _ _ s (layer.Update (target.Variable x) op v at) o) ∙ ap (λ (x : TypedExpr). units_of x ++ []) is

pub member-units : (own : ℕ) (how : Read) (container key : TypedExpr) (t : Shared) (what : UpdateTarget) (op : Operator) (value : TypedExpr) (at : Place) (s : TypedStmt)
    → IsMemberTarget own how container key t what → IsUpdate what op value at s → HasUnits (units_in (container ∷ key ∷ value ∷ [])) s
member-units own how container key t what op value at s (c, k, is, ec, ek) (v, o, ev) =
    ap (λ l. members l ++ []) (stmt-at _ _ _ s (layer.Update (target.Member own how c k t) op v at) (o ∙ ap (λ w. layer.Update w op v at) is))
    ∙ ap (λ (x : TypedExpr). ((units_of x ++ units_of k.value) ++ units_of v.value) ++ []) ec ∙ ap (λ (x : TypedExpr). ((units_of container ++ units_of x) ++ units_of v.value) ++ []) ek
    ∙ ap (λ (x : TypedExpr). ((units_of container ++ units_of key) ++ units_of x) ++ []) ev
    ∙ append_assoc (units_of container ++ units_of key) (units_of value) [] ∙ append_assoc (units_of container) (units_of key) (units_of value ++ [])

-- a part, and then what stands in blocks
behind : (e : TypedExpr) (inner : List Placed) → (units_of e ++ inner) ++ [] ≡ units_in (e ∷ []) ++ inner
behind e inner = append-nil (units_of e ++ inner) ∙ ap (λ l. l ++ inner) (sym (one-units e))

pub branched-units : (c : TypedExpr) (first second : List TypedStmt) (at : Place) (s : TypedStmt) → IsIf c first second at s
    → HasUnits (units_in (c ∷ []) ++ (units_of_stmts first ++ units_of_stmts second)) s
branched-units c first second at s (b, v, w, o, ec, ef, es) =
    ap (λ l. members l ++ []) (stmt-at _ _ _ s (layer.If b v w at) o)
    ∙ ap (λ (x : TypedExpr). (units_of x ++ (units_of_stmts v.items ++ units_of_stmts w.items)) ++ []) ec
    ∙ ap (λ (ss : List TypedStmt). (units_of c ++ (units_of_stmts ss ++ units_of_stmts w.items)) ++ []) ef
    ∙ ap (λ (ss : List TypedStmt). (units_of c ++ (units_of_stmts first ++ units_of_stmts ss)) ++ []) es
    ∙ behind c (units_of_stmts first ++ units_of_stmts second)

pub repeated-units : (c : TypedExpr) (body : List TypedStmt) (at : Place) (s : TypedStmt) → IsWhile c body at s → HasUnits (units_in (c ∷ []) ++ units_of_stmts body) s
repeated-units c body at s (b, v, o, ec, eb) =
    ap (λ l. members l ++ []) (stmt-at _ _ _ s (layer.While b v at) o) ∙ ap (λ (x : TypedExpr). (units_of x ++ units_of_stmts v.items) ++ []) ec
    ∙ ap (λ (ss : List TypedStmt). (units_of c ++ units_of_stmts ss) ++ []) eb ∙ behind c (units_of_stmts body)

pub walked-units : (slot own : ℕ) (list : TypedExpr) (over : Source) (body : List TypedStmt) (at : Place) (s : TypedStmt) → IsListSource own list over
    → IsForeach slot over body at s → HasUnits (units_in (list ∷ []) ++ units_of_stmts body) s
walked-units slot own list over body at s (l, is, el) (v, o, eb) =
    ap (λ l. members l ++ []) (stmt-at _ _ _ s (layer.Foreach slot over v at) o)
    ∙ ap (λ (x : Source). (members (source_placed x) ++ units_of_stmts v.items) ++ []) is
    ∙ ap (λ (x : TypedExpr). (units_of x ++ units_of_stmts v.items) ++ []) el
    ∙ ap (λ (ss : List TypedStmt). (units_of list ++ units_of_stmts ss) ++ []) eb ∙ behind list (units_of_stmts body)

pub counted-units : (slot own : ℕ) (end : RangeEnd) (from to : TypedExpr) (over : Source) (body : List TypedStmt) (at : Place) (s : TypedStmt)
    → IsRangeSource own end from to over → IsForeach slot over body at s → HasUnits (units_in (from ∷ to ∷ []) ++ units_of_stmts body) s
counted-units slot own end from to over body at s (f, t, is, ef, et) (v, o, eb) =
    ap (λ l. members l ++ []) (stmt-at _ _ _ s (layer.Foreach slot over v at) o)
    ∙ ap (λ (x : Source). (members (source_placed x) ++ units_of_stmts v.items) ++ []) is
    ∙ ap (λ (x : TypedExpr). ((units_of x ++ units_of t.value) ++ units_of_stmts v.items) ++ []) ef
    ∙ ap (λ (x : TypedExpr). ((units_of from ++ units_of x) ++ units_of_stmts v.items) ++ []) et
    ∙ ap (λ (ss : List TypedStmt). ((units_of from ++ units_of to) ++ units_of_stmts ss) ++ []) eb
    ∙ append-nil ((units_of from ++ units_of to) ++ units_of_stmts body)
    ∙ ap (λ l. (units_of from ++ l) ++ units_of_stmts body) (sym (one-units to))

-- clause by clause
module _ (stmt : TypedStmtOf (Listed Placed) → Listed Placed) (clause : TypedClauseOf (Listed Placed) → Listed Placed)
    (step : (c : TypedClauseOf (Listed Placed)) → members (clause c) ≡ members (joined c.stmts.items))
    (same : (ss : List TypedStmt) → members (joined (map (fold-TypedStmt (Listed Placed) (Listed Placed) stmt clause) ss)) ≡ units_of_stmts ss) where
  clauses-units : (cs : List TypedClause) → members (joined (map (fold-TypedClause (Listed Placed) (Listed Placed) stmt clause) cs)) ≡ units_of_clauses cs
  clauses-units [] = refl
  clauses-units (c ∷ cs) =
      ap (λ l. l ++ members (joined (map (fold-TypedClause (Listed Placed) (Listed Placed) stmt clause) cs)))
      (ap members (clause-at (Listed Placed) stmt clause c) ∙ step _ ∙ same (out-TypedClause c).stmts.items)
      ∙ ap (λ l. units_of_stmts (out-TypedClause c).stmts.items ++ l) (clauses-units cs)

pub matched-units : (own : ℕ) (subject : TypedExpr) (clauses : List TypedClause) (at : Place) (s : TypedStmt) → IsMatch own subject clauses at s
    → HasUnits (units_in (subject ∷ []) ++ units_of_clauses clauses) s
matched-units own subject clauses at s (b, v, o, eb, ev) =
    ap (λ l. members l ++ []) (stmt-at _ _ _ s (layer.Match own b v at) o) ∙ ap (λ l. (units_of b.value ++ l) ++ []) (clauses-units _ _ (λ c. refl) (λ ss. refl) v.items)
    ∙ ap (λ (x : TypedExpr). (units_of x ++ units_of_clauses v.items) ++ []) eb
    ∙ ap (λ (cs : List TypedClause). (units_of subject ++ units_of_clauses cs) ++ []) ev ∙ behind subject (units_of_clauses clauses)

pub returned-units : (e : TypedExpr) (at : Place) (s : TypedStmt) → IsReturn e at s → HasUnits (units_in (e ∷ [])) s
returned-units e at s (v, o, is) = ap (λ l. members l ++ []) (stmt-at _ _ _ s (layer.Return (Some v) at) o) ∙ ap (λ (x : TypedExpr). units_of x ++ []) is

pub nil-units : (at : Place) (s : TypedStmt) → IsReturnNil at s → HasUnits [] s
nil-units at s o = ap (λ l. members l ++ []) (stmt-at _ _ _ s (layer.Return None at) o)

pub block-units : (stmts : List TypedStmt) (at : Place) (s : TypedStmt) → IsBlock stmts at s → HasUnits (units_of_stmts stmts) s
block-units stmts at s (v, o, is) =
    ap (λ l. members l ++ []) (stmt-at _ _ _ s (layer.Block v at) o) ∙ append-nil (units_of_stmts v.items) ∙ ap (λ (ss : List TypedStmt). units_of_stmts ss) is

pub break-units : (at : Place) (s : TypedStmt) → IsBreak at s → HasUnits [] s
break-units at s o = ap (λ l. members l ++ []) (stmt-at _ _ _ s (layer.Break at) o)

pub continue-units : (at : Place) (s : TypedStmt) → IsContinue at s → HasUnits [] s
continue-units at s o = ap (λ l. members l ++ []) (stmt-at _ _ _ s (layer.Continue at) o)
