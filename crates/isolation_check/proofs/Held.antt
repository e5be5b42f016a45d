-- Trees of which each part that isolation looks at has types that name atoms that are there.
use Rattle.std.proofs.Common.{◌≡◌, ◌∙◌, ℕ, Bool, true, false, List, [], ◌∷◌, map, All, sym, subst, ap}
use Rattle.std.proofs.lemmas.List.Elements.{All-head, All-tail}
use Rattle.std.specs.Global.{Box}
use Rattle.bal_base.specs.declared.place.Place.{Place}
use Rattle.operations.specs.declared.operation.Constant.{Constant}
use Rattle.typed_tree.specs.declared.expr.AnonymousFunction.{AnonymousFunction}
use Rattle.typed_tree.specs.declared.expr.TypedExpr.{TypedExpr, TypedExpr-F, map-TypedExpr, out-TypedExpr, para-TypedExpr}
use Rattle.typed_tree.specs.declared.expr.TypedExpr.TheOpen as layer
use Rattle.typed_tree.specs.declared.form.StrictForm.{StrictForm}
use Rattle.typed_tree.specs.declared.stmt.TypedClause.{TypedClause}
use Rattle.typed_tree.specs.declared.stmt.TypedStmt.{TypedStmt}
use Rattle.typed_tree.specs.declared.unit.TypedFunction.{TypedFunction}
use Rattle.typed_tree.specs.declared.unit.TypedWorker.{TypedWorker}
use Rattle.typed_tree.specs.declared.package.Initial.{Initial}
use Rattle.typed_tree.specs.declared.package.Initialiser.{Initialiser}
use Rattle.typed_tree.specs.Listed.{Listed, nothing, one, ◌&◌, joined}
use Rattle.typed_tree.specs.SharedTypes.{Shared}
use Rattle.typed_tree.specs.StmtLayers.{of_typed_clause, of_typed_stmt}
use Rattle.typed_tree.specs.Views.{IsAnd, IsCheck, IsConditional, IsElvis, IsFunctionOf, IsImplied, IsLocal, IsOr, IsParens, IsStrict, IsTrap}
use Rattle.typed_tree.proofs.SeenParts.{firsts, para_out, seconds_with}
use Rattle.isolation_check.specs.declared.parts.Within.{Within}
use Rattle.isolation_check.specs.declared.parts.Within.TheVariants.{Body, Isolated, Free}
use Rattle.isolation_check.specs.Parts.{Captures, Does, Noted, anonymous_parts, expr_parts, form_parts, function_parts, initial_parts, initialiser_parts, noted, noting, of_body, worker_parts}
use Rattle.isolation_check.specs.Typed.{DoesBelow, PartBelow}

-- `n`: how many atoms there are
module _ (n : ℕ) where
  -- each part that is noted
  abbrev pub NotedBelow : Listed Noted → Type 0
  NotedBelow nothing = Unit {0}
  NotedBelow (one x) = PartBelow n x.part
  NotedBelow (p & q) = NotedBelow p × NotedBelow q

  -- wherever it stands
  unfoldable pub ExprHeld : TypedExpr → Type 0
  ExprHeld e = (w : Within) → NotedBelow (expr_parts e w)

  -- what an operation over these operands does by itself
  abbrev pub FormHeld : StrictForm → List TypedExpr → Place → Type 0
  FormHeld form es at = (w : Within) → NotedBelow (form_parts form es at w)

  unfoldable pub StmtHeld : TypedStmt → Type 0
  StmtHeld s = NotedBelow (of_typed_stmt noting s)

  unfoldable pub ClauseHeld : TypedClause → Type 0
  ClauseHeld c = NotedBelow (of_typed_clause noting c)

  unfoldable pub WorkerHeld : TypedWorker → Type 0
  WorkerHeld w = NotedBelow (worker_parts w)

  unfoldable pub FunctionHeld : TypedFunction → Type 0
  FunctionHeld f = NotedBelow (function_parts f)

  unfoldable pub InitialiserHeld : Initialiser → Type 0
  InitialiserHeld i = NotedBelow (initialiser_parts i)

  -- ---- one part, and several

  pub noted-held : (does : Does) (at : Place) → DoesBelow n does → (w : Within) → NotedBelow (noted w does at)
  noted-held does at h Body = h
  noted-held does at h Isolated = h
  noted-held does at h Free = tt

  exprs-held : (es : List TypedExpr) → All ExprHeld es → (w : Within) → NotedBelow (joined (map (λ e. expr_parts e w) es))
  unfolding ExprHeld
  exprs-held [] h w = tt
  exprs-held (e ∷ es) h w = (All-head ExprHeld e es h w, exprs-held es (All-tail ExprHeld e es h) w)

  -- ---- expressions, by their outermost layer

  para-at : (A : Type 0) (step : TypedExpr-F (TypedExpr × A) → A) (e : TypedExpr) (x : TypedExpr-F TypedExpr) → out-TypedExpr e ≡ x
      → para-TypedExpr A step e ≡ step (map-TypedExpr TypedExpr (TypedExpr × A) (λ t. (t, para-TypedExpr A step t)) x)
  para-at A step e x o = para_out A step e ∙ ap (λ y. step (map-TypedExpr TypedExpr (TypedExpr × A) (λ t. (t, para-TypedExpr A step t)) y)) o

  -- where the parts of the layer are these
  by-layer : (e : TypedExpr) (parts : Within → Listed Noted) → expr_parts e ≡ parts → ((w : Within) → NotedBelow (parts w)) → ExprHeld e
  unfolding ExprHeld
  by-layer e parts is h w = subst (λ (f : Within → Listed Noted). NotedBelow (f w)) (sym is) (h w)

  pub strict-held : (form : StrictForm) (es : List TypedExpr) (t : Shared) (at : Place) (e : TypedExpr) → IsStrict form es t at e
      → FormHeld form es at → All ExprHeld es → ExprHeld e
  unfolding ExprHeld
  strict-held form es t at e (v, o, is) h all w =
      subst NotedBelow (sym (parts ∙ ap (λ xs. form_parts form xs at w & joined (map (λ x. expr_parts x w) xs)) is)) (h w, exprs-held es all w)
    where
      parts : expr_parts e w ≡ form_parts form v.items at w & joined (map (λ x. expr_parts x w) v.items)
      parts =
          ap (λ (f : Within → Listed Noted). f w) (para-at _ _ e (layer.Strict form v t at) o)
          ∙ ap (λ xs. form_parts form xs at w & joined (map (λ (x : TypedExpr × (Within → Listed Noted)). x.1 w) (map (λ x. (x, expr_parts x)) v.items))) (firsts expr_parts v.items)
          ∙ ap (λ l. form_parts form v.items at w & joined l) (seconds_with expr_parts (λ f. f w) v.items)

  pub implied-held : (c : Constant) (t : Shared) (at : Place) (e : TypedExpr) → IsImplied c t at e → ExprHeld e
  implied-held c t at e o = by-layer e (λ w. nothing) (para-at _ _ e (layer.Implied c t at) o) (λ w. tt)

  pub local-held : (slot : ℕ) (narrowed : Bool) (t : Shared) (at : Place) (e : TypedExpr) → IsLocal slot narrowed t at e → ExprHeld e
  local-held slot narrowed t at e o = by-layer e (λ w. nothing) (para-at _ _ e (layer.Local slot narrowed t at) o) (λ w. tt)

  boxed : (b : Box TypedExpr) (e : TypedExpr) → b.value ≡ e → ExprHeld e → (w : Within) → NotedBelow (expr_parts b.value w)
  unfolding ExprHeld
  boxed b e is h w = subst (λ x. NotedBelow (expr_parts x w)) (sym is) (h w)

  -- as a part of a body, and of an initial value
  pub of-body-held : (b : Box TypedExpr) (e : TypedExpr) → b.value ≡ e → ExprHeld e → NotedBelow (of_body b.value)
  of-body-held b e is h = boxed b e is h Body

  pub operands-held : (es : List TypedExpr) → All ExprHeld es → NotedBelow (joined (map of_body es))
  operands-held es h = exprs-held es h Body

  unfoldable pub InitialHeld : Initial → Type 0
  InitialHeld i = NotedBelow (initial_parts i)

  pub initial-held : (i : Initial) (e : TypedExpr) → i.value.value ≡ e → ExprHeld e → InitialHeld i
  unfolding InitialHeld
  initial-held i e is h = boxed i.value e is h Free

  pub and-held : (a b : TypedExpr) (t : Shared) (at : Place) (e : TypedExpr) → IsAnd a b t at e → ExprHeld a → ExprHeld b → ExprHeld e
  and-held a b t at e (l, r, o, first, next) h k =
      by-layer e (λ w. expr_parts l.value w & expr_parts r.value w) (para-at _ _ e (layer.And l r t at) o) (λ w. (boxed l a first h w, boxed r b next k w))

  pub or-held : (a b : TypedExpr) (t : Shared) (at : Place) (e : TypedExpr) → IsOr a b t at e → ExprHeld a → ExprHeld b → ExprHeld e
  or-held a b t at e (l, r, o, first, next) h k =
      by-layer e (λ w. expr_parts l.value w & expr_parts r.value w) (para-at _ _ e (layer.Or l r t at) o) (λ w. (boxed l a first h w, boxed r b next k w))

  pub conditional-held : (c a b : TypedExpr) (t : Shared) (at : Place) (e : TypedExpr) → IsConditional c a b t at e
      → ExprHeld c → ExprHeld a → ExprHeld b → ExprHeld e
  conditional-held c a b t at e (x, l, r, o, condition, first, next) g h k =
      by-layer e (λ w. expr_parts x.value w & expr_parts l.value w & expr_parts r.value w) (para-at _ _ e (layer.Conditional x l r t at) o)
      (λ w. (boxed x c condition g w, (boxed l a first h w, boxed r b next k w)))

  pub elvis-held : (own : ℕ) (a b : TypedExpr) (t : Shared) (at : Place) (e : TypedExpr) → IsElvis own a b t at e → ExprHeld a → ExprHeld b → ExprHeld e
  elvis-held own a b t at e (l, r, o, first, next) h k =
      by-layer e (λ w. expr_parts l.value w & expr_parts r.value w) (para-at _ _ e (layer.Elvis own l r t at) o) (λ w. (boxed l a first h w, boxed r b next k w))

  pub check-held : (panics : Bool) (own : ℕ) (a : TypedExpr) (t : Shared) (at : Place) (e : TypedExpr) → IsCheck panics own a t at e → ExprHeld a → ExprHeld e
  check-held panics own a t at e (x, o, is) h = by-layer e (λ w. expr_parts x.value w) (para-at _ _ e (layer.Check panics own x t at) o) (boxed x a is h)

  pub trap-held : (a : TypedExpr) (t : Shared) (at : Place) (e : TypedExpr) → IsTrap a t at e → ExprHeld a → ExprHeld e
  trap-held a t at e (x, o, is) h = by-layer e (λ w. expr_parts x.value w) (para-at _ _ e (layer.Trap x t at) o) (boxed x a is h)

  pub parens-held : (a : TypedExpr) (t : Shared) (at : Place) (e : TypedExpr) → IsParens a t at e → ExprHeld a → ExprHeld e
  parens-held a t at e (x, o, is) h = by-layer e (λ w. expr_parts x.value w) (para-at _ _ e (layer.Parens x t at) o) (boxed x a is h)

  -- what it captures has types that name atoms that are there
  pub function-held : (f : AnonymousFunction) (a : TypedExpr) (t : Shared) (at : Place) (e : TypedExpr) → IsFunctionOf f a t at e
      → DoesBelow n (Captures f.captured) → ExprHeld a → ExprHeld e
  function-held f a t at e (g, x, o, same, is) below h =
      by-layer e _ (para-at _ _ e (layer.Function g x t at) o)
      (subst (λ (k : AnonymousFunction). (w : Within) → NotedBelow (parts_by k w)) (sym same) (by f.isolated))
    where
      parts_by : AnonymousFunction → Within → Listed Noted
      parts_by k w = anonymous_parts k (expr_parts x.value) at k.isolated

      by : (isolated : Bool) → (w : Within) → NotedBelow (anonymous_parts f (expr_parts x.value) at isolated)
      by true w = (noted-held (Captures f.captured) at below Isolated, boxed x a is h Isolated)
      by false w = boxed x a is h Free
