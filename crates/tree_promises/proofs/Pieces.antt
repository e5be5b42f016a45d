-- Typed expressions of typed parts.
use Rattle.std.proofs.Common.{◌≡◌, ◌++◌, ℕ, Bool, true, false, List, [], ◌∷◌, length, map, Some, None, append-nil, refl, sym, subst, rules}
use Rattle.std.specs.Prelude.{slice_get}
use Rattle.std.proofs.lemmas.List.{append_assoc}
use Rattle.bal_base.specs.declared.place.Place.{Place}
use Rattle.bal_base.specs.declared.shape.Shape.{Bool as BoolShape}
use Rattle.type_model.specs.declared.atoms.AtomDef.{AtomDef}
use Rattle.type_model.specs.declared.basic.SemType.{SemType}
use Rattle.type_model.specs.Inclusion.{HasExactly, Sub}
use Rattle.operations.specs.declared.operation.Constant.{Constant}
use Rattle.operations.specs.declared.operation.Constant.TheVariants as constant
use Rattle.operations.specs.declared.operation.Operation.TheVariants.{Const, Load, Store, Test}
use Rattle.operations.specs.Kinds.{IsBoolean}
use Rattle.operations.specs.Rows.{ResultHas, Surroundings, shape_of}
use Rattle.operations.specs.Typing.{OpTyped}
use Rattle.typed_tree.proofs.ExprLayers.{expr_layers}
use Rattle.typed_tree.specs.declared.expr.AnonymousFunction.{AnonymousFunction}
use Rattle.typed_tree.specs.declared.expr.TypedExpr.{TypedExpr, out-TypedExpr}
use Rattle.typed_tree.specs.declared.expr.TypedExpr.TheOpen as layer
use Rattle.typed_tree.specs.declared.form.StrictForm.{StrictForm}
use Rattle.typed_tree.specs.declared.unit.Captured.{Captured}
use Rattle.typed_tree.specs.ExprLayers.{TypedExprOf}
use Rattle.typed_tree.specs.Exprs.{type_of}
use Rattle.typed_tree.specs.SharedTypes.{Shared, sem_of}
use Rattle.typed_tree.specs.Views.{IsAnd, IsCheck, IsConditional, IsElvis, IsFunctionOf, IsImplied, IsLocal, IsOr, IsParens, IsStrict, IsTrap}
use Rattle.held_operations.specs.Constructs.{operations_of}
use Rattle.eval_model.specs.Expressions.{check_ends, error_type, makes_function, narrowed_to, nil_type}
use Rattle.eval_model.specs.Walk.{CapturesOver, ExprOver, ExprsOver, KeptOver, OpsOver}
use Rattle.eval_model.specs.Ways.{Ways}
use Rattle.tree_promises.specs.Layers.{ExprLayerOver}
use Rattle.tree_promises.specs.Made.{AllCapturedTyped, AreTypedExprs, Booleans, CapturedIsTyped, ErrorsAreResults, LeadsTo, MadeIsTyped, SlotIsBelow, sem}
use Rattle.tree_promises.specs.Types.{DoesTypes, GetsTypes, IsTypedExpr, Stack, type_ways}
use Rattle.tree_promises.proofs.Layered.{expr-by-layer}
use Rattle.tree_promises.proofs.Order.{types-itself}
use Rattle.tree_promises.proofs.Rows.{cast-given, const-given, does-row, last-wider, load-given, one-row, operator-leads, store-taken, takes-last, truth-has, truth-is, two-rows}

module _ (env : List AtomDef) (place : Surroundings) where
  abbrev W : Ways Stack
  W = type_ways env place

  abbrev Typed : TypedExpr → Type 0
  Typed e = IsTypedExpr env place e

  -- by what the layer of the expression is
  from-view : (e : TypedExpr) (l : TypedExprOf TypedExpr) (t : Shared) → out-TypedExpr e ≡ l → type_of e ≡ t
      → ((below : Stack) → ExprLayerOver W l below (below ++ sem_of t ∷ [])) → Typed e
  from-view e l t is type f below =
      expr-by-layer W e below (below ++ sem e ∷ [])
      (subst (λ u. ExprLayerOver W (out-TypedExpr e) below (below ++ sem_of u ∷ [])) (sym type)
      (subst (λ k. ExprLayerOver W k below (below ++ sem_of t ∷ [])) (sym is) (f below)))

  -- a part that is held in a box
  boxed : (a b : TypedExpr) → a ≡ b → Typed b → (below : Stack) → ExprOver W a below (below ++ sem b ∷ [])
  boxed a b is typed below = subst (λ x. ExprOver W x below (below ++ sem b ∷ [])) (sym is) (typed below)

  abbrev behind : Stack → SemType → Stack
  behind below t = below ++ t ∷ []

  grown : (below : Stack) (t : SemType) (ts : Stack) → behind below t ++ ts ≡ below ++ (t ∷ ts)
  grown below t ts = append_assoc below (t ∷ []) ts

  -- ---- all operands

  pub parts-over : (es : List TypedExpr) (below : Stack) → AreTypedExprs env place es → ExprsOver W es below (below ++ map sem es)
  parts-over [] below typed = subst (λ z. W.comes below z) (sym (append-nil below)) (types-itself env below)
  parts-over (e ∷ es) below (first, more) =
      (behind below (sem e), first below, subst (λ z. ExprsOver W es (behind below (sem e)) z) (grown below (sem e) (map sem es)) (parts-over es (behind below (sem e)) more))

  strict : (form : StrictForm) (parts : List TypedExpr) (t : Shared) (at : Place) (e : TypedExpr) → IsStrict form parts t at e
      → AreTypedExprs env place parts → LeadsTo env place (operations_of form (length parts)) (map sem parts) (sem_of t) → Typed e
  strict form parts t at e (v, is, same) typed leads =
      from-view e (layer.Strict form v t at) t is (search (rules, expr_layers)) (λ below.
      subst (λ (xs : List TypedExpr). (m : Stack) × ExprsOver W xs below m × OpsOver W (operations_of form (length xs)) m (behind below (sem_of t))) (sym same)
      (below ++ map sem parts, parts-over parts below typed, leads below))

  -- ---- values

  implied : (c : Constant) (t : Shared) (at : Place) (e : TypedExpr) → IsImplied c t at e → ResultHas env (Some (sem_of t)) (λ x. x ≡ shape_of c) → Typed e
  implied c t at e is has =
      from-view e (layer.Implied c t at) t is (search (rules, expr_layers)) (λ below. const-given env place c below (sem_of t) has)

  loaded : (slot : ℕ) (t : Shared) (at : Place) (e : TypedExpr) → IsLocal slot false t at e → SlotIsBelow env place slot (sem_of t) → Typed e
  loaded slot t at e is (s, held, under) =
      from-view e (layer.Local slot false t at) t is (search (rules, expr_layers)) (λ below. load-given env place slot below s (sem_of t) held under)

  narrowed : (slot : ℕ) (t : Shared) (at : Place) (e : TypedExpr) (s : SemType) → IsLocal slot true t at e → slice_get place.slots slot ≡ Some s → Typed e
  narrowed slot t at e s is held =
      from-view e (layer.Local slot true t at) t is (search (rules, expr_layers)) (λ below.
      cast-given env place slot below s (sem_of t) (sem_of t) held (λ x valid i. i.1))

  enclosed : (a : TypedExpr) (t : Shared) (at : Place) (e : TypedExpr) → IsParens a t at e → Typed a → sem a ≡ sem_of t → Typed e
  enclosed a t at e (b, is, same) typed type =
      from-view e (layer.Parens b t at) t is (search (rules, expr_layers)) (λ below.
      subst (λ (u : SemType). ExprOver W b.value below (behind below u)) type (boxed b.value a same typed below))

  -- ---- two ways

  constant-ways : (c : Constant) (below : Stack) (t : SemType) → ResultHas env (Some t) (λ x. x ≡ shape_of c) → OpsOver W (Const c ∷ []) below (behind below t)
  constant-ways c below t has = (behind below t, const-given env place c below t has, types-itself env (behind below t))

  conjoined : (a b : TypedExpr) (t : Shared) (at : Place) (e : TypedExpr) → IsAnd a b t at e → Typed a → Typed b → Booleans env (sem a)
      → Sub env (sem b) (sem_of t) → ResultHas env (Some (sem_of t)) (λ x. x ≡ BoolShape false) → Typed e
  conjoined a b t at e (l, r, is, left, right) first second boolean under has =
      from-view e (layer.And l r t at) t is (search (rules, expr_layers)) (λ below. (
        behind below (sem a),
        boxed l.value a left first below,
        (
          below,
          behind below (sem b),
          below,
          behind below (sem_of t),
          takes-last env place below (sem a) boolean,
          boxed r.value b right second below,
          last-wider env place below (sem b) (sem_of t) under,
          takes-last env place below (sem a) boolean,
          constant-ways (constant.Bool false) below (sem_of t) has,
          types-itself env (behind below (sem_of t)),
        ),
      ))

  disjoined : (a b : TypedExpr) (t : Shared) (at : Place) (e : TypedExpr) → IsOr a b t at e → Typed a → Typed b → Booleans env (sem a)
      → Sub env (sem b) (sem_of t) → ResultHas env (Some (sem_of t)) (λ x. x ≡ BoolShape true) → Typed e
  disjoined a b t at e (l, r, is, left, right) first second boolean under has =
      from-view e (layer.Or l r t at) t is (search (rules, expr_layers)) (λ below. (
        behind below (sem a),
        boxed l.value a left first below,
        (
          below,
          behind below (sem_of t),
          below,
          behind below (sem b),
          takes-last env place below (sem a) boolean,
          constant-ways (constant.Bool true) below (sem_of t) has,
          types-itself env (behind below (sem_of t)),
          takes-last env place below (sem a) boolean,
          boxed r.value b right second below,
          last-wider env place below (sem b) (sem_of t) under,
        ),
      ))

  chosen : (c a b : TypedExpr) (t : Shared) (at : Place) (e : TypedExpr) → IsConditional c a b t at e → Typed c → Typed a → Typed b
      → Booleans env (sem c) → Sub env (sem a) (sem_of t) → Sub env (sem b) (sem_of t) → Typed e
  chosen c a b t at e (k, m, l, is, condition, middle, last) first second third boolean under over =
      from-view e (layer.Conditional k m l t at) t is (search (rules, expr_layers)) (λ below. (
        behind below (sem c),
        boxed k.value c condition first below,
        (
          below,
          behind below (sem a),
          below,
          behind below (sem b),
          takes-last env place below (sem c) boolean,
          boxed m.value a middle second below,
          last-wider env place below (sem a) (sem_of t) under,
          takes-last env place below (sem c) boolean,
          boxed l.value b last third below,
          last-wider env place below (sem b) (sem_of t) over,
        ),
      ))

  -- ---- what is kept, tested and loaded again

  module _ (truth : SemType) (is : HasExactly env truth IsBoolean) where
    tested : (own : ℕ) (below : Stack) (a s t : SemType) → slice_get place.slots own ≡ Some s → Sub env a s
        → OpsOver W (Store own ∷ Load own ∷ Test t ∷ []) (behind below a) (behind below truth)
    tested own below a s t held under = (
      below,
      store-taken env place own below a s held under,
      (
        behind below s,
        load-given env place own below s s held (λ x valid i. i),
        one-row env place (Test t) (s ∷ []) truth (truth-has env place truth is) below,
      ),
    )

    kept : (own : ℕ) (below : Stack) (s t : SemType) → slice_get place.slots own ≡ Some s → KeptOver W own t [] below (behind below t)
    kept own below s t held = (behind below t, cast-given env place own below s t t held (λ x valid i. i.1), types-itself env (behind below t))

    filled : (own : ℕ) (a b : TypedExpr) (t : Shared) (at : Place) (e : TypedExpr) (s : SemType) → IsElvis own a b t at e → Typed a → Typed b
        → slice_get place.slots own ≡ Some s → Sub env (sem a) s → Sub env (sem b) (sem_of t) → Typed e
    filled own a b t at e s (l, r, view, left, right) first second held under over =
        from-view e (layer.Elvis own l r t at) t view (search (rules, expr_layers)) (λ below. (
          behind below (sem a),
          behind below truth,
          boxed l.value a left first below,
          tested own below (sem a) s nil_type held under,
          (
            below,
            behind below (sem b),
            below,
            behind below (sem_of t),
            takes-last env place below truth (truth-is env place truth is),
            boxed r.value b right second below,
            last-wider env place below (sem b) (sem_of t) over,
            takes-last env place below truth (truth-is env place truth is),
            kept own below s (sem_of t) held,
            types-itself env (behind below (sem_of t)),
          ),
        ))

    -- an error panics, or is returned; nothing is behind it
    ends : (panics : Bool) (own : ℕ) (below end : Stack) (s : SemType) → slice_get place.slots own ≡ Some s → (panics ≡ false → ErrorsAreResults env place s)
        → KeptOver W own error_type (check_ends panics ∷ []) below end
    ends true own below end s held results = (
      behind below error_type,
      cast-given env place own below s error_type error_type held (λ x valid i. i.1),
      (
        end,
        record { below = below; operands = error_type ∷ []; result = None; are = refl; row = ((λ x i. i.1), refl); behind = λ goes. absurd (goes tt) },
        types-itself env end,
      ),
    )
    ends false own below end s held results =
        let (errors, exactly, fits) = results refl in (
          behind below errors,
          cast-given env place own below s error_type errors held (λ x valid i. (exactly x valid).1 i),
          (
            end,
            record { below = below; operands = errors ∷ []; result = None; are = refl; row = ((λ x i. fits x i.0 i.1), refl); behind = λ goes. absurd (goes tt) },
            types-itself env end,
          ),
        )

    checked : (panics : Bool) (own : ℕ) (a : TypedExpr) (t : Shared) (at : Place) (e : TypedExpr) (s : SemType) → IsCheck panics own a t at e → Typed a
        → slice_get place.slots own ≡ Some s → Sub env (sem a) s → (panics ≡ false → ErrorsAreResults env place s) → Typed e
    checked panics own a t at e s (o, view, same) typed held under results =
        from-view e (layer.Check panics own o t at) t view (search (rules, expr_layers)) (λ below. (
          behind below (sem a),
          behind below truth,
          boxed o.value a same typed below,
          tested own below (sem a) s error_type held under,
          (
            below,
            behind below (sem_of t),
            below,
            behind below (sem_of t),
            takes-last env place below truth (truth-is env place truth is),
            ends panics own below (behind below (sem_of t)) s held results,
            types-itself env (behind below (sem_of t)),
            takes-last env place below truth (truth-is env place truth is),
            kept own below s (sem_of t) held,
            types-itself env (behind below (sem_of t)),
          ),
        ))

  -- ---- traps and functions

  trapped : (a : TypedExpr) (t : Shared) (at : Place) (e : TypedExpr) → IsTrap a t at e → Typed a → Sub env (sem a) (sem_of t)
      → Sub env error_type (sem_of t) → Typed e
  trapped a t at e (o, is, same) typed under errors =
      from-view e (layer.Trap o t at) t is (search (rules, expr_layers)) (λ below. (
        below,
        behind below (sem a),
        record { begins = refl; ends = last-wider env place below (sem a) (sem_of t) under; lands = last-wider env place below error_type (sem_of t) errors },
        boxed o.value a same typed below,
      ))

  abbrev types_of : List Captured → Stack
  types_of cs = map (λ c. sem_of c.ty) cs

  captured-gets : (c : Captured) (below : Stack) → CapturedIsTyped env place c
      → GetsTypes env place c.slot (narrowed_to c.narrowed c.ty) below (behind below (sem_of c.ty))
  captured-gets c below (s, held, under) = by c.narrowed refl
    where
      by : (n : Bool) → c.narrowed ≡ n → GetsTypes env place c.slot (narrowed_to n c.ty) below (behind below (sem_of c.ty))
      by true is = cast-given env place c.slot below s (sem_of c.ty) (sem_of c.ty) held (λ x valid i. i.1)
      by false is = load-given env place c.slot below s (sem_of c.ty) held (under is)

  captures-over : (cs : List Captured) (below : Stack) → AllCapturedTyped env place cs → CapturesOver W cs below (below ++ types_of cs)
  captures-over [] below typed = subst (λ z. W.comes below z) (sym (append-nil below)) (types-itself env below)
  captures-over (c ∷ cs) below (first, more) = (
    behind below (sem_of c.ty),
    captured-gets c below first,
    subst (λ z. CapturesOver W cs (behind below (sem_of c.ty)) z) (grown below (sem_of c.ty) (types_of cs)) (captures-over cs (behind below (sem_of c.ty)) more),
  )

  function : (f : AnonymousFunction) (value : TypedExpr) (t : Shared) (at : Place) (e : TypedExpr) → IsFunctionOf f value t at e
      → AllCapturedTyped env place f.captured → OpTyped env place (makes_function f) (types_of f.captured) (Some (sem_of t)) → Typed e
  function f value t at e (g, v, is, same, held) typed row =
      from-view e (layer.Function g v t at) t is (search (rules, expr_layers)) (λ below.
      subst (λ (h : AnonymousFunction). (m : Stack) × CapturesOver W h.captured below m × DoesTypes env place (makes_function h) m (behind below (sem_of t))) (sym same)
      (below ++ types_of f.captured, captures-over f.captured below typed, does-row env place (makes_function f) below (types_of f.captured) (sem_of t) row))

  pub made-is-typed : (truth : SemType) → MadeIsTyped env place truth
  made-is-typed truth =
      record {
        strict = strict;
        one_row = one-row env place;
        two_rows = two-rows env place;
        operators = λ op os t is. operator-leads env place truth is op os t;
        implied = implied;
        loaded = loaded;
        narrowed = narrowed;
        conjoined = conjoined;
        disjoined = disjoined;
        chosen = chosen;
        filled = λ own a b t at e s is. filled truth is own a b t at e s;
        checked = λ panics own a t at e s is. checked truth is panics own a t at e s;
        trapped = trapped;
        function = function;
        enclosed = enclosed;
      }
