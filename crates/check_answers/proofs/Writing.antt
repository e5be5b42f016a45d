-- What is written of each node.
use Rattle.std.proofs.Common.{◌≡◌, ℕ, Bool, List, map, rules, ap, ◌∙◌}
use Rattle.bal_base.specs.declared.place.Place.{Place}
use Rattle.operations.specs.declared.operation.Constant.{Constant}
use Rattle.typed_tree.specs.declared.expr.AnonymousFunction.{AnonymousFunction}
use Rattle.typed_tree.specs.declared.expr.TypedExpr.{TypedExpr, TypedExpr-F, fold_out-TypedExpr, map-TypedExpr, out-TypedExpr}
use Rattle.typed_tree.specs.declared.expr.TypedExpr.TheOpen as layer
use Rattle.typed_tree.specs.declared.form.StrictForm.{StrictForm}
use Rattle.typed_tree.specs.Exprs.{type_of}
use Rattle.typed_tree.specs.Listed.{◌&◌, joined}
use Rattle.typed_tree.specs.SharedTypes.{Shared}
use Rattle.typed_tree.specs.Views.{IsAnd, IsCheck, IsConditional, IsElvis, IsFunctionOf, IsImplied, IsLocal, IsOr, IsParens, IsStrict, IsTrap}
use Rattle.typed_tree.proofs.ExprLayers.{expr_layers}
use Rattle.check_answers.specs.Pieces as say
use Rattle.check_answers.specs.Pieces.{Piece, Written, clause_pieces, expr_pieces, expr_step, form_pieces, function_head, says, source_pieces, stmt_pieces, stmts_pieces, target_pieces, whole, with_type, written}

-- what is written of a tree with this layer outermost
at-layer : (e : TypedExpr) (l : TypedExpr-F TypedExpr) → out-TypedExpr e ≡ l → written e ≡ expr_step (map-TypedExpr TypedExpr Written written l)
at-layer e l is = fold_out-TypedExpr Written expr_step e ∙ ap (λ k. expr_step (map-TypedExpr TypedExpr Written written k)) is

pub strict-written : (form : StrictForm) (parts : List TypedExpr) (t : Shared) (at : Place) (e : TypedExpr) → IsStrict form parts t at e
    → written e ≡ with_type t (says (say.IsStrict at) & form_pieces form & joined (map whole (map written parts)))
strict-written form parts t at e (v, is, same) =
    at-layer e (layer.Strict form v t at) is ∙ ap (λ es. with_type t (says (say.IsStrict at) & form_pieces form & joined (map whole (map written es)))) same

pub implied-written : (c : Constant) (t : Shared) (at : Place) (e : TypedExpr) → IsImplied c t at e → written e ≡ with_type t (says (say.IsImplied c at))
implied-written c t at e is = at-layer e (layer.Implied c t at) is

pub local-written : (slot : ℕ) (narrowed : Bool) (t : Shared) (at : Place) (e : TypedExpr) → IsLocal slot narrowed t at e
    → written e ≡ with_type t (says (say.IsLocal slot narrowed at))
local-written slot narrowed t at e is = at-layer e (layer.Local slot narrowed t at) is

pub and-written : (a b : TypedExpr) (t : Shared) (at : Place) (e : TypedExpr) → IsAnd a b t at e → written e ≡ with_type t (says (say.IsAnd at) & expr_pieces a & expr_pieces b)
and-written a b t at e (l, r, is, x, y) =
    at-layer e (layer.And l r t at) is ∙ ap (λ c. with_type t (says (say.IsAnd at) & expr_pieces c & expr_pieces r.value)) x
    ∙ ap (λ c. with_type t (says (say.IsAnd at) & expr_pieces a & expr_pieces c)) y

pub or-written : (a b : TypedExpr) (t : Shared) (at : Place) (e : TypedExpr) → IsOr a b t at e → written e ≡ with_type t (says (say.IsOr at) & expr_pieces a & expr_pieces b)
or-written a b t at e (l, r, is, x, y) =
    at-layer e (layer.Or l r t at) is ∙ ap (λ c. with_type t (says (say.IsOr at) & expr_pieces c & expr_pieces r.value)) x
    ∙ ap (λ c. with_type t (says (say.IsOr at) & expr_pieces a & expr_pieces c)) y

pub conditional-written : (c a b : TypedExpr) (t : Shared) (at : Place) (e : TypedExpr) → IsConditional c a b t at e
    → written e ≡ with_type t (says (say.IsConditional at) & expr_pieces c & expr_pieces a & expr_pieces b)
conditional-written c a b t at e (k, m, l, is, x, y, z) =
    at-layer e (layer.Conditional k m l t at) is
    ∙ ap (λ c. with_type t (says (say.IsConditional at) & expr_pieces c & expr_pieces m.value & expr_pieces l.value)) x
    ∙ ap (λ a. with_type t (says (say.IsConditional at) & expr_pieces c & expr_pieces a & expr_pieces l.value)) y
    ∙ ap (λ b. with_type t (says (say.IsConditional at) & expr_pieces c & expr_pieces a & expr_pieces b)) z

pub elvis-written : (own : ℕ) (a b : TypedExpr) (t : Shared) (at : Place) (e : TypedExpr) → IsElvis own a b t at e
    → written e ≡ with_type t (says (say.IsElvis own at) & expr_pieces a & expr_pieces b)
elvis-written own a b t at e (l, r, is, x, y) =
    at-layer e (layer.Elvis own l r t at) is ∙ ap (λ c. with_type t (says (say.IsElvis own at) & expr_pieces c & expr_pieces r.value)) x
    ∙ ap (λ c. with_type t (says (say.IsElvis own at) & expr_pieces a & expr_pieces c)) y

pub check-written : (panics : Bool) (own : ℕ) (a : TypedExpr) (t : Shared) (at : Place) (e : TypedExpr) → IsCheck panics own a t at e
    → written e ≡ with_type t (says (say.IsCheck panics own at) & expr_pieces a)
check-written panics own a t at e (o, is, x) =
    at-layer e (layer.Check panics own o t at) is ∙ ap (λ c. with_type t (says (say.IsCheck panics own at) & expr_pieces c)) x

pub trap-written : (a : TypedExpr) (t : Shared) (at : Place) (e : TypedExpr) → IsTrap a t at e → written e ≡ with_type t (says (say.IsTrap at) & expr_pieces a)
trap-written a t at e (o, is, x) = at-layer e (layer.Trap o t at) is ∙ ap (λ c. with_type t (says (say.IsTrap at) & expr_pieces c)) x

pub function-written : (f : AnonymousFunction) (value : TypedExpr) (t : Shared) (at : Place) (e : TypedExpr) → IsFunctionOf f value t at e
    → written e ≡ with_type t (says (say.IsFunction f.isolated f.args at) & function_head f & expr_pieces value)
function-written f value t at e (b, v, is, x, y) =
    at-layer e (layer.Function b v t at) is
    ∙ ap (λ (g : AnonymousFunction). with_type t (says (say.IsFunction g.isolated g.args at) & function_head g & expr_pieces v.value)) x
    ∙ ap (λ c. with_type t (says (say.IsFunction f.isolated f.args at) & function_head f & expr_pieces c)) y

pub parens-written : (inner : TypedExpr) (t : Shared) (at : Place) (e : TypedExpr) → IsParens inner t at e
    → written e ≡ with_type t (says (say.IsParens at) & expr_pieces inner)
parens-written inner t at e (i, is, x) = at-layer e (layer.Parens i t at) is ∙ ap (λ c. with_type t (says (say.IsParens at) & expr_pieces c)) x

-- ---- the types of parts

pub strict-type : (form : StrictForm) (parts : List TypedExpr) (t : Shared) (at : Place) (e : TypedExpr) → IsStrict form parts t at e → type_of e ≡ t
strict-type form parts t at e (v, is, same) = search (rules, expr_layers)

pub implied-type : (c : Constant) (t : Shared) (at : Place) (e : TypedExpr) → IsImplied c t at e → type_of e ≡ t
implied-type c t at e is = search (rules, expr_layers)

pub local-type : (slot : ℕ) (narrowed : Bool) (t : Shared) (at : Place) (e : TypedExpr) → IsLocal slot narrowed t at e → type_of e ≡ t
local-type slot narrowed t at e is = search (rules, expr_layers)

pub and-type : (a b : TypedExpr) (t : Shared) (at : Place) (e : TypedExpr) → IsAnd a b t at e → type_of e ≡ t
and-type a b t at e (l, r, is, x, y) = search (rules, expr_layers)

pub or-type : (a b : TypedExpr) (t : Shared) (at : Place) (e : TypedExpr) → IsOr a b t at e → type_of e ≡ t
or-type a b t at e (l, r, is, x, y) = search (rules, expr_layers)

pub conditional-type : (c a b : TypedExpr) (t : Shared) (at : Place) (e : TypedExpr) → IsConditional c a b t at e → type_of e ≡ t
conditional-type c a b t at e (k, m, l, is, x, y, z) = search (rules, expr_layers)

pub elvis-type : (own : ℕ) (a b : TypedExpr) (t : Shared) (at : Place) (e : TypedExpr) → IsElvis own a b t at e → type_of e ≡ t
elvis-type own a b t at e (l, r, is, x, y) = search (rules, expr_layers)

pub check-type : (panics : Bool) (own : ℕ) (a : TypedExpr) (t : Shared) (at : Place) (e : TypedExpr) → IsCheck panics own a t at e → type_of e ≡ t
check-type panics own a t at e (o, is, x) = search (rules, expr_layers)

pub trap-type : (a : TypedExpr) (t : Shared) (at : Place) (e : TypedExpr) → IsTrap a t at e → type_of e ≡ t
trap-type a t at e (o, is, x) = search (rules, expr_layers)

pub function-type : (f : AnonymousFunction) (value : TypedExpr) (t : Shared) (at : Place) (e : TypedExpr) → IsFunctionOf f value t at e → type_of e ≡ t
function-type f value t at e (b, v, is, x, y) = search (rules, expr_layers)

pub parens-type : (inner : TypedExpr) (t : Shared) (at : Place) (e : TypedExpr) → IsParens inner t at e → type_of e ≡ t
parens-type inner t at e (i, is, x) = search (rules, expr_layers)
