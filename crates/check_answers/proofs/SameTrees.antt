-- Trees that are written alike.
use Rattle.std.proofs.Common.{◌≡◌, List, [], ◌∷◌, map, sym, subst, refl, ap}
use Rattle.std.specs.List.{AllZip}
use Rattle.bal_base.specs.declared.place.Place.{Place}
use Rattle.type_model.specs.declared.basic.Ty.{Ty}
use Rattle.typed_tree.specs.declared.expr.TypedExpr.{TypedExpr, Strict', Implied, Local as Variable, And', Or', Conditional', Elvis', Check', Trap', Function', Parens', fold_out-TypedExpr, out-TypedExpr}
use Rattle.typed_tree.specs.declared.form.StrictForm.{StrictForm}
use Rattle.typed_tree.specs.Exprs.{type_of}
use Rattle.typed_tree.specs.Listed.{Listed, nothing, one, ◌&◌, joined}
use Rattle.typed_tree.specs.SharedTypes.{Shared}
use Rattle.typed_tree.specs.Views.{IsStrict}
use Rattle.check_answers.specs.Pieces.{OfType, Piece, SamePiece, SamePieces, Says, Written, expr_pieces, expr_step, form_pieces, whole, with_type, written}
use Rattle.check_answers.specs.TwinStates.{PartTwins}
use Rattle.check_answers.proofs.Writing.{strict-type, strict-written}
use denote.Hole.Carrier

module _ (D E : Ty → Ty → Type 0) (f : (s t : Ty) → D s t → E s t) where
  piece-map : (a b : Piece) → SamePiece D a b → SamePiece E a b
  piece-map (Says a) (Says b) h = h
  piece-map (OfType s) (OfType t) h = f s t h
  piece-map (Says a) (OfType t) h = h
  piece-map (OfType s) (Says b) h = h

  pub pieces-map : (p q : Listed Piece) → SamePieces D p q → SamePieces E p q
  pieces-map nothing nothing h = tt
  pieces-map (one a) (one b) h = piece-map a b h
  pieces-map (p & q) (r & s) h = (pieces-map p r h.0, pieces-map q s h.1)
  pieces-map _ _ h = absurd h

module _ (D : Ty → Ty → Type 0) where
  -- lists of trees that are written alike, one by one
  pub joined-same : {X : Type 0} (g : X → Listed Piece) (xs ys : List X) → AllZip (λ x y. SamePieces D (g x) (g y)) xs ys
      → SamePieces D (joined (map g xs)) (joined (map g ys))
  joined-same g [] [] h = tt
  joined-same g (x ∷ xs) (y ∷ ys) h = (h.0, joined-same g xs ys h.1)
  joined-same g [] (y ∷ ys) h = absurd h
  joined-same g (x ∷ xs) [] h = absurd h

-- the type that is written is that of the node
pub type-written : (e : TypedExpr) → (written e).ty ≡ (type_of e).value
unfolding out-TypedExpr Carrier.out
type-written (Strict' form shape operands type at) = ap (λ (w : Written). w.ty) (fold_out-TypedExpr Written expr_step (Strict' form shape operands type at))
type-written (Implied value type at) = ap (λ (w : Written). w.ty) (fold_out-TypedExpr Written expr_step (Implied value type at))
type-written (Variable slot narrowed type at) = ap (λ (w : Written). w.ty) (fold_out-TypedExpr Written expr_step (Variable slot narrowed type at))
type-written (And' s left t right type at) = ap (λ (w : Written). w.ty) (fold_out-TypedExpr Written expr_step (And' s left t right type at))
type-written (Or' s left t right type at) = ap (λ (w : Written). w.ty) (fold_out-TypedExpr Written expr_step (Or' s left t right type at))
type-written (Conditional' s condition t middle u last type at) =
    ap (λ (w : Written). w.ty) (fold_out-TypedExpr Written expr_step (Conditional' s condition t middle u last type at))
type-written (Elvis' own s left t right type at) = ap (λ (w : Written). w.ty) (fold_out-TypedExpr Written expr_step (Elvis' own s left t right type at))
type-written (Check' panics own s operand type at) = ap (λ (w : Written). w.ty) (fold_out-TypedExpr Written expr_step (Check' panics own s operand type at))
type-written (Trap' s operand type at) = ap (λ (w : Written). w.ty) (fold_out-TypedExpr Written expr_step (Trap' s operand type at))
type-written (Function' function s value type at) = ap (λ (w : Written). w.ty) (fold_out-TypedExpr Written expr_step (Function' function s value type at))
type-written (Parens' s inner type at) = ap (λ (w : Written). w.ty) (fold_out-TypedExpr Written expr_step (Parens' s inner type at))

-- ---- parts

module _ (D : Ty → Ty → Type 0) where
  -- a part that is finished, with its own type
  pub whole-same : (e f : TypedExpr) → PartTwins D D e f → SamePieces D (expr_pieces e) (expr_pieces f)
  whole-same e f h = (h.inner, subst (λ s. D s (written f).ty) (sym (type-written e)) (subst (D (type_of e).value) (sym (type-written f)) h.ty))

  pub wholes-same : (es fs : List TypedExpr) → AllZip (PartTwins D D) es fs → SamePieces D (joined (map whole (map written es))) (joined (map whole (map written fs)))
  wholes-same [] [] h = tt
  wholes-same (e ∷ es) (f ∷ fs) h = (whole-same e f h.0, wholes-same es fs h.1)
  wholes-same [] (f ∷ fs) h = absurd h
  wholes-same (e ∷ es) [] h = absurd h

  module _ (R : Ty → Ty → Type 0) where
    -- two parts with these types and these pieces
    pub parts-same : (e f : TypedExpr) (t u : Shared) (p q : Listed Piece) → type_of e ≡ t → type_of f ≡ u → written e ≡ with_type t p → written f ≡ with_type u q
        → R t.value u.value → SamePieces D p q → PartTwins D R e f
    parts-same e f t u p q et fu ep fq r h =
        record {
          ty = subst (λ (k : Shared). R k.value (type_of f).value) (sym et) (subst (λ (k : Shared). R t.value k.value) (sym fu) r);
          inner = subst (λ (k : Written). SamePieces D k.inner (written f).inner) (sym ep) (subst (λ (k : Written). SamePieces D p k.inner) (sym fq) h);
        }

    pub strict-same : (form other : StrictForm) (parts others : List TypedExpr) (t u : Shared) (at : Place) (e f : TypedExpr)
        → SamePieces D (form_pieces form) (form_pieces other) → AllZip (PartTwins D D) parts others → R t.value u.value
        → IsStrict form parts t at e → IsStrict other others u at f → PartTwins D R e f
    strict-same form other parts others t u at e f h k r x y =
        parts-same e f t u _ _ (strict-type form parts t at e x) (strict-type other others u at f y) (strict-written form parts t at e x)
        (strict-written other others u at f y) r (refl, (h, wholes-same parts others k))
