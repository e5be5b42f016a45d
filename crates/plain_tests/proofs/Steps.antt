-- Steps of the functions that look for shapes.
use Rattle.std.proofs.Common.{◌≡◌, ◌∙◌, ℕ, ◌+◌, ◌<◌, Bool, true, false, cond, List, [], ◌∷◌, ◌++◌, take, length, get_or, Option, Some, None, IsSomeAnd, IfSome, option_map, refl, sym, ap, subst}
use Rattle.std.specs.Prelude.{find}
use Rattle.std.specs.List.{AllZip}
use Rattle.std.proofs.lemmas.List.{take_more}
use Rattle.bal_base.specs.declared.text.Text.{Text}
use Rattle.bal_base.specs.declared.shape.Shape.{Shape}
use Rattle.type_model.specs.Places.{is_same_text}
use Rattle.empty_product.proofs.Zipped.{AllZip-push}
use Rattle.value_model.specs.declared.value.Value.{Value}
use Rattle.value_model.specs.Heap.{Heap, entry_at}
use Rattle.plain_tests.specs.Shapes.{Finds, FindsAt, HasNone, IsInner}

-- a loop that finds something for one member after another
pub zip_more : {X Y : Type 0} (R : X → Y → Type 0) (xs : List X) (ys : List Y) (new : List Y) (i : ℕ) (x : X) (y : Y) → new ≡ ys ++ y ∷ [] → i < length xs → x ≡ get_or xs i x → AllZip R (take i xs) ys → R x y → AllZip R (take (i + 1) xs) new
zip_more R xs ys new i x y pushed lt is all more =
    let longer : take (i + 1) xs ≡ take i xs ++ x ∷ [] = take_more xs i x lt ∙ ap (λ z. take i xs ++ z ∷ []) (sym is) in
    subst (AllZip R (take (i + 1) xs)) (sym pushed) (subst (λ zs. AllZip R zs (ys ++ y ∷ [])) (sym longer) (AllZip-push R (take i xs) ys x y all more))

entry-found : (es : List (Text × Value)) (key : Text) → entry_at es key ≡ option_map (λ e. e.1) (find (λ e. is_same_text e.0 key) es)
entry-found [] key = refl
entry-found (e ∷ es) key = by (is_same_text e.0 key) (entry-found es key)
  where
    by : (b : Bool) → entry_at es key ≡ option_map (λ e. e.1) (find (λ e. is_same_text e.0 key) es) → cond b (Some e.1) (entry_at es key) ≡ option_map (λ e. e.1) (cond b (Some e) (find (λ e. is_same_text e.0 key) es))
    by true rest = refl
    by false rest = rest

module _ (h : Heap) (most : ℕ) (es : List (Text × Value)) (key : Text) where
  pub at_no_key : find (λ e. is_same_text e.0 key) es ≡ None → FindsAt h most es key None
  at_no_key none = subst (λ o. IfSome o (HasNone h most)) (sym (entry-found es key ∙ ap (option_map (λ (e : Text × Value). e.1)) none)) tt

  pub at_key : (e : Text × Value) → find (λ e. is_same_text e.0 key) es ≡ Some e → (found : Option Shape) → Finds h most e.1 found → FindsAt h most es key found
  at_key e there (Some x) finds = subst (λ o. IsSomeAnd o (λ v. IsInner h v x)) (sym (entry-found es key ∙ ap (option_map (λ (e : Text × Value). e.1)) there)) finds
  at_key e there None finds = subst (λ o. IfSome o (HasNone h most)) (sym (entry-found es key ∙ ap (option_map (λ (e : Text × Value). e.1)) there)) finds
