-- What is made of the last parts is what the needs mean.
use Rattle.std.proofs.Common.{◌≡◌, ◌++◌, ℕ, List, [], ◌∷◌, length, None, Ok, refl, subst, ap}
use Rattle.bal_base.specs.declared.place.Place.{Place}
use Rattle.bal_tree.specs.declared.name.Literal.{Literal}
use Rattle.checks.specs.Checks.{Comes}
use Rattle.operations.specs.declared.operation.Constant.{Constant}
use Rattle.tree_places.specs.ExprPlaces.{place_of_literal}
use Rattle.typed_tree.specs.declared.expr.TypedExpr.{TypedExpr}
use Rattle.typed_tree.specs.declared.form.StrictForm.TheVariants as form
use Rattle.typed_tree.specs.Exprs.{type_of}
use Rattle.typed_tree.specs.SharedTypes.{Shared}
use Rattle.typed_tree.specs.Views.{IsParens}
use Rattle.check_words.specs.Sharing.{SameShared, SameWays}
use Rattle.check_words.specs.Stands.{PartBelow, Stands}
use Rattle.check_words.specs.State.{AreLast, State, all_but}
use Rattle.check_words.specs.Values.{SingleOf, constant_of, encloses, gives_literal}
use Rattle.check_words.specs.Words.{makes_strict}
use Rattle.check_words.proofs.Coming.{given, made, next}
use Rattle.check_words.proofs.Flowing.{ways-set}
use Rattle.check_words.proofs.Same.{same-option, same-ways}
use Rattle.check_words.proofs.Standing.{last-has, shared-below, stands-ways}
use Rattle.check_work.specs.Parts.{Gathered}
use Rattle.check_work.proofs.Making.{made-stands, parens-type, strict-made}

-- so many of the last parts became one
abbrev pub with_found : State → List TypedExpr → State
with_found s es = record s { found = es; ways = None }

pub encloses-come : (s : State) (at : Place) (part e : TypedExpr) (t : Shared) (es : List TypedExpr) → AreLast s.found 1 (part ∷ []) → SameShared (type_of part) t → IsParens part t at e
    → es ≡ all_but 1 s.found ++ e ∷ [] → Comes (encloses at) s (Ok tt) (record s { found = es })
encloses-come s at part e t es last same is more =
    let mid : State = with_found s (all_but 1 s.found ++ e ∷ []) in
    next _ _ _ _ _ s.ways s (given _ s s.ways refl)
    (next _ _ _ _ _ tt mid (made 1 _ s mid (part ∷ []) e last (part, refl, (t, same, is)) refl)
    (ways-set mid s.ways s.ways (same-option SameWays same-ways s.ways) (record s { found = es }) (ap (λ xs. record s { found = xs }) more)))

pub encloses-stand : (s : State) → Stands s → (at : Place) (part e : TypedExpr) (t : Shared) (es : List TypedExpr) → AreLast s.found 1 (part ∷ []) → SameShared (type_of part) t
    → IsParens part t at e → es ≡ all_but 1 s.found ++ e ∷ [] → Stands (record s { found = es })
encloses-stand s h at part e t es last same is more =
    let n : ℕ = length s.atoms in
    let below = shared-below n (type_of part) t same (last-has (PartBelow n) s.found part (record { kept = last.kept; is = last.is }) h.found) in
    stands-ways (with_found s es) (made-stands s h 1 e t es (parens-type part t at e is) below more) s.ways h.ways

pub literal-comes : (s : State) (l : Literal) (value : Constant) (at : Place) (t : Shared) (es : List TypedExpr) → value ≡ constant_of l → at ≡ place_of_literal l
    → Gathered (form.Literal value) 0 t at s.found es → SingleOf value s.atoms t.value → Comes (gives_literal l) s (Ok tt) (with_found s es)
literal-comes s l value at t es is stands g single =
    subst (λ v. Comes (makes_strict 0 (form.Literal v) (SingleOf v) (place_of_literal l)) s (Ok tt) (with_found s es)) is
    (subst (λ p. Comes (makes_strict 0 (form.Literal value) (SingleOf value) p) s (Ok tt) (with_found s es)) stands
    (strict-made (form.Literal value) 0 t at s es g (SingleOf value) single))
