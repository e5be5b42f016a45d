-- Parts that become one: what is made, and that what stands still stands.
use Rattle.std.proofs.Common.{◌≡◌, ◌++◌, ℕ, List, [], ◌∷◌, length, All, None, Ok, rules, sym, subst, ap}
use Rattle.bal_base.specs.declared.place.Place.{Place}
use Rattle.checks.specs.Checks.{Comes}
use Rattle.type_model.specs.declared.basic.Ty.{Ty}
use Rattle.typed_tree.specs.declared.expr.TypedExpr.{TypedExpr}
use Rattle.typed_tree.specs.declared.form.StrictForm.{StrictForm}
use Rattle.typed_tree.specs.Exprs.{type_of}
use Rattle.typed_tree.specs.SharedTypes.{Shared}
use Rattle.typed_tree.specs.Views.{IsParens, IsStrict}
use Rattle.typed_tree.proofs.ExprLayers.{expr_layers}
use Rattle.check_words.specs.Sharing.{SameShared}
use Rattle.check_words.specs.Stands.{PartBelow, SharedBelow, Stands}
use Rattle.check_words.specs.State.{State, all_but}
use Rattle.check_words.specs.Words.{Atoms, makes_strict, makes_typed}
use Rattle.check_words.proofs.Coming.{made}
use Rattle.check_words.proofs.Standing.{also-has, others-have, stands-found}
use Rattle.check_work.specs.Parts.{Gathered}

pub strict-type : (form : StrictForm) (parts : List TypedExpr) (t : Shared) (at : Place) (e : TypedExpr) → IsStrict form parts t at e → type_of e ≡ t
strict-type form parts t at e (v, is, same) = search (rules, expr_layers)

pub parens-type : (inner : TypedExpr) (t : Shared) (at : Place) (e : TypedExpr) → IsParens inner t at e → type_of e ≡ t
parens-type inner t at e (b, is, same) = search (rules, expr_layers)

-- a part of this type
pub part-below : (n : ℕ) (e : TypedExpr) (t : Shared) → type_of e ≡ t → SharedBelow n t → PartBelow n e
part-below n e t is h = subst (SharedBelow n) (sym is) h

-- where so many of the last parts became one
pub made-stands : (s : State) → Stands s → (count : ℕ) (e : TypedExpr) (t : Shared) (es : List TypedExpr) → type_of e ≡ t → SharedBelow (length s.atoms) t
    → es ≡ all_but count s.found ++ e ∷ [] → Stands (record s { found = es; ways = None })
made-stands s h count e t es is below more = let n : ℕ = length s.atoms in
    stands-found s h es
    (subst (All (PartBelow n)) (sym more) (also-has (PartBelow n) (all_but count s.found) e (others-have (PartBelow n) count s.found h.found) (part-below n e t is below)))

module _ (form : StrictForm) (count : ℕ) (t : Shared) (at : Place) (s : State) (es : List TypedExpr) (g : Gathered form count t at s.found es) where
  pub strict-made : (P : Atoms → Ty → Type 0) → P s.atoms t.value → Comes (makes_strict count form P at) s (Ok tt) (record s { found = es; ways = None })
  strict-made P p =
      made count _ s (record s { found = es; ways = None }) g.parts g.e g.last (t, p, g.strict) (ap (λ xs. record s { found = xs; ways = None }) g.after)

  pub typed-made : (u : Shared) → SameShared u t → Comes (makes_typed count form u at) s (Ok tt) (record s { found = es; ways = None })
  typed-made u same =
      made count _ s (record s { found = es; ways = None }) g.parts g.e g.last (t, same, g.strict) (ap (λ xs. record s { found = xs; ways = None }) g.after)

  pub strict-stands : Stands s → SharedBelow (length s.atoms) t → Stands (record s { found = es; ways = None })
  strict-stands h below = made-stands s h count g.e t es (strict-type form g.parts t at g.e g.strict) below g.after
