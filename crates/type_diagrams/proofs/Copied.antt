-- Shapes that are the same meet the same conditions.
use Rattle.std.proofs.Common.{◌≡◌, ◌↔◌, ℕ, List, Bool, true, false, ◌==◌, MatchBool, IsTrue, refl, sym, ap, subst, ◌∙◌}
use Rattle.bal_base.specs.declared.shape.Shape.{Shape, Nil, Bool as BoolShape, Int, Str, List', Mapping', Error', Function, Future'}
use Rattle.bal_base.specs.Same.{IsSame}
use Rattle.bal_base.proofs.SameShapes.{IsValid-same}
use Rattle.type_model.specs.declared.basic.SemType.{Atom}
use Rattle.type_model.specs.declared.atoms.AtomDef.{AtomDef}
use Rattle.type_model.specs.Membership.{In}
use Rattle.type_model.proofs.SameShapes.{In-same}
use Rattle.type_diagrams.specs.Kinds.{kind_of, IsSimple, IsMarked, HoldsOf, the_mark}
use Rattle.type_diagrams.specs.Conditions.{Condition, Meets, IsShapeOf}

kind-same : (x y : Shape) → IsSame x y → kind_of x ≡ kind_of y
kind-same Nil Nil h = refl
kind-same Nil _ h = absurd h
kind-same (BoolShape a) (BoolShape b) h = refl
kind-same (BoolShape a) _ h = absurd h
kind-same (Int i) (Int j) h = refl
kind-same (Int i) _ h = absurd h
kind-same (Str s) (Str t) h = refl
kind-same (Str s) _ h = absurd h
kind-same (List' mark _ items) (List' mark' _ items') h = refl
kind-same (List' mark _ items) _ h = absurd h
kind-same (Mapping' mark _ fields) (Mapping' mark' _ fields') h = refl
kind-same (Mapping' mark _ fields) _ h = absurd h
kind-same (Error' _ detail) (Error' _ detail') h = refl
kind-same (Error' _ detail) _ h = absurd h
kind-same (Function isolated graph) (Function isolated' graph') h = refl
kind-same (Function isolated graph) _ h = absurd h
kind-same (Future' _ results) (Future' _ results') h = refl
kind-same (Future' _ results) _ h = absurd h

simple-same : (x y : Shape) → IsSame x y → IsSimple x → x ≡ y
simple-same Nil Nil h s = refl
simple-same Nil _ h s = absurd h
simple-same (BoolShape a) (BoolShape b) h s = ap (λ c. BoolShape c) h
simple-same (BoolShape a) _ h s = absurd h
simple-same (Int i) (Int j) h s = ap (λ k. Int k) h
simple-same (Int i) _ h s = absurd h
simple-same (Str t) (Str u) h s = ap (λ w. Str w) h
simple-same (Str t) _ h s = absurd h
simple-same (List' mark _ items) y h s = cc
simple-same (Mapping' mark _ fields) y h s = cc
simple-same (Error' _ detail) y h s = cc
simple-same (Function isolated graph) y h s = cc
simple-same (Future' _ results) y h s = cc

itself : {A : Type 0} → A ↔ A
itself = (λ a. a, λ a. a)

along : (a b : Bool) → a ≡ b → IsTrue a ↔ IsTrue b
along a b e = (subst IsTrue e, subst IsTrue (sym e))

marked-same : (x y : Shape) → IsSame x y → IsMarked x ↔ IsMarked y
marked-same Nil Nil h = itself
marked-same Nil _ h = absurd h
marked-same (BoolShape a) (BoolShape b) h = itself
marked-same (BoolShape a) _ h = absurd h
marked-same (Int i) (Int j) h = itself
marked-same (Int i) _ h = absurd h
marked-same (Str s) (Str t) h = itself
marked-same (Str s) _ h = absurd h
marked-same (List' mark _ items) (List' mark' _ items') h = along mark mark' h.0
marked-same (List' mark _ items) _ h = absurd h
marked-same (Mapping' mark _ fields) (Mapping' mark' _ fields') h = along mark mark' h.0
marked-same (Mapping' mark _ fields) _ h = absurd h
marked-same (Error' _ detail) (Error' _ detail') h = itself
marked-same (Error' _ detail) _ h = absurd h
marked-same (Function isolated graph) (Function isolated' graph') h = itself
marked-same (Function isolated graph) _ h = absurd h
marked-same (Future' _ results) (Future' _ results') h = itself
marked-same (Future' _ results) _ h = absurd h

module _ (env : List AtomDef) (x y : Shape) (same : IsSame x y) where
  holds-same : (l : ℕ) → HoldsOf env x l ↔ HoldsOf env y l
  holds-same l = by (l == the_mark)
    where
      by : (b : Bool) → MatchBool b (IsMarked x) (In env x (Atom l)) ↔ MatchBool b (IsMarked y) (In env y (Atom l))
      by true = marked-same x y same
      by false = In-same env x y same (Atom l)

  pub Meets-copied : (c : Condition) → Meets env c x → Meets env c y
  Meets-copied c m = record {
    simple = λ s. let t : IsSimple x = kind-same x y same ∙ s in subst (λ z. c.simple z ≡ true) (simple-same x y same t) (m.simple t);
    by_kind = λ k v i says. m.by_kind k v (kind-same x y same ∙ i)
        (λ l. (λ h. (holds-same l).1 ((says l).0 h), λ h. (says l).1 ((holds-same l).0 h)));
  }

  pub IsShapeOf-copied : (c : Condition) → IsShapeOf env c x → IsShapeOf env c y
  IsShapeOf-copied c h = (IsValid-same x y same h.0, Meets-copied c h.1)
