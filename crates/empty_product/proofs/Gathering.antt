-- What is gathered: in other words, and one gathering after another.
use Rattle.std.proofs.Common.{◌⊎◌, ⊎_elim, inl, inr, ℕ, List, Option}
use Rattle.bal_base.specs.declared.shape.Shape.{Shape}
use Rattle.bal_base.specs.Valid.{IsValid}
use Rattle.type_model.specs.declared.atoms.AtomDef.{AtomDef}
use Rattle.type_model.specs.declared.answers.Keys.{Keys}
use Rattle.type_model.specs.Parts.{StandsIn}
use Rattle.type_diagrams.specs.declared.kind.Kind.{Kind}
use Rattle.type_diagrams.specs.declared.path.Path.{Path}
use Rattle.type_diagrams.specs.Conditions.{Condition, IsNothing, LooksAtKinds, Meets, nothing}
use Rattle.type_diagrams.specs.Projections.{AreParts}
use Rattle.type_diagrams.specs.Tables.{Table, condition}
use Rattle.type_diagrams.specs.Turns.{HasLower, IsShapeOn}
use Rattle.type_diagrams.specs.Whole.{Gives}
use Rattle.type_diagrams.proofs.Meeting.{Meets-nothing, Meets-same}
use Rattle.empty_product.specs.Standing.{Gathers}

module _ {W : Type 0} (env : List AtomDef) (table : Table) (Stands : W → Shape → Type 0) (IsHeld : W → Type 0) (found : Condition) (q : ℕ) where
  -- nothing stands in a whole that isn't held to have none
  pub none-Gathers : Gives table found q → ((w : W) (y : Shape) → Stands w y → IsHeld w) → Gathers env table Stands IsHeld found q
  none-Gathers gives held = record {
    diagram = gives.diagram;
    found_too = λ y is. (Meets-same env (condition table q) found y is.0 gives.condition).1 is.1;
    from = λ y is. inl ((Meets-same env (condition table q) found y is.0 gives.condition).0 is.1);
    to = λ w y s. inr (held w y s);
  }

  -- where nothing was found before
  pub begun-Gathers : IsNothing found → Gathers env table Stands IsHeld found q → Gathers env table Stands IsHeld nothing q
  begun-Gathers none g = record {
    diagram = g.diagram;
    found_too = λ y is. absurd (Meets-nothing env y is.1);
    from = λ y is. ⊎_elim
        (λ (m : Meets env found y). absurd (Meets-nothing env y ((Meets-same env found nothing y is.0 none).0 m)))
        (λ (s : (w : W) × Stands w y). inr s)
        (g.from y is);
    to = g.to;
  }

  -- of other wholes
  pub along-Gathers : {V : Type 0} (Others : V → Shape → Type 0) (AreHeld : V → Type 0) → ((w : W) (y : Shape) → Stands w y → (v : V) × Others v y)
      → ((v : V) (y : Shape) → Others v y → ((w : W) × Stands w y × (IsHeld w → AreHeld v)) ⊎ AreHeld v) → Gathers env table Stands IsHeld found q → Gathers env table Others AreHeld found q
  along-Gathers {V} Others AreHeld on back g = record {
    diagram = g.diagram;
    found_too = g.found_too;
    from = λ y is. ⊎_elim
        (λ (m : Meets env found y). inl m)
        (λ (s : (w : W) × Stands w y). inr (on s.0 y s.1))
        (g.from y is);
    to = λ v y s. ⊎_elim
        (λ (h : (w : W) × Stands w y × (IsHeld w → AreHeld v)). ⊎_elim
        (λ (m : Meets env (condition table q) y). inl m)
        (λ (held : IsHeld h.0). inr (h.2 held))
        (g.to h.0 y h.1))
        (λ (held : AreHeld v). inr held)
        (back v y s);
  }

  -- of the shapes of a path, where nothing was found before
  pub gathered-AreParts : (kept : List (ℕ × Option Shape)) (k : Kind) (p : Path) (keys : Keys) → IsNothing found → LooksAtKinds env (condition table q)
      → ((w : W) (y : Shape) → Stands w y → (x : Shape) × IsShapeOn env k p x × StandsIn keys x y)
      → ((x y : Shape) → IsShapeOn env k p x → StandsIn keys x y → IsValid y × ((w : W) × Stands w y × (IsHeld w → HasLower env table kept x)))
      → Gathers env table Stands IsHeld found q → AreParts env table kept k p keys q
  gathered-AreParts kept k p keys none looks on back g = record {
    diagram = g.diagram;
    looks = looks;
    from = λ y is. ⊎_elim
        (λ (m : Meets env found y). absurd (Meets-nothing env y ((Meets-same env found nothing y is.0 none).0 m)))
        (λ (s : (w : W) × Stands w y). on s.0 y s.1)
        (g.from y is);
    to = λ x y here stands.
        let h = back x y here stands in
        ⊎_elim
        (λ (m : Meets env (condition table q) y). inl (h.0, m))
        (λ (held : IsHeld h.1.0). inr (h.1.2 held))
        (g.to h.1.0 y h.1.1);
  }

-- after what is gathered first the rest of what stands in wholes
pub next-Gathers : {W : Type 0} (env : List AtomDef) (old new : Table) (First Next Both : W → Shape → Type 0) (WasHeld IsHeld : W → Type 0) (found : Condition) (p q : ℕ)
    → ((w : W) → WasHeld w → IsHeld w) → ((w : W) (y : Shape) → First w y → IsValid y × Both w y) → ((w : W) (y : Shape) → Next w y → Both w y) → ((w : W) (y : Shape) → Both w y → First w y ⊎ Next w y)
    → Gathers env old First WasHeld found p → Gathers env new Next IsHeld (condition old p) q → Gathers env new Both IsHeld found q
next-Gathers {W} env old new First Next Both WasHeld IsHeld found p q still one other either first next = record {
  diagram = next.diagram;
  found_too = λ y is. next.found_too y (is.0, first.found_too y is);
  from = λ y is. ⊎_elim
      (λ (m : Meets env (condition old p) y). ⊎_elim
      (λ (n : Meets env found y). inl n)
      (λ (s : (w : W) × First w y). inr (s.0, (one s.0 y s.1).1))
      (first.from y (is.0, m)))
      (λ (s : (w : W) × Next w y). inr (s.0, other s.0 y s.1))
      (next.from y is);
  to = λ w y s. ⊎_elim
      (λ (a : First w y). ⊎_elim
      (λ (m : Meets env (condition old p) y). inl (next.found_too y ((one w y a).0, m)))
      (λ (held : WasHeld w). inr (still w held))
      (first.to w y a))
      (λ (b : Next w y). next.to w y b)
      (either w y s);
}
