-- The steps in which an atom may be avoided: at each place by having no part, and by another one.
use Rattle.std.proofs.Common.{◌≡◌, ◌⊎◌, ⊎_elim, inl, inr, ℕ, ◌+◌, ◌*◌, ◌/◌, ◌%◌, ◌<◌, List, length, All, Bool, nat_eq, Option, Some, None, slice_get, sym, subst, ap, ◌∙◌, arith, eq-eqb}
use Rattle.std.proofs.lemmas.Bool.{cases_eq, false≢true}
use Rattle.std.proofs.lemmas.Option.{slice_get_within}
use Rattle.bal_base.specs.declared.shape.Shape.{Shape}
use Rattle.type_model.specs.declared.atoms.AtomDef.{AtomDef}
use Rattle.type_diagrams.specs.Tables.{Table}
use Rattle.empty_product.specs.Products.{Avoids, HasHeldPart, IsIn}
use Rattle.empty_product.specs.Slots.{Place, Asking, AvoidsAt, IsAbsentAs}

-- the step in which an atom is avoided at a place by this part
abbrev pub step_of : ℕ → Option Shape → ℕ
step_of place None = 2 * place
step_of place (Some x) = 2 * place + 1

-- the atom is avoided in one of the first so many steps
pub record AvoidsBefore (env : List AtomDef) (askings : List Asking) (parts : List (Option Shape)) (steps : ℕ) : Type 0 where
  pub place : ℕ
  pub asking : Asking
  pub part : Option Shape
  pub asks : slice_get askings place ≡ Some asking
  pub stands : slice_get parts place ≡ Some part
  pub avoids : AvoidsAt env asking part
  pub earlier : step_of place part < steps

-- the atom is avoided at this place, with or without a part
pub record AvoidsNow (env : List AtomDef) (askings : List Asking) (parts : List (Option Shape)) (place : ℕ) (absent : Bool) : Type 0 where
  pub asking : Asking
  pub part : Option Shape
  pub asks : slice_get askings place ≡ Some asking
  pub stands : slice_get parts place ≡ Some part
  pub avoids : AvoidsAt env asking part
  pub absence : IsAbsentAs env absent part

-- a filling that avoids the first atom in one of these steps, and all others, has a held part
abbrev pub NoneIn : List AtomDef → Table → List (ℕ × Option Shape) → List Place → List Asking → List (List Asking) → ℕ → Type 0
NoneIn env table kept places askings atoms steps =
    (parts : List (Option Shape)) → IsIn env places parts → AvoidsBefore env askings parts steps → All (λ a. Avoids env a parts) atoms → HasHeldPart env table kept parts

module _ (env : List AtomDef) (askings : List Asking) (parts : List (Option Shape)) where
  pub no_steps : ¬ AvoidsBefore env askings parts 0
  no_steps h = omega (arith, h.earlier)

  last-step : (step place : ℕ) (part : Option Shape) → step_of place part ≡ step → (place ≡ step / 2) × IsAbsentAs env (nat_eq (step % 2) 0) part
  last-step step place None e = let even : step % 2 ≡ 0 = omega arith in (omega arith, eq-eqb (step % 2) 0 even)
  last-step step place (Some x) e = let odd : step % 2 ≡ 1 = omega arith in (omega arith, λ h. false≢true (ap (λ n. nat_eq n 0) (sym odd) ∙ h))

  before-or-now : (step place : ℕ) (part : Option Shape) → step_of place part < step + 1 → (step_of place part < step) ⊎ (step_of place part ≡ step)
  before-or-now step place part lt = by (step_of place part) lt
    where
      by : (n : ℕ) → n < step + 1 → (n < step) ⊎ (n ≡ step)
      by n lt = ⊎_elim (λ (e : n ≡ step). inr e) (λ (ne : n ≡ step → ⊥). inl (omega arith)) (cases_eq n step)

  -- one more step
  pub one_more_step : (step : ℕ) → AvoidsBefore env askings parts (step + 1) → AvoidsBefore env askings parts step ⊎ AvoidsNow env askings parts (step / 2) (nat_eq (step % 2) 0)
  one_more_step step h = ⊎_elim
      (λ (lt : step_of h.place h.part < step). inl (record { place = h.place; asking = h.asking; part = h.part; asks = h.asks; stands = h.stands; avoids = h.avoids; earlier = lt }))
      (λ (e : step_of h.place h.part ≡ step). let now = last-step step h.place h.part e in inr (record {
        asking = h.asking;
        part = h.part;
        asks = subst (λ k. slice_get askings k ≡ Some h.asking) now.0 h.asks;
        stands = subst (λ k. slice_get parts k ≡ Some h.part) now.0 h.stands;
        avoids = h.avoids;
        absence = now.1;
      }))
      (before-or-now step h.place h.part h.earlier)

  in-steps : (place n : ℕ) (part : Option Shape) → place < n → step_of place part < 2 * n
  in-steps place n None lt = omega arith
  in-steps place n (Some x) lt = omega arith

  -- all steps
  pub all_steps : (n : ℕ) → length askings ≡ n → Avoids env askings parts → AvoidsBefore env askings parts (2 * n)
  all_steps n e h = record {
    place = h.place;
    asking = h.asking;
    part = h.part;
    asks = h.asks;
    stands = h.stands;
    avoids = h.avoids;
    earlier = in-steps h.place n h.part (omega (arith, e, slice_get_within askings h.place h.asking h.asks));
  }
