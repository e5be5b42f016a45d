-- Slots of which more is known, and what is known of them where more is.
use Rattle.std.proofs.Common.{◌≡◌, ⊎_elim, inl, inr, ℕ, zero, suc, List, [], ◌∷◌, Option, Some, None, refl, subst}
use Rattle.std.specs.Prelude.{slice_get, slice_set}
use Rattle.type_model.specs.declared.atoms.AtomDef.{AtomDef}
use Rattle.type_model.specs.declared.basic.SemType.{SemType}
use Rattle.type_model.specs.Inclusion.{Sub}
use Rattle.tree_promises.specs.Known.{Below, Flow, FlowBelow, HasSome, Known, KnownBelow, KnownWithin, Point, SlotBelow, loaded, plain, told}
use Rattle.tree_promises.proofs.Order.{known-impossible, known-itself, slot-itself}

-- what was put into a slot stands there
pub set-get : (ks : Known) (slot : ℕ) (k : Option SemType) (t : SemType) → slice_get ks slot ≡ Some k → slice_get (slice_set ks slot (Some t)) slot ≡ Some (Some t)
set-get [] slot k t e = absurd (let bad : ⊥ = cc in bad)
set-get (j ∷ ks) zero k t e = refl
set-get (j ∷ ks) (suc slot) k t e = set-get ks slot k t e

module _ (env : List AtomDef) where
  -- where nothing was known of the slot, less is known without what was put there
  pub set-below : (ks : Known) (slot : ℕ) (t : SemType) → slice_get ks slot ≡ Some None → KnownBelow env (slice_set ks slot (Some t)) ks
  set-below [] slot t e = absurd (let bad : ⊥ = cc in bad)
  set-below (j ∷ ks) zero t e = (subst (λ x. SlotBelow env (Some t) x) (let is : None ≡ j = cc in is) tt, known-itself env ks)
  set-below (j ∷ ks) (suc slot) t e = (slot-itself env j, set-below ks slot t e)

  pub set-twice-below : (ks : Known) (slot : ℕ) (s t : SemType) → slice_get ks slot ≡ Some None
      → KnownBelow env (slice_set (slice_set ks slot (Some s)) slot (Some t)) ks
  set-twice-below [] slot s t e = absurd (let bad : ⊥ = cc in bad)
  set-twice-below (j ∷ ks) zero s t e = (subst (λ x. SlotBelow env (Some t) x) (let is : None ≡ j = cc in is) tt, known-itself env ks)
  set-twice-below (j ∷ ks) (suc slot) s t e = (slot-itself env j, set-twice-below ks slot s t e)

  -- ---- what is known where more is

  slot-known : (k : Option SemType) (s : SemType) → SlotBelow env k (Some s) → (r : SemType) × (k ≡ Some r) × Sub env r s
  slot-known (Some r) s f = (r, refl, f)
  slot-known None s f = absurd f

  known-get : (ks js : Known) (slot : ℕ) (s : SemType) → KnownBelow env ks js → slice_get js slot ≡ Some (Some s)
      → (r : SemType) × (slice_get ks slot ≡ Some (Some r)) × Sub env r s
  known-get [] [] slot s f e = absurd (let bad : ⊥ = cc in bad)
  known-get (k ∷ ks) (j ∷ js) zero s f e =
      let (r, is, under) = slot-known k s (subst (λ x. SlotBelow env k x) (let is : j ≡ Some s = cc in is) f.0) in (r, (let is' : Some k ≡ Some (Some r) = cc in is'), under)
  known-get (k ∷ ks) (j ∷ js) (suc slot) s f e = known-get ks js slot s f.1 e
  known-get [] (j ∷ js) slot s f e = absurd f
  known-get (k ∷ ks) [] slot s f e = absurd f

  module _ (P : SemType → Type 0) (closed : (r s : SemType) → Sub env r s → P s → P r) (slot : ℕ) where
    has-within : (ks : Known) (g : Flow) → KnownWithin env ks g → HasSome env P slot g → HasSome env P slot (Some ks)
    has-within ks None f h = absurd f
    has-within ks (Some js) f h =
        ⊎_elim (λ none. inl (known-impossible env ks js f none)) (λ (s, e, p). let (r, is, under) = known-get ks js slot s f e in inr (r, is, closed r s under p)) h

    pub has-below : (f g : Flow) → FlowBelow env f g → HasSome env P slot g → HasSome env P slot f
    has-below None g c h = tt
    has-below (Some ks) g c h = ⊎_elim (λ none. inl none) (λ within. has-within ks g within h) c

  -- ---- points

  pub plain-wider : (f g : Flow) (base : Option Flow) → FlowBelow env f g → Below env (plain f base) (plain g base)
  plain-wider f g base c = record { flow = c; on_true = c; on_false = c; of = inl refl; twin = inl refl; base = refl }

  pub told-wider : (f g y z n o : Flow) (base : Option Flow) → FlowBelow env f g → FlowBelow env y z → FlowBelow env n o
      → Below env (told y n (plain f base)) (told z o (plain g base))
  told-wider f g y z n o base c d e = record { flow = c; on_true = d; on_false = e; of = inl refl; twin = inl refl; base = refl }

  -- a slot that is loaded says nothing more
  pub loaded-plain : (slot : ℕ) (p : Point) (f : Flow) (base : Option Flow) → Below env p (plain f base) → Below env (loaded slot p) (plain f base)
  loaded-plain slot p f base c = record { flow = c.flow; on_true = c.flow; on_false = c.flow; of = inl refl; twin = inl refl; base = c.base }

  pub loaded-known : (slot : ℕ) (p : Point) (f : Flow) (base : Option Flow) → Below env p (plain f base) → Below env (loaded slot p) (loaded slot (plain f base))
  loaded-known slot p f base c = record { flow = c.flow; on_true = c.flow; on_false = c.flow; of = inr refl; twin = inl refl; base = c.base }

  -- whatever the last operand said
  pub said-plain : (p : Point) (f : Flow) (base : Option Flow) → Below env p (plain f base) → Below env (plain p.flow p.base) (plain f base)
  said-plain p f base c = record { flow = c.flow; on_true = c.flow; on_false = c.flow; of = inl refl; twin = inl refl; base = c.base }
