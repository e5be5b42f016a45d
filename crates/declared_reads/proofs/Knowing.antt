-- What is known of a frame at a point of its way: what it has just loaded, tested, or been shown of a slot of its own.
use Rattle.std.proofs.Common.{◌≡◌, ◌⊎◌, ◌∙◌, ℕ, Bool, true, false, List, ◌∷◌, Option, Some, None, refl, sym, subst, inl, inr}
use Rattle.std.specs.Prelude.{IsTrue, slice_get, ⊤}
use Rattle.type_model.specs.declared.basic.SemType.{SemType}
use Rattle.operations.specs.declared.operation.Constant.TheVariants as constant
use Rattle.operations.specs.declared.operation.Operation.{Operation}
use Rattle.operations.specs.declared.operation.Operation.TheVariants.{Const, Load, Return, Test}
use Rattle.value_model.specs.declared.value.Value.{Value}
use Rattle.value_model.specs.declared.value.Value.TheVariants.{Nil, Bool as Truth}
use Rattle.value_model.specs.Stands.{Belongs}
use Rattle.op_model.specs.Common.{Common}
use Rattle.op_model.specs.ProgramFacts.{ProgramFacts, own_types}
use Rattle.op_model.specs.Local.{Local}
use Rattle.eval_model.specs.Ways.{AreWays, Ways}
use Rattle.declared_reads.specs.Declared.{IsAnything}

pub data Known : Type 0 where
  Nothing : Known
  -- the last operand is what the slot holds
  Loaded : ℕ → Known
  -- the last operand says whether what the slot holds is of the type
  Tested : ℕ → SemType → Known
  -- the slot holds a value
  Held : ℕ → Known
  -- one of the type
  Shown : ℕ → SemType → Known
  -- the last operand is nil
  HasNil : Known
  -- no frame comes here
  Nowhere : Known

abbrev pub after : Operation → Known → Known
after (Load s) k = Loaded s
after (Test t) (Loaded s) = Tested s t
after (Test t) Nothing = Nothing
after (Test t) (Tested s u) = Nothing
after (Test t) (Held s) = Nothing
after (Test t) (Shown s u) = Nothing
after (Test t) HasNil = Nothing
after (Test t) Nowhere = Nothing
after (Const constant.Nil) k = HasNil
after Return k = Nowhere
after op k = Nothing

abbrev pub if_so : Known → Known
if_so (Tested s t) = Shown s t
if_so HasNil = Nowhere
if_so Nothing = Nothing
if_so (Loaded s) = Nothing
if_so (Held s) = Nothing
if_so (Shown s t) = Nothing
if_so Nowhere = Nothing

abbrev pub if_not : Known → Known
if_not (Tested s t) = Held s
if_not HasNil = Nowhere
if_not Nothing = Nothing
if_not (Loaded s) = Nothing
if_not (Held s) = Nothing
if_not (Shown s t) = Nothing
if_not Nowhere = Nothing

abbrev pub taken_so : Bool → Known → Known
taken_so true k = if_so k
taken_so false k = if_not k

-- what a narrowed read needs
abbrev pub GetsAt : ℕ → Option SemType → Known → Type 0
GetsAt slot None k = ⊤
GetsAt slot (Some t) k = (k ≡ Shown slot t) ⊎ ((k ≡ Held slot) × IsAnything t)

-- more may be forgotten, and whatever one likes is so where no frame comes
abbrev pub Comes : Known → Known → Type 0
Comes p q = (q ≡ p) ⊎ ((q ≡ Nothing) ⊎ (p ≡ Nowhere))

abbrev pub knowing : Ways Known
knowing =
    record {
      comes = Comes;
      does = λ op p q. (q ≡ after op p) ⊎ (q ≡ Nothing);
      gets = λ slot narrowed p q. GetsAt slot narrowed p × (q ≡ Nothing);
      takes = λ way p q. (q ≡ taken_so way p) ⊎ (q ≡ Nothing);
      guards = λ p a b q. (a ≡ Nothing) × (q ≡ Nothing);
      stops = λ p q. ⊤;
      closes = λ b q. q ≡ Nothing;
      ends = λ p. p ≡ Nowhere;
      arrives = λ p a. (a ≡ p) ⊎ (a ≡ Nothing);
    }

comes-then : (p q r : Known) → Comes p q → Comes q r → Comes p r
comes-then p q r (inl e) (inl f) = inl (f ∙ e)
comes-then p q r (inl e) (inr (inl f)) = inr (inl f)
comes-then p q r (inl e) (inr (inr f)) = inr (inr (sym e ∙ f))
comes-then p q r (inr (inl e)) (inl f) = inr (inl (f ∙ e))
comes-then p q r (inr (inl e)) (inr (inl f)) = inr (inl f)
comes-then p q r (inr (inl e)) (inr (inr f)) = absurd (let bad : Nothing ≡ Nowhere = sym e ∙ f in let z : ⊥ = cc in z)
comes-then p q r (inr (inr e)) d = inr (inr e)

ends-before : (p q : Known) → Comes p q → q ≡ Nowhere → p ≡ Nowhere
ends-before p q (inl e) f = sym e ∙ f
ends-before p q (inr (inl e)) f = absurd (let bad : Nothing ≡ Nowhere = sym e ∙ f in let z : ⊥ = cc in z)
ends-before p q (inr (inr e)) f = e

pub are-ways : AreWays knowing
are-ways =
    record {
      here = λ p. inl refl;
      come = comes-then;
      stays = λ p. inl refl;
      opens = λ p a b q g. inr g.0;
      closes = λ p a b q g. g.1;
      ends = ends-before;
    }

-- ---- that it is so

module _ (facts : ProgramFacts) (c : Common) where
  abbrev pub Knows : Known → Local → Type 0
  Knows Nothing l = ⊤
  Knows (Loaded s) l = (v : Value) × (rest : List Value) × (slice_get l.slots s ≡ Some (Some v)) × (l.stack ≡ v ∷ rest)
  Knows (Tested s t) l =
      (v : Value) × (b : Bool) × (rest : List Value) × (slice_get l.slots s ≡ Some (Some v)) × (l.stack ≡ Truth b ∷ rest)
      × (IsTrue b → Belongs (own_types facts) c.world.heap v t)
  Knows (Held s) l = (v : Value) × (slice_get l.slots s ≡ Some (Some v))
  Knows (Shown s t) l = (v : Value) × (slice_get l.slots s ≡ Some (Some v)) × Belongs (own_types facts) c.world.heap v t
  Knows HasNil l = (rest : List Value) × (l.stack ≡ Nil ∷ rest)
  Knows Nowhere l = ⊥

  pub knows-on : (p q : Known) (l : Local) → Comes p q → Knows p l → Knows q l
  knows-on p q l (inl e) h = subst (λ k. Knows k l) (sym e) h
  knows-on p q l (inr (inl e)) h = subst (λ k. Knows k l) (sym e) tt
  knows-on p q l (inr (inr e)) h = absurd (subst (λ k. Knows k l) e h)
