-- Single places of a product, made narrower so that an atom is avoided there.
use Rattle.std.proofs.Common.{◌≡◌, ◌↔◌, ◌⊎◌, ⊎_elim, ℕ, List, true, false, Option, Some, None, All, refl, sym, subst, ◌∙◌}
use Rattle.std.proofs.lemmas.Bool.{false≢true}
use Rattle.bal_base.specs.declared.shape.Shape.{Shape}
use Rattle.type_model.specs.declared.atoms.AtomDef.{AtomDef}
use Rattle.type_diagrams.specs.Conditions.{Condition, AreOne, Meets, IsShapeOf, IsNothing, nothing, without}
use Rattle.type_diagrams.specs.declared.finding.Finding.{Finding}
use Rattle.type_diagrams.specs.declared.finding.Finding.TheVariants.{Part as FoundPart, Held as FoundHeld, Unknown as FoundUnknown}
use Rattle.type_diagrams.specs.Finding.{IsFinding}
use Rattle.type_diagrams.specs.Kept.{IsHeldEmpty}
use Rattle.type_diagrams.specs.Tables.{Table, condition}
use Rattle.type_diagrams.specs.Turns.{IsSound}
use Rattle.type_diagrams.proofs.Meeting.{Meets-nothing, Meets-same, Meets-without}
use Rattle.type_diagrams.proofs.Tellings.{found-IsShapeOf}
use Rattle.empty_product.specs.declared.slots.Slot.{Slot}
use Rattle.empty_product.specs.declared.slots.Slot.TheVariants.{Optional, Present}
use Rattle.empty_product.specs.Slots.{Place, MayHave, HasNone, MustHave, Asking, IsAt, AvoidsAt, IsAbsentAs, IsInHeld, IsNarrower, IsVoidAt, TellsPart, condition_at, place_of}

-- nothing has no shape
pub nothing-IsShapeOf : (env : List AtomDef) (c : Condition) (x : Shape) → IsNothing c → ¬ IsShapeOf env c x
nothing-IsShapeOf env c x none is = Meets-nothing env x ((Meets-same env c nothing x is.0 none).0 is.1)

-- a part stands at a place where it is a shape of its condition
pub at-IsShapeOf : (env : List AtomDef) (p : Place) (c : Condition) (x : Shape) → condition_at p ≡ Some c → IsAt env p (Some x) ↔ IsShapeOf env c x
at-IsShapeOf env (MayHave d) c x has = let e : d ≡ c = cc in (subst (λ b. IsShapeOf env b x) e, subst (λ b. IsShapeOf env b x) (sym e))
at-IsShapeOf env (MustHave d) c x has = let e : d ≡ c = cc in (subst (λ b. IsShapeOf env b x) e, subst (λ b. IsShapeOf env b x) (sym e))
at-IsShapeOf env HasNone c x has = absurd (bad has)
  where
    bad : None ≡ Some c → ⊥
    bad e = cc

-- ---- without a part

module _ (a : Asking) where
  -- where an atom doesn't require a part
  none-avoids : (env : List AtomDef) (x : Option Shape) → a.required ≡ false → AvoidsAt env a x → IsAbsentAs env true x → ⊥
  none-avoids env None not_required avoids absent = false≢true (sym not_required ∙ avoids)
  none-avoids env (Some x) not_required avoids absent = absent refl

  pub never_absent : (table : Table) (kept : List (ℕ × Option Shape)) (p : Place) → a.required ≡ false → IsVoidAt table kept p a true
  never_absent table kept p not_required env x at avoids absent = absurd (none-avoids env x not_required avoids absent)

  pub always_there : (table : Table) (kept : List (ℕ × Option Shape)) (c : Condition) → IsVoidAt table kept (MustHave c) a true
  always_there table kept c env None at avoids absent = absurd at
  always_there table kept c env (Some x) at avoids absent = absurd (absent refl)

  absent-from : (env : List AtomDef) (x : Option Shape) → IsAbsentAs env true x → IsAt env HasNone x
  absent-from env None absent = tt
  absent-from env (Some x) absent = absent refl

  -- a place where there may be none
  abbrev AllowsNone : Place → Type 0
  AllowsNone p = (env : List AtomDef) → IsAt env p None

  absent-to : (env : List AtomDef) (p : Place) (x : Option Shape) → AllowsNone p → a.required ≡ true → IsAt env HasNone x → IsAt env p x × AvoidsAt env a x
  absent-to env p None allows required at = (allows env, required)
  absent-to env p (Some x) allows required at = absurd at

  pub absent-IsNarrower : (p : Place) → AllowsNone p → a.required ≡ true → IsNarrower p a true HasNone
  absent-IsNarrower p allows required = record {
    from = λ env x at avoids absent. absent-from env x absent;
    to = λ env x at. absent-to env p x allows required at;
    same = λ c e. absurd (bad c e);
  }
    where
      bad : (c : Condition) → None ≡ Some c → ⊥
      bad c e = cc

  -- ---- with another part

  pub none_there : (table : Table) (kept : List (ℕ × Option Shape)) → IsVoidAt table kept HasNone a false
  none_there table kept env None at avoids absent = absurd (false≢true absent)
  none_there table kept env (Some x) at avoids absent = absurd at

  module _ (p : Place) (base d : Condition) (has : condition_at p ≡ Some base) (is : AreOne d (without base a.part)) where
    other-from : (env : List AtomDef) (x : Shape) → IsAt env p (Some x) → ¬ Meets env a.part x → IsShapeOf env d x
    other-from env x at avoids =
        let s = (at-IsShapeOf env p base x has).0 at in
        (s.0, (Meets-same env d (without base a.part) x s.0 is).1 ((Meets-without env base a.part x).1 (s.1, avoids)))

    other-to : (env : List AtomDef) (x : Shape) → IsShapeOf env d x → IsAt env p (Some x) × ¬ Meets env a.part x
    other-to env x s =
        let m = (Meets-without env base a.part x).0 ((Meets-same env d (without base a.part) x s.0 is).0 s.1) in
        ((at-IsShapeOf env p base x has).1 (s.0, m.0), m.1)

    from : (env : List AtomDef) (x : Option Shape) → IsAt env p x → AvoidsAt env a x → IsAbsentAs env false x → IsAt env (MustHave d) x
    from env None at avoids absent = absurd (false≢true absent)
    from env (Some x) at avoids absent = other-from env x at avoids

    to : (env : List AtomDef) (x : Option Shape) → IsAt env (MustHave d) x → IsAt env p x × AvoidsAt env a x
    to env None at = absurd at
    to env (Some x) at = other-to env x at

    some_same : (b c : Condition) → Some b ≡ Some c → b ≡ c
    some_same b c e = cc

    pub other-IsNarrower : IsNarrower p a false (MustHave d)
    other-IsNarrower = record {
      from = from;
      to = to;
      same = λ c e. (base, has, subst (λ f. AreOne f (without base a.part)) (some_same d c e) is);
    }

  module _ (table : Table) (kept : List (ℕ × Option Shape)) (p : Place) (base : Condition) (q : ℕ) (has : condition_at p ≡ Some base) (is : AreOne (condition table q) (without base a.part)) where
    void : (env : List AtomDef) (x : Shape) → IsHeldEmpty kept q ⊎ IsNothing (condition table q) → IsShapeOf env (condition table q) x → IsInHeld env table kept x
    void env x known s = ⊎_elim
        (λ (held : IsHeldEmpty kept q). record { question = q; held = held; inside = s })
        (λ (none : IsNothing (condition table q)). absurd (nothing-IsShapeOf env (condition table q) x none s)) known

    void-at : (env : List AtomDef) (x : Option Shape) → IsHeldEmpty kept q ⊎ IsNothing (condition table q) → IsAt env p x → AvoidsAt env a x → IsAbsentAs env false x → (part : Shape) × (x ≡ Some part) × IsInHeld env table kept part
    void-at env None known at avoids absent = absurd (false≢true absent)
    void-at env (Some x) known at avoids absent = (x, refl, void env x known (other-from p base (condition table q) has is env x at avoids))

    pub other-IsVoidAt : IsHeldEmpty kept q ⊎ IsNothing (condition table q) → IsVoidAt table kept p a false
    other-IsVoidAt known env x at avoids absent = void-at env x known at avoids absent

  -- ---- outside already

  module _ (c : Condition) (is : AreOne c (without c a.part)) where
    outside-shape : (env : List AtomDef) (x : Shape) → IsShapeOf env c x → ¬ Meets env a.part x
    outside-shape env x s = ((Meets-without env c a.part x).0 ((Meets-same env c (without c a.part) x s.0 is).0 s.1)).1

    pub present-outside : (env : List AtomDef) (x : Option Shape) → IsAt env (MustHave c) x → AvoidsAt env a x
    present-outside env None at = absurd at
    present-outside env (Some x) at = outside-shape env x at

    pub optional-outside : a.required ≡ true → (env : List AtomDef) (x : Option Shape) → IsAt env (MayHave c) x → AvoidsAt env a x
    optional-outside required env None at = required
    optional-outside required env (Some x) at = outside-shape env x at

  pub absent-outside : a.required ≡ true → (env : List AtomDef) (x : Option Shape) → IsAt env HasNone x → AvoidsAt env a x
  absent-outside required env None at = required
  absent-outside required env (Some x) at = absurd at

-- ---- the condition of a slot

pub slot-condition : (t : Table) (slot : Slot) (q from : ℕ) → (slot ≡ Optional q) ⊎ (slot ≡ Present q) → from ≡ q → condition_at (place_of t slot) ≡ Some (condition t from)
slot-condition t slot q from is same = ⊎_elim
    (λ (e : slot ≡ Optional q). (λ i. condition_at (place_of t (e i))) ∙ (λ i. Some (condition t (sym same i))))
    (λ (e : slot ≡ Present q). (λ i. condition_at (place_of t (e i))) ∙ (λ i. Some (condition t (sym same i)))) is

-- ---- what is found of a question

pub found : (env : List AtomDef) (t : Table) (kept : List (ℕ × Option Shape)) (q : ℕ) → ¬ IsNothing (condition t q) → All (IsSound env t) kept → (finding : Finding) → IsFinding kept q finding → TellsPart env t kept q finding
found env t kept q some sound (FoundPart x) h = found-IsShapeOf env t kept q sound x h
found env t kept q some sound FoundHeld h = λ x s. record { question = q; held = h; inside = s }
found env t kept q some sound FoundUnknown h = (h, some)

-- ---- a place that must have a part

module _ (env : List AtomDef) (t : Table) (kept : List (ℕ × Option Shape)) (slot : Slot) (q : ℕ) (is : slot ≡ Present q) where
  pub present-held : ((x : Shape) → IsShapeOf env (condition t q) x → IsInHeld env t kept x) → (x : Option Shape) → IsAt env (place_of t slot) x → (part : Shape) × (x ≡ Some part) × IsInHeld env t kept part
  present-held held x at = by x (subst (λ s. IsAt env (place_of t s) x) is at)
    where
      by : (x : Option Shape) → IsAt env (MustHave (condition t q)) x → (part : Shape) × (x ≡ Some part) × IsInHeld env t kept part
      by None at = absurd at
      by (Some x) at = (x, refl, held x at)

  pub present-condition : condition_at (place_of t slot) ≡ Some (condition t q)
  present-condition i = condition_at (place_of t (is i))
