-- What a constructor that is closed makes, as answers of calls.
use Rattle.std.proofs.Common.{◌≡◌, ◌++◌, ℕ, List, [], ◌∷◌, length, All, Option, Some, None, Result, Ok, Err, OnOk, refl, sym, subst, ap}
use Rattle.bal_base.specs.declared.fault.Fault.{Fault}
use Rattle.bal_base.specs.declared.place.Place.{Place}
use Rattle.bal_base.specs.declared.stop.Memory.{Memory as NoMemory}
use Rattle.bal_base.specs.declared.stop.Stop.{Stop}
use Rattle.checks.specs.Checks.{Check, Comes, ◌▷◌}
use Rattle.checks.proofs.Steps.{ran_out, stops}
use Rattle.descriptors.specs.Steps.{lifted}
use Rattle.needs.specs.Needs.{does}
use Rattle.type_model.specs.declared.basic.Ty.{Ty}
use Rattle.typed_tree.specs.declared.form.StrictForm.{StrictForm}
use Rattle.check_kinds.specs.Over.{ComesOver}
use Rattle.check_kinds.proofs.Over.{over-at}
use Rattle.check_words.specs.Stands.{ConstructorBelow, Stands}
use Rattle.check_words.specs.State.{ConstructorAtWork, IsLast, State}
use Rattle.check_words.specs.Words.{Atoms, Step, closes_constructor, makes_strict}
use Rattle.check_words.proofs.Coming.{became-this, given, next}
use Rattle.check_words.proofs.LastOnes.{kept-is}
use Rattle.check_words.proofs.Standing.{front-have, last-has, stands-constructors}
use Rattle.check_work.proofs.Noting.{made-comes}
use Rattle.needs_of_structures.specs.Making.{makes_so}

-- what is of just this type is of each kind of which the type is
pub so-then : (count : ℕ) (form : StrictForm) (ty : Ty) (at : Place) (P : Atoms → Ty → Type 0) (s new : State) → P s.atoms ty
    → Comes (makes_so count form ty at) s (Ok tt) new → Comes (makes_strict count form P at) s (Ok tt) new
unfolding Comes does
so-then count form ty at P s new p (parts, last, e, (t, is, strict), same) = (parts, last, e, (t, subst (P s.atoms) (sym is) p, strict), same)

pub so-then-on : (count : ℕ) (form : StrictForm) (ty : Ty) (at : Place) (P : Atoms → Ty → Type 0) (s new : State) (m : Result (Unit {0}) NoMemory) → P s.atoms ty
    → OnOk m (Comes (makes_so count form ty at) s (Ok tt) new) → OnOk m (Comes (makes_strict count form P at) s (Ok tt) new)
so-then-on count form ty at P s new (Ok a) p h = so-then count form ty at P s new p h
so-then-on count form ty at P s new (Err e) p h = tt

-- ---- something is given, and then something is made of it

module _ {A : Type 0} (m : Check State A) (n : A → Step) (s : State) where
  pub then-lifted : (a : A) (mid new : State) (made : Result (Unit {0}) NoMemory) (r : Result (Unit {0}) (Stop Fault)) → r ≡ lifted made
      → Comes m s (Ok a) mid → OnOk made (Comes (n a) mid (Ok tt) new) → Comes (m ▷ n) s r new
  then-lifted a mid new made r is h k = subst (λ x. Comes (m ▷ n) s x new) (sym is) (next _ _ _ _ _ a mid h (made-comes (n a) mid new made k))

  -- the same over the atoms
  pub then-made : (atoms : Atoms) (a : A) (new : State) (made : Result (Unit {0}) NoMemory) (r : Result (Unit {0}) (Stop Fault)) → r ≡ lifted made
      → ComesOver m s.atoms (Ok a) atoms → OnOk made (Comes (n a) (record s { atoms = atoms }) (Ok tt) new) → Comes (m ▷ n) s r new
  then-made atoms a new made r is h k = then-lifted a (record s { atoms = atoms }) new made r is (over-at m s (Ok a) atoms h) k

  pub not-made : (atoms : Atoms) (stop : Stop Fault) → ComesOver m s.atoms (Err stop) atoms → Comes (m ▷ n) s (Err stop) (record s { atoms = atoms })
  not-made atoms stop h = stops m n s (record s { atoms = atoms }) stop (over-at m s (Err stop) atoms h)

-- what was made, where it stands
pub lifted-on : (P : Type 0) (made : Result (Unit {0}) NoMemory) (r : Result (Unit {0}) (Stop Fault)) → r ≡ lifted made → OnOk made P → OnOk r P
lifted-on P (Ok a) r is h = subst (λ x. OnOk x P) (sym is) h
lifted-on P (Err e) r is h = subst (λ x. OnOk x P) (sym is) tt

pub lifted-comes : (m : Step) (s new : State) (made : Result (Unit {0}) NoMemory) (r : Result (Unit {0}) (Stop Fault)) → r ≡ lifted made
    → OnOk made (Comes m s (Ok tt) new) → Comes m s r new
lifted-comes m s new made r is h = subst (λ x. Comes m s x new) (sym is) (made-comes m s new made h)

-- ---- the constructor at hand is closed

module _ (s : State) (kept : List ConstructorAtWork) (c : ConstructorAtWork) (is : s.constructors ≡ kept ++ c ∷ []) where
  abbrev pub without : State
  without = record s { constructors = kept }

  pub closed-comes : Comes closes_constructor s (Ok c) without
  closed-comes =
      next _ _ _ _ _ c s (given _ s c (record { kept = kept; is = is }))
      (next _ _ _ _ _ tt without
      (became-this _ s without (ap (λ cs. record s { constructors = cs }) (sym (kept-is 1 s.constructors kept (c ∷ []) is refl)))) (given _ without c refl))

  pub closed-then : (n : ConstructorAtWork → Step) (r : Result (Unit {0}) (Stop Fault)) (new : State) → Comes (n c) without r new → Comes (closes_constructor ▷ n) s r new
  closed-then n r new h = next _ _ _ _ _ c without closed-comes h

  pub closed-stands : Stands s → Stands without
  closed-stands h = let k : ℕ = length s.atoms in
      stands-constructors s h kept (front-have (ConstructorBelow k) kept (c ∷ []) (subst (All (ConstructorBelow k)) is h.constructors))

  pub closed-below : Stands s → ConstructorBelow (length s.atoms) c
  closed-below h = last-has (ConstructorBelow (length s.atoms)) s.constructors c (record { kept = kept; is = is }) h.constructors
