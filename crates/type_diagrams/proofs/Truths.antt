-- Truth values of what holds, and of types.
use Rattle.std.proofs.Common.{◌≡◌, ◌↔◌, ◌⊎◌, ⊎_elim, inl, inr, ℕ, List, Bool, true, false, not, ◌&&◌, ◌||◌, refl}
use Rattle.std.specs.List.{list_all, list_any, All, Any}
use Rattle.std.proofs.lemmas.Bool.{false≢true}
use Rattle.std.proofs.lemmas.List.Folds.{Any-from_list_any, list_any-from_Any}
use Rattle.std.proofs.lemmas.List.Sums.{AllPass-from_list_all, list_all-from_AllPass}
use Rattle.type_model.specs.declared.basic.BasicSet.{BasicSet}
use Rattle.type_model.specs.declared.basic.SemType.{SemType, Basic, Atom, Or', And', Not'}
use Rattle.type_model.specs.Membership.{Holds}
use Rattle.type_diagrams.specs.Conditions.{truth}

pub neither : ⊥ ↔ (false ≡ true)
neither = (λ h. absurd h, λ h. absurd (false≢true h))

pub sure : {A : Type 0} → A → A ↔ (true ≡ true)
sure a = (λ _. refl, λ _. a)

pub or_true : {A B : Type 0} (x y : Bool) → A ↔ (x ≡ true) → B ↔ (y ≡ true) → (A ⊎ B) ↔ ((x || y) ≡ true)
or_true true y p q = (λ _. refl, λ _. inl (p.1 refl))
or_true {A} {B} false y p q = (⊎_elim (λ (a : A). absurd (false≢true (p.0 a))) (λ (b : B). q.0 b), λ h. inr (q.1 h))

pub and_true : {A B : Type 0} (x y : Bool) → A ↔ (x ≡ true) → B ↔ (y ≡ true) → (A × B) ↔ ((x && y) ≡ true)
and_true true y p q = (λ h. q.0 h.1, λ h. (p.1 refl, q.1 h))
and_true false y p q = (λ h. p.0 h.0, λ h. absurd (false≢true h))

pub not_true : {A : Type 0} (x : Bool) → A ↔ (x ≡ true) → (¬ A) ↔ (not x ≡ true)
not_true true p = (λ h. absurd (h (p.1 refl)), λ h. absurd (false≢true h))
not_true false p = (λ _. refl, λ _. λ a. false≢true (p.0 a))

-- a type that is put together of sets and atoms holds where its truth value is true
pub truth-Holds : (P : BasicSet → Type 0) (Q : ℕ → Type 0) (basic : BasicSet → Bool) (atom : ℕ → Bool) → ((b : BasicSet) → P b ↔ (basic b ≡ true)) → ((a : ℕ) → Q a ↔ (atom a ≡ true)) → (t : SemType) → Holds P Q t ↔ (truth basic atom t ≡ true)
truth-Holds P Q basic atom p q (Basic b) = p b
truth-Holds P Q basic atom p q (Atom a) = q a
truth-Holds P Q basic atom p q (Or' _ s _ u) =
    or_true (truth basic atom s) (truth basic atom u) (truth-Holds P Q basic atom p q s) (truth-Holds P Q basic atom p q u)
truth-Holds P Q basic atom p q (And' _ s _ u) =
    and_true (truth basic atom s) (truth basic atom u) (truth-Holds P Q basic atom p q s) (truth-Holds P Q basic atom p q u)
truth-Holds P Q basic atom p q (Not' _ u) = not_true (truth basic atom u) (truth-Holds P Q basic atom p q u)

-- what holds of each of a list
pub all_true : {X : Type 0} (P : X → Type 0) (test : X → Bool) (xs : List X) → ((x : X) → P x ↔ (test x ≡ true)) → All P xs ↔ (list_all test xs ≡ true)
all_true P test xs each = (
  λ h. list_all-from_AllPass test xs (λ k d lt. (each _).0 (h k d lt)),
  λ h k d lt. (each _).1 (AllPass-from_list_all test xs h k d lt),
)

pub any_true : {X : Type 0} (P : X → Type 0) (test : X → Bool) (xs : List X) → ((x : X) → P x ↔ (test x ≡ true)) → Any P xs ↔ (list_any test xs ≡ true)
any_true P test xs each = (
  λ h. list_any-from_Any test xs (h.0, h.1, h.2, h.3, (each h.1).0 h.4),
  λ h. let a = Any-from_list_any test xs h in (a.0, a.1, a.2, a.3, (each a.1).1 a.4),
)
