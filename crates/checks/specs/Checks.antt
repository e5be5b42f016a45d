-- Checks, one behind another: the first that refuses gives the fault.
use Rattle.std.specs.Prelude.{◌≡◌, ◌⊎◌, ℕ, zero, suc, Bool, true, false, List, [], ◌∷◌, Result, Ok, Err}
use Rattle.bal_base.specs.declared.fault.Fault.{Fault}
use Rattle.bal_base.specs.declared.stop.Stop.{Stop}
use Rattle.bal_base.specs.declared.stop.Stop.TheVariants.{Memory, Fault as OwnFault}

-- what a check comes to
pub data Outcome (A : Type 0) : Type 0 where
  Gives : A → Outcome A
  Refuses : Fault → Outcome A

-- From a state, as the atoms that are there, a check may come to this outcome, with this state behind it.
abbrev pub Check : Type 0 → Type 0 → Type 1
Check S A = S → Outcome A → S → Type 0

-- something of which P holds, in the state as it is
unfoldable pub gives_some : {S A : Type 0} → (S → A → Type 0) → Check S A
gives_some P old (Gives a) new = P old a × (new ≡ old)
gives_some P old (Refuses f) new = ⊥

abbrev pub gives : {S A : Type 0} → A → Check S A
gives a = gives_some (λ old b. b ≡ a)

-- a fault of which P holds, in the state as it is
unfoldable pub refuses : {S A : Type 0} → (S → Fault → Type 0) → Check S A
refuses P old (Gives a) new = ⊥
refuses P old (Refuses f) new = P old f × (new ≡ old)

infixr 5 ◌▷◌
-- One check, and then what follows from what it gave: it refuses as the first does, or the first gives something and the next decides.
unfoldable pub ◌▷◌ : {S A B : Type 0} → Check S A → (A → Check S B) → Check S B
◌▷◌ {S} {A} m next old (Gives b) new = (a : A) × (mid : S) × m old (Gives a) mid × next a mid (Gives b) new
◌▷◌ {S} {A} m next old (Refuses f) new =
    m old (Refuses f) new ⊎ ((a : A) × (mid : S) × m old (Gives a) mid × next a mid (Refuses f) new)

-- one of two checks, by a test
abbrev pub either : {S A : Type 0} → Bool → Check S A → Check S A → Check S A
either true m n = m
either false m n = n

-- so many checks of a list, from the one with this number on
abbrev pub each : {S A : Type 0} → ℕ → ℕ → (ℕ → Check S A) → Check S (List A)
each zero first check = gives []
each (suc n) first check = check first ▷ λ a. each n (suc first) check ▷ λ more. gives (a ∷ more)

-- what a call answers is what the check may come to; nothing is said of want of memory
unfoldable pub Comes : {S A : Type 0} → Check S A → S → Result A (Stop Fault) → S → Type 0
Comes m old (Ok a) new = m old (Gives a) new
Comes m old (Err (OwnFault f)) new = m old (Refuses f) new
Comes m old (Err Memory) new = Unit {0}
