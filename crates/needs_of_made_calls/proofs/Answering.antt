-- What a call answered, and what holds behind it.
use Rattle.std.proofs.Common.{◌≡◌, List, Result, Ok, Err, OnOk, inl, inr, ⊎_elim, sym, subst}
use Rattle.bal_base.specs.declared.fault.Fault.{Fault}
use Rattle.bal_base.specs.declared.stop.Memory.{Memory as NoMemory}
use Rattle.bal_base.specs.declared.stop.Stop.{Stop}
use Rattle.bal_base.specs.declared.stop.Stop.TheVariants.{Memory, Fault as OwnFault}
use Rattle.checks.specs.Checks.{Check, Comes, ◌▷◌}
use Rattle.checks.proofs.Steps.{stops}
use Rattle.descriptors.specs.Steps.{lifted}
use Rattle.needs.specs.Needs.{asks}
use Rattle.type_model.specs.declared.atoms.AtomDef.{AtomDef}
use Rattle.type_model.specs.Calls.{KeepsTypes}
use Rattle.type_model.proofs.Kept.{KeepsTypes-same}
use Rattle.check_kinds.specs.Over.{ComesOver}
use Rattle.check_kinds.proofs.Over.{over-at}
use Rattle.check_words.specs.Stands.{Stands}
use Rattle.check_words.specs.State.{State}
use Rattle.check_words.specs.Words.{Atoms, Step, asking}
use Rattle.check_words.proofs.Coming.{next}
use Rattle.check_work.proofs.Noting.{made-comes, made-on}

pub on-both : (P Q : Type 0) (r : Result (Unit {0}) (Stop Fault)) → P → OnOk r Q → OnOk r (P × Q)
on-both P Q (Ok a) p h = (p, h)
on-both P Q (Err e) p h = tt

-- the same atoms
pub kept-same : (old new : List AtomDef) → new ≡ old → KeepsTypes old new
kept-same old new e = subst (KeepsTypes old) (sym e) (KeepsTypes-same old)

pub stands-over : (s : State) (env : List AtomDef) → env ≡ s.atoms → Stands s → Stands (record s { atoms = env })
stands-over s env e h = subst (λ (n : List AtomDef). Stands (record s { atoms = n })) (sym e) h

pub on-made : {E : Type 0} (P Q : Type 0) (made : Result (Unit {0}) E) → (P → Q) → OnOk made P → OnOk made Q
on-made P Q (Ok a) f h = f h
on-made P Q (Err e) f h = tt

-- ---- what was made, as an answer

module _ (made : Result (Unit {0}) NoMemory) (r : Result (Unit {0}) (Stop Fault)) (is : r ≡ lifted made) where
  pub lifted-on : (P : Type 0) → OnOk made P → OnOk r P
  lifted-on P h = subst (λ x. OnOk x P) (sym is) (made-on P made h)

  pub lifted-comes : (m : Step) (s new : State) → OnOk made (Comes m s (Ok tt) new) → Comes m s r new
  lifted-comes m s new h = subst (λ x. Comes m s x new) (sym is) (made-comes m s new made h)

  -- something is given over the atoms, and then something is made of it
  module _ {A : Type 0} (m : Check State A) (n : A → Step) (s : State) (atoms : Atoms) where
    pub then-made : (a : A) (new : State) → ComesOver m s.atoms (Ok a) atoms → OnOk made (Comes (n a) (record s { atoms = atoms }) (Ok tt) new) → Comes (m ▷ n) s r new
    then-made a new h k =
        subst (λ x. Comes (m ▷ n) s x new) (sym is)
        (next m n s new (lifted made) a (record s { atoms = atoms }) (over-at m s (Ok a) atoms h) (made-comes (n a) (record s { atoms = atoms }) new made k))

module _ {A : Type 0} (m : Check State A) (n : A → Step) (s : State) (atoms : Atoms) where
  pub then-on : (a : A) (r : Result (Unit {0}) (Stop Fault)) (new : State) → ComesOver m s.atoms (Ok a) atoms → Comes (n a) (record s { atoms = atoms }) r new → Comes (m ▷ n) s r new
  then-on a r new h k = next m n s new r a (record s { atoms = atoms }) (over-at m s (Ok a) atoms h) k

  pub not-made : (stop : Stop Fault) → ComesOver m s.atoms (Err stop) atoms → Comes (m ▷ n) s (Err stop) (record s { atoms = atoms })
  not-made stop h = stops m n s (record s { atoms = atoms }) stop (over-at m s (Err stop) atoms h)

-- ---- the front of a chain, put otherwise

pub front-as : {S A B : Type 0} (m n : Check S A) (k : A → Check S B) (old new : S) (r : Result B (Stop Fault))
    → ((x : Result A (Stop Fault)) (mid : S) → Comes m old x mid → Comes n old x mid) → Comes (m ▷ k) old r new → Comes (n ▷ k) old r new
unfolding Comes ◌▷◌
front-as m n k old new (Ok b) f h = (h.0, h.1, f (Ok h.0) h.1 h.2, h.3)
front-as m n k old new (Err (OwnFault e)) f h = ⊎_elim (λ x. inl (f (Err (OwnFault e)) new x)) (λ y. inr (y.0, y.1, f (Ok y.0) y.1 y.2, y.3)) h
front-as m n k old new (Err Memory) f h = tt

pub asked-as : {A : Type 0} (p q : Check Atoms A) (s : State) (x : Result A (Stop Fault)) (mid : State) → (Comes p s.atoms x mid.atoms → Comes q s.atoms x mid.atoms)
    → Comes (asking p) s x mid → Comes (asking q) s x mid
unfolding Comes asks
asked-as p q s (Ok a) mid f h = (f h.0, h.1)
asked-as p q s (Err (OwnFault e)) mid f h = (f h.0, h.1)
asked-as p q s (Err Memory) mid f h = tt
