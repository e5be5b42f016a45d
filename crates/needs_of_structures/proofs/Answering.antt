-- What a call answered, and what holds behind it.
use Rattle.std.proofs.Common.{◌≡◌, List, Result, Ok, Err, OnOk, subst, sym}
use Rattle.bal_base.specs.declared.fault.Fault.{Fault}
use Rattle.bal_base.specs.declared.stop.Stop.{Stop}
use Rattle.type_model.specs.declared.atoms.AtomDef.{AtomDef}
use Rattle.type_model.specs.Calls.{KeepsTypes}
use Rattle.type_model.proofs.Kept.{KeepsTypes-same}
use Rattle.check_words.specs.Stands.{Stands}
use Rattle.check_words.specs.State.{State}

pub on-both : (P Q : Type 0) (r : Result (Unit {0}) (Stop Fault)) → P → OnOk r Q → OnOk r (P × Q)
on-both P Q (Ok a) p h = (p, h)
on-both P Q (Err e) p h = tt

pub on-any : (P : Type 0) (r : Result (Unit {0}) (Stop Fault)) → P → OnOk r P
on-any P (Ok a) h = h
on-any P (Err e) h = tt

-- the same atoms
pub kept-same : (old new : List AtomDef) → new ≡ old → KeepsTypes old new
kept-same old new e = subst (KeepsTypes old) (sym e) (KeepsTypes-same old)

pub stands-over : (s : State) (env : List AtomDef) → env ≡ s.atoms → Stands s → Stands (record s { atoms = env })
stands-over s env e h = subst (λ (n : List AtomDef). Stands (record s { atoms = n })) (sym e) h
