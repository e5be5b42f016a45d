-- Work that goes on until it stops, and needs as they are met.
use Rattle.std.proofs.Common.{◌≡◌, ◌++◌, ◌∙◌, List, [], ◌∷◌, Option, Some, None, Result, Ok, Err, OnOk, map, ap, sym, subst}
use Rattle.std.proofs.lemmas.List.{map-append}
use Rattle.bal_base.specs.declared.fault.Fault.{Fault}
use Rattle.bal_base.specs.declared.stop.Memory.{Memory as NoMemory}
use Rattle.bal_base.specs.declared.stop.Stop.{Stop}
use Rattle.checks.specs.Checks.{Check, Comes}
use Rattle.checks.proofs.Steps.{ran_out}
use Rattle.descriptors.specs.declared.names.Names.{Names}
use Rattle.descriptors.specs.Steps.{AreNames, lifted}
use Rattle.expr_needs.specs.Needs.{Need}
use Rattle.needs.specs.Needs.{Going, Runs, answer}
use Rattle.needs.proofs.Running.{runs-one, runs-some}
use Rattle.type_model.specs.declared.answers.TypeLimit.{TypeLimit}
use Rattle.type_model.specs.Calls.{Asked}
use Rattle.typed_tree.specs.Listed.{one}
use Rattle.check_words.specs.Meets.{meets}
use Rattle.check_words.specs.State.{State}
use Rattle.type_model.specs.declared.atoms.AtomDef.{AtomDef}
use Rattle.check_words.specs.Stands.{Stands}
use Rattle.check_work.specs.declared.work.Unit.{Unit as UnitHeld}
use Rattle.check_work.specs.declared.work.Work.{Work}
use Rattle.check_work.specs.Views.{state_of, unit_of, units_of}

module _ (passes : List AtomDef → Asked → TypeLimit → Type 0) (names : Names) where
  -- what a call answered, over the same atoms
  pub noted : (need : Need) (old : Going State) (env env2 : List AtomDef) (w : Work) (r : Result (Unit {0}) (Stop Fault)) (stop : Option (Stop Fault)) → answer stop ≡ r
      → env2 ≡ env → old.1 ≡ None → Comes (meets passes names need) old.0 r (state_of env w) → Runs (meets passes names) (one need) old (state_of env2 w, stop)
  noted need old env env2 w r stop is e goes h =
      subst (λ atoms. Runs (meets passes names) (one need) old (state_of atoms w, stop)) (sym e)
      (runs-one (meets passes names) need old (state_of env w, stop) goes (subst (λ a. Comes (meets passes names need) old.0 a (state_of env w)) (sym is) h))

-- what holds where the work goes on
pub held : (names : Names) (env env2 : List AtomDef) (w : Work) (r : Result (Unit {0}) (Stop Fault)) (stop : Option (Stop Fault)) → answer stop ≡ r → env2 ≡ env
    → OnOk r (AreNames env names × Stands (state_of env w)) → stop ≡ None → AreNames env2 names × Stands (state_of env2 w)
held names env env2 w r stop is e h goes =
    subst (λ atoms. AreNames atoms names × Stands (state_of atoms w)) (sym e)
    (subst (λ a. OnOk a (AreNames env names × Stands (state_of env w))) (sym is ∙ ap answer goes) h)

-- what was made, as an answer
pub made-on : (P : Type 0) (m : Result (Unit {0}) NoMemory) → OnOk m P → OnOk (lifted m) P
made-on P (Ok a) h = h
made-on P (Err e) h = tt

pub on-both : (P Q : Type 0) (m : Result (Unit {0}) NoMemory) → P → OnOk m Q → OnOk m (P × Q)
on-both P Q (Ok a) p h = (p, h)
on-both P Q (Err e) p h = tt

pub made-comes : (m : Check State (Unit {0})) (s new : State) (r : Result (Unit {0}) NoMemory) → OnOk r (Comes m s (Ok tt) new) → Comes m s (lifted r) new
made-comes m s new (Ok a) h = h
made-comes m s new (Err e) h = ran_out m s new

-- the unit at hand, where there is one
pub at-hand : (around : List UnitHeld) (unit : Option UnitHeld) (u : UnitHeld) → unit ≡ Some u → units_of around unit ≡ map unit_of around ++ unit_of u ∷ []
at-hand around unit u e = ap (λ o. units_of around o) e

-- the last one of a list, as it is seen
pub mapped-last : {A B : Type 0} (f : A → B) (xs ys : List A) (x : A) → xs ≡ ys ++ x ∷ [] → map f xs ≡ map f ys ++ f x ∷ []
mapped-last f xs ys x e = ap (map f) e ∙ map-append f ys (x ∷ [])

-- for a call of one need
pub ruleset meeting = (runs-some, ran_out)
