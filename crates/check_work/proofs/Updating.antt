-- What is wanted for an assignment with an operator, as it is taken.
use Rattle.std.proofs.Common.{◌≡◌, ◌++◌, ℕ, Bool, List, [], ◌∷◌, All, Option, Some, Result, Ok, Err, OnOk, IfOk, length, refl, sym, subst, ap}
use Rattle.bal_base.specs.declared.fault.Fault.{Fault}
use Rattle.bal_base.specs.declared.place.Place.{Place}
use Rattle.bal_base.specs.declared.stop.Stop.{Stop}
use Rattle.bal_tree.specs.declared.stmt.AssignOp.{AssignOp}
use Rattle.checks.specs.Checks.{Comes, gives, ◌▷◌}
use Rattle.checks.specs.Questions.{below}
use Rattle.flow_narrowing.specs.Flows.{IfShared}
use Rattle.type_model.specs.declared.answers.TypeLimit.{TypeLimit}
use Rattle.type_model.specs.declared.atoms.AtomDef.{AtomDef}
use Rattle.type_model.specs.declared.basic.SemType.{SemType}
use Rattle.type_model.specs.Calls.{Asked}
use Rattle.type_model.specs.Defined.{TyBelow}
use Rattle.typed_tree.specs.declared.form.Operator.{Operator}
use Rattle.typed_tree.specs.SharedTypes.{Shared, sem_of}
use Rattle.check_words.specs.Stands.{Stands}
use Rattle.check_words.specs.State.{State}
use Rattle.check_words.specs.Statements.{result_fits, takes_operator, takes_want, update_operator}
use Rattle.check_words.specs.Words.{asking}
use Rattle.check_words.proofs.Coming.{became-this, given, next}
use Rattle.check_words.proofs.Flowing.{sort-taken}
use Rattle.check_words.proofs.LastOnes.{kept-is}
use Rattle.check_words.proofs.Standing.{front-have, last-has, stands-wants}
use Rattle.check_work.specs.Updates.{AreTaken, IsTaken}

pub want-taken : (s : State) (ws : List (Option Shared)) (t : Shared) → IsTaken t s.wants ws → Comes takes_want s (Ok t) (record s { wants = ws })
want-taken s ws t is = let new : State = record s { wants = ws } in
    next _ _ _ _ _ t s (given _ s t (record { kept = ws; is = is }))
    (next _ _ _ _ _ tt new (became-this _ s new (ap (λ vs. record s { wants = vs }) (sym (kept-is 1 s.wants ws (Some t ∷ []) is refl)))) (given _ new t refl))

pub operator-taken : (s : State) (kept : List Bool) (ints : Bool) (assign : AssignOp) (op : Operator) → s.sorts ≡ kept ++ ints ∷ [] → update_operator assign ints op
    → Comes (takes_operator assign) s (Ok op) (record s { sorts = kept })
operator-taken s kept ints assign op is so = let new : State = record s { sorts = kept } in
    next _ _ _ _ _ ints new (sort-taken s kept ints is) (given _ new op so)

module _ (stored read result : Shared) (s : State) (ws : List (Option Shared)) (w : AreTaken stored read result s.wants ws) where
  pub result-fits : (passes : List AtomDef → Asked → TypeLimit → Type 0) (at : Place) (new : State) (r : Result Shared (Stop Fault))
      → Comes (asking (below passes (sem_of result) (sem_of stored) (Some at)) ▷ λ u. gives read) (record s { wants = ws }) r new
      → Comes (result_fits passes at) s r new
  result-fits passes at new r h =
      let first : State = record s { wants = w.first } in
      let second : State = record s { wants = w.second } in
      next _ _ _ _ _ result first (want-taken s w.first result w.result_taken)
      (next _ _ _ _ _ read second (want-taken first w.second read w.read_taken)
      (next _ _ _ _ _ stored (record s { wants = ws }) (want-taken second ws stored w.stored_taken) h))

  module _ (h : Stands s) where
    below-first : All (IfShared (TyBelow (length s.atoms))) w.first
    below-first = front-have (IfShared (TyBelow (length s.atoms))) w.first (Some result ∷ []) (subst (All (IfShared (TyBelow (length s.atoms)))) w.result_taken h.wants)

    below-second : All (IfShared (TyBelow (length s.atoms))) w.second
    below-second = front-have (IfShared (TyBelow (length s.atoms))) w.second (Some read ∷ []) (subst (All (IfShared (TyBelow (length s.atoms)))) w.read_taken below-first)

    pub result-below : TyBelow (length s.atoms) result.value
    result-below = last-has (IfShared (TyBelow (length s.atoms))) s.wants (Some result) (record { kept = w.first; is = w.result_taken }) h.wants

    pub read-below : TyBelow (length s.atoms) read.value
    read-below = last-has (IfShared (TyBelow (length s.atoms))) w.first (Some read) (record { kept = w.second; is = w.read_taken }) below-first

    pub stored-below : TyBelow (length s.atoms) stored.value
    stored-below = last-has (IfShared (TyBelow (length s.atoms))) w.second (Some stored) (record { kept = ws; is = w.stored_taken }) below-second

    pub taken-stands : Stands (record s { wants = ws })
    taken-stands =
        stands-wants s h ws
        (front-have (IfShared (TyBelow (length s.atoms))) ws (Some stored ∷ []) (subst (All (IfShared (TyBelow (length s.atoms)))) w.stored_taken below-second))

-- what was given is this
pub given-below : (n : ℕ) (r : Result Shared (Stop Fault)) (t : Shared) → IfOk r (λ u. u ≡ t) → TyBelow n t.value → IfOk r (λ u. TyBelow n u.value)
given-below n (Ok u) t e h = subst (λ (v : Shared). TyBelow n v.value) (sym e) h
given-below n (Err stop) t e h = tt

pub on-given : (r : Result Shared (Stop Fault)) (P : Type 0) → P → OnOk r P
on-given (Ok u) P h = h
on-given (Err stop) P h = tt

-- the question of the same types over the same atoms
pub below-of : (passes : List AtomDef → Asked → TypeLimit → Type 0) (at : Place) (s t u v : SemType) (old atoms new : List AtomDef) (r : Result (Unit {0}) (Stop Fault))
    → s ≡ u → t ≡ v → atoms ≡ old → Comes (below passes s t (Some at)) old r new → Comes (below passes u v (Some at)) atoms r new
below-of passes at s t u v old atoms new r left right e h =
    subst (λ m. Comes (below passes u m (Some at)) atoms r new) right
    (subst (λ m. Comes (below passes m t (Some at)) atoms r new) left (subst (λ env. Comes (below passes s t (Some at)) env r new) (sym e) h))
