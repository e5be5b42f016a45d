-- What holds where a call answered, and small steps of the state.
use Rattle.std.proofs.Common.{◌≡◌, ◌++◌, List, [], ◌∷◌, All, length, None, Option, Result, Ok, Err, OnOk, ap, refl, sym, subst}
use Rattle.bal_base.specs.declared.fault.Fault.{Fault}
use Rattle.bal_base.specs.declared.stop.Stop.{Stop}
use Rattle.checks.specs.Checks.{Comes}
use Rattle.flow_narrowing.specs.declared.flow.Flow.{Flow}
use Rattle.flow_narrowing.specs.declared.flow.Variable.{Variable}
use Rattle.flow_narrowing.specs.Flows.{IfShared}
use Rattle.type_model.specs.Defined.{TyBelow}
use Rattle.typed_tree.specs.SharedTypes.{Shared}
use Rattle.check_words.specs.Sharing.{SameFlow}
use Rattle.check_words.specs.Stands.{FlowBelow, Stands}
use Rattle.check_words.specs.State.{State, UnitAtWork, all_but, with_variable}
use Rattle.check_words.specs.Values.{drops_want}
use Rattle.check_words.specs.Words.{changes_flow}
use Rattle.check_words.proofs.Coming.{became-this}
use Rattle.check_words.proofs.Entering.{known-stands}
use Rattle.check_words.proofs.Flowing.{flow-changed}
use Rattle.check_words.proofs.Same.{same-flow}
use Rattle.check_words.proofs.Standing.{others-have, stands-wants}

pub on-answer : (P Q : Type 0) (r : Result (Unit {0}) (Stop Fault)) → P → OnOk r Q → OnOk r (P × Q)
on-answer P Q (Ok a) p h = (p, h)
on-answer P Q (Err e) p h = tt

-- what was wanted last is wanted no more
module _ (s : State) (ws : List (Option Shared)) (e : ws ≡ all_but 1 s.wants) where
  pub want-dropped : Comes drops_want s (Ok tt) (record s { wants = ws })
  want-dropped = became-this _ s (record s { wants = ws }) (ap (λ us. record s { wants = us }) e)

  pub fewer-stand : Stands s → Stands (record s { wants = ws })
  fewer-stand h =
      stands-wants s h ws (subst (All (IfShared (TyBelow (length s.atoms)))) (sym e) (others-have (IfShared (TyBelow (length s.atoms))) 1 s.wants h.wants))

pub on-any : (P : Type 0) (r : Result (Unit {0}) (Stop Fault)) → P → OnOk r P
on-any P (Ok a) h = h
on-any P (Err e) h = tt

-- what is known becomes this
module _ (s : State) (kept : List UnitAtWork) (u : UnitAtWork) (is : s.units ≡ kept ++ u ∷ []) (change : Flow → Flow) (g : Flow) (e : g ≡ change u.flow) where
  abbrev known : State
  known = record s { units = kept ++ record u { flow = g } ∷ []; ways = None }

  pub known-comes : Comes (changes_flow change) s (Ok tt) known
  known-comes = flow-changed s kept u is change g (subst (SameFlow (change u.flow)) (sym e) (same-flow (change u.flow))) known refl

  pub change-stands : (h : Stands s) → FlowBelow (length s.atoms) (change u.flow) → Stands known
  change-stands h below = known-stands s h kept u is s.blocks g (subst (FlowBelow (length s.atoms)) (sym e) below)

-- a variable more, which is this one
pub declared-as : (s new : State) (v w : Variable) → v ≡ w → Comes (changes_flow (with_variable v)) s (Ok tt) new → Comes (changes_flow (with_variable w)) s (Ok tt) new
declared-as s new v w e h = subst (λ x. Comes (changes_flow (with_variable x)) s (Ok tt) new) e h
