-- What is asked of the last part is what the needs mean.
use Rattle.std.proofs.Common.{◌≡◌, Bool, IsErr, IsErrAnd, List, Option, Result, Ok, Err, OnOk, subst, sym}
use Rattle.std.proofs.lemmas.Bool.{false≢true}
use Rattle.bal_base.specs.declared.fault.Fault.{Fault}
use Rattle.bal_base.specs.declared.place.Place.{Place}
use Rattle.bal_base.specs.declared.stop.Stop.{Stop}
use Rattle.checks.specs.Checks.{Check, Comes}
use Rattle.expr_needs.specs.declared.kind.Kind.{Kind}
use Rattle.type_model.specs.declared.answers.TypeLimit.{TypeLimit}
use Rattle.type_model.specs.declared.atoms.AtomDef.{AtomDef}
use Rattle.type_model.specs.Calls.{Asked}
use Rattle.typed_tree.specs.declared.expr.TypedExpr.{TypedExpr}
use Rattle.typed_tree.specs.SharedTypes.{Shared}
use Rattle.check_words.specs.State.{IsLast, State}
use Rattle.check_words.specs.Values.{is_of_sort, sort_kind}
use Rattle.check_words.specs.Words.{OfKind, below_if, is_of, is_wanted, is_within, sem}
use Rattle.check_words.proofs.Coming.{given, next}

module _ (passes : List AtomDef → Asked → TypeLimit → Type 0) (s new : State) (r : Result (Unit {0}) (Stop Fault)) where
  pub is-of-comes : (kind : Kind) (at : Place) (e : TypedExpr) → IsLast s.found e → Comes (is_within passes (OfKind kind) (sem e) at) s r new → Comes (is_of passes kind at) s r new
  is-of-comes kind at e last h = next _ _ _ _ _ e s (given _ s e last) h

  pub is-sort-comes : (at : Place) (ints : Bool) → IsLast s.sorts ints → Comes (is_of passes (sort_kind ints) at) s r new → Comes (is_of_sort passes at) s r new
  is-sort-comes at ints last h = next _ _ _ _ _ ints s (given _ s ints last) h

  pub is-wanted-comes : (at : Place) (w : Option Shared) (e : TypedExpr) → IsLast s.wants w → IsLast s.found e → Comes (below_if passes w e at) s r new → Comes (is_wanted passes at) s r new
  is-wanted-comes at w e wanted last h = next _ _ _ _ _ w s (given _ s w wanted) (next _ _ _ _ _ e s (given _ s e last) h)

-- what holds whatever was answered
pub on-any : (P : Type 0) (r : Result (Unit {0}) (Stop Fault)) → P → OnOk r P
on-any P (Ok a) h = h
on-any P (Err e) h = tt

-- what a call answered, with what it keeps
pub both-on : (P Q : Type 0) (r : Result (Unit {0}) (Stop Fault)) → P → OnOk r Q → OnOk r (P × Q)
both-on P Q (Ok a) p h = (p, h)
both-on P Q (Err e) p h = tt

pub both-kept : (P Q : Type 0) (r : Result (Unit {0}) (Stop Fault)) → OnOk r P → OnOk r Q → OnOk r (P × Q)
both-kept P Q (Ok a) p h = (p, h)
both-kept P Q (Err e) p h = tt

-- what stopped a call is handed on by `?`
pub handed-on : {B S : Type 0} (m : Check S B) (old new : S) (stop : Stop Fault) (r : Result B (Stop Fault)) → IsErr r × IsErrAnd r (λ e. e ≡ stop) → Comes m old (Err stop) new → Comes m old r new
handed-on m old new stop (Ok b) h k = absurd (false≢true h.0)
handed-on m old new stop (Err s) h k = subst (λ e. Comes m old (Err e) new) (sym h.1) k
