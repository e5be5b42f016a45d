-- What is asked of the last part is what the needs mean.
use Rattle.std.proofs.Common.{◌≡◌, Bool, List, Result, Ok, Err, OnOk, subst}
use Rattle.bal_base.specs.declared.fault.Fault.{Fault}
use Rattle.bal_base.specs.declared.place.Place.{Place}
use Rattle.bal_base.specs.declared.stop.Stop.{Stop}
use Rattle.checks.specs.Checks.{Comes}
use Rattle.expr_needs.specs.declared.kind.Kind.{Kind}
use Rattle.type_model.specs.declared.answers.TypeLimit.{TypeLimit}
use Rattle.type_model.specs.declared.atoms.AtomDef.{AtomDef}
use Rattle.type_model.specs.declared.basic.Ty.{Ty}
use Rattle.type_model.specs.Calls.{Asked}
use Rattle.typed_tree.specs.declared.expr.TypedExpr.{TypedExpr}
use Rattle.typed_tree.specs.Exprs.{type_of}
use Rattle.check_kinds.specs.Over.{ComesOver}
use Rattle.check_kinds.proofs.Over.{over-at}
use Rattle.check_words.specs.State.{IsLast, State}
use Rattle.check_words.specs.Values.{is_of_sort, sort_kind}
use Rattle.check_words.specs.Words.{Atoms, OfKind, is_of, is_within}
use Rattle.check_words.proofs.Coming.{given, next}

module _ (passes : List AtomDef → Asked → TypeLimit → Type 0) (s : State) (at : Place) (r : Result (Unit {0}) (Stop Fault)) where
  pub is-of-comes : (kind : Kind) (env : Atoms) (e : TypedExpr) (u : Ty) → IsLast s.found e → u ≡ (type_of e).value → ComesOver (is_within passes (OfKind kind) u.sem at) s.atoms r env
      → Comes (is_of passes kind at) s r (record s { atoms = env })
  is-of-comes kind env e u last is h =
      next _ _ _ _ _ e s (given _ s e last)
      (subst (λ (v : Ty). Comes (is_within passes (OfKind kind) v.sem at) s r (record s { atoms = env })) is (over-at (is_within passes (OfKind kind) u.sem at) s r env h))

  pub is-sort-comes : (ints : Bool) (k : Kind) (new : State) → IsLast s.sorts ints → k ≡ sort_kind ints → Comes (is_of passes k at) s r new → Comes (is_of_sort passes at) s r new
  is-sort-comes ints k new last is h = next _ _ _ _ _ ints s (given _ s ints last) (subst (λ l. Comes (is_of passes l at) s r new) is h)

-- what holds whatever was answered
pub on-any : (P : Type 0) (r : Result (Unit {0}) (Stop Fault)) → P → OnOk r P
on-any P (Ok a) h = h
on-any P (Err e) h = tt

pub both-on : (P Q : Type 0) (r : Result (Unit {0}) (Stop Fault)) → P → OnOk r Q → OnOk r (P × Q)
both-on P Q (Ok a) p h = (p, h)
both-on P Q (Err e) p h = tt
