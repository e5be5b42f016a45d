-- What an operator works on is what the need means.
use Rattle.std.proofs.Common.{◌≡◌, ◌++◌, ◌∙◌, Bool, List, [], ◌∷◌, Result, Ok, Err, refl, subst, sym}
use Rattle.bal_base.specs.declared.fault.Fault.{Fault}
use Rattle.bal_base.specs.declared.place.Place.{Place}
use Rattle.bal_base.specs.declared.stop.Stop.{Stop}
use Rattle.checks.specs.Checks.{Check, Comes}
use Rattle.checks.proofs.Steps.{stops}
use Rattle.expr_needs.specs.declared.kind.Kind.{Kind}
use Rattle.expr_needs.specs.declared.kind.Kind.TheVariants as kind
use Rattle.type_model.specs.declared.answers.TypeLimit.{TypeLimit}
use Rattle.type_model.specs.declared.atoms.AtomDef.{AtomDef}
use Rattle.type_model.specs.declared.basic.SemType.{SemType}
use Rattle.type_model.specs.Calls.{Asked}
use Rattle.typed_tree.specs.declared.expr.TypedExpr.{TypedExpr}
use Rattle.check_kinds.specs.Over.{ComesOver}
use Rattle.check_words.specs.State.{IsLast, State}
use Rattle.check_words.specs.Values.{decided, decides}
use Rattle.check_words.specs.Words.{Atoms, OfKind, sem, whether_within}
use Rattle.check_words.proofs.Coming.{became-this, given, next}

-- a check that leaves the atoms as they are, for whoever has the state
pub over-same : {A : Type 0} (m : Check State A) (s : State) (r : Result A (Stop Fault)) (old new : Atoms) → old ≡ s.atoms → new ≡ old → ComesOver m old r new → Comes m s r s
unfolding ComesOver
over-same m s r old new e f h = subst (λ a. Comes m s r (record s { atoms = a })) (f ∙ e) (h s (sym e))

-- the last one of a list, by another name of the list
pub last-of : {A : Type 0} (xs ys : List A) (x : A) → xs ≡ ys → IsLast xs x → IsLast ys x
last-of xs ys x e h = subst (λ zs. IsLast zs x) e h

module _ (passes : List AtomDef → Asked → TypeLimit → Type 0) (at : Place) (s t : SemType) (same : s ≡ t) (old new : Atoms) where
  pub within-so : (kind : Kind) (r : Result Bool (Stop Fault)) → ComesOver (whether_within passes (OfKind kind) s at) old r new → ComesOver (whether_within passes (OfKind kind) t at) old r new
  within-so kind r h = subst (λ x. ComesOver (whether_within passes (OfKind kind) x at) old r new) same h

  pub settled-so : (ints : Bool) (r : Result (Unit {0}) (Stop Fault)) → ComesOver (decided passes ints s at) old r new → ComesOver (decided passes ints t at) old r new
  settled-so ints r h = subst (λ x. ComesOver (decided passes ints x at) old r new) same h

module _ (passes : List AtomDef → Asked → TypeLimit → Type 0) (s : State) (at : Place) (e : TypedExpr) (last : IsLast s.found e) where
  -- whether it works on ints wasn't answered
  pub decides-stops : (stop : Stop Fault) → Comes (whether_within passes (OfKind kind.Integer) (sem e) at) s (Err stop) s → Comes (decides passes at) s (Err stop) s
  decides-stops stop h = next _ _ _ _ _ e s (given _ s e last) (stops _ _ s s stop h)

  module _ (ints : Bool) (asked : Comes (whether_within passes (OfKind kind.Integer) (sem e) at) s (Ok ints) s) where
    -- it works on neither
    pub settles-not : (stop : Stop Fault) → Comes (decided passes ints (sem e) at) s (Err stop) s → Comes (decides passes at) s (Err stop) s
    settles-not stop h = next _ _ _ _ _ e s (given _ s e last) (next _ _ _ _ _ ints s asked (stops _ _ s s stop h))

    pub decides-come : (xs : List Bool) → Comes (decided passes ints (sem e) at) s (Ok tt) s → xs ≡ s.sorts ++ ints ∷ [] → Comes (decides passes at) s (Ok tt) (record s { sorts = xs })
    decides-come xs h more =
        next _ _ _ _ _ e s (given _ s e last)
        (next _ _ _ _ _ ints s asked (next _ _ _ _ _ tt s h (became-this _ s (record s { sorts = xs }) (subst (λ ys. record s { sorts = xs } ≡ record s { sorts = ys }) more refl))))
