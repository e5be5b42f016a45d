-- A type that is widened, by another handle, is what is wanted.
use Rattle.std.proofs.Common.{◌≡◌, ◌++◌, ◌∙◌, true, false, List, [], ◌∷◌, Option, Some, Ok, Err, ap, inl, inr, refl, subst}
use Rattle.bal_base.specs.declared.fault.Fault.{Fault}
use Rattle.bal_base.specs.declared.place.Place.{Place}
use Rattle.bal_base.specs.declared.stop.Stop.{Stop}
use Rattle.bal_base.specs.declared.stop.Stop.TheVariants.{Memory, Fault as OwnFault}
use Rattle.checks.specs.Checks.{Comes, gives_some, ◌▷◌}
use Rattle.checks.proofs.Steps.{stops}
use Rattle.expr_needs.specs.declared.kind.Kind.{Kind}
use Rattle.expr_needs.specs.declared.kind.Kind.TheVariants as kind
use Rattle.type_model.specs.declared.answers.TypeLimit.{TypeLimit}
use Rattle.type_model.specs.declared.atoms.AtomDef.{AtomDef}
use Rattle.type_model.specs.declared.basic.Ty.{Ty}
use Rattle.type_model.specs.Calls.{Asked}
use Rattle.typed_tree.specs.declared.expr.TypedExpr.{TypedExpr}
use Rattle.typed_tree.specs.Exprs.{type_of}
use Rattle.typed_tree.specs.SharedTypes.{Shared}
use Rattle.check_words.specs.Sharing.{SameShared}
use Rattle.check_words.specs.State.{IsLast, State}
use Rattle.check_words.specs.Values.{widened, widens, widens_to}
use Rattle.check_words.specs.Words.{OfKind, wants, whether_within}
use Rattle.check_words.proofs.Coming.{given, next}
use Rattle.check_words.proofs.Flowing.{want-put}

-- the kinds to which types are widened
abbrev wide : List Kind
wide = kind.Integer ∷ kind.Text ∷ kind.Truth ∷ []

module _ (passes : List AtomDef → Asked → TypeLimit → Type 0) (at : Place) where
  by-handle : (kinds : List Kind) (t u : Shared) → SameShared t u → (s new : State) (v : Shared) → Comes (widens_to passes kinds u at) s (Ok v) new
      → (x : Shared) × SameShared x v × Comes (widens_to passes kinds t at) s (Ok x) new
  unfolding Comes gives_some ◌▷◌
  by-handle [] t u e s new v h = (t, ap (λ w. w.value) h.0 ∙ e, (refl, h.1))
  by-handle (k ∷ kinds) t u e s new v (true, mid, asked, rest) =
      (v, refl, (true, mid, subst (λ (y : Ty). Comes (whether_within passes (OfKind k) y.sem at) s (Ok true) mid) e asked, rest))
  by-handle (k ∷ kinds) t u e s new v (false, mid, asked, rest) =
      let behind = by-handle kinds t u e mid new v rest in
      (behind.0, behind.1, (false, mid, subst (λ (y : Ty). Comes (whether_within passes (OfKind k) y.sem at) s (Ok false) mid) e asked, behind.2))

  stops-so : (kinds : List Kind) (t u : Shared) → SameShared t u → (s new : State) (stop : Stop Fault) → Comes (widens_to passes kinds u at) s (Err stop) new
      → Comes (widens_to passes kinds t at) s (Err stop) new
  unfolding Comes gives_some ◌▷◌
  stops-so kinds t u e s new Memory h = tt
  stops-so [] t u e s new (OwnFault f) h = absurd h
  stops-so (k ∷ kinds) t u e s new (OwnFault f) (inl h) = inl (subst (λ (y : Ty). Comes (whether_within passes (OfKind k) y.sem at) s (Err (OwnFault f)) new) e h)
  stops-so (k ∷ kinds) t u e s new (OwnFault f) (inr (true, mid, asked, rest)) = absurd rest
  stops-so (k ∷ kinds) t u e s new (OwnFault f) (inr (false, mid, asked, rest)) =
      inr (false, mid, subst (λ (y : Ty). Comes (whether_within passes (OfKind k) y.sem at) s (Ok false) mid) e asked, stops-so kinds t u e mid new (OwnFault f) rest)

  module _ (s : State) (e : TypedExpr) (last : IsLast s.found e) (t : Shared) (same : SameShared (type_of e) t) where
    pub widens-come : (v : Shared) (ws : List (Option Shared)) → Comes (widened passes t at) s (Ok v) s → ws ≡ s.wants ++ Some v ∷ [] → Comes (widens passes at) s (Ok tt) (record s { wants = ws })
    widens-come v ws h more =
        let own = by-handle wide (type_of e) t same s s v h in
        next _ _ _ _ _ e s (given _ s e last)
        (next (widened passes (type_of e) at) (λ x. wants (Some x)) s (record s { wants = ws }) (Ok tt) own.0 s own.2 (want-put s (Some own.0) (Some v) ws own.1 more))

    pub widens-stops : (stop : Stop Fault) → Comes (widened passes t at) s (Err stop) s → Comes (widens passes at) s (Err stop) s
    widens-stops stop h =
        next _ _ _ _ _ e s (given _ s e last) (stops (widened passes (type_of e) at) (λ x. wants (Some x)) s s stop (stops-so wide (type_of e) t same s s stop h))
