-- Types that are the same name the same atoms and have the same shapes.
use Rattle.std.proofs.Common.{ℕ, ◌<◌, ◌↔◌, List, IsSomeAnd, slice_get, subst}
use Rattle.bal_base.specs.declared.shape.Shape.{Shape}
use Rattle.type_model.specs.declared.basic.SemType.{SemType, Basic, Atom, Or', And', Not'}
use Rattle.type_model.specs.declared.atoms.AtomDef.{AtomDef}
use Rattle.type_model.specs.Basic.{InBasic}
use Rattle.type_model.specs.Membership.{In, Fits}
use Rattle.type_model.specs.Defined.{NamesBelow}
use Rattle.type_model.specs.SameType.{IsSameType}
use Rattle.type_model.proofs.Same.{both, either, neither, itself}

module _ (n : ℕ) where
  pub NamesBelow-same : (s t : SemType) → IsSameType s t → NamesBelow n s → NamesBelow n t
  NamesBelow-same (Basic b) (Basic c) e h = tt
  NamesBelow-same (Atom a) (Atom b) e h = subst (λ k. k < n) e h
  NamesBelow-same (Or' _ s _ t) (Or' _ s' _ t') e h = (NamesBelow-same s s' e.0 h.0, NamesBelow-same t t' e.1 h.1)
  NamesBelow-same (And' _ s _ t) (And' _ s' _ t') e h = (NamesBelow-same s s' e.0 h.0, NamesBelow-same t t' e.1 h.1)
  NamesBelow-same (Not' _ t) (Not' _ t') e h = NamesBelow-same t t' e h
  NamesBelow-same _ _ e h = absurd e

module _ (env : List AtomDef) (x : Shape) where
  pub In-same : (s t : SemType) → IsSameType s t → In env x s ↔ In env x t
  In-same (Basic b) (Basic c) e = subst (λ d. InBasic x b ↔ InBasic x d) e itself
  In-same (Atom a) (Atom b) e = subst (λ k. IsSomeAnd (slice_get env a) (Fits env x) ↔ IsSomeAnd (slice_get env k) (Fits env x)) e itself
  In-same (Or' _ s _ t) (Or' _ s' _ t') e = either (In-same s s' e.0) (In-same t t' e.1)
  In-same (And' _ s _ t) (And' _ s' _ t') e = both (In-same s s' e.0) (In-same t t' e.1)
  In-same (Not' _ t) (Not' _ t') e = neither (In-same t t' e)
  In-same _ _ e = absurd e
