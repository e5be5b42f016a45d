-- What types that are written from others have.
use Rattle.std.proofs.Common.{◌⊎◌, ◌↔◌, ℕ, List, ⊎_elim, inl, inr, sym, subst}
use Rattle.bal_base.specs.declared.shape.Shape.{Shape}
use Rattle.type_model.specs.declared.atoms.AtomDef.{AtomDef}
use Rattle.type_model.specs.declared.basic.BasicSet.{BasicSet}
use Rattle.type_model.specs.declared.basic.BasicSet.TheVariants.{ListAll, MappingAll, FunctionAll, FutureAll, Readonly}
use Rattle.type_model.specs.declared.basic.SemType.{SemType, Basic, Or', And', Not'}
use Rattle.type_model.specs.Basic.{InBasic}
use Rattle.type_model.specs.Defined.{NamesBelow}
use Rattle.type_model.specs.Membership.{In}
use Rattle.type_model.specs.SameType.{IsSameType}
use Rattle.type_model.proofs.SameTypes.{In-same, NamesBelow-same}
use Rattle.flow_narrowing.specs.declared.kind.Kind.{Kind}
use Rattle.flow_narrowing.specs.declared.kind.Kind.TheVariants as kind
use Rattle.flow_narrowing.specs.Asked.{IsBoth, IsEither, IsNot, IsOpenPart, IsOpenSet, IsUnmarkedSet}

-- ---- the shapes of both, and those that aren't in one

module _ (env : List AtomDef) (x : Shape) where
  pub both-in : (s t u : SemType) → IsBoth (IsSameType s) (IsSameType t) u → In env x u ↔ (In env x s × In env x t)
  both-in s t (And' _ a _ b) is = (
    λ h. ((In-same env x s a is.0).1 h.0, (In-same env x t b is.1).1 h.1),
    λ h. ((In-same env x s a is.0).0 h.0, (In-same env x t b is.1).0 h.1),
  )
  both-in s t _ is = absurd is

  pub either-in : (s t u : SemType) → IsEither (IsSameType s) (IsSameType t) u → In env x u ↔ (In env x s ⊎ In env x t)
  either-in s t (Or' _ a _ b) is = (
    ⊎_elim (λ h. inl ((In-same env x s a is.0).1 h)) (λ h. inr ((In-same env x t b is.1).1 h)),
    ⊎_elim (λ h. inl ((In-same env x s a is.0).0 h)) (λ h. inr ((In-same env x t b is.1).0 h)),
  )
  either-in s t _ is = absurd is

  pub not-in : (t u : SemType) → IsNot (IsSameType t) u → In env x u ↔ (¬ In env x t)
  not-in t (Not' _ a) is = (λ h k. h ((In-same env x t a is).0 k), λ h k. h ((In-same env x t a is).1 k))
  not-in t _ is = absurd is

module _ (n : ℕ) where
  pub both-below : (s t u : SemType) → IsBoth (IsSameType s) (IsSameType t) u → NamesBelow n s → NamesBelow n t → NamesBelow n u
  both-below s t (And' _ a _ b) is h k = (NamesBelow-same n s a is.0 h, NamesBelow-same n t b is.1 k)
  both-below s t _ is h k = absurd is

  pub either-below : (s t u : SemType) → IsEither (IsSameType s) (IsSameType t) u → NamesBelow n s → NamesBelow n t → NamesBelow n u
  either-below s t (Or' _ a _ b) is h k = (NamesBelow-same n s a is.0 h, NamesBelow-same n t b is.1 k)
  either-below s t _ is h k = absurd is

  pub not-below : (t u : SemType) → IsNot (IsSameType t) u → NamesBelow n t → NamesBelow n u
  not-below t (Not' _ a) is h = NamesBelow-same n t a is h
  not-below t _ is h = absurd is

-- ---- the open part of a kind

module _ (n : ℕ) where
  unmarked-below : (b : BasicSet) (u : SemType) → IsUnmarkedSet b u → NamesBelow n u
  unmarked-below b (And' _ (Basic c) _ (Not' _ (Basic d))) is = (tt, tt)
  unmarked-below b (And' _ (Basic c) _ (Not' _ _)) is = absurd is.1
  unmarked-below b (And' _ (Basic c) _ _) is = absurd is.1
  unmarked-below b (And' _ _ _ _) is = absurd is.0
  unmarked-below b _ is = absurd is

  open-below : (k : Kind) (u : SemType) → IsOpenSet k u → NamesBelow n u
  open-below kind.Lists u is = unmarked-below ListAll u is
  open-below kind.Mappings u is = unmarked-below MappingAll u is
  open-below kind.Functions u is = NamesBelow-same n (Basic FunctionAll) u is tt
  open-below kind.Futures u is = NamesBelow-same n (Basic FutureAll) u is tt

  pub part-below : (k : Kind) (s u : SemType) → IsOpenPart k s u → NamesBelow n s → NamesBelow n u
  part-below k s (And' _ a _ b) is h = (NamesBelow-same n s a is.0 h, open-below k b is.1)
  part-below k s _ is h = absurd is

module _ (env : List AtomDef) (x : Shape) (b : BasicSet) where
  pub unmarked-in : (u : SemType) → IsUnmarkedSet b u → InBasic x b → (¬ InBasic x Readonly) → In env x u
  unmarked-in (And' _ (Basic c) _ (Not' _ (Basic d))) is h k = (subst (InBasic x) is.0 h, λ r. k (subst (InBasic x) (sym is.1) r))
  unmarked-in (And' _ (Basic c) _ (Not' _ _)) is h k = absurd is.1
  unmarked-in (And' _ (Basic c) _ _) is h k = absurd is.1
  unmarked-in (And' _ _ _ _) is h k = absurd is.0
  unmarked-in _ is h k = absurd is

  pub in-unmarked : (u : SemType) → IsUnmarkedSet b u → In env x u → InBasic x b × (¬ InBasic x Readonly)
  in-unmarked (And' _ (Basic c) _ (Not' _ (Basic d))) is h = (subst (InBasic x) (sym is.0) h.0, λ r. h.1 (subst (InBasic x) is.1 r))
  in-unmarked (And' _ (Basic c) _ (Not' _ _)) is h = absurd is.1
  in-unmarked (And' _ (Basic c) _ _) is h = absurd is.1
  in-unmarked (And' _ _ _ _) is h = absurd is.0
  in-unmarked _ is h = absurd is
