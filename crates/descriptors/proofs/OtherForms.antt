-- Descriptors that are another one, written otherwise: what is drafted of one is drafted of the other.
use Rattle.std.proofs.Common.{◌≡◌, ℕ, List, [], Option, None, Result, sym, subst}
use Rattle.bal_base.specs.declared.fault.Fault.{Fault}
use Rattle.bal_base.specs.declared.place.Place.{Place}
use Rattle.bal_base.specs.declared.stop.Stop.{Stop}
use Rattle.bal_base.specs.declared.text.Text.{Text}
use Rattle.type_model.specs.declared.atoms.FieldDef.{FieldDef}
use Rattle.type_model.specs.declared.basic.Ty.{Ty}
use Rattle.type_model.specs.Defined.{TyBelow}
use Rattle.checks.specs.Checks.{◌▷◌}
use Rattle.descriptors.specs.declared.draft.Draft.{Draft}
use Rattle.descriptors.specs.declared.names.Names.{Names}
use Rattle.descriptors.specs.declared.names.Scope.{Scope}
use Rattle.descriptors.specs.Descriptors.{Descriptor, Descriptors, FieldOf, MaybeDescriptor}
use Rattle.descriptors.specs.Described.{AreCopies}
use Rattle.descriptors.specs.Drafts.{AreNamesBelow, Drafts, drafted, drafted_if, drafted_list, drafted_mapping, field_drafted, params_drafted, result_drafted, wherever}
use Rattle.descriptors.specs.Steps.{FieldBelow, IfBelow, ParamsBelow}

module _ (names : Names) (scope : Scope) where
  pub same : (d e : Descriptor) (old new : Draft) (r : Result Ty (Stop Fault)) → d ≡ e
      → Drafts (AreNamesBelow names) TyBelow (drafted names scope e) old r new → Drafts (AreNamesBelow names) TyBelow (drafted names scope d) old r new
  same d e old new r is = subst (λ x. Drafts (AreNamesBelow names) TyBelow (drafted names scope x) old r new) (sym is)

  pub same-if : (d e : MaybeDescriptor) (old new : Draft) (r : Result (Option Ty) (Stop Fault)) → d ≡ e
      → Drafts (AreNamesBelow names) IfBelow (drafted_if names scope e) old r new → Drafts (AreNamesBelow names) IfBelow (drafted_if names scope d) old r new
  same-if d e old new r is = subst (λ x. Drafts (AreNamesBelow names) IfBelow (drafted_if names scope x) old r new) (sym is)

  pub same-result : (d e : MaybeDescriptor) (old new : Draft) (r : Result Ty (Stop Fault)) → d ≡ e
      → Drafts (AreNamesBelow names) TyBelow (result_drafted names scope e) old r new → Drafts (AreNamesBelow names) TyBelow (result_drafted names scope d) old r new
  same-result d e old new r is = subst (λ x. Drafts (AreNamesBelow names) TyBelow (result_drafted names scope x) old r new) (sym is)

  pub same-params : (d e : Descriptors) (m n : MaybeDescriptor) (old new : Draft) (r : Result (List Ty × Option Ty) (Stop Fault)) → d ≡ e → m ≡ n
      → Drafts (AreNamesBelow names) ParamsBelow (params_drafted names scope e n) old r new → Drafts (AreNamesBelow names) ParamsBelow (params_drafted names scope d m) old r new
  same-params d e m n old new r is if_is y = subst (λ x. Drafts (AreNamesBelow names) ParamsBelow (params_drafted names scope x m) old r new) (sym is)
      (subst (λ x. Drafts (AreNamesBelow names) ParamsBelow (params_drafted names scope e x) old r new) (sym if_is) y)

  pub same-field : (taken : List Text) (f g : FieldOf) (old new : Draft) (r : Result FieldDef (Stop Fault)) → f ≡ g
      → Drafts (AreNamesBelow names) FieldBelow (field_drafted names scope taken g) old r new → Drafts (AreNamesBelow names) FieldBelow (field_drafted names scope taken f) old r new
  same-field taken f g old new r is = subst (λ x. Drafts (AreNamesBelow names) FieldBelow (field_drafted names scope taken x) old r new) (sym is)

-- ---- atoms of empty lists

module _ (G : ℕ → Type 0) (rest : Option Ty) (at : Place) (old new : Draft) (r : Result Ty (Stop Fault)) where
  pub no-fixed : (ts : List Ty) → ts ≡ [] → Drafts G TyBelow (drafted_list ts rest at) old r new → Drafts G TyBelow (drafted_list [] rest at) old r new
  no-fixed ts is = subst (λ us. Drafts G TyBelow (drafted_list us rest at) old r new) is

  pub no-fields : (fs : List FieldDef) → fs ≡ [] → Drafts G TyBelow (drafted_mapping fs rest at) old r new → Drafts G TyBelow (drafted_mapping [] rest at) old r new
  no-fields fs is = subst (λ gs. Drafts G TyBelow (drafted_mapping gs rest at) old r new) is

-- lists of so many copies
pub so-often : (names : Names) (G : ℕ → Type 0) (m n : ℕ) (t : Ty) (at : Place) (old new : Draft) (r : Result Ty (Stop Fault)) → m ≡ n
    → Drafts G TyBelow (wherever names (List Ty) (AreCopies m t) ▷ λ made. drafted_list made None at) old r new
    → Drafts G TyBelow (wherever names (List Ty) (AreCopies n t) ▷ λ made. drafted_list made None at) old r new
so-often names G m n t at old new r e = subst (λ k. Drafts G TyBelow (wherever names (List Ty) (AreCopies k t) ▷ λ made. drafted_list made None at) old r new) e
