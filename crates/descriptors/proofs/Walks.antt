-- The types of a list of descriptors, and the fields of a record, one behind another.
use Rattle.std.proofs.Common.{◌≡◌, ℕ, List, [], map, sym, subst}
use Rattle.std.proofs.lemmas.List.Elements.{All-nil, All-push}
use Rattle.bal_tree.specs.declared.types.FieldTree.{FieldTree}
use Rattle.type_model.specs.declared.atoms.FieldDef.{FieldDef}
use Rattle.type_model.specs.declared.basic.Ty.{Ty}
use Rattle.type_model.specs.Defined.{TyBelow}
use Rattle.descriptors.specs.declared.draft.Draft.{Draft}
use Rattle.descriptors.specs.declared.names.Names.{Names}
use Rattle.descriptors.specs.declared.names.Scope.{Scope}
use Rattle.descriptors.specs.Descriptors.{Descriptor, fields_in_a_row, in_a_row, of_field}
use Rattle.descriptors.specs.Described.{names_of}
use Rattle.descriptors.specs.Drafts.{AreNamesBelow, all_drafted, drafted, field_drafted, fields_drafted}
use Rattle.descriptors.specs.Steps.{AllBelow, FieldBelow, FieldsBelow}
use Rattle.descriptors.proofs.Drafting.{IsRow, Walked}

-- nothing names no atom
pub none-below : (ts : List Ty) → ts ≡ [] → (n : ℕ) → AllBelow n ts
none-below ts e n = subst (AllBelow n) (sym e) (All-nil (TyBelow n))

pub no_fields-below : (fs : List FieldDef) → fs ≡ [] → (n : ℕ) → FieldsBelow n fs
no_fields-below fs e n = subst (FieldsBelow n) (sym e) (All-nil (FieldBelow n))

module _ (names : Names) (scope : Scope) where
  abbrev pub TypesSoFar : {X : Type 0} → (X → Descriptor) → List X → ℕ → List Ty → Draft → Draft → Type 0
  TypesSoFar f = Walked (AreNamesBelow names) AllBelow (λ done xs. all_drafted names scope done (in_a_row (map f xs)))

  abbrev pub FieldsSoFar : List FieldTree → ℕ → List FieldDef → Draft → Draft → Type 0
  FieldsSoFar = Walked (AreNamesBelow names) FieldsBelow (λ done xs. fields_drafted names scope done (fields_in_a_row (map of_field xs)))

  -- the types of a list of descriptors
  pub types-row : {X : Type 0} (f : X → Descriptor)
      → IsRow (AreNamesBelow names) TyBelow AllBelow (λ done x. drafted names scope (f x)) (λ done (xs : List X). all_drafted names scope done (in_a_row (map f xs)))
  types-row f = record {
    none = λ n. All-nil (TyBelow n);
    more = λ n done t h below. All-push (TyBelow n) done t h below;
    at_end = λ done now r new y. y;
    at_one = λ done x xs now r new y. y;
  }

  -- the fields of a record
  pub fields-row : IsRow (AreNamesBelow names) FieldBelow FieldsBelow (λ done (x : FieldTree). field_drafted names scope (names_of done) (of_field x))
      (λ done (xs : List FieldTree). fields_drafted names scope done (fields_in_a_row (map of_field xs)))
  fields-row = record {
    none = λ n. All-nil (FieldBelow n);
    more = λ n done f h below. All-push (FieldBelow n) done f h below;
    at_end = λ done now r new y. y;
    at_one = λ done x xs now r new y. y;
  }
