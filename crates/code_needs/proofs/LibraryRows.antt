-- The rows of the library: each call is typed exactly where its needs are met.
use Rattle.std.proofs.Common.{◌⊎◌, ℕ, List, [], ◌∷◌, Option, Some, inl, inr, refl}
use Rattle.std.specs.Prelude.{slice_get, ⊤}
use Rattle.bal_base.specs.declared.shape.Shape.{Shape}
use Rattle.type_model.specs.declared.answers.Keys.TheVariants.{AnyField, AnyIndex}
use Rattle.type_model.specs.declared.atoms.AtomDef.{AtomDef}
use Rattle.type_model.specs.declared.basic.SemType.{SemType, Atom}
use Rattle.operations.specs.declared.library.LibraryCall.{LibraryCall}
use Rattle.operations.specs.declared.library.LibraryCall.TheVariants as call
use Rattle.operations.specs.LibraryTyping.{AtIndexes, AtKeys, LibraryTyped, MakesList, MakesNone, PartOf}
use Rattle.operations.specs.Kinds.{IsString}
use Rattle.operations.specs.Rows.{IsWithin, NoOperand, One, ResultHas}
use Rattle.code_needs.specs.Combining.{Needs}
use Rattle.code_needs.specs.declared.kind.Kind.{Kind}
use Rattle.code_needs.specs.declared.kind.Kind.TheVariants.{Anydata, Booleans, Details, Errors, ImmutableData, Integers, IntegersOrErrors, Lists, Mappings, Nils, NilsOrErrors, Strings}
use Rattle.code_needs.specs.Needs.{Has, IsOfKind, PartHas, PartIn}
use Rattle.code_needs.specs.RowNeeds.{has_members, has_parts, library_needs, makes_list, makes_none, on_text, part_of, prompted}
use Rattle.code_needs.proofs.Combined.{Decided, and-three, and-two, met-absent, met-each, met-given, met-list, met-need, met-none, met-nothing, met-one, met-one_and_more, met-some, met-two, never, otherwise}
use Rattle.code_needs.proofs.Words.{met-has, met-has_all, met-within}

-- neither of two that can't be
pub neither : ⊥ ⊎ ⊥ → ⊥
neither (inl h) = h
neither (inr h) = h

module _ (env : List AtomDef) where
  met-makes_none : {x : Needs} (P : Shape → Type 0) (atom : Option ℕ) (result : Option SemType) → Decided env (ResultHas env result P) x → Decided env (MakesNone env atom P result) (makes_none atom x)
  met-makes_none P atom result d = and-two env (met-absent env atom) d

  met-makes_list : (P : Shape → Type 0) (items : SemType → Needs) (atom : Option ℕ) (result : Option SemType) → ((t : SemType) → Decided env (ResultHas env (Some t) P) (items t)) → Decided env (MakesList env atom P result) (makes_list env atom items result)
  met-makes_list P items atom result d =
      met-some env atom (λ a. and-two env (met-list env (slice_get env a) (λ fixed rest. and-two env (met-none env fixed) (met-some env rest (λ t. d t.sem)))) (met-has_all env result (Atom a)))

  met-parts : (l : SemType) (result : Option SemType) → Decided env (ResultHas env result (AtIndexes env l)) (has_parts l result)
  met-parts l result = met-given env result (λ r. met-need env (PartIn l AnyIndex r))

  met-members : (m : SemType) (result : Option SemType) → Decided env (ResultHas env result (AtKeys env m)) (has_members m result)
  met-members m result = met-given env result (λ r. met-need env (PartIn m AnyField r))

  met-part_of : (whole : Kind) (operands : List SemType) → Decided env (PartOf env (IsOfKind whole) operands) (part_of whole operands)
  met-part_of whole (a ∷ from ∷ []) = otherwise env first (λ h. inl h) (and-two env (met-within env a whole) (met-within env from Integers))
    where
      first : {A : Type 0} → A ⊎ ⊥ → A
      first (inl h) = h
      first (inr h) = absurd h
  met-part_of whole (a ∷ from ∷ to ∷ []) = otherwise env second (λ h. inr h) (and-three env (met-within env a whole) (met-within env from Integers) (met-within env to Integers))
    where
      second : {A : Type 0} → ⊥ ⊎ A → A
      second (inl h) = absurd h
      second (inr h) = h
  met-part_of whole [] = never env (λ h. neither h)
  met-part_of whole (a ∷ []) = never env (λ h. neither h)
  met-part_of whole (a ∷ from ∷ to ∷ b ∷ more) = never env (λ h. neither h)

  met-prompted : (operands : List SemType) → Decided env (NoOperand operands ⊎ One operands (λ prompt. ⊤)) (prompted operands)
  met-prompted [] = otherwise env (λ h. tt) (λ h. inl refl) (met-nothing env)
  met-prompted (prompt ∷ []) = otherwise env (λ h. tt) (λ h. inr tt) (met-nothing env)
  met-prompted (prompt ∷ a ∷ more) = never env no-more
    where
      no-more : NoOperand (prompt ∷ a ∷ more) ⊎ ⊥ → ⊥
      no-more (inl e) = let q : ⊥ = cc in q
      no-more (inr h) = h

  met-text : (atom : Option ℕ) (operands : List SemType) (kind : Kind) (result : Option SemType) → Decided env (One operands (λ s. IsWithin env IsString s × MakesNone env atom (IsOfKind kind) result)) (on_text atom operands kind result)
  met-text atom operands kind result = met-one env operands (λ s. and-two env (met-within env s Strings) (met-makes_none _ atom result (met-has env result kind)))

  pub met-library : (c : LibraryCall) (atom : Option ℕ) (operands : List SemType) (result : Option SemType) → Decided env (LibraryTyped env c atom operands result) (library_needs env c atom operands result)
  met-library call.Println atom operands result = met-makes_none _ atom result (met-has env result Nils)
  met-library call.Print atom operands result = met-makes_none _ atom result (met-has env result Nils)
  met-library call.Readln atom operands result = and-two env (met-prompted operands) (met-makes_none _ atom result (met-has env result Strings))
  met-library call.FromString atom operands result = met-text atom operands IntegersOrErrors result
  met-library call.Abs atom operands result = met-one env operands (λ n. and-two env (met-within env n Integers) (met-makes_none _ atom result (met-has env result Integers)))
  met-library call.ToString atom operands result = met-one env operands (λ v. met-makes_none _ atom result (met-has env result Strings))
  met-library call.Clone atom operands result = met-one env operands (λ v. and-two env (met-within env v Anydata) (met-makes_none _ atom result (met-has_all env result v)))
  met-library call.CloneReadOnly atom operands result = met-one env operands (λ v. and-two env (met-within env v Anydata) (met-makes_none _ atom result (met-has env result ImmutableData)))
  met-library call.StringLength atom operands result = met-text atom operands Integers result
  met-library call.StartsWith atom operands result = met-two env operands (λ s t. and-three env (met-within env s Strings) (met-within env t Strings) (met-makes_none _ atom result (met-has env result Booleans)))
  met-library call.Trim atom operands result = met-text atom operands Strings result
  met-library call.Substring atom operands result = and-two env (met-part_of Strings operands) (met-makes_none _ atom result (met-has env result Strings))
  met-library call.ToUpperAscii atom operands result = met-text atom operands Strings result
  met-library call.ToLowerAscii atom operands result = met-text atom operands Strings result
  met-library call.ToCodePointInts atom operands result = met-one env operands (λ s. and-two env (met-within env s Strings) (met-makes_list (IsOfKind Integers) _ atom result (λ t. met-need env (Has t Integers))))
  met-library call.ListLength atom operands result = met-one env operands (λ l. and-two env (met-within env l Lists) (met-makes_none _ atom result (met-has env result Integers)))
  met-library call.Push atom operands result =
      met-one_and_more env operands (λ l values. and-three env (met-within env l Lists) (met-each env _ _ values (λ v. met-need env (PartHas l AnyIndex v))) (met-makes_none _ atom result (met-has env result Nils)))
  met-library call.Pop atom operands result = met-one env operands (λ l. and-two env (met-within env l Lists) (met-makes_none _ atom result (met-parts l result)))
  met-library call.RemoveItem atom operands result = met-two env operands (λ l i. and-three env (met-within env l Lists) (met-within env i Integers) (met-makes_none _ atom result (met-parts l result)))
  met-library call.Slice atom operands result =
      and-two env (met-part_of Lists operands) (met-one_and_more env operands (λ l bounds. met-makes_list (AtIndexes env l) _ atom result (λ t. met-need env (PartIn l AnyIndex t))))
  met-library call.Reverse atom operands result = met-one env operands (λ l. and-two env (met-within env l Lists) (met-makes_list (AtIndexes env l) _ atom result (λ t. met-need env (PartIn l AnyIndex t))))
  met-library call.MappingLength atom operands result = met-one env operands (λ m. and-two env (met-within env m Mappings) (met-makes_none _ atom result (met-has env result Integers)))
  met-library call.Keys atom operands result = met-one env operands (λ m. and-two env (met-within env m Mappings) (met-makes_list (IsOfKind Strings) _ atom result (λ t. met-need env (Has t Strings))))
  met-library call.HasKey atom operands result = met-two env operands (λ m k. and-three env (met-within env m Mappings) (met-within env k Strings) (met-makes_none _ atom result (met-has env result Booleans)))
  met-library call.Get atom operands result = met-two env operands (λ m k. and-three env (met-within env m Mappings) (met-within env k Strings) (met-makes_none _ atom result (met-members m result)))
  met-library call.RemoveKey atom operands result = met-two env operands (λ m k. and-three env (met-within env m Mappings) (met-within env k Strings) (met-makes_none _ atom result (met-members m result)))
  met-library call.Message atom operands result = met-one env operands (λ e. and-two env (met-within env e Errors) (met-makes_none _ atom result (met-has env result Strings)))
  met-library call.Cause atom operands result = met-one env operands (λ e. and-two env (met-within env e Errors) (met-makes_none _ atom result (met-has env result NilsOrErrors)))
  met-library call.Detail atom operands result = met-one env operands (λ e. and-two env (met-within env e Errors) (met-makes_none _ atom result (met-has env result Details)))
