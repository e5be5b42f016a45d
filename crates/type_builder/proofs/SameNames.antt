-- Names that stand for the same types: all is read the same over them.
use Rattle.std.proofs.Common.{◌≡◌, ℕ, List, [], ◌∷◌, ◌++◌, map, Option, None, Some, refl, ap}
use Rattle.bal_base.specs.declared.place.Place.{Place}
use Rattle.bal_tree.specs.declared.def.ConstDef.{ConstDef}
use Rattle.bal_tree.specs.declared.def.Def.{Def}
use Rattle.bal_tree.specs.declared.def.Def.TheVariants.{«Type» as TypeOf, Const, Variable as VariableOf, Function as FunctionOf}
use Rattle.bal_tree.specs.declared.def.FunctionDef.{FunctionDef}
use Rattle.bal_tree.specs.declared.name.QualifiedName.{QualifiedName}
use Rattle.bal_tree.specs.declared.types.BuiltinType.TheVariants.{AnyData as AnyDataWord}
use Rattle.type_model.specs.declared.atoms.AtomDef.{AtomDef}
use Rattle.type_model.specs.declared.atoms.AtomDef.TheVariants.{Error as ErrorAtom, Future as FutureAtom}
use Rattle.type_model.specs.declared.atoms.FieldDef.{FieldDef}
use Rattle.type_model.specs.declared.basic.SemType.{Basic}
use Rattle.type_model.specs.declared.basic.Ty.{Ty}
use Rattle.checks.specs.Checks.{Check, gives, ◌▷◌}
use Rattle.descriptors.specs.declared.names.Meaning.TheVariants.{TypeName, Constant, Variable, Function}
use Rattle.descriptors.specs.declared.names.Names.{Names}
use Rattle.descriptors.specs.declared.names.Scope.{Scope}
use Rattle.descriptors.specs.Descriptors.{Descriptor, builtin, value, named, optional, union, intersection, array, repeated, tuple, map_of, closed_record, open_record, any_error, error_with, any_function, function_from, future_of, Descriptors, no_more, then_more, FieldDescriptors, no_field, then_field, MaybeDescriptor, absent, present, descriptor_if, descriptor_of, in_a_row, is_readonly}
use Rattle.descriptors.specs.Described.{Atoms, AreCopies, IsBuiltin, IsIntersection, IsOptional, IsUnion, all_by, arrow_by, count_of, described_by, fields_by, gives_named, if_by, list_by, mapping_by, names_of, new_field, params_of, plain, plain_by, result_by, value_set}
use Rattle.descriptors.specs.Naming.{type_named}
use Rattle.name_resolution.specs.Definitions.{Placed, is_public, scope_at}
use Rattle.type_builder.specs.Meanings.{constant_by, earlier_with, entries_by, entry_by, kept_by, meaning_by, param_descriptor, rest_descriptor, signature_by, signed_by}
use Rattle.type_builder.specs.declared.earlier.Earlier.{Earlier}

module _ {S : Type 0} (atom : AtomDef → Place → Check S ℕ) (some : (A : Type 0) → (Atoms → A → Type 0) → Check S A) (names others : Names) where
  module _ (scope : Scope) (alike : (name : QualifiedName) → type_named names scope name ≡ type_named others scope name) where
    mutual
      pub described-same : (d : Descriptor) → described_by atom some names scope d ≡ described_by atom some others scope d
      described-same (builtin b) = refl
      described-same (value v) = refl
      described-same (named name) = ap (λ r. gives_named r name.at) (alike name)
      described-same (optional of) = λ i. described-same of i ▷ λ t. some Ty (IsOptional t)
      described-same (union left right) = λ i. described-same left i ▷ λ s. described-same right i ▷ λ t. some Ty (IsUnion s t)
      described-same (intersection left right) = λ i. described-same left i ▷ λ s. described-same right i ▷ λ t. some Ty (IsIntersection (is_readonly right) s t)
      described-same (array member at) = λ i. described-same member i ▷ λ t. list_by atom [] (Some t) at
      described-same (repeated member n at) = λ i. described-same member i ▷ λ t. some (List Ty) (AreCopies (count_of n) t) ▷ λ copies. list_by atom copies None at
      described-same (tuple members rest at) = λ i. all-same [] members i ▷ λ fixed. if-same rest i ▷ λ r. list_by atom fixed r at
      described-same (map_of member at) = λ i. described-same member i ▷ λ t. mapping_by atom [] (Some t) at
      described-same (closed_record fields rest at) = λ i. fields-same [] fields i ▷ λ fs. if-same rest i ▷ λ r. mapping_by atom fs r at
      described-same (open_record fields at) = λ i. fields-same [] fields i ▷ λ fs. some Ty (IsBuiltin AnyDataWord) ▷ λ r. mapping_by atom fs (Some r) at
      described-same any_error = refl
      described-same (error_with detail at) = λ i. described-same detail i ▷ λ t. plain_by atom (ErrorAtom t.sem) at
      described-same (any_function isolated) = refl
      described-same (function_from isolated params rest result at) =
          λ i. (all-same [] params i ▷ λ fixed. if-same rest i ▷ λ r. gives (params_of fixed r)) ▷ λ ps. result-same result i ▷ λ out. arrow_by atom isolated ps.0 ps.1 out.sem at
      described-same (future_of result at) = λ i. described-same result i ▷ λ t. plain_by atom (FutureAtom t.sem) at

      pub all-same : (done : List Ty) (ds : Descriptors) → all_by atom some names scope done ds ≡ all_by atom some others scope done ds
      all-same done no_more = refl
      all-same done (then_more d ds) = λ i. described-same d i ▷ λ t. all-same (done ++ t ∷ []) ds i

      pub fields-same : (done : List FieldDef) (fs : FieldDescriptors) → fields_by atom some names scope done fs ≡ fields_by atom some others scope done fs
      fields-same done no_field = refl
      fields-same done (then_field name may_lack d fs) =
          λ i. (described-same d i ▷ λ t. new_field (names_of done) name may_lack t) ▷ λ field. fields-same (done ++ field ∷ []) fs i

      pub if-same : (m : MaybeDescriptor) → if_by atom some names scope m ≡ if_by atom some others scope m
      if-same absent = refl
      if-same (present d) = λ i. described-same d i ▷ λ t. gives (Some t)

      pub result-same : (m : MaybeDescriptor) → result_by atom some names scope m ≡ result_by atom some others scope m
      result-same absent = refl
      result-same (present d) = described-same d

    -- ---- definitions

    -- of a function's own type no names are told
    signed-same : (unit : ℕ) (d : FunctionDef) (fixed : List Ty) (rest : Option Ty) (result : Ty) → signed_by atom some names scope unit d fixed rest result ≡ signed_by atom some others scope unit d fixed rest result
    signed-same unit d fixed rest result = refl

    pub signature-same : (unit : ℕ) (d : FunctionDef) → signature_by atom some names scope unit d ≡ signature_by atom some others scope unit d
    signature-same unit d =
        λ i. all-same [] (in_a_row (map param_descriptor d.params.params.items)) i ▷ λ fixed. if-same (rest_descriptor d.params.rest) i ▷ λ rest.
        result-same (descriptor_if d.result) i ▷ λ result. signed_by atom some names scope unit d fixed rest result

    pub constant-same : (d : ConstDef) → constant_by atom some names scope d ≡ constant_by atom some others scope d
    constant-same d = λ i. if-same (descriptor_if d.ty) i ▷ λ declared. gives (Constant (plain (Basic (value_set d.value))))

    pub meaning-same : (unit : Earlier) (def : Def) → meaning_by atom some names scope unit def ≡ meaning_by atom some others scope unit def
    meaning-same unit (TypeOf d) = λ i. described-same (descriptor_of d.ty.value) i ▷ λ t. kept_by atom some names t ▷ λ u. gives (TypeName u)
    meaning-same unit (Const d) = constant-same d
    meaning-same unit (VariableOf d) = λ i. described-same (descriptor_of d.ty.value) i ▷ λ t. kept_by atom some names t ▷ λ u. gives (Variable unit.variables d.is_final u)
    meaning-same unit (FunctionOf d) = λ i. signature-same unit.functions d i ▷ λ s. gives (Function s)

  module _ (alike : (q : Placed) (name : QualifiedName) → type_named names (scope_at q) name ≡ type_named others (scope_at q) name) where
    pub entry-same : (unit : Earlier) (p : Placed) → entry_by atom some names unit p ≡ entry_by atom some others unit p
    entry-same unit p = λ i. meaning-same (scope_at p) (alike p) unit p.def i ▷ λ m. gives (record { public = is_public p.def; meaning = m })

    pub entries-same : (unit : Earlier) (ps : List Placed) → entries_by atom some names unit ps ≡ entries_by atom some others unit ps
    entries-same unit [] = refl
    entries-same unit (p ∷ ps) = λ i. entry-same unit p i ▷ λ e. entries-same (earlier_with unit p.def) ps i ▷ λ es. gives (e ∷ es)
