-- What needs of members ask of types before anything changes: the fronts of their checks, and what these give.
use Rattle.std.specs.Prelude.{◌≡◌, ℕ, Bool, List, [], ◌∷◌}
use Rattle.bal_base.specs.declared.place.Place.{Place}
use Rattle.bal_base.specs.declared.text.Text.{Text}
use Rattle.bal_tree.specs.declared.stmt.AssignOp.{AssignOp}
use Rattle.checks.specs.Checks.{Check, either, gives, ◌▷◌}
use Rattle.descriptors.specs.Described.{plain}
use Rattle.operations.specs.declared.operation.Constant.TheVariants as constant
use Rattle.operations.specs.Kinds.{IsNil}
use Rattle.type_model.specs.declared.answers.Keys.{Keys}
use Rattle.type_model.specs.declared.answers.TypeLimit.{TypeLimit}
use Rattle.type_model.specs.declared.atoms.AtomDef.{AtomDef}
use Rattle.type_model.specs.declared.basic.SemType.{SemType}
use Rattle.type_model.specs.declared.basic.Ty.{Ty}
use Rattle.type_model.specs.Calls.{Asked}
use Rattle.typed_tree.specs.declared.expr.TypedExpr.{TypedExpr}
use Rattle.typed_tree.specs.declared.form.Operator.{Operator}
use Rattle.typed_tree.specs.declared.form.Read.{Read}
use Rattle.typed_tree.specs.declared.form.Read.TheVariants as read
use Rattle.typed_tree.specs.Exprs.{type_of}
use Rattle.typed_tree.specs.SharedTypes.{Shared, sem_of}
use Rattle.typed_tree.specs.Views.{IsImplied}
use Rattle.expr_needs.specs.declared.kind.Kind.TheVariants as kind
use Rattle.check_words.specs.declared.access.Access.{Access}
use Rattle.check_words.specs.declared.access.Access.TheVariants.{Char, Item, Key}
use Rattle.check_words.specs.Members.{IsStored, field_type, member_at, names_members, read_of, some_member_at, takes_access}
use Rattle.check_words.specs.Stands.{SharedBelow}
use Rattle.check_words.specs.State.{AreLast, State}
use Rattle.check_words.specs.Statements.{operand_kind, operand_sort, takes_operator, updates_member}
use Rattle.check_words.specs.Values.{SingleOf}
use Rattle.check_words.specs.Words.{Atoms, EitherOf, OfKind, Step, asking, done, is_within, sem, some_over, takes}

-- the type of the last part but one, and that of the last part as a set of shapes
pub record AreSides (found : List TypedExpr) (container : Ty) (key : SemType) : Type 0 where
  pub first : TypedExpr
  pub second : TypedExpr
  pub last : AreLast found 2 (first ∷ second ∷ [])
  pub container_is : container ≡ (type_of first).value
  pub key_is : key ≡ sem second

-- the part stands for the key
abbrev pub IsKey : Text → Place → TypedExpr → Type 0
IsKey text at e = (t : Shared) × ((env : Atoms) → SingleOf (constant.Str text) env t.value) × ((n : ℕ) → SharedBelow n t) × IsImplied (constant.Str text) t at e

-- what stands behind the question of an assignment with an operator, where a type was read: the last three parts become one that reads so
abbrev pub updates_parts : Read → Shared → Operator → Place → Step
updates_parts how read_type op at = takes 3 ▷ λ parts. updates_member how read_type op parts at

abbrev pub updates_by : AssignOp → Shared → Place → Step
updates_by assign read_type at = takes_operator assign ▷ λ op. takes_access ▷ λ a. updates_parts (read_of a) read_type op at

abbrev pub updates_by_field : Text → AssignOp → Shared → Place → Step
updates_by_field name assign read_type at = takes_operator assign ▷ λ op. takes_access ▷ λ a. updates_parts (read.Field name) read_type op at

-- a type without choices, with these shapes, and with nil
abbrev pub gives_plain : SemType → Check State Shared
gives_plain m = some_over (λ env (t : Shared). t.value ≡ plain m)

abbrev pub gives_optional : SemType → Check State Shared
gives_optional m = some_over (λ env (t : Shared). EitherOf m IsNil env t.value)

module _ (passes : List AtomDef → Asked → TypeLimit → Type 0) where
  -- the type of an item: where there has to be one, and where there may be none
  abbrev pub some_item_at : SemType → Keys → Place → Check State Shared
  some_item_at list keys at = some_member_at passes list keys at ▷ λ m. gives_plain m

  abbrev pub item_at : SemType → Keys → Place → Check State Shared
  item_at list keys at = member_at passes list keys at ▷ λ m. gives_plain m

  -- and that of a member of a mapping
  abbrev pub key_at : SemType → Keys → Place → Check State Shared
  key_at mapping keys at = member_at passes mapping keys at ▷ λ m. gives_optional m

  -- what is read of a container by an index or a key
  abbrev pub read_type : Access → SemType → SemType → Place → Check State Shared
  read_type Char container key at = some_over (λ env (t : Shared). OfKind kind.Text env t.value)
  read_type Item container key at = asking (names_members passes Item key at) ▷ λ keys. some_item_at container keys at
  read_type Key container key at = asking (names_members passes Key key at) ▷ λ keys. key_at container keys at

  -- what is read of it by a field, where each value has it, and where there is a value that has it
  abbrev pub field_read : Text → SemType → Place → Check State Shared
  field_read name container at = field_type passes name container at ▷ λ m. gives_plain m

  abbrev pub optional_read : SemType → Keys → Place → Check State Shared
  optional_read container keys at = some_member_at passes container keys at ▷ λ m. gives_optional m

  -- what may be stored at these keys, and at those that a key names
  abbrev pub stored_at : Ty → Keys → Place → Check State Shared
  stored_at container keys at = some_member_at passes container.sem keys at ▷ λ m. some_over (λ env (t : Shared). IsStored container keys m env t.value)

  abbrev pub stored_by : Access → Ty → SemType → Place → Check State Shared
  stored_by a container key at = asking (names_members passes a key at) ▷ λ keys. stored_at container keys at

  -- on what an assignment with an operator works, where what was read has this type
  abbrev pub sort_of : AssignOp → Shared → Place → Check State Bool
  sort_of assign t at = is_within passes (OfKind (operand_kind passes assign)) (sem_of t) at ▷ λ u. operand_sort passes assign t at

  -- `+` works on ints where this is so, and else on strings
  abbrev pub sum_of : Bool → Shared → Place → Check State Bool
  sum_of ints t at = either ints done (is_within passes (OfKind kind.Text) (sem_of t) at) ▷ λ u. gives ints
