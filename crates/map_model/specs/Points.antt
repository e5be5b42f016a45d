-- What stands at each operation of a construct, above the operands that wait below: what the construct was given, and what its earlier
-- operations gave. What the last one gives is the type of the construct.
use Rattle.std.specs.Prelude.{◌++◌, ◌+◌, ℕ, List, [], ◌∷◌, Option, Some, None, slice_get, take}
use Rattle.type_model.specs.declared.basic.BasicSet.TheVariants.{Never, Readonly}
use Rattle.type_model.specs.declared.basic.SemType.{SemType, Basic, Atom}
use Rattle.operations.specs.Rows.{Surroundings}
use Rattle.typed_tree.specs.declared.form.Callee.{Callee}
use Rattle.typed_tree.specs.declared.form.Callee.TheVariants as callee
use Rattle.typed_tree.specs.declared.form.Operator.{Operator}
use Rattle.typed_tree.specs.declared.form.Operator.TheVariants as operator
use Rattle.typed_tree.specs.declared.form.Read.{Read}
use Rattle.typed_tree.specs.declared.form.Read.TheVariants as read
use Rattle.typed_tree.specs.declared.form.StrictForm.{StrictForm}
use Rattle.typed_tree.specs.declared.form.StrictForm.TheVariants as form
use Rattle.typed_tree.specs.SharedTypes.{Shared}
use Rattle.tree_promises.specs.Types.{Stack}

-- the types that operations give and no tree names, as the code writes them
pub record PlainTypes : Type 0 where
  pub boolean : SemType
  pub int : SemType
  pub string : SemType

abbrev pub held : Option SemType → SemType
held (Some t) = t
held None = Basic Never

module _ (place : Surroundings) where
  abbrev pub slot_type : ℕ → SemType
  slot_type slot = held (slice_get place.slots slot)

  abbrev pub variable_type : ℕ → SemType
  variable_type m = held (slice_get place.variables m)

-- ---- strict forms, over the types of their operands

-- the arguments behind the fixed ones become a list, where the unit takes a rest
abbrev pub rest_points : ℕ → Option ℕ → Stack → List Stack
rest_points fixed None ts = ts ∷ []
rest_points fixed (Some atom) ts = ts ∷ (take fixed ts ++ Atom atom ∷ []) ∷ []

abbrev pub callee_points : Callee → Stack → List Stack
callee_points (callee.Unit unit fixed rest) ts = rest_points fixed rest ts
callee_points callee.Value ts = ts ∷ []

-- what can't change is given, and then cast to the type of what is copied
abbrev pub library_points : Option Shared → Stack → List Stack
library_points None ts = ts ∷ []
library_points (Some t) ts = ts ∷ (Basic Readonly ∷ []) ∷ []

-- behind the tick; where no worker is named nothing is done
abbrev pub peer_points : Option ℕ → Stack → List Stack → List Stack
peer_points (Some worker) ts points = ts ∷ points
peer_points None ts points = []

module _ (plain : PlainTypes) where
  abbrev pub operator_points : Operator → Stack → List Stack
  operator_points operator.Negate ts = ts ∷ []
  operator_points operator.Not ts = ts ∷ []
  operator_points operator.Multiply ts = ts ∷ []
  operator_points operator.Divide ts = ts ∷ []
  operator_points operator.Remainder ts = ts ∷ []
  operator_points operator.Add ts = ts ∷ []
  operator_points operator.Concat ts = ts ∷ []
  operator_points operator.Subtract ts = ts ∷ []
  operator_points operator.Less ts = ts ∷ []
  operator_points operator.LessEqual ts = ts ∷ []
  operator_points operator.Greater ts = ts ∷ (plain.boolean ∷ []) ∷ []
  operator_points operator.GreaterEqual ts = ts ∷ (plain.boolean ∷ []) ∷ []
  operator_points operator.Equal ts = ts ∷ []
  operator_points operator.NotEqual ts = ts ∷ (plain.boolean ∷ []) ∷ []
  operator_points operator.Same ts = ts ∷ []
  operator_points operator.NotSame ts = ts ∷ (plain.boolean ∷ []) ∷ []

  -- what it gives in an assignment, where the tree names no type
  abbrev pub operator_type : Operator → SemType
  operator_type operator.Negate = plain.int
  operator_type operator.Not = plain.boolean
  operator_type operator.Multiply = plain.int
  operator_type operator.Divide = plain.int
  operator_type operator.Remainder = plain.int
  operator_type operator.Add = plain.int
  operator_type operator.Concat = plain.string
  operator_type operator.Subtract = plain.int
  operator_type operator.Less = plain.boolean
  operator_type operator.LessEqual = plain.boolean
  operator_type operator.Greater = plain.boolean
  operator_type operator.GreaterEqual = plain.boolean
  operator_type operator.Equal = plain.boolean
  operator_type operator.NotEqual = plain.boolean
  operator_type operator.Same = plain.boolean
  operator_type operator.NotSame = plain.boolean

  abbrev pub form_points : StrictForm → Stack → List Stack
  form_points (form.Literal c) ts = ts ∷ []
  form_points (form.Constant c) ts = ts ∷ []
  form_points (form.Variable m) ts = ts ∷ []
  form_points (form.FunctionName unit) ts = ts ∷ []
  form_points (form.Operator op) ts = operator_points op ts
  form_points (form.Is t) ts = ts ∷ []
  form_points (form.Cast t) ts = ts ∷ []
  form_points (form.List atom immutable) ts = ts ∷ []
  form_points (form.Mapping atom immutable) ts = ts ∷ []
  form_points form.Error ts = ts ∷ []
  form_points (form.Read how) ts = ts ∷ []
  form_points (form.Call called) ts = callee_points called ts
  form_points (form.Library call atom cast) ts = library_points cast ts
  form_points (form.Start started) ts = callee_points started ts
  form_points (form.Send peer) ts = peer_points peer ts (ts ∷ [])
  form_points (form.SyncSend peer) ts = peer_points peer ts (ts ∷ [] ∷ [])
  form_points (form.Receive peer) ts = peer_points peer ts (ts ∷ [])
  form_points (form.Flush peer) ts = peer_points peer ts (ts ∷ [])
  form_points (form.WaitAny names) ts = ts ∷ ts ∷ []
  form_points (form.WaitAll atom names) ts = ts ∷ ts ∷ []

  -- ---- slots

  module _ (place : Surroundings) where
    -- a value is kept in a slot, and tested
    abbrev pub tested_points : ℕ → SemType → List Stack
    tested_points own t = (t ∷ []) ∷ [] ∷ (slot_type place own ∷ []) ∷ []

    -- the int in the slot is one more
    abbrev pub raise_points : ℕ → List Stack
    raise_points slot = [] ∷ (slot_type place slot ∷ []) ∷ (slot_type place slot ∷ plain.int ∷ []) ∷ (plain.int ∷ []) ∷ []

    -- a container and a key are loaded, and then again to read the member, above the two
    abbrev pub keyed_points : ℕ → List Stack
    keyed_points own =
        let container = slot_type place own in
        let key = slot_type place (own + 1) in
        [] ∷ (container ∷ []) ∷ (container ∷ key ∷ []) ∷ (container ∷ key ∷ container ∷ []) ∷ (container ∷ key ∷ container ∷ key ∷ []) ∷ []

    abbrev pub field_points : ℕ → List Stack
    field_points own =
        let container = slot_type place own in
        let key = slot_type place (own + 1) in
        [] ∷ (container ∷ []) ∷ (container ∷ key ∷ []) ∷ (container ∷ key ∷ container ∷ []) ∷ []

    abbrev pub member_points : Read → ℕ → List Stack
    member_points read.Item own = keyed_points own
    member_points read.Key own = keyed_points own
    member_points read.Char own = keyed_points own
    member_points (read.Field name) own = field_points own
    member_points (read.OptionalField name) own = field_points own
