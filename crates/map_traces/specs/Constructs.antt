-- What the operations of constructs do with the operands: how many each takes, and of which type is what it gives.
use Rattle.std.specs.Prelude.{◌+◌, ◌-◌, ℕ, Bool, true, false, List, Option, Some, None, map, slice_get}
use Rattle.type_model.specs.declared.basic.BasicSet.TheVariants.{Readonly}
use Rattle.type_model.specs.declared.basic.SemType.{SemType, Basic, Atom}
use Rattle.operations.specs.Rows.{Surroundings}
use Rattle.typed_tree.specs.declared.form.Callee.{Callee}
use Rattle.typed_tree.specs.declared.form.Callee.TheVariants as callee
use Rattle.typed_tree.specs.declared.form.Operator.{Operator}
use Rattle.typed_tree.specs.declared.form.Operator.TheVariants as operator
use Rattle.typed_tree.specs.declared.form.Read.{Read}
use Rattle.typed_tree.specs.declared.form.Read.TheVariants as read
use Rattle.typed_tree.specs.declared.form.StrictForm.{StrictForm}
use Rattle.typed_tree.specs.declared.form.StrictForm.TheVariants as form
use Rattle.typed_tree.specs.declared.unit.Captured.{Captured}
use Rattle.typed_tree.specs.SharedTypes.{Shared, sem_of}
use Rattle.map_model.specs.Points.{PlainTypes, held}
use Rattle.map_traces.specs.Tracing.{Tracing, drops, gives, in_turn, leaves, place, push, takes}

-- the types that are known without looking at the tree: plain ones, and those of slots and module variables
pub record Known : Type 0 where
  pub plain : PlainTypes
  pub slots : List SemType
  pub variables : List SemType

-- those of this place
abbrev pub known_in : PlainTypes → Surroundings → Known
known_in plain place = record { plain = plain; slots = place.slots; variables = place.variables }

-- ---- constructs over so many operands that leave this type

-- the arguments behind the fixed ones become a list, where the unit takes a rest
abbrev pub callee_traced : Callee → ℕ → SemType → Tracing → Tracing
callee_traced (callee.Unit unit fixed None) n given s = takes n given s
callee_traced (callee.Unit unit fixed (Some atom)) n given s = takes ((n - (n - fixed)) + 1) given (takes (n - fixed) (Atom atom) s)
callee_traced callee.Value n given s = takes n given s

abbrev pub library_traced : Option Shared → ℕ → SemType → Tracing → Tracing
library_traced None n given s = takes n given s
library_traced (Some t) n given s = takes 1 given (takes n (Basic Readonly) s)

-- behind a tick; where no worker is named nothing is done
abbrev pub peer_traced : Option ℕ → ℕ → SemType → Tracing → Tracing
peer_traced (Some worker) n given s = takes n given (place s)
peer_traced None n given s = push given (drops n s)

-- the message is posted, and then waited for
abbrev pub sync_traced : Option ℕ → ℕ → SemType → Tracing → Tracing
sync_traced (Some worker) n given s = gives given (drops n (place (place s)))
sync_traced None n given s = push given (drops n s)

module _ (known : Known) where
  abbrev pub slot_known : ℕ → SemType
  slot_known slot = held (slice_get known.slots slot)

  abbrev pub variable_known : ℕ → SemType
  variable_known m = held (slice_get known.variables m)

  -- a slot is loaded, which here gives this type, by a cast or without
  abbrev pub loads : ℕ → Bool → SemType → Tracing → Tracing
  loads slot false given s = gives given s
  loads slot true given s = takes 1 given (gives (slot_known slot) s)

  abbrev pub captured_loaded : Captured → Tracing → Tracing
  captured_loaded c = loads c.slot c.narrowed (sem_of c.ty)

  abbrev pub captures_loaded : List Captured → Tracing → Tracing
  captures_loaded cs = in_turn (map captured_loaded cs)

  -- the int in the slot is one more
  abbrev pub raised : ℕ → Tracing → Tracing
  raised slot s = leaves (takes 2 known.plain.int (gives known.plain.int (gives (slot_known slot) s)))

  -- a value is kept in a slot, and tested
  abbrev pub tested : ℕ → Tracing → Tracing
  tested own s = takes 1 known.plain.boolean (gives (slot_known own) (leaves s))

  -- ---- constructs with operators, and all others

  abbrev pub operator_traced : Operator → ℕ → SemType → Tracing → Tracing
  operator_traced operator.Negate n given s = takes n given s
  operator_traced operator.Not n given s = takes n given s
  operator_traced operator.Multiply n given s = takes n given s
  operator_traced operator.Divide n given s = takes n given s
  operator_traced operator.Remainder n given s = takes n given s
  operator_traced operator.Add n given s = takes n given s
  operator_traced operator.Concat n given s = takes n given s
  operator_traced operator.Subtract n given s = takes n given s
  operator_traced operator.Less n given s = takes n given s
  operator_traced operator.LessEqual n given s = takes n given s
  operator_traced operator.Greater n given s = takes 1 given (takes n known.plain.boolean s)
  operator_traced operator.GreaterEqual n given s = takes 1 given (takes n known.plain.boolean s)
  operator_traced operator.Equal n given s = takes n given s
  operator_traced operator.NotEqual n given s = takes 1 given (takes n known.plain.boolean s)
  operator_traced operator.Same n given s = takes n given s
  operator_traced operator.NotSame n given s = takes 1 given (takes n known.plain.boolean s)

  abbrev pub form_traced : StrictForm → ℕ → SemType → Tracing → Tracing
  form_traced (form.Literal c) n given s = takes n given s
  form_traced (form.Constant c) n given s = takes n given s
  form_traced (form.Variable m) n given s = takes n given s
  form_traced (form.FunctionName unit) n given s = takes n given s
  form_traced (form.Operator op) n given s = operator_traced op n given s
  form_traced (form.Is t) n given s = takes n given s
  form_traced (form.Cast t) n given s = takes n given s
  form_traced (form.List atom immutable) n given s = takes n given s
  form_traced (form.Mapping atom immutable) n given s = takes n given s
  form_traced form.Error n given s = takes n given s
  form_traced (form.Read how) n given s = takes n given s
  form_traced (form.Call called) n given s = callee_traced called n given s
  form_traced (form.Library call atom cast) n given s = library_traced cast n given s
  form_traced (form.Start started) n given s = callee_traced started n given s
  form_traced (form.Send peer) n given s = peer_traced peer n given s
  form_traced (form.SyncSend peer) n given s = sync_traced peer n given s
  form_traced (form.Receive peer) n given s = peer_traced peer n given s
  form_traced (form.Flush peer) n given s = peer_traced peer n given s
  form_traced (form.WaitAny names) n given s = takes n given (place s)
  form_traced (form.WaitAll atom names) n given s = takes n given (place s)

  -- ---- members

  -- the container and the key that are kept in slots are loaded, and once more to read the member
  abbrev pub keyed_read : ℕ → SemType → Tracing → Tracing
  keyed_read own given s =
      let container = slot_known own in
      let key = slot_known (own + 1) in
      takes 2 given (gives key (gives container (gives key (gives container s))))

  -- a field needs no key
  abbrev pub field_read : ℕ → SemType → Tracing → Tracing
  field_read own given s =
      let container = slot_known own in
      let key = slot_known (own + 1) in
      takes 1 given (gives container (gives key (gives container s)))

  abbrev pub member_read : Read → ℕ → SemType → Tracing → Tracing
  member_read read.Item own given s = keyed_read own given s
  member_read read.Key own given s = keyed_read own given s
  member_read read.Char own given s = keyed_read own given s
  member_read (read.Field name) own given s = field_read own given s
  member_read (read.OptionalField name) own given s = field_read own given s
