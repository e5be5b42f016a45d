-- What constructs do with their operands has the points of `map_model`.
use Rattle.std.proofs.Common.{◌≡◌, ◌∙◌, ◌+◌, ◌-◌, ℕ, List, [], ◌∷◌, Bool, true, false, Option, Some, None, drop, length, map, refl, ap}
use Rattle.type_model.specs.declared.basic.BasicSet.TheVariants.{Readonly}
use Rattle.type_model.specs.declared.basic.SemType.{SemType, Basic, Atom}
use Rattle.operations.specs.Rows.{Surroundings}
use Rattle.typed_tree.specs.declared.form.Callee.{Callee}
use Rattle.typed_tree.specs.declared.form.Callee.TheVariants as callee
use Rattle.typed_tree.specs.declared.form.Operator.{Operator}
use Rattle.typed_tree.specs.declared.form.Operator.TheVariants as operator
use Rattle.typed_tree.specs.declared.form.Read.{Read}
use Rattle.typed_tree.specs.declared.form.Read.TheVariants as read
use Rattle.typed_tree.specs.declared.form.StrictForm.{StrictForm}
use Rattle.typed_tree.specs.declared.form.StrictForm.TheVariants as form
use Rattle.typed_tree.specs.declared.unit.Captured.{Captured}
use Rattle.typed_tree.specs.SharedTypes.{Shared, sem_of}
use Rattle.eval_model.specs.Expressions.{narrowed_to}
use Rattle.tree_promises.specs.Types.{Stack}
use Rattle.map_model.specs.Maps.{captured_type, captures_maps, gets_maps, mark, over}
use Rattle.map_model.specs.Points.{PlainTypes, callee_points, form_points, library_points, member_points, operator_points, peer_points, slot_type}
use Rattle.map_traces.specs.Constructs.{Known, callee_traced, captures_loaded, form_traced, known_in, library_traced, loads, member_read, operator_traced, peer_traced, sync_traced}
use Rattle.map_traces.specs.Tracing.{Tracing, takes, turned}
use Rattle.map_traces.proofs.Operands.{at, pushed, pushed-dropped, takes-all, takes-rest, turned-pushed}

pub callee-told : (called : Callee) (ts : Stack) (given : SemType) (w : List SemType) (m : List Stack) → callee_traced called (length ts) given (at (pushed ts w) m) ≡ at (given ∷ w) (over (turned w) (callee_points called ts) m)
callee-told (callee.Unit unit fixed None) ts given w m = takes-all ts given w m (length ts) refl
callee-told (callee.Unit unit fixed (Some atom)) ts given w m = takes-rest ts fixed (Atom atom) given w m
callee-told callee.Value ts given w m = takes-all ts given w m (length ts) refl

pub library-told : (cast : Option Shared) (ts : Stack) (given : SemType) (w : List SemType) (m : List Stack) → library_traced cast (length ts) given (at (pushed ts w) m) ≡ at (given ∷ w) (over (turned w) (library_points cast ts) m)
library-told None ts given w m = takes-all ts given w m (length ts) refl
library-told (Some t) ts given w m = ap (takes 1 given) (takes-all ts (Basic Readonly) w m (length ts) refl)

-- behind a tick
ticked : (ts : Stack) (given : SemType) (w : List SemType) (m : List Stack) → takes (length ts) given (at (pushed ts w) (mark (turned (pushed ts w)) m)) ≡ at (given ∷ w) (over (turned w) (ts ∷ ts ∷ []) m)
ticked ts given w m = λ i. at (given ∷ pushed-dropped ts w (length ts) refl i) (mark (turned-pushed ts w i) (mark (turned-pushed ts w i) m))

-- nothing is done
passed : (ts : Stack) (given : SemType) (w : List SemType) (m : List Stack) → at (given ∷ drop (length ts) (pushed ts w)) m ≡ at (given ∷ w) m
passed ts given w m = λ i. at (given ∷ pushed-dropped ts w (length ts) refl i) m

pub peer-told : (named : Option ℕ) (ts : Stack) (given : SemType) (w : List SemType) (m : List Stack) → peer_traced named (length ts) given (at (pushed ts w) m) ≡ at (given ∷ w) (over (turned w) (peer_points named ts (ts ∷ [])) m)
peer-told (Some worker) ts given w m = ticked ts given w m
peer-told None ts given w m = passed ts given w m

pub sync-told : (named : Option ℕ) (ts : Stack) (given : SemType) (w : List SemType) (m : List Stack) → sync_traced named (length ts) given (at (pushed ts w) m) ≡ at (given ∷ w) (over (turned w) (peer_points named ts (ts ∷ [] ∷ [])) m)
sync-told (Some worker) ts given w m =
    λ i. at (given ∷ pushed-dropped ts w (length ts) refl i) (mark (turned (pushed-dropped ts w (length ts) refl i)) (mark (turned-pushed ts w i) (mark (turned-pushed ts w i) m)))
sync-told None ts given w m = passed ts given w m

module _ (plain : PlainTypes) (place : Surroundings) where
  abbrev known : Known
  known = known_in plain place

  -- ---- slots

  pub loads-told : (slot : ℕ) (narrowed : Bool) (type : Shared) (k : Tracing) →
      loads known slot narrowed (sem_of type) k ≡ at (sem_of type ∷ k.waiting) (gets_maps plain place slot (narrowed_to narrowed type) (turned k.waiting) k.places)
  loads-told slot true type k = refl
  loads-told slot false type k = refl

  pub captures-told : (cs : List Captured) (k : Tracing) → captures_loaded known cs k ≡ at (pushed (map captured_type cs) k.waiting) (captures_maps plain place cs (turned k.waiting) k.places)
  captures-told [] k = refl
  captures-told (c ∷ cs) k =
      ap (captures_loaded known cs) (loads-told c.slot c.narrowed c.ty k)
      ∙ captures-told cs (at (captured_type c ∷ k.waiting) (gets_maps plain place c.slot (narrowed_to c.narrowed c.ty) (turned k.waiting) k.places))

  pub member-told : (how : Read) (own : ℕ) (given : SemType) (w : List SemType) (m : List Stack) →
      member_read known how own given (at w m) ≡ at (given ∷ slot_type place (own + 1) ∷ slot_type place own ∷ w) (over (turned w) (member_points plain place how own) m)
  member-told read.Item own given w m = refl
  member-told read.Key own given w m = refl
  member-told read.Char own given w m = refl
  member-told (read.Field name) own given w m = refl
  member-told (read.OptionalField name) own given w m = refl

  -- ---- operators, and all other constructs

  -- a boolean is given, and then turned round
  twice-told : (ts : Stack) (given : SemType) (w : List SemType) (m : List Stack) → takes 1 given (takes (length ts) plain.boolean (at (pushed ts w) m)) ≡ at (given ∷ w) (over (turned w) (ts ∷ (plain.boolean ∷ []) ∷ []) m)
  twice-told ts given w m = ap (takes 1 given) (takes-all ts plain.boolean w m (length ts) refl)

  pub operator-told : (op : Operator) (ts : Stack) (given : SemType) (w : List SemType) (m : List Stack) → operator_traced known op (length ts) given (at (pushed ts w) m) ≡ at (given ∷ w) (over (turned w) (operator_points plain op ts) m)
  operator-told operator.Negate ts given w m = takes-all ts given w m (length ts) refl
  operator-told operator.Not ts given w m = takes-all ts given w m (length ts) refl
  operator-told operator.Multiply ts given w m = takes-all ts given w m (length ts) refl
  operator-told operator.Divide ts given w m = takes-all ts given w m (length ts) refl
  operator-told operator.Remainder ts given w m = takes-all ts given w m (length ts) refl
  operator-told operator.Add ts given w m = takes-all ts given w m (length ts) refl
  operator-told operator.Concat ts given w m = takes-all ts given w m (length ts) refl
  operator-told operator.Subtract ts given w m = takes-all ts given w m (length ts) refl
  operator-told operator.Less ts given w m = takes-all ts given w m (length ts) refl
  operator-told operator.LessEqual ts given w m = takes-all ts given w m (length ts) refl
  operator-told operator.Greater ts given w m = twice-told ts given w m
  operator-told operator.GreaterEqual ts given w m = twice-told ts given w m
  operator-told operator.Equal ts given w m = takes-all ts given w m (length ts) refl
  operator-told operator.NotEqual ts given w m = twice-told ts given w m
  operator-told operator.Same ts given w m = takes-all ts given w m (length ts) refl
  operator-told operator.NotSame ts given w m = twice-told ts given w m

  pub form-told : (f : StrictForm) (ts : Stack) (given : SemType) (w : List SemType) (m : List Stack) → form_traced known f (length ts) given (at (pushed ts w) m) ≡ at (given ∷ w) (over (turned w) (form_points plain f ts) m)
  form-told (form.Literal c) ts given w m = takes-all ts given w m (length ts) refl
  form-told (form.Constant c) ts given w m = takes-all ts given w m (length ts) refl
  form-told (form.Variable v) ts given w m = takes-all ts given w m (length ts) refl
  form-told (form.FunctionName unit) ts given w m = takes-all ts given w m (length ts) refl
  form-told (form.Operator op) ts given w m = operator-told op ts given w m
  form-told (form.Is t) ts given w m = takes-all ts given w m (length ts) refl
  form-told (form.Cast t) ts given w m = takes-all ts given w m (length ts) refl
  form-told (form.List atom immutable) ts given w m = takes-all ts given w m (length ts) refl
  form-told (form.Mapping atom immutable) ts given w m = takes-all ts given w m (length ts) refl
  form-told form.Error ts given w m = takes-all ts given w m (length ts) refl
  form-told (form.Read how) ts given w m = takes-all ts given w m (length ts) refl
  form-told (form.Call called) ts given w m = callee-told called ts given w m
  form-told (form.Library call atom cast) ts given w m = library-told cast ts given w m
  form-told (form.Start started) ts given w m = callee-told started ts given w m
  form-told (form.Send named) ts given w m = peer-told named ts given w m
  form-told (form.SyncSend named) ts given w m = sync-told named ts given w m
  form-told (form.Receive named) ts given w m = peer-told named ts given w m
  form-told (form.Flush named) ts given w m = peer-told named ts given w m
  form-told (form.WaitAny names) ts given w m = ticked ts given w m
  form-told (form.WaitAll atom names) ts given w m = ticked ts given w m
