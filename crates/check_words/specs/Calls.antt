-- What it means that the needs of calls and of anonymous functions are met (Ballerina specification, "Function call expression", "Method
-- call expression", "Anonymous function expression", "Start action").
use Rattle.std.specs.Prelude.{◌≡◌, ◌⊎◌, ◌&&◌, ◌||◌, ◌++◌, ◌+◌, ℕ, suc, Bool, true, false, List, [], ◌∷◌, fold, length, map, option_map, Option, Some, None, is_some, nat_le, slice_get, take, ⊤, if◌then◌else◌}
use Rattle.std.specs.List.{AllZip, list_any}
use Rattle.bal_base.specs.declared.fault.FaultCode.TheVariants.{Arity, Duplicate, NameAsValue, NoField, Unknown}
use Rattle.bal_base.specs.declared.place.Place.{Place}
use Rattle.bal_base.specs.declared.text.Name.{Name}
use Rattle.bal_tree.specs.declared.name.QualifiedName.{QualifiedName}
use Rattle.bal_tree.specs.declared.name.Word.{Word}
use Rattle.checks.specs.Checks.{Check, either, gives, gives_some, ◌▷◌}
use Rattle.checks.specs.Questions.{adds, applied}
use Rattle.descriptors.specs.declared.names.Meaning.{Meaning}
use Rattle.descriptors.specs.declared.names.Meaning.TheVariants as meaning
use Rattle.descriptors.specs.declared.names.Names.{Names}
use Rattle.descriptors.specs.declared.names.Signature.{Signature}
use Rattle.descriptors.specs.Described.{IsCopy, IsPlain, list_of, plain}
use Rattle.operations.specs.declared.library.LibraryCall.{LibraryCall}
use Rattle.operations.specs.declared.library.LibraryCall.TheVariants.{Println, Print, Readln, FromString, Abs, ToString, Clone, CloneReadOnly, StringLength, StartsWith, Trim, Substring, ToUpperAscii, ToLowerAscii, ToCodePointInts, ListLength, Push, Pop, RemoveItem, Slice, Reverse, MappingLength, Keys, HasKey, Get, RemoveKey, Message, Cause, Detail}
use Rattle.operations.specs.Kinds.{IsDetail, IsError, IsInteger, IsReadonly}
use Rattle.type_model.specs.declared.answers.Keys.TheVariants.{AnyIndex, AnyField}
use Rattle.type_model.specs.declared.answers.TypeLimit.{TypeLimit}
use Rattle.type_model.specs.declared.atoms.AtomDef.{AtomDef}
use Rattle.type_model.specs.declared.atoms.AtomDef.TheVariants.{List as ListAtom, Arrow, Future as FutureAtom}
use Rattle.type_model.specs.declared.basic.SemType.{SemType, Atom}
use Rattle.type_model.specs.declared.basic.Ty.{Ty}
use Rattle.type_model.specs.Calls.{Asked}
use Rattle.type_model.specs.Defined.{TyBelow}
use Rattle.type_model.specs.Places.{is_same_text}
use Rattle.type_model.specs.SameType.{IsSameType}
use Rattle.typed_tree.specs.declared.expr.TypedExpr.{TypedExpr}
use Rattle.typed_tree.specs.declared.form.Callee.{Callee}
use Rattle.typed_tree.specs.declared.form.Callee.TheVariants as callee
use Rattle.typed_tree.specs.declared.form.StrictForm.{StrictForm}
use Rattle.typed_tree.specs.declared.form.StrictForm.TheVariants as form
use Rattle.typed_tree.specs.declared.unit.Captured.{Captured}
use Rattle.typed_tree.specs.declared.unit.TypedUnit.{TypedUnit}
use Rattle.typed_tree.specs.Exprs.{type_of}
use Rattle.typed_tree.specs.SharedTypes.{Shared, sem_of}
use Rattle.typed_tree.specs.Views.{IsFunctionOf}
use Rattle.expr_needs.specs.declared.kind.Kind.TheVariants as kind
use Rattle.check_words.specs.Library.{LibraryRow, Takes, argument_of, methods_named, takes_so_many}
use Rattle.check_words.specs.Members.{IsStored, member_at}
use Rattle.check_words.specs.Seen.{Seen, SeenVariable, SeenWorker, SeenConstant, SeenLibrary, SeenMeaning, SeenNothing, looks_up}
use Rattle.flow_narrowing.specs.declared.flow.Variable.{Variable}
use Rattle.check_words.specs.Sharing.{SameShared, SameUnit}
use Rattle.check_words.specs.State.{CallAtWork, Called, IsLast, OfFunction, OfLibrary, OfValue, State, UnitAtWork, all_but, find_variable, shared_now, with_variable}
use Rattle.check_words.specs.Values.{gives_seen}
use Rattle.check_words.specs.Words.{Atoms, OfKind, PartOf, Step, asking, becomes, below_if, by_handles, closes_call, done, fails, is_of, last_call, last_part, last_parts, last_want, makes, makes_strict, makes_typed, opens_call, sem, sets_call, sets_unit, some_over, takes, unit_now, unless, wanted, wants, wants_no_more, wants_some, whether_within}

-- ---- what is called

abbrev pub calls : Called → Step
calls c = opens_call (record { callee = c; args = 0 })

-- a function may be called with so many arguments
abbrev pub function_takes : Signature → ℕ → Bool
function_takes f count = nat_le (length f.params) count && (is_some f.rest || nat_le count (length f.params))

abbrev pub calls_function : Signature → ℕ → Place → Step
calls_function f count at = unless (function_takes f count) Arity at ▷ λ u. calls (OfFunction f)

abbrev pub calls_library : LibraryRow → Option Shared → ℕ → Place → Step
calls_library r receiver count at = unless (takes_so_many r count) Arity at ▷ λ u. calls (OfLibrary r receiver)

-- ---- arguments

abbrev pub one_more : CallAtWork → CallAtWork
one_more c = record c { args = suc c.args }

-- the type of the parameter with this number
abbrev pub parameter_of : Signature → ℕ → List Ty
parameter_of f n = by (slice_get f.params n) f.rest
  where
    by : Option Ty → Option Ty → List Ty
    by (Some t) rest = t ∷ []
    by None (Some t) = t ∷ []
    by None None = []

abbrev pub wants_copy : List Ty → Step
wants_copy [] = gives_some (λ s u. ⊥)
wants_copy (t ∷ ts) = wants_some (λ env. IsCopy t)

abbrev pub wants_kind : Takes → Step
wants_kind None = wants None
wants_kind (Some k) = wants_some (OfKind k)

-- ---- the results of the library

abbrev pub library_form : LibraryCall → Option ℕ → Option Shared → StrictForm
library_form call atom cast = form.Library call atom cast

-- a call that makes no list, and gives values of which this holds
abbrev pub gives_by : ℕ → LibraryCall → (Atoms → Ty → Type 0) → Place → Step
gives_by count call P at = makes_strict count (form.Library call None None) P at

-- a call that makes a list of members of which this holds
abbrev pub lists_by : ℕ → LibraryCall → (Atoms → Ty → Type 0) → Place → Step
lists_by count call P at =
    asking (adds (λ env defs. (t : Ty) × P env t × (defs ≡ ListAtom [] (Some t) ∷ [])) (Some at)) ▷ λ atom.
    makes_strict count (form.Library call (Some atom) None) (λ env t. t ≡ plain (Atom atom)) at

-- the receiver, made immutable: the type that is written there names only atoms that are there
abbrev pub clones_readonly : ℕ → Shared → Place → Step
clones_readonly count receiver at =
    some_over (λ env (t : Shared). PartOf (sem_of receiver) IsReadonly env t.value × TyBelow (length env) t.value) ▷ λ t.
    makes_typed count (form.Library CloneReadOnly None (Some t)) t at

-- ---- parameters and captured variables

-- no variable that is seen at the place has the name, and no worker of the function
abbrev pub is_seen : Name → State → Bool
is_seen name s = list_any by s.units || list_any (is_same_text name) s.site.workers
  where
    by : UnitAtWork → Bool
    by u = list_any (λ v. is_same_text v.name name) u.flow.variables

abbrev pub is_new : Word → Step
is_new w = gives_some (λ s b. b ≡ is_seen w.name s) ▷ λ b. either b (fails Duplicate w.at) done

abbrev pub parameter : Name → ℕ → Shared → Bool → Variable
parameter name slot t assigned =
    record { name = name; slot = slot; declared = t; narrowed = None; fixed = true; assigned = assigned; captured = false }

-- the variables that a body captures: of those that it uses each once, at its first use
abbrev pub Capture : Type 0
Capture = Variable × Place

abbrev pub is_captured : List Capture → Name → Bool
is_captured done name = list_any (λ c. is_same_text c.0.name name) done

abbrev pub capture_if : List Capture → Place → Option Variable → List Capture
capture_if done at None = done
capture_if done at (Some v) = if is_captured done v.name then done else done ++ (v, at) ∷ []

abbrev pub captures : List Variable → List Word → List Capture
captures vs uses = fold (λ done u. capture_if done u.at (find_variable vs u.name)) [] uses

abbrev pub captured_as : Capture → Captured
captured_as c = record { slot = c.0.slot; narrowed = is_some c.0.narrowed; ty = shared_now c.0; at = c.1 }

-- in an anonymous function a captured variable is of the type that it has where the function stands, from this slot on
abbrev pub in_function : ℕ → List Capture → List Variable
in_function slot [] = []
in_function slot (c ∷ cs) =
    record { name = c.0.name; slot = slot; declared = shared_now c.0; narrowed = None; fixed = c.0.fixed; assigned = c.0.assigned; captured = true }
    ∷ in_function (suc slot) cs

-- the unit around the unit at hand
abbrev pub unit_around : Check State UnitAtWork
unit_around = gives_some (λ s u. IsLast (all_but 1 s.units) u)

-- ---- units

-- a unit with the next number, which stands where this one does
abbrev pub unit_within : UnitAtWork → ℕ → UnitAtWork
unit_within around number =
    record {
      number = number;
      worker = around.worker;
      slots = [];
      params = 0;
      rest = None;
      rest_member = None;
      result = around.result;
      arrow = 0;
      future = 0;
      captured = [];
      flow = record { variables = []; reached = around.flow.reached };
    }

abbrev pub new_number : Check State ℕ
new_number =
    gives_some (λ s n. n ≡ s.done.next_unit) ▷ λ n. becomes (λ s. record s { done = record s.done { next_unit = suc n } }) ▷ λ u. gives n

abbrev pub opens_unit : UnitAtWork → Step
opens_unit u = by_handles SameUnit u ▷ λ v. becomes (λ s. record s { units = s.units ++ v ∷ []; ways = None })

abbrev pub closes_unit : Check State UnitAtWork
closes_unit = unit_now ▷ λ u. becomes (λ s. record s { units = all_but 1 s.units; ways = None }) ▷ λ v. gives u

abbrev pub begins_anonymous : Step
begins_anonymous = unit_now ▷ λ around. new_number ▷ λ n. opens_unit (unit_within around n)

-- a parameter more, in the next slot
abbrev pub with_parameter : Name → Shared → UnitAtWork → UnitAtWork
with_parameter name t u =
    record u { slots = u.slots ++ t ∷ []; params = suc u.params; flow = with_variable (parameter name (length u.slots) t false) u.flow }

abbrev pub has_parameter : Word → Step
has_parameter w =
    is_new w ▷ λ u. wanted ▷ λ t. wants_no_more 1 ▷ λ v. unit_now ▷ λ unit. sets_unit (with_parameter w.name t unit)

abbrev pub with_rest : Name → Shared → ℕ → Shared → UnitAtWork → UnitAtWork
with_rest name t atom member u = record (with_parameter name t u) { rest = Some atom; rest_member = Some member }

-- what takes the rest is a list
abbrev pub has_rest : Word → Step
has_rest w =
    is_new w ▷ λ u. wanted ▷ λ t. wants_no_more 1 ▷ λ v.
    asking (adds (λ env defs. (m : Ty) × IsCopy t.value m × (defs ≡ ListAtom [] (Some m) ∷ [])) (Some w.at)) ▷ λ atom.
    some_over (λ env (l : Shared). l.value ≡ list_of atom) ▷ λ l.
    unit_now ▷ λ unit. sets_unit (with_rest w.name l atom t unit)

-- the captured variables stand behind the parameters
abbrev pub with_captured : List Capture → Shared → UnitAtWork → UnitAtWork
with_captured cs result u =
    record u {
      slots = u.slots ++ map (λ c. shared_now c.0) cs;
      result = result;
      captured = map captured_as cs;
      flow = record { variables = u.flow.variables ++ in_function (length u.slots) cs; reached = u.flow.reached };
    }

-- the value has to be of the type that is wanted, which is the result
abbrev pub begins_value : List Word → Step
begins_value uses =
    wanted ▷ λ t. unit_around ▷ λ around. unit_now ▷ λ unit.
    sets_unit (with_captured (captures around.flow.variables uses) t unit)

-- the types of its arguments: those of its parameters, but for the last where it takes the rest
abbrev pub fixed_types : UnitAtWork → List Shared
fixed_types u = by u.rest
  where
    by : Option ℕ → List Shared
    by None = take u.params u.slots
    by (Some atom) = all_but 1 (take u.params u.slots)

abbrev pub AreCopiesOf : List Shared → List Ty → Type 0
AreCopiesOf ts us = AllZip (λ t u. IsCopy t.value u) ts us

abbrev pub IsRestOf : Option Shared → Option Ty → Type 0
IsRestOf None None = ⊤
IsRestOf (Some t) (Some u) = IsCopy t.value u
IsRestOf None (Some u) = ⊥
IsRestOf (Some t) None = ⊥

-- the atom of the lists of its arguments, that of its own type, and that of the futures of its result
abbrev pub AreOwnAtoms : Bool → UnitAtWork → Atoms → List AtomDef → Type 0
AreOwnAtoms isolated u env defs =
    (fixed : List Ty) × (rest : Option Ty) × (r s : SemType) × AreCopiesOf (fixed_types u) fixed × IsRestOf u.rest_member rest
    × IsSameType (sem_of u.result) r × IsSameType (sem_of u.result) s
    × (defs ≡ ListAtom fixed rest ∷ Arrow (Atom (length env)) r isolated ∷ FutureAtom s ∷ [])

abbrev pub typed_unit : UnitAtWork → ℕ → ℕ → TypedUnit
typed_unit u arrow future =
    record { number = u.number; slots = u.slots; params = u.params; rest = u.rest; result = u.result; arrow = arrow; future = future }

-- the arrow of its own atom
abbrev pub makes_anonymous : Bool → Place → Step
makes_anonymous isolated at =
    wants_no_more 1 ▷ λ v. closes_unit ▷ λ u. asking (adds (AreOwnAtoms isolated u) (Some at)) ▷ λ first.
    makes 1 (λ env parts e. (value : TypedExpr) × (parts ≡ value ∷ []) × (t : Shared) × (t.value ≡ plain (Atom (first + 1)))
    × IsFunctionOf (record { isolated = isolated; unit = typed_unit u (first + 1) (first + 2); args = first; captured = u.captured }) value t at e)

-- ---- calls as they are made

abbrev pub callee_unit : Signature → Callee
callee_unit f = callee.Unit f.unit (length f.params) (option_map (λ t. f.lists) f.rest)

module _ (passes : List AtomDef → Asked → TypeLimit → Type 0) where
  -- of the methods the first whose kind the receiver is of
  abbrev pub is_receiver : Takes → TypedExpr → Place → Check State Bool
  is_receiver None e at = gives true
  is_receiver (Some k) e at = whether_within passes (OfKind k) (sem e) at

  abbrev pub picks : List LibraryRow → TypedExpr → Place → Check State LibraryRow
  picks [] e at = fails NoField at
  picks (r ∷ rows) e at = is_receiver r.receiver e at ▷ λ b. either b (gives r) (picks rows e at)

  abbrev pub calls_method : Word → ℕ → Place → Step
  calls_method w count at =
      last_part ▷ λ e. picks (methods_named w.name) e at ▷ λ r. by_handles SameShared (type_of e) ▷ λ t. calls_library r (Some t) count at

  abbrev pub calls_value : Step
  calls_value = calls OfValue

  -- what a name stands for is a value, which has to be a function
  abbrev pub calls_seen_value : Seen → Place → Step
  calls_seen_value seen at = gives_seen seen at ▷ λ u. is_of passes kind.AnyFunction at ▷ λ v. calls_value

  abbrev pub calls_meaning : Meaning → ℕ → Place → Place → Step
  calls_meaning (meaning.Function f) count name at = calls_function f count at
  calls_meaning (meaning.TypeName t) count name at = fails Unknown name
  calls_meaning (meaning.Constant t) count name at = calls_seen_value (SeenMeaning (meaning.Constant t)) name
  calls_meaning (meaning.Variable number final t) count name at = calls_seen_value (SeenMeaning (meaning.Variable number final t)) name

  -- a call of the library can't be started
  abbrev pub calls_seen : Bool → Seen → ℕ → Place → Place → Step
  calls_seen started (SeenVariable v) count name at = calls_seen_value (SeenVariable v) name
  calls_seen started (SeenWorker w) count name at = fails NameAsValue name
  calls_seen started (SeenConstant c) count name at = calls_seen_value (SeenConstant c) name
  calls_seen started (SeenLibrary r) count name at = either started (fails Unknown name) (calls_library r None count at)
  calls_seen started (SeenMeaning m) count name at = calls_meaning m count name at
  calls_seen started (SeenNothing code) count name at = fails code name

  module _ (names : Names) where
    abbrev pub calls_named : Bool → QualifiedName → ℕ → Place → Step
    calls_named started q count at = looks_up names q ▷ λ seen. calls_seen started seen count q.at at

  -- ---- arguments

  -- what is pushed is stored
  abbrev pub expects_pushed : Option Shared → Place → Step
  expects_pushed None at = gives_some (λ s u. ⊥)
  expects_pushed (Some t) at = member_at passes (sem_of t) AnyIndex at ▷ λ m. wants_some (IsStored t.value AnyIndex m)

  abbrev pub expects_of_library : LibraryCall → Option Shared → Takes → Place → Step
  expects_of_library Push receiver takes at = expects_pushed receiver at
  expects_of_library call receiver takes at = wants_kind takes

  abbrev pub expects_by : Called → ℕ → Place → Step
  expects_by (OfFunction f) n at = wants_copy (parameter_of f n)
  expects_by OfValue n at = wants None
  expects_by (OfLibrary r receiver) n at = expects_of_library r.call receiver (argument_of r n) at

  abbrev pub expects_argument : Place → Step
  expects_argument at = last_call ▷ λ c. expects_by c.callee c.args at

  -- the last part is below what is wanted, and is an argument of the call
  abbrev pub argument_fits : CallAtWork → Place → Step
  argument_fits c at = last_want ▷ λ w. last_part ▷ λ e. below_if passes w e at ▷ λ u. wants_no_more 1 ▷ λ v. sets_call (one_more c)

  abbrev pub is_argument : Place → Step
  is_argument at = last_call ▷ λ c. argument_fits c at

  -- ---- results

  abbrev pub AreTypesOf : List TypedExpr → List Ty → Type 0
  AreTypesOf es ts = AllZip (λ e t. IsCopy (type_of e).value t) es ts

  -- what the function that is the first part gives to the others
  abbrev pub applies_to : List TypedExpr → Place → Check State SemType
  applies_to [] at = gives_some (λ s t. ⊥)
  applies_to (f ∷ args) at =
      asking (adds (λ env defs. (ts : List Ty) × AreTypesOf args ts × (defs ≡ ListAtom ts None ∷ [])) (Some at)) ▷ λ atom.
      asking (applied passes (sem f) (Atom atom) (Some at))

  -- the type of the receiver
  abbrev pub receiver_type : Option Shared → Check State Shared
  receiver_type receiver = gives_some (λ s t. receiver ≡ Some t)

  abbrev pub member_of : Option Shared → (SemType → Step) → Place → Step
  member_of receiver next at = receiver_type receiver ▷ λ t. member_at passes (sem_of t) AnyIndex at ▷ λ m. next m

  abbrev pub field_of : Option Shared → (SemType → Step) → Place → Step
  field_of receiver next at = receiver_type receiver ▷ λ t. member_at passes (sem_of t) AnyField at ▷ λ m. next m

  abbrev pub IsType : SemType → Atoms → Ty → Type 0
  IsType m env t = t ≡ plain m

  -- the result of a call of the library with so many parts, the receiver among them
  abbrev pub makes_library : LibraryCall → Option Shared → ℕ → Place → Step
  makes_library Println receiver n at = gives_by n Println (OfKind kind.Nothing) at
  makes_library Print receiver n at = gives_by n Print (OfKind kind.Nothing) at
  makes_library Readln receiver n at = gives_by n Readln (OfKind kind.Text) at
  makes_library FromString receiver n at = gives_by n FromString (λ env. IsPlain (λ x. IsInteger x ⊎ IsError x) env) at
  makes_library Abs receiver n at = gives_by n Abs (OfKind kind.Integer) at
  makes_library ToString receiver n at = gives_by n ToString (OfKind kind.Text) at
  makes_library Clone receiver n at = receiver_type receiver ▷ λ t. makes_typed n (form.Library Clone None None) t at
  makes_library CloneReadOnly receiver n at = receiver_type receiver ▷ λ t. clones_readonly n t at
  makes_library StringLength receiver n at = gives_by n StringLength (OfKind kind.Integer) at
  makes_library StartsWith receiver n at = gives_by n StartsWith (OfKind kind.Truth) at
  makes_library Trim receiver n at = gives_by n Trim (OfKind kind.Text) at
  makes_library Substring receiver n at = gives_by n Substring (OfKind kind.Text) at
  makes_library ToUpperAscii receiver n at = gives_by n ToUpperAscii (OfKind kind.Text) at
  makes_library ToLowerAscii receiver n at = gives_by n ToLowerAscii (OfKind kind.Text) at
  makes_library ToCodePointInts receiver n at = lists_by n ToCodePointInts (OfKind kind.Integer) at
  makes_library ListLength receiver n at = gives_by n ListLength (OfKind kind.Integer) at
  makes_library Push receiver n at = gives_by n Push (OfKind kind.Nothing) at
  makes_library Pop receiver n at = member_of receiver (λ m. gives_by n Pop (IsType m) at) at
  makes_library RemoveItem receiver n at = member_of receiver (λ m. gives_by n RemoveItem (IsType m) at) at
  makes_library Slice receiver n at = member_of receiver (λ m. lists_by n Slice (IsType m) at) at
  makes_library Reverse receiver n at = member_of receiver (λ m. lists_by n Reverse (IsType m) at) at
  makes_library MappingLength receiver n at = gives_by n MappingLength (OfKind kind.Integer) at
  makes_library Keys receiver n at = lists_by n Keys (OfKind kind.Text) at
  makes_library HasKey receiver n at = gives_by n HasKey (OfKind kind.Truth) at
  makes_library Get receiver n at = field_of receiver (λ m. gives_by n Get (IsType m) at) at
  makes_library RemoveKey receiver n at = field_of receiver (λ m. gives_by n RemoveKey (IsType m) at) at
  makes_library Message receiver n at = gives_by n Message (OfKind kind.Text) at
  makes_library Cause receiver n at = gives_by n Cause (OfKind kind.ErrorOrNil) at
  makes_library Detail receiver n at = gives_by n Detail (λ env. IsPlain IsDetail env) at

  -- how many parts a receiver is
  abbrev pub receivers : Option Shared → ℕ
  receivers None = 0
  receivers (Some t) = 1

  abbrev pub makes_call_of : Called → ℕ → Place → Step
  makes_call_of (OfFunction f) n at = makes_strict n (form.Call (callee_unit f)) (λ env. IsCopy f.result) at
  makes_call_of OfValue n at = last_parts (suc n) ▷ λ parts. applies_to parts at ▷ λ r. makes_strict (suc n) (form.Call callee.Value) (IsType r) at
  makes_call_of (OfLibrary r receiver) n at = makes_library r.call receiver (receivers receiver + n) at

  abbrev pub makes_call : Place → Step
  makes_call at = closes_call ▷ λ c. makes_call_of c.callee c.args at

  -- ---- calls as they are started: a future of what they give

  abbrev pub IsFutureAtom : SemType → List AtomDef → Type 0
  IsFutureAtom r defs = (s : SemType) × IsSameType r s × (defs ≡ FutureAtom s ∷ [])

  -- `here`: the place of the call
  abbrev pub starts_of : Called → ℕ → Place → Place → Step
  starts_of (OfFunction f) n here at = makes_strict n (form.Start (callee_unit f)) (λ env t. t ≡ plain (Atom f.future)) at
  starts_of OfValue n here at =
      last_parts (suc n) ▷ λ parts. applies_to parts here ▷ λ r. asking (adds (λ env. IsFutureAtom r) (Some at)) ▷ λ atom.
      makes_strict (suc n) (form.Start callee.Value) (λ env t. t ≡ plain (Atom atom)) at
  starts_of (OfLibrary r receiver) n here at = gives_some (λ s u. ⊥)

  abbrev pub starts : Place → Place → Step
  starts here at = closes_call ▷ λ c. starts_of c.callee c.args here at
