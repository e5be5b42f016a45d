-- All needs of places may be asked about.
use Rattle.std.proofs.Common.{◌≡◌, ◌<◌, ◌+◌, ◌-◌, ◌==◌, ℕ, zero, suc, Bool, true, false, List, [], ◌∷◌, Option, Some, None, All, IfSome, drop, get_or, if◌then◌else◌, length, map, option_map, refl, slice_get, subst, sym, take}
use Rattle.std.specs.Prelude.{Contains, IsSomeAnd, not, ⊤}
use Rattle.std.proofs.lemmas.List.Elements.{All-cons, All-head, All-nil, All-tail}
use Rattle.std.proofs.lemmas.Option.{slice_get-map}
use Rattle.bal_base.specs.declared.text.Text.{Text}
use Rattle.type_model.specs.declared.atoms.AtomDef.{AtomDef}
use Rattle.type_model.specs.declared.basic.SemType.{SemType}
use Rattle.type_model.specs.Defined.{IsDefined}
use Rattle.operations.specs.declared.library.LibraryCall.{LibraryCall}
use Rattle.operations.specs.declared.operation.Constant.{Constant}
use Rattle.operations.specs.declared.operation.Constant.TheVariants.{Nil, Bool as Truth, Int, Str}
use Rattle.operations.specs.declared.operation.Operation.{Operation}
use Rattle.operations.specs.declared.operation.Operation.TheVariants as op
use Rattle.operations.specs.Rows.{Signature}
use Rattle.stack_code.specs.declared.code.Code.{Code}
use Rattle.stack_code.specs.declared.code.StackMap.{StackMap}
use Rattle.stack_code.specs.declared.code.Unit.{Unit as CodeUnit}
use Rattle.stack_code.specs.declared.instr.Instr.{Instr}
use Rattle.stack_code.specs.declared.instr.Instr.TheVariants as instr
use Rattle.stack_code.specs.Commands.{Command, CloseTrap, Do, GoTo, GoToIfNot, OpenTrap, command_at, command_in, command_of, library_calls, makes_list, of_call, of_name}
use Rattle.stack_code.specs.Places.{Station, crew, no_map, result_in, signature_of, stack_at, surroundings, traps_at}
use Rattle.stack_code.specs.Tables.{IsCallable}
use Rattle.code_needs.specs.Combining.{◌&◌, need}
use Rattle.code_needs.specs.declared.kind.Kind.TheVariants.{Booleans, Errors}
use Rattle.code_needs.specs.Needs.{Below, Has, Within}
use Rattle.code_needs.specs.PlaceNeeds.{begins_below, command_needs, does_needs, landing_needs, place_needs, trap_needs}
use Rattle.code_needs.specs.RowNeeds.{below_each}
use Rattle.code_needs.specs.Stacks.{ends, front_of, gives, last_of, operand_count, operands_of, rest_of, result_of, stay_of}
use Rattle.needs_of_commands.specs.Askable.{HasDefined, MakesCallable, MayBeAsked}
use Rattle.needs_of_commands.specs.Laws.{PlaceNeedsMayBeAsked}
use Rattle.needs_of_commands.proofs.MayAsk.{AllDefined, May, MayBeGiven, may-each, may-fail, may-given, may-need, may-nothing, may-only_if, may-some, may-three, may-two, may-within, may-zip}
use Rattle.needs_of_commands.proofs.MayRows.{AreKept, NamesDefined, SignatureDefined, may-below, may-row, of-option, some-of}

-- ---- lists

all-of : {A B : Type 0} (P : B → Type 0) (f : A → B) (xs : List A) → ((n : ℕ) (x : A) → slice_get xs n ≡ Some x → P (f x)) → All P (map f xs)
all-of P f [] h = All-nil P
all-of P f (x ∷ xs) h = All-cons P (f x) (map f xs) (h 0 x refl) (all-of P f xs (λ n y e. h (suc n) y e))

all-dropped : {A : Type 0} (P : A → Type 0) (n : ℕ) (xs : List A) → All P xs → All P (drop n xs)
all-dropped P zero xs h = h
all-dropped P (suc n) [] h = h
all-dropped P (suc n) (x ∷ xs) h = all-dropped P n xs (All-tail P x xs h)

all-taken : {A : Type 0} (P : A → Type 0) (n : ℕ) (xs : List A) → All P xs → All P (take n xs)
all-taken P zero xs h = All-nil P
all-taken P (suc n) [] h = h
all-taken P (suc n) (x ∷ xs) h = All-cons P x (take n xs) (All-head P x xs h) (all-taken P n xs (All-tail P x xs h))

of-member : {A : Type 0} (P : A → Type 0) (xs : List A) (x : A) → All P xs → Contains xs x → P x
of-member P xs x h (k, lt, e) = subst P e (h k x lt)

-- ---- parts of stacks

module _ (env : List AtomDef) where
  front-defined : (ts : List SemType) → AllDefined env ts → AllDefined env (front_of ts)
  front-defined [] h = h
  front-defined (t ∷ []) h = All-nil (IsDefined env)
  front-defined (t ∷ s ∷ more) h =
      All-cons (IsDefined env) t (front_of (s ∷ more)) (All-head (IsDefined env) t (s ∷ more) h) (front-defined (s ∷ more) (All-tail (IsDefined env) t (s ∷ more) h))

  last-defined : (ts : List SemType) → AllDefined env ts → MayBeGiven env (last_of ts)
  last-defined [] h = tt
  last-defined (t ∷ []) h = All-head (IsDefined env) t [] h
  last-defined (t ∷ s ∷ more) h = last-defined (s ∷ more) (All-tail (IsDefined env) t (s ∷ more) h)

  given-defined : (b : Bool) (ts : List SemType) → AllDefined env ts → MayBeGiven env (if b then last_of ts else None)
  given-defined true ts h = last-defined ts h
  given-defined false ts h = tt

  stay-defined : (b : Bool) (ts : List SemType) → AllDefined env ts → AllDefined env (if b then front_of ts else ts)
  stay-defined true ts h = front-defined ts h
  stay-defined false ts h = h

  stack-defined : (maps : List StackMap) (p : ℕ) → All (λ m. AllDefined env m.stack) maps → AllDefined env (get_or maps p no_map).stack
  stack-defined [] p h = All-nil (IsDefined env)
  stack-defined (m ∷ maps) zero h = All-head (λ x. AllDefined env x.stack) m maps h
  stack-defined (m ∷ maps) (suc p) h = stack-defined maps p (All-tail (λ x. AllDefined env x.stack) m maps h)

  may-begins : (types below : List SemType) → AllDefined env types → AllDefined env below → May env (begins_below types below)
  may-begins types [] c d = may-nothing env
  may-begins [] (t ∷ ts) c d = may-fail env
  may-begins (s ∷ types) (t ∷ ts) c d =
      may-two env (may-need env (Below s t) ((All-head (IsDefined env) s types c, All-head (IsDefined env) t ts d), tt))
      (may-begins types ts (All-tail (IsDefined env) s types c) (All-tail (IsDefined env) t ts d))

module _ (code : Code) (defined : HasDefined code) where
  abbrev D : SemType → Type 0
  D = IsDefined code.atoms

  stacks : (p : ℕ) → AllDefined code.atoms (stack_at code p)
  stacks p = stack-defined code.atoms code.maps p defined.maps

  -- ---- what casts name

  abbrev CastDefined : Operation → Type 0
  CastDefined (op.Cast t) = D t
  CastDefined o = ⊤

  abbrev CommandDefined : Option Command → Type 0
  CommandDefined (Some (Do o)) = CastDefined o
  CommandDefined (Some (GoTo to)) = ⊤
  CommandDefined (Some (GoToIfNot to)) = ⊤
  CommandDefined (Some (OpenTrap to)) = ⊤
  CommandDefined (Some CloseTrap) = ⊤
  CommandDefined None = ⊤

  mapped : {A : Type 0} (f : A → Operation) (q : Option A) → IfSome q (λ a. CastDefined (f a)) → CommandDefined (option_map (λ a. Do (f a)) q)
  mapped f (Some a) h = h
  mapped f None h = tt

  always : {A : Type 0} (P : A → Type 0) (q : Option A) → ((a : A) → P a) → IfSome q P
  always P (Some a) h = h a
  always P None h = tt

  named : (f : Text → Operation) (q : Option Constant) → ((name : Text) → CastDefined (f name)) → CommandDefined (of_name f q)
  named f (Some (Str name)) h = h name
  named f (Some Nil) h = tt
  named f (Some (Truth b)) h = tt
  named f (Some (Int i)) h = tt
  named f None h = tt

  called : (atom count : ℕ) (q : Option LibraryCall) → CommandDefined (of_call atom count q)
  called atom count None = tt
  called atom count (Some call) = by (makes_list call) (atom == 0)
    where
      by : (b c : Bool) → CommandDefined (if b then Some (Do (op.Library call (Some atom) count)) else if c then Some (Do (op.Library call None count)) else None)
      by true c = tt
      by false true = tt
      by false false = tt

  instr-defined : (i : Instr) → CommandDefined (command_of code i)
  instr-defined (instr.Const c) = mapped op.Const (slice_get code.constants c) (always (λ k. ⊤) (slice_get code.constants c) (λ k. tt))
  instr-defined (instr.GetField c) = named op.GetField (slice_get code.constants c) (λ name. tt)
  instr-defined (instr.GetOptional c) = named op.GetOptional (slice_get code.constants c) (λ name. tt)
  instr-defined (instr.Test t) = mapped op.Test (slice_get code.tested t) (always (λ s. ⊤) (slice_get code.tested t) (λ s. tt))
  instr-defined (instr.Cast t) = mapped op.Cast (slice_get code.tested t) (some-of D code.tested t defined.types.tested)
  instr-defined (instr.Call u) = mapped (λ unit. op.Call u (length unit.params)) (slice_get code.units u) (always (λ unit. ⊤) (slice_get code.units u) (λ unit. tt))
  instr-defined (instr.StartCall u) = mapped (λ unit. op.Start u (length unit.params)) (slice_get code.units u) (always (λ unit. ⊤) (slice_get code.units u) (λ unit. tt))
  instr-defined (instr.Native number atom count) = called atom count (slice_get library_calls number)
  instr-defined i = tt

  at-defined : (o : Option Instr) → CommandDefined (command_in code o)
  at-defined (Some i) = instr-defined i
  at-defined None = tt

  cast-defined : (p : ℕ) (o : Operation) → command_at code p ≡ Some (Do o) → CastDefined o
  cast-defined p o e = subst CommandDefined e (at-defined (slice_get code.instrs p))

  -- ---- what function values and futures are made of

  inherent-there : (a : ℕ) → Contains code.inherent a → a < length code.atoms
  inherent-there a h = of-member (λ n. n < length code.atoms) code.inherent a defined.inherent h

  own-there : (unit : ℕ) (f : Signature → ℕ) → IfSome (slice_get code.units unit) (λ u. f (signature_of u) < length code.atoms) → IfSome (slice_get (map signature_of code.units) unit) (λ s. f s < length code.atoms)
  own-there unit f h = subst (λ (q : Option Signature). IfSome q (λ s. f s < length code.atoms)) (sym (slice_get-map signature_of code.units unit)) (by (slice_get code.units unit) h)
    where
      by : (q : Option CodeUnit) → IfSome q (λ u. f (signature_of u) < length code.atoms) → IfSome (option_map signature_of q) (λ s. f s < length code.atoms)
      by (Some u) h = h
      by None h = tt

  weaker : {A : Type 0} (P Q : A → Type 0) (q : Option A) → ((a : A) → P a → Q a) → IsSomeAnd q P → IfSome q Q
  weaker P Q (Some a) f h = f a h
  weaker P Q None f h = tt

  -- ---- where the place stands

  module _ (n : ℕ) (u : CodeUnit) (station : Station) (at : slice_get code.units n ≡ Some u) where
    worker-defined : (k : ℕ) → D (result_in (slice_get code.units k))
    worker-defined k = by (slice_get code.units k) refl
      where
        by : (q : Option CodeUnit) → slice_get code.units k ≡ q → D (result_in q)
        by (Some x) e = (defined.types.units k x e).3
        by None e = tt

    kept : AreKept code.atoms defined.types.definitions defined.types.fields (surroundings code u station)
    kept = record {
      units = all-of (SignatureDefined code.atoms defined.types.definitions defined.types.fields) signature_of code.units (λ k x e. let d = defined.types.units k x e in (d.0, d.1, d.3));
      variables = defined.types.variables;
      slots = (defined.types.units n u at).2;
      result = (defined.types.units n u at).3;
      workers = all-of D (λ k. result_in (slice_get code.units k)) (crew code station.function) (λ k x e. worker-defined x);
    }

    names-defined : (p : ℕ) (o : Operation) → command_at code p ≡ Some (Do o) → MakesCallable code p → NamesDefined code.atoms defined.types.definitions defined.types.fields (surroundings code u station) o
    names-defined p (op.Cast t) e made = cast-defined p (op.Cast t) e
    names-defined p (op.MakeFunction unit count) e made =
        let callable = All-head (IsCallable code) unit [] (made (op.MakeFunction unit count) e) in
        own-there unit (λ s. s.arrow) (weaker (λ x. Contains code.inherent x.arrow × Contains code.inherent x.future) (λ x. x.arrow < length code.atoms) (slice_get code.units unit) (λ x h. inherent-there x.arrow h.0) callable.0)
    names-defined p (op.Start unit count) e made =
        let callable = All-head (IsCallable code) unit [] (made (op.Start unit count) e) in
        own-there unit (λ s. s.future) (weaker (λ x. Contains code.inherent x.arrow × Contains code.inherent x.future) (λ x. x.future < length code.atoms) (slice_get code.units unit) (λ x h. inherent-there x.future h.1) callable.0)
    names-defined p o e made = tt

    module _ (p : ℕ) where
      may-does : (o : Operation) → command_at code p ≡ Some (Do o) → MakesCallable code p → May code.atoms (does_needs code u station p o)
      may-does o e made =
          may-two code.atoms
          (may-row code.atoms defined.types.definitions defined.types.fields (surroundings code u station) kept o (operands_of o (stack_at code p)) (result_of o (stack_at code (p + 1)))
          (names-defined p o e made) (all-dropped D (length (stack_at code p) - operand_count o) (stack_at code p) (stacks p)) (given-defined code.atoms (gives o) (stack_at code (p + 1)) (stacks (p + 1))))
          (may-only_if code.atoms (not (ends o))
          (may-below code.atoms defined.types.definitions defined.types.fields (rest_of o (stack_at code p)) (stay_of o (stack_at code (p + 1)))
          (all-taken D (length (stack_at code p) - operand_count o) (stack_at code p) (stacks p)) (stay-defined code.atoms (gives o) (stack_at code (p + 1)) (stacks (p + 1)))))

      goes-on : (to : ℕ) → May code.atoms (below_each (stack_at code p) (stack_at code to))
      goes-on to = may-below code.atoms defined.types.definitions defined.types.fields (stack_at code p) (stack_at code to) (stacks p) (stacks to)

      front-goes : (to : ℕ) → May code.atoms (below_each (front_of (stack_at code p)) (stack_at code to))
      front-goes to = may-below code.atoms defined.types.definitions defined.types.fields (front_of (stack_at code p)) (stack_at code to) (front-defined code.atoms (stack_at code p) (stacks p)) (stacks to)

      may-land : (to : ℕ) → May code.atoms (landing_needs code u station p to)
      may-land to =
          may-two code.atoms
          (may-given code.atoms (last_of (stack_at code to)) (last-defined code.atoms (stack_at code to) (stacks to))
          (λ t d. may-two code.atoms (may-need code.atoms (Within t Errors) (d, tt)) (may-need code.atoms (Has t Errors) (d, tt))))
          (may-zip code.atoms (λ s t. need (Below s t) & need (Below t s)) (front_of (stack_at code to)) (stack_at code p) (front-defined code.atoms (stack_at code to) (stacks to)) (stacks p)
          (λ s t c d. may-two code.atoms (may-need code.atoms (Below s t) ((c, d), tt)) (may-need code.atoms (Below t s) ((d, c), tt))))

      may-command : (c : Command) → command_at code p ≡ Some c → MakesCallable code p → May code.atoms (command_needs code u station p c)
      may-command (Do o) e made = may-does o e made
      may-command (GoTo to) e made = goes-on to
      may-command (GoToIfNot to) e made =
          may-three code.atoms
          (may-given code.atoms (last_of (stack_at code p)) (last-defined code.atoms (stack_at code p) (stacks p)) (λ t d. may-within code.atoms t Booleans d)) (front-goes (p + 1)) (front-goes to)
      may-command (OpenTrap to) e made = may-two code.atoms (may-land to) (goes-on (p + 1))
      may-command CloseTrap e made = goes-on (p + 1)

      may-trap : May code.atoms (trap_needs code u station p)
      may-trap =
          may-some code.atoms (traps_at code u p) (λ traps e.
          may-each code.atoms (λ t. ⊤) (λ t. begins_below (stack_at code p) (stack_at code t)) traps (λ k t lt. tt) (λ t h. may-begins code.atoms (stack_at code p) (stack_at code t) (stacks p) (stacks t)))

      pub may-place : MakesCallable code p → May code.atoms (place_needs code u station p)
      may-place made = may-two code.atoms (may-some code.atoms (command_at code p) (λ c e. may-command c e made)) may-trap

pub places-asked : PlaceNeedsMayBeAsked
places-asked code n u station p needs defined at made are =
    of-option (All (MayBeAsked code.atoms)) (place_needs code u station p) needs (may-place code defined n u station at p made).all are
