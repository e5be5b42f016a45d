-- The table of typing rows: from operands of these types an operation gives a result in this type, or nothing.
use Rattle.std.specs.Prelude.{◌≡◌, ◌⊎◌, ◌≤◌, ℕ, List, length, All, Option, IsSomeAnd, IsSome, slice_get}
use Rattle.bal_base.specs.declared.shape.Shape.{Shape}
use Rattle.type_model.specs.declared.basic.SemType.{SemType, Atom}
use Rattle.type_model.specs.declared.answers.Keys.TheVariants.{Field}
use Rattle.type_model.specs.declared.atoms.AtomDef.{AtomDef}
use Rattle.type_model.specs.Membership.{In}
use Rattle.type_model.specs.Parts.{StandsAt}
use Rattle.operations.specs.declared.operation.Operation.{Operation}
use Rattle.operations.specs.declared.operation.Operation.TheVariants.{Const, Load, Store, Pop, LoadModule, StoreModule, Tick, Add, Subtract, Multiply, Divide, Remainder, Negate, Concat, Less, LessEqual, Not, Equal, Same, MakeList, MakeMapping, MakeError, MakeFunction, GetItem, GetKey, GetChar, GetField, GetOptional, SetItem, SetKey, Test, Cast, Call, CallValue, Library, Return, Panic, Start, StartValue, Workers, Send, Post, Done, Receive, Flush, WaitWorker, WaitFuture, WaitAny, WaitAll}
use Rattle.type_model.specs.Anydata.{IsAnydata}
use Rattle.operations.specs.Kinds.{HasMember, IsBoolean, IsError, IsErrorOf, IsFunction, IsFuture, IsFutureOf, IsImmutableData, IsInteger, IsList, IsMapping, IsNil, IsSendable, IsString}
use Rattle.operations.specs.Rows.{AreBelow, InPairs, IsWithin, MayGive, NeverFails, NoOperand, NoResult, One, OneAndMore, ResultHas, Signature, StandsAtIndex, StandsAtKey, Surroundings, Three, Two, shape_of}
use Rattle.operations.specs.Structures.{AwaitsAll, AwaitsAny, GivenByFuture, GivenByWorker, IsDetailOf, IsListAtom, IsMade, IsMappingAtom, ItemsFit, MayStandIn, MemberFits, NamesRequired}
use Rattle.operations.specs.LibraryTyping.{LibraryTyped}

module _ (env : List AtomDef) (place : Surroundings) where
  -- ---- rows that several operations share

  abbrev pub OnInts : List SemType → (Shape → Type 0) → Option SemType → Type 0
  OnInts operands P result = Two operands (λ a b. IsWithin env IsInteger a × IsWithin env IsInteger b × ResultHas env result P)

  abbrev pub OnStrings : List SemType → (Shape → Type 0) → Option SemType → Type 0
  OnStrings operands P result = Two operands (λ a b. IsWithin env IsString a × IsWithin env IsString b × ResultHas env result P)

  -- what a place holds: a slot, or a module variable
  abbrev pub Reads : Option SemType → Option SemType → Type 0
  Reads held result = IsSomeAnd held (λ t. ResultHas env result (λ x. In env x t))

  abbrev pub Writes : Option SemType → List SemType → Option SemType → Type 0
  Writes held operands result = One operands (λ v. IsSomeAnd held (λ t. IsWithin env (λ x. In env x t) v)) × NoResult result

  -- the arguments of a unit, one for each parameter
  abbrev pub CallsUnit : ℕ → ℕ → List SemType → (Signature → Type 0) → Type 0
  CallsUnit unit count operands P = (length operands ≡ count) × IsSomeAnd (slice_get place.units unit) (λ u. AreBelow env operands u.params × P u)

  -- a function, and arguments in its domain
  abbrev pub CallsValue : ℕ → List SemType → (SemType → List SemType → Type 0) → Type 0
  CallsValue count operands P =
      OneAndMore operands (λ f args. (length args ≡ count) × IsWithin env IsFunction f × NeverFails env f args × P f args)

  -- ---- the rows

  abbrev pub OpTyped : Operation → List SemType → Option SemType → Type 0
  OpTyped (Const c) operands result = NoOperand operands × ResultHas env result (λ x. x ≡ shape_of c)
  OpTyped (Load slot) operands result = NoOperand operands × Reads (slice_get place.slots slot) result
  OpTyped (Store slot) operands result = Writes (slice_get place.slots slot) operands result
  OpTyped Pop operands result = One operands (λ v. NoResult result)
  OpTyped (LoadModule m) operands result = NoOperand operands × Reads (slice_get place.variables m) result
  OpTyped (StoreModule m) operands result = Writes (slice_get place.variables m) operands result
  OpTyped Tick operands result = NoOperand operands × NoResult result
  OpTyped Add operands result = OnInts operands IsInteger result
  OpTyped Subtract operands result = OnInts operands IsInteger result
  OpTyped Multiply operands result = OnInts operands IsInteger result
  OpTyped Divide operands result = OnInts operands IsInteger result
  OpTyped Remainder operands result = OnInts operands IsInteger result
  OpTyped Negate operands result = One operands (λ a. IsWithin env IsInteger a × ResultHas env result IsInteger)
  OpTyped Concat operands result = OnStrings operands IsString result
  OpTyped Less operands result = OnInts operands IsBoolean result ⊎ OnStrings operands IsBoolean result
  OpTyped LessEqual operands result = OnInts operands IsBoolean result ⊎ OnStrings operands IsBoolean result
  OpTyped Not operands result = One operands (λ a. IsWithin env IsBoolean a × ResultHas env result IsBoolean)
  OpTyped Equal operands result =
      Two operands (λ a b. IsWithin env IsAnydata a × IsWithin env IsAnydata b × ResultHas env result IsBoolean)
  OpTyped Same operands result = Two operands (λ a b. ResultHas env result IsBoolean)
  OpTyped (MakeList atom immutable count) operands result =
      (length operands ≡ count) × IsListAtom env atom (λ fixed rest. (length fixed ≤ count) × ItemsFit env operands 0 fixed rest)
      × All (MayStandIn env immutable) operands × ResultHas env result (IsMade env atom immutable)
  OpTyped (MakeMapping atom immutable count) operands result =
      InPairs count operands (λ members. All (λ m. IsWithin env IsString m.0) members
      × IsMappingAtom env atom (λ fields rest. All (MemberFits env fields rest) members × NamesRequired env fields members)
      × All (λ m. MayStandIn env immutable m.1) members × ResultHas env result (IsMade env atom immutable))
  OpTyped (MakeError count) operands result =
      OneAndMore operands (λ message behind. OneAndMore behind (λ cause details. InPairs count details (λ pairs.
      IsWithin env IsString message × IsWithin env (λ x. IsNil x ⊎ IsError x) cause
      × All (λ p. IsWithin env IsString p.0 × IsWithin env IsImmutableData p.1) pairs
      × ResultHas env result (IsErrorOf (IsDetailOf env pairs)))))
  OpTyped (MakeFunction unit count) operands result =
      (length operands ≡ count) × IsSomeAnd (slice_get place.units unit) (λ u. AreBelow env operands u.captured
      × ResultHas env result (λ x. In env x (Atom u.arrow)))
  OpTyped GetItem operands result =
      Two operands (λ l i. IsWithin env IsList l × IsWithin env IsInteger i × ResultHas env result (StandsAtIndex env l i))
  OpTyped GetKey operands result =
      Two operands (λ m k. IsWithin env IsMapping m × IsWithin env IsString k
      × ResultHas env result (λ x. StandsAtKey env m k x ⊎ IsNil x))
  OpTyped GetChar operands result =
      Two operands (λ s i. IsWithin env IsString s × IsWithin env IsInteger i × ResultHas env result IsString)
  OpTyped (GetField name) operands result =
      One operands (λ m. IsWithin env (HasMember name) m × ResultHas env result (StandsAt env m (Field name)))
  OpTyped (GetOptional name) operands result =
      One operands (λ m. IsWithin env (λ x. IsMapping x ⊎ IsNil x) m
      × ResultHas env result (λ x. StandsAt env m (Field name) x ⊎ IsNil x))
  OpTyped SetItem operands result =
      Three operands (λ l i v. IsWithin env IsList l × IsWithin env IsInteger i × IsWithin env (StandsAtIndex env l i) v) × NoResult result
  OpTyped SetKey operands result =
      Three operands (λ m k v. IsWithin env IsMapping m × IsWithin env IsString k × IsWithin env (StandsAtKey env m k) v) × NoResult result
  OpTyped (Test t) operands result = One operands (λ v. ResultHas env result IsBoolean)
  OpTyped (Cast t) operands result = One operands (λ v. ResultHas env result (λ x. In env x v × In env x t))
  OpTyped (Call unit count) operands result = CallsUnit unit count operands (λ u. ResultHas env result (λ x. In env x u.result))
  OpTyped (CallValue count) operands result = CallsValue count operands (λ f args. ResultHas env result (MayGive env f args))
  OpTyped (Library call atom count) operands result = (length operands ≡ count) × LibraryTyped env call atom operands result
  OpTyped Return operands result = One operands (λ v. IsWithin env (λ x. In env x place.result) v) × NoResult result
  OpTyped Panic operands result = One operands (λ e. IsWithin env IsError e) × NoResult result
  OpTyped (Start unit count) operands result = CallsUnit unit count operands (λ u. ResultHas env result (λ x. In env x (Atom u.future)))
  OpTyped (StartValue count) operands result =
      CallsValue count operands (λ f args. ResultHas env result (IsFutureOf (MayGive env f args)))
  OpTyped Workers operands result = NoOperand operands × NoResult result
  OpTyped (Send w) operands result = One operands (λ v. IsWithin env IsSendable v × ResultHas env result IsNil)
  OpTyped (Post w) operands result = One operands (λ v. IsWithin env IsSendable v × NoResult result)
  OpTyped (Done w) operands result = NoOperand operands × ResultHas env result IsNil
  OpTyped (Receive w) operands result = NoOperand operands × IsSome result
  OpTyped (Flush w) operands result = NoOperand operands × ResultHas env result IsNil
  OpTyped (WaitWorker w) operands result = NoOperand operands × IsSome (slice_get place.workers w) × ResultHas env result (GivenByWorker env place w)
  OpTyped WaitFuture operands result = One operands (λ f. IsWithin env IsFuture f × ResultHas env result (GivenByFuture env f))
  OpTyped (WaitAny awaited) operands result = AwaitsAny env place awaited operands result
  OpTyped (WaitAll atom awaited) operands result =
      IsMappingAtom env atom (λ fields rest. AwaitsAll env place fields awaited operands) × ResultHas env result (λ x. In env x (Atom atom))
