-- The table of operations: what each comes to on its operands, the first one first.
use Rattle.std.specs.Prelude.{◌≡◌, ◌++◌, ℤ, pos, neg_ℤ, ◌+ℤ◌, ◌-ℤ◌, ◌*ℤ◌, ◌≤ℤ◌, ◌<ℤ◌, ℕ, Bool, List, [], ◌∷◌, Option, Some, None, IsSomeAnd, not, slice_get}
use Rattle.type_model.specs.declared.basic.SemType.{SemType}
use Rattle.operations.specs.declared.operation.Operation.{Operation}
use Rattle.operations.specs.declared.operation.Operation.TheVariants.{Const, Load, Store, Pop, LoadModule, StoreModule, Tick, Add, Subtract, Multiply, Divide, Remainder, Negate, Concat, Less, LessEqual, Not, Equal, Same, MakeList, MakeMapping, MakeError, MakeFunction, GetItem, GetKey, GetChar, GetField, GetOptional, SetItem, SetKey, Test, Cast, Call, CallValue, Library, Return, Panic, Start, StartValue, Workers, Send, Post, Done, Receive, Flush, WaitWorker, WaitFuture, WaitAny, WaitAll}
use Rattle.operations.specs.LibraryNumbers.{number_of}
use Rattle.value_model.specs.declared.value.Value.{Value}
use Rattle.value_model.specs.declared.value.Value.TheVariants.{Nil, Bool as Truth, Int, Str, Struct, Error, Function, Future}
use Rattle.value_model.specs.declared.panics.PanicName.TheVariants.{NotInitialised}
use Rattle.value_model.specs.Meaning.{Answers}
use Rattle.value_model.specs.Stands.{Belongs}
use Rattle.value_model.specs.World.{World, Came}
use Rattle.op_model.specs.ProgramFacts.{ProgramFacts, own_types}
use Rattle.op_model.specs.Equality.{AreEqual}
use Rattle.op_model.specs.Rows.{GivesInt, GivesText, Tells, gives, panics}
use Rattle.op_model.specs.Operands.{NoOperand, One, Two, Three, OneAndMore, AnInt, AString, ABoolean, AStructure, AnError, AFunction, AFuture}
use Rattle.op_model.specs.ValueRows.{OnInts, OnStrings, Divides, Remains, Compare, IsBefore, IsNotBehind, Casts}
use Rattle.op_model.specs.StructureRows.{makes_list, MakesMapping, MakesError, makes_function, ReadsItem, ReadsKey, reads_char, ReadsField, ReadsOptional, SetsItem, SetsKey}
use Rattle.op_model.specs.CallRows.{ticks, ReadsVariable, StoresVariable, CallsValue, starts, StartsValue, StartsWorkers}
use Rattle.op_model.specs.Common.{Common, Role, Caller}
use Rattle.op_model.specs.Effects.{Effect, Gives, Fails, Enters, Leaves, lifted}
use Rattle.op_model.specs.Messages.{sends, receives, flushes}
use Rattle.op_model.specs.Waits.{Target, worker_target, future_target, targets, field_names, waits, waits_any, waits_all}

-- what comes of the world
abbrev pub OnWorld : (World → Came → Type 0) → Common → Effect → Type 0
OnWorld P c effect = (came : Came) × P c.world came × (effect ≡ lifted c came)

-- the frame is a worker
abbrev pub AsWorker : Caller → (Role → Type 0) → Type 0
AsWorker caller P = IsSomeAnd caller.role P

abbrev pub atom_number : Option ℕ → ℕ
atom_number (Some atom) = atom
atom_number None = 0

-- `natives` says what the calls of the library come to
module _ (facts : ProgramFacts) (natives : Answers) where
  abbrev pub WaitsFor : Caller → Common → List (Option ℕ) → List Value → (List Target → Effect) → Effect → Type 0
  WaitsFor caller c names vs comes effect = IsSomeAnd (targets c caller.role names vs) (λ ts. effect ≡ comes ts)

  abbrev pub Performs : Operation → List Value → Caller → Common → Effect → Type 0
  -- these a frame does by itself; a slot that was never stored can't be loaded
  Performs (Const k) vs caller c effect = ⊥
  Performs (Load slot) vs caller c effect = NoOperand vs (effect ≡ lifted c (panics c.world NotInitialised))
  Performs (Store slot) vs caller c effect = ⊥
  Performs Pop vs caller c effect = ⊥
  -- module variables and ticks
  Performs (LoadModule m) vs caller c effect = NoOperand vs (ReadsVariable c m effect)
  Performs (StoreModule m) vs caller c effect = One vs (λ v. StoresVariable facts caller.unit c m v effect)
  Performs Tick vs caller c effect = NoOperand vs (effect ≡ ticks c caller.depth c.ticks)
  -- ints, strings and booleans
  Performs Add vs caller c effect = OnInts vs (λ x y. OnWorld (λ w. GivesInt w (x +ℤ y)) c effect)
  Performs Subtract vs caller c effect = OnInts vs (λ x y. OnWorld (λ w. GivesInt w (x -ℤ y)) c effect)
  Performs Multiply vs caller c effect = OnInts vs (λ x y. OnWorld (λ w. GivesInt w (x *ℤ y)) c effect)
  Performs Divide vs caller c effect = OnInts vs (λ x y. OnWorld (λ w. Divides w x y) c effect)
  Performs Remainder vs caller c effect = OnInts vs (λ x y. OnWorld (λ w. Remains w x y) c effect)
  Performs Negate vs caller c effect = One vs (λ v. AnInt v (λ x. OnWorld (λ w. GivesInt w (neg_ℤ x)) c effect))
  Performs Concat vs caller c effect = OnStrings vs (λ s t. OnWorld (λ w. GivesText w (s ++ t)) c effect)
  Performs Less vs caller c effect = Two vs (λ a b. OnWorld (Compare (λ x y. x <ℤ y) IsBefore a b) c effect)
  Performs LessEqual vs caller c effect = Two vs (λ a b. OnWorld (Compare (λ x y. x ≤ℤ y) IsNotBehind a b) c effect)
  Performs Not vs caller c effect = One vs (λ v. ABoolean v (λ b. effect ≡ lifted c (gives c.world (Truth (not b)))))
  -- comparisons and tests
  Performs Equal vs caller c effect = Two vs (λ a b. OnWorld (λ w. Tells w (AreEqual w.heap a b)) c effect)
  Performs Same vs caller c effect = Two vs (λ a b. OnWorld (λ w. Tells w (a ≡ b)) c effect)
  Performs (Test t) vs caller c effect = One vs (λ v. OnWorld (λ w. Tells w (Belongs (own_types facts) w.heap v t)) c effect)
  Performs (Cast t) vs caller c effect = One vs (λ v. OnWorld (Casts (own_types facts) t v) c effect)
  -- constructors
  Performs (MakeList atom immutable count) vs caller c effect = effect ≡ lifted c (makes_list c.world atom immutable vs)
  Performs (MakeMapping atom immutable count) vs caller c effect = OnWorld (λ w. MakesMapping w atom immutable vs) c effect
  Performs (MakeError count) vs caller c effect =
      OneAndMore vs (λ m more. AString m (λ message. OneAndMore more (λ cause details. OnWorld (λ w. MakesError w message cause details) c effect)))
  Performs (MakeFunction unit count) vs caller c effect = effect ≡ lifted c (makes_function c.world unit vs)
  -- reads
  Performs GetItem vs caller c effect = Two vs (λ l i. AStructure l (λ n. AnInt i (λ k. OnWorld (λ w. ReadsItem w n k) c effect)))
  Performs GetKey vs caller c effect = Two vs (λ m k. AStructure m (λ n. AString k (λ key. OnWorld (λ w. ReadsKey w n key) c effect)))
  Performs GetChar vs caller c effect = Two vs (λ s i. AString s (λ t. AnInt i (λ k. effect ≡ lifted c (reads_char c.world t k))))
  Performs (GetField name) vs caller c effect = One vs (λ m. AStructure m (λ n. OnWorld (λ w. ReadsField w n name) c effect))
  Performs (GetOptional name) vs caller c effect = One vs (λ m. OnWorld (λ w. ReadsOptional w m name) c effect)
  -- stores
  Performs SetItem vs caller c effect =
      Three vs (λ l i v. AStructure l (λ n. AnInt i (λ k. OnWorld (λ w. SetsItem (own_types facts) facts.fillers w n k v) c effect)))
  Performs SetKey vs caller c effect =
      Three vs (λ m k v. AStructure m (λ n. AString k (λ key. OnWorld (λ w. SetsKey (own_types facts) facts.fillers w n key v) c effect)))
  -- calls
  Performs (Call unit count) vs caller c effect = effect ≡ Enters unit vs c
  Performs (CallValue count) vs caller c effect = OneAndMore vs (λ f args. AFunction f (λ n. CallsValue facts c n args effect))
  Performs (Library call atom count) vs caller c effect =
      OnWorld (natives (own_types facts) (number_of call) (atom_number atom) vs) c effect
  Performs Return vs caller c effect = One vs (λ v. effect ≡ Leaves v)
  Performs Panic vs caller c effect = One vs (λ e. AnError e (λ n. effect ≡ Fails e c))
  -- strands and workers
  Performs (Start unit count) vs caller c effect = effect ≡ starts c caller.role unit vs
  Performs (StartValue count) vs caller c effect = OneAndMore vs (λ f args. AFunction f (λ n. StartsValue facts c caller.role n args effect))
  Performs Workers vs caller c effect = StartsWorkers facts caller.unit c vs effect
  -- messages
  Performs (Send w) vs caller c effect = One vs (λ v. AsWorker caller (λ r. effect ≡ sends c r w v (Nil ∷ [])))
  Performs (Post w) vs caller c effect = One vs (λ v. AsWorker caller (λ r. effect ≡ sends c r w v []))
  Performs (Done w) vs caller c effect = NoOperand vs (AsWorker caller (λ r. effect ≡ flushes c r w))
  Performs (Receive w) vs caller c effect = NoOperand vs (AsWorker caller (λ r. effect ≡ receives c r w))
  Performs (Flush w) vs caller c effect = NoOperand vs (AsWorker caller (λ r. effect ≡ flushes c r w))
  -- waits
  Performs (WaitWorker w) vs caller c effect = NoOperand vs (AsWorker caller (λ r. IsSomeAnd (worker_target c r w) (λ t. effect ≡ waits c t)))
  Performs WaitFuture vs caller c effect = One vs (λ f. AFuture f (λ n. effect ≡ waits c (future_target n)))
  Performs (WaitAny names) vs caller c effect = WaitsFor caller c names vs (waits_any c) effect
  Performs (WaitAll atom names) vs caller c effect =
      IsSomeAnd (slice_get facts.atoms atom) (λ d. WaitsFor caller c names vs (waits_all c atom (field_names d)) effect)
