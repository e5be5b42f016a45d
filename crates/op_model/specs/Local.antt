-- What a frame has at hand, and how an operation begins.
use Rattle.std.specs.Prelude.{◌++◌, ℕ, zero, suc, List, [], ◌∷◌, Option, Some, None, slice_get, slice_set}
use Rattle.operations.specs.declared.operation.Constant.{Constant}
use Rattle.operations.specs.declared.operation.Constant.TheVariants.{Nil as NilConstant, Bool as BoolConstant, Int as IntConstant, Str as StrConstant}
use Rattle.operations.specs.declared.operation.Operation.{Operation}
use Rattle.operations.specs.declared.operation.Operation.TheVariants.{Const, Load, Store, Pop, LoadModule, StoreModule, Tick, Add, Subtract, Multiply, Divide, Remainder, Negate, Concat, Less, LessEqual, Not, Equal, Same, MakeList, MakeMapping, MakeError, MakeFunction, GetItem, GetKey, GetChar, GetField, GetOptional, SetItem, SetKey, Test, Cast, Call, CallValue, Library, Return, Panic, Start, StartValue, Workers, Send, Post, Done, Receive, Flush, WaitWorker, WaitFuture, WaitAny, WaitAll}
use Rattle.value_model.specs.declared.value.Value.{Value}
use Rattle.value_model.specs.declared.value.Value.TheVariants.{Nil, Bool as Truth, Int, Str}

-- the slots, and the values that wait for their operation, the last one first
pub record Local : Type 0 where
  pub slots : List (Option Value)
  pub stack : List Value

-- how an operation begins
pub data Act : Type 0 where
  -- it is done at once
  Now : Local → Act
  -- an operation has to be done on these operands, which are taken off
  Later : Operation → List Value → Local → Act
  -- its operands aren't there
  Never : Act

abbrev pub constant_value : Constant → Value
constant_value NilConstant = Nil
constant_value (BoolConstant b) = Truth b
constant_value (IntConstant i) = Int i
constant_value (StrConstant t) = Str t

abbrev pub with_stack : Local → List Value → Local
with_stack l vs = record { slots = l.slots; stack = vs }

abbrev pub pushed : Local → Value → Local
pushed l v = with_stack l (v ∷ l.stack)

-- what is in the slot; to load a slot that was never stored is an operation of its own, which panics
abbrev pub loaded : Local → ℕ → Option (Option Value) → Act
loaded l slot (Some (Some v)) = Now (pushed l v)
loaded l slot (Some None) = Later (Load slot) [] l
loaded l slot None = Never

abbrev pub stored : Local → ℕ → List Value → Act
stored l slot (v ∷ rest) = Now (record { slots = slice_set l.slots slot (Some v); stack = rest })
stored l slot [] = Never

abbrev pub dropped : Local → List Value → Act
dropped l (v ∷ rest) = Now (with_stack l rest)
dropped l [] = Never

-- so many operands are taken off, and given with the first one first
abbrev pub taken : Operation → Local → ℕ → List Value → List Value → Act
taken op l zero args stack = Later op args (with_stack l stack)
taken op l (suc n) args (v ∷ rest) = taken op l n (v ∷ args) rest
taken op l (suc n) args [] = Never

abbrev pub takes : Operation → Local → ℕ → Act
takes op l n = taken op l n [] l.stack

-- what is in a slot, with which it goes on; a slot that was never stored is loaded instead
abbrev pub captured_from : Local → ℕ → Option (Option Value) → (Value → Act) → Act
captured_from l slot (Some (Some v)) go = go v
captured_from l slot (Some None) go = Later (Load slot) [] l
captured_from l slot None go = Never

-- what is in these slots, or the first load of one that was never stored
abbrev pub captures : Operation → Local → List ℕ → List Value → Act
captures op l [] vs = Later op vs l
captures op l (slot ∷ slots) vs = captured_from l slot (slice_get l.slots slot) (λ v. captures op l slots (vs ++ v ∷ []))

-- the futures among the names of a wait, which are operands
abbrev pub futures_in : List (Option ℕ) → ℕ
futures_in [] = 0
futures_in (Some worker ∷ names) = futures_in names
futures_in (None ∷ names) = suc (futures_in names)

abbrev pub twice : ℕ → ℕ
twice zero = 0
twice (suc n) = suc (suc (twice n))

-- `captured` are the slots that the named workers of the frame's unit capture, worker by worker
abbrev pub acts : List ℕ → Operation → Local → Act
acts captured (Const k) l = Now (pushed l (constant_value k))
acts captured (Load slot) l = loaded l slot (slice_get l.slots slot)
acts captured (Store slot) l = stored l slot l.stack
acts captured Pop l = dropped l l.stack
acts captured (LoadModule m) l = takes (LoadModule m) l 0
acts captured (StoreModule m) l = takes (StoreModule m) l 1
acts captured Tick l = takes Tick l 0
acts captured Add l = takes Add l 2
acts captured Subtract l = takes Subtract l 2
acts captured Multiply l = takes Multiply l 2
acts captured Divide l = takes Divide l 2
acts captured Remainder l = takes Remainder l 2
acts captured Negate l = takes Negate l 1
acts captured Concat l = takes Concat l 2
acts captured Less l = takes Less l 2
acts captured LessEqual l = takes LessEqual l 2
acts captured Not l = takes Not l 1
acts captured Equal l = takes Equal l 2
acts captured Same l = takes Same l 2
acts captured (MakeList atom immutable count) l = takes (MakeList atom immutable count) l count
acts captured (MakeMapping atom immutable count) l = takes (MakeMapping atom immutable count) l (twice count)
acts captured (MakeError count) l = takes (MakeError count) l (suc (suc (twice count)))
acts captured (MakeFunction unit count) l = takes (MakeFunction unit count) l count
acts captured GetItem l = takes GetItem l 2
acts captured GetKey l = takes GetKey l 2
acts captured GetChar l = takes GetChar l 2
acts captured (GetField name) l = takes (GetField name) l 1
acts captured (GetOptional name) l = takes (GetOptional name) l 1
acts captured SetItem l = takes SetItem l 3
acts captured SetKey l = takes SetKey l 3
acts captured (Test t) l = takes (Test t) l 1
acts captured (Cast t) l = takes (Cast t) l 1
acts captured (Call unit count) l = takes (Call unit count) l count
acts captured (CallValue count) l = takes (CallValue count) l (suc count)
acts captured (Library call atom count) l = takes (Library call atom count) l count
acts captured Return l = takes Return l 1
acts captured Panic l = takes Panic l 1
acts captured (Start unit count) l = takes (Start unit count) l count
acts captured (StartValue count) l = takes (StartValue count) l (suc count)
acts captured Workers l = captures Workers l captured []
acts captured (Send w) l = takes (Send w) l 1
acts captured (Post w) l = takes (Post w) l 1
acts captured (Done w) l = takes (Done w) l 0
acts captured (Receive w) l = takes (Receive w) l 0
acts captured (Flush w) l = takes (Flush w) l 0
acts captured (WaitWorker w) l = takes (WaitWorker w) l 0
acts captured WaitFuture l = takes WaitFuture l 1
acts captured (WaitAny names) l = takes (WaitAny names) l (futures_in names)
acts captured (WaitAll atom names) l = takes (WaitAll atom names) l (futures_in names)
