-- Each operation has one effect at most, where the natives come to one thing.
use Rattle.std.proofs.Common.{◌≡◌, ◌++◌, ℕ, ℤ, ◌≤ℤ◌, ◌<ℤ◌, List, [], ◌∷◌, Option, Some, None, slice_get, sym, subst, ap, ◌∙◌}
use Rattle.std.specs.Prelude.{◌+ℤ◌, ◌-ℤ◌, ◌*ℤ◌, neg_ℤ}
use Rattle.operations.specs.LibraryNumbers.{number_of}
use Rattle.operations.specs.declared.operation.Operation.{Operation}
use Rattle.operations.specs.declared.operation.Operation.TheVariants.{Const, Load, Store, Pop, LoadModule, StoreModule, Tick, Add, Subtract, Multiply, Divide, Remainder, Negate, Concat, Less, LessEqual, Not, Equal, Same, MakeList, MakeMapping, MakeError, MakeFunction, GetItem, GetKey, GetChar, GetField, GetOptional, SetItem, SetKey, Test, Cast, Call, CallValue, Library, Return, Panic, Start, StartValue, Workers, Send, Post, Done, Receive, Flush, WaitWorker, WaitFuture, WaitAny, WaitAll}
use Rattle.value_model.specs.declared.value.Value.{Value}
use Rattle.value_model.specs.declared.value.Value.TheVariants.{Nil, Bool as Truth, Int, Str, Struct, Error, Function, Future}
use Rattle.value_model.specs.Meaning.{Answers}
use Rattle.value_model.specs.Stands.{OwnTypes, Belongs}
use Rattle.value_model.specs.Heap.{FunctionObject}
use Rattle.op_model.specs.Waits.{targets}
use Rattle.value_model.specs.World.{World, Came}
use Rattle.type_model.specs.declared.basic.SemType.{SemType}
use Rattle.bal_base.specs.declared.text.Text.{Text}
use Rattle.op_model.specs.ProgramFacts.{ProgramFacts, UnitFacts, own_types}
use Rattle.op_model.specs.Equality.{AreEqual}
use Rattle.op_model.specs.Rows.{Else}
use Rattle.op_model.specs.Operands.{cause_of, pairs_of}
use Rattle.op_model.specs.Common.{Common, Caller, Role}
use Rattle.op_model.specs.Effects.{Effect, lifted}
use Rattle.op_model.specs.ValueRows.{OnInts, OnStrings, Divides, Remains, Compare, IsBefore, IsNotBehind, Casts}
use Rattle.op_model.specs.StructureRows.{MakesMapping, MakesError, ReadsItem, ReadsKey, ReadsField, ReadsOptional, SetsItem, SetsKey}
use Rattle.op_model.specs.CallRows.{FunctionAt, ReadsVariable, StoresVariable, CallsValue, StartsValue, StartsWorkers}
use Rattle.op_model.specs.Performs.{OnWorld, AsWorker, WaitsFor, Performs, atom_number}
use Rattle.op_model.specs.Laws.{AnswerOnce, HaveOneEffect}
use Rattle.op_model.proofs.Once.{IsOne, Else-one, Where-one, Unless-one, Tells-one, Some-one, NoOperand-one, One-one, Two-one, Three-one, OneAndMore-one, AnInt-one, AString-one, ABoolean-one, AStructure-one, AnError-one, AFunction-one, AFuture-one, GivesInt-one, GivesText-one, ListAt-one, MappingAt-one}
use Rattle.op_model.proofs.LibraryOnce.{StoresAt-one, StoresKey-one}

OnWorld-one : (P : World → Came → Type 0) (c : Common) → ((w : World) → IsOne (P w)) → IsOne (OnWorld P c)
OnWorld-one P c one x y (a, p, q) (b, r, s) = q ∙ (ap (lifted c) (one c.world a b p r) ∙ sym s)

OnInts-one : {A : Type 0} (vs : List Value) (P : ℤ → ℤ → A → Type 0) → ((x y : ℤ) → IsOne (P x y)) → IsOne (λ a. OnInts vs (λ x y. P x y a))
OnInts-one vs P one = Two-one vs _ (λ v w. AnInt-one v _ (λ x. AnInt-one w _ (λ y. one x y)))

OnStrings-one : {A : Type 0} (vs : List Value) (P : Text → Text → A → Type 0) → ((s t : Text) → IsOne (P s t)) → IsOne (λ a. OnStrings vs (λ s t. P s t a))
OnStrings-one vs P one = Two-one vs _ (λ v w. AString-one v _ (λ s. AString-one w _ (λ t. one s t)))

Divides-one : (w : World) (x y : ℤ) → IsOne (Divides w x y)
Divides-one w x y = Where-one _ _ _ (GivesInt-one _ _)

Remains-one : (w : World) (x y : ℤ) → IsOne (Remains w x y)
Remains-one w x y = Where-one _ _ _ (Else-one _)

Compare-one : (P : ℤ → ℤ → Type 0) (Q : Text → Text → Type 0) (a b : Value) (w : World) → IsOne (Compare P Q a b w)
Compare-one P Q (Int x) (Int y) w = Tells-one _ _
Compare-one P Q (Str s) (Str t) w = Tells-one _ _
Compare-one P Q _ _ w = λ x y h k. absurd h

Casts-one : (own : OwnTypes) (t : SemType) (v : Value) (w : World) → IsOne (Casts own t v w)
Casts-one own t v w = Unless-one _ _ _ (Else-one _)

MakesMapping-one : (w : World) (atom : ℕ) (immutable : _) (vs : List Value) → IsOne (MakesMapping w atom immutable vs)
MakesMapping-one w atom immutable vs = Some-one _ (λ ps. Else _) (λ ps. Else-one _)

MakesError-one : (w : World) (message : Text) (cause : Value) (vs : List Value) → IsOne (MakesError w message cause vs)
MakesError-one w message cause vs = Some-one (cause_of cause) _ (λ e. Some-one (pairs_of vs) (λ ps. Else _) (λ ps. Else-one _))

ReadsItem-one : (w : World) (n : ℕ) (i : ℤ) → IsOne (ReadsItem w n i)
ReadsItem-one w n i = ListAt-one w n (λ s vs. Else _) (λ s vs. Else-one _)

ReadsKey-one : (w : World) (n : ℕ) (key : Text) → IsOne (ReadsKey w n key)
ReadsKey-one w n key = MappingAt-one w n (λ s es. Else _) (λ s es. Else-one _)

ReadsField-one : (w : World) (n : ℕ) (key : Text) → IsOne (ReadsField w n key)
ReadsField-one w n key = MappingAt-one w n _ (λ s es. Some-one _ (λ v. Else _) (λ v. Else-one _))

ReadsOptional-one : (w : World) (v : Value) (key : Text) → IsOne (ReadsOptional w v key)
ReadsOptional-one w Nil key = Else-one _
ReadsOptional-one w (Struct n) key = ReadsKey-one w n key
ReadsOptional-one w _ key = λ x y h k. absurd h

SetsItem-one : (own : OwnTypes) (fillers : ℕ → List _) (w : World) (n : ℕ) (i : ℤ) (v : Value) → IsOne (SetsItem own fillers w n i v)
SetsItem-one own fillers w n i v = ListAt-one w n _ (λ s vs. StoresAt-one own fillers w n s vs _ v)

SetsKey-one : (own : OwnTypes) (fillers : ℕ → List _) (w : World) (n : ℕ) (key : Text) (v : Value) → IsOne (SetsKey own fillers w n key v)
SetsKey-one own fillers w n key v = MappingAt-one w n _ (λ s es. StoresKey-one own fillers w n s es key v)

FunctionAt-one : (facts : ProgramFacts) (c : Common) (n : ℕ) (P : FunctionObject → UnitFacts → Effect → Type 0) → ((f : FunctionObject) (u : UnitFacts) → IsOne (P f u)) → IsOne (λ e. FunctionAt facts c n (λ f u. P f u e))
FunctionAt-one facts c n P one = Some-one (slice_get c.world.heap.functions n) _ (λ f. Some-one (slice_get facts.units f.unit) (P f) (one f))

CallsValue-one : (facts : ProgramFacts) (c : Common) (n : ℕ) (args : List Value) → IsOne (CallsValue facts c n args)
CallsValue-one facts c n args = FunctionAt-one facts c n (λ f u. Else _) (λ f u. Else-one _)

StartsValue-one : (facts : ProgramFacts) (c : Common) (role : Option Role) (n : ℕ) (args : List Value) → IsOne (StartsValue facts c role n args)
StartsValue-one facts c role n args = FunctionAt-one facts c n (λ f u. Else _) (λ f u. Else-one _)

AsWorker-one : (caller : Caller) (P : Role → Effect → Type 0) → ((r : Role) → IsOne (P r)) → IsOne (λ e. AsWorker caller (λ r. P r e))
AsWorker-one caller P one = Some-one caller.role P one

module _ (facts : ProgramFacts) (natives : Answers) (once : AnswerOnce natives) where
  performs-one : (op : Operation) (vs : List Value) (caller : Caller) (c : Common) → IsOne (Performs facts natives op vs caller c)
  performs-one (Const k) vs caller c = λ x y h k. absurd h
  performs-one (Load slot) vs caller c = NoOperand-one vs (Else _) (Else-one _)
  performs-one (Store slot) vs caller c = λ x y h k. absurd h
  performs-one Pop vs caller c = λ x y h k. absurd h
  performs-one (LoadModule m) vs caller c = NoOperand-one vs (ReadsVariable c m) (Some-one _ (λ held. Else _) (λ held. Else-one _))
  performs-one (StoreModule m) vs caller c = One-one vs (λ v. StoresVariable facts caller.unit c m v) (λ v. Some-one _ (λ held. Else _) (λ held. Else-one _))
  performs-one Tick vs caller c = NoOperand-one vs (Else _) (Else-one _)
  performs-one Add vs caller c = OnInts-one vs _ (λ x y. OnWorld-one _ c (λ w. GivesInt-one w (x +ℤ y)))
  performs-one Subtract vs caller c = OnInts-one vs _ (λ x y. OnWorld-one _ c (λ w. GivesInt-one w (x -ℤ y)))
  performs-one Multiply vs caller c = OnInts-one vs _ (λ x y. OnWorld-one _ c (λ w. GivesInt-one w (x *ℤ y)))
  performs-one Divide vs caller c = OnInts-one vs _ (λ x y. OnWorld-one _ c (λ w. Divides-one w x y))
  performs-one Remainder vs caller c = OnInts-one vs _ (λ x y. OnWorld-one _ c (λ w. Remains-one w x y))
  performs-one Negate vs caller c = One-one vs _ (λ v. AnInt-one v _ (λ x. OnWorld-one _ c (λ w. GivesInt-one w (neg_ℤ x))))
  performs-one Concat vs caller c = OnStrings-one vs _ (λ s t. OnWorld-one _ c (λ w. GivesText-one w (s ++ t)))
  performs-one Less vs caller c = Two-one vs _ (λ a b. OnWorld-one _ c (Compare-one (λ x y. x <ℤ y) IsBefore a b))
  performs-one LessEqual vs caller c = Two-one vs _ (λ a b. OnWorld-one _ c (Compare-one (λ x y. x ≤ℤ y) IsNotBehind a b))
  performs-one Not vs caller c = One-one vs _ (λ v. ABoolean-one v (λ b. Else _) (λ b. Else-one _))
  performs-one Equal vs caller c = Two-one vs _ (λ a b. OnWorld-one _ c (λ w. Tells-one w (AreEqual w.heap a b)))
  performs-one Same vs caller c = Two-one vs _ (λ a b. OnWorld-one _ c (λ w. Tells-one w (a ≡ b)))
  performs-one (Test t) vs caller c = One-one vs _ (λ v. OnWorld-one _ c (λ w. Tells-one w (Belongs (own_types facts) w.heap v t)))
  performs-one (Cast t) vs caller c = One-one vs _ (λ v. OnWorld-one _ c (Casts-one (own_types facts) t v))
  performs-one (MakeList atom immutable count) vs caller c = Else-one _
  performs-one (MakeMapping atom immutable count) vs caller c = OnWorld-one _ c (λ w. MakesMapping-one w atom immutable vs)
  performs-one (MakeError count) vs caller c = OneAndMore-one vs _ (λ m more. AString-one m _ (λ message. OneAndMore-one more _ (λ cause details. OnWorld-one _ c (λ w. MakesError-one w message cause details))))
  performs-one (MakeFunction unit count) vs caller c = Else-one _
  performs-one GetItem vs caller c = Two-one vs _ (λ l i. AStructure-one l _ (λ n. AnInt-one i _ (λ k. OnWorld-one _ c (λ w. ReadsItem-one w n k))))
  performs-one GetKey vs caller c = Two-one vs _ (λ m k. AStructure-one m _ (λ n. AString-one k _ (λ key. OnWorld-one _ c (λ w. ReadsKey-one w n key))))
  performs-one GetChar vs caller c = Two-one vs _ (λ s i. AString-one s _ (λ t. AnInt-one i (λ k. Else _) (λ k. Else-one _)))
  performs-one (GetField name) vs caller c = One-one vs _ (λ m. AStructure-one m _ (λ n. OnWorld-one _ c (λ w. ReadsField-one w n name)))
  performs-one (GetOptional name) vs caller c = One-one vs _ (λ m. OnWorld-one _ c (λ w. ReadsOptional-one w m name))
  performs-one SetItem vs caller c = Three-one vs _ (λ l i v. AStructure-one l _ (λ n. AnInt-one i _ (λ k. OnWorld-one _ c (λ w. SetsItem-one (own_types facts) facts.fillers w n k v))))
  performs-one SetKey vs caller c = Three-one vs _ (λ m k v. AStructure-one m _ (λ n. AString-one k _ (λ key. OnWorld-one _ c (λ w. SetsKey-one (own_types facts) facts.fillers w n key v))))
  performs-one (Call unit count) vs caller c = Else-one _
  performs-one (CallValue count) vs caller c = OneAndMore-one vs _ (λ f args. AFunction-one f _ (λ n. CallsValue-one facts c n args))
  performs-one (Library call atom count) vs caller c = OnWorld-one _ c (λ w. once (own_types facts) (number_of call) (atom_number atom) vs w)
  performs-one Return vs caller c = One-one vs (λ v. Else _) (λ v. Else-one _)
  performs-one Panic vs caller c = One-one vs _ (λ e. AnError-one e (λ n. Else _) (λ n. Else-one _))
  performs-one (Start unit count) vs caller c = Else-one _
  performs-one (StartValue count) vs caller c = OneAndMore-one vs _ (λ f args. AFunction-one f _ (λ n. StartsValue-one facts c caller.role n args))
  performs-one Workers vs caller c = Some-one _ (λ u. Else _) (λ u. Else-one _)
  performs-one (Send w) vs caller c = One-one vs _ (λ v. AsWorker-one caller (λ r. Else _) (λ r. Else-one _))
  performs-one (Post w) vs caller c = One-one vs _ (λ v. AsWorker-one caller (λ r. Else _) (λ r. Else-one _))
  performs-one (Done w) vs caller c = NoOperand-one vs _ (AsWorker-one caller (λ r. Else _) (λ r. Else-one _))
  performs-one (Receive w) vs caller c = NoOperand-one vs _ (AsWorker-one caller (λ r. Else _) (λ r. Else-one _))
  performs-one (Flush w) vs caller c = NoOperand-one vs _ (AsWorker-one caller (λ r. Else _) (λ r. Else-one _))
  performs-one (WaitWorker w) vs caller c = NoOperand-one vs _ (AsWorker-one caller _ (λ r. Some-one _ (λ t. Else _) (λ t. Else-one _)))
  performs-one WaitFuture vs caller c = One-one vs _ (λ f. AFuture-one f (λ n. Else _) (λ n. Else-one _))
  performs-one (WaitAny names) vs caller c = Some-one _ (λ ts. Else _) (λ ts. Else-one _)
  performs-one (WaitAll atom names) vs caller c = Some-one (slice_get facts.atoms atom) _ (λ d. Some-one (targets c caller.role names vs) (λ ts. Else _) (λ ts. Else-one _))

pub one-effect : (natives : Answers) → HaveOneEffect natives
one-effect natives facts once op vs caller c e f h k = performs-one facts natives once op vs caller c e f h k
