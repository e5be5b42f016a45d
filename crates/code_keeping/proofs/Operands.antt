-- Operands that fit their types, one by one, and what kind of values they are.
use Rattle.std.proofs.Common.{◌≡◌, ℤ, ℕ, Bool, List, [], ◌∷◌, Option, Some, None, length, refl, sym, subst}
use Rattle.bal_base.specs.declared.shape.Shape.{Shape, Nil as NilShape, Bool as BoolShape, Int as IntShape, Str as StrShape, List', Mapping', Error', Function as FunctionShape, Future'}
use Rattle.bal_base.specs.declared.text.Text.{Text}
use Rattle.type_model.specs.declared.basic.SemType.{SemType}
use Rattle.operations.specs.Kinds.{IsBoolean, IsError, IsFunction, IsFuture, IsInteger, IsList, IsMapping, IsString}
use Rattle.operations.specs.Rows.{NoOperand, One, OneAndMore, Three, Two}
use Rattle.value_model.specs.declared.value.Value.{Value}
use Rattle.value_model.specs.declared.value.Value.TheVariants.{Nil, Bool as Truth, Int, Str, Struct, Error, Function, Future}
use Rattle.value_model.specs.Heap.{Entries, Heap, Items, Members, Structure}
use Rattle.op_model.specs.Common.{Common}
use Rattle.stack_code.specs.declared.code.Code.{Code}
use Rattle.stack_code.specs.Values.{AllFit, Fits}
use Rattle.code_keeping.specs.Kinds.{Booleans, Errors, Functions, Futures, Ints, Kind, Lists, Mappings, Nils, Nothings, Strings, kind_of, members_kind, structure_kind, value_kind}

-- ---- how many there are

pub none-long : (operands : List SemType) → NoOperand operands → length operands ≡ 0
none-long [] h = refl
none-long (a ∷ operands) h = absurd (let q : ⊥ = cc in q)

pub one-long : (operands : List SemType) (P : SemType → Type 0) → One operands P → length operands ≡ 1
one-long (a ∷ []) P h = refl
one-long [] P h = absurd h
one-long (a ∷ b ∷ more) P h = absurd h

pub two-long : (operands : List SemType) (P : SemType → SemType → Type 0) → Two operands P → length operands ≡ 2
two-long (a ∷ b ∷ []) P h = refl
two-long [] P h = absurd h
two-long (a ∷ []) P h = absurd h
two-long (a ∷ b ∷ d ∷ more) P h = absurd h

pub three-long : (operands : List SemType) (P : SemType → SemType → SemType → Type 0) → Three operands P → length operands ≡ 3
three-long (a ∷ b ∷ d ∷ []) P h = refl
three-long [] P h = absurd h
three-long (a ∷ []) P h = absurd h
three-long (a ∷ b ∷ []) P h = absurd h
three-long (a ∷ b ∷ d ∷ e ∷ more) P h = absurd h

-- ---- as many values

module _ (code : Code) (c : Common) (R : List Value → Type 0) where
  pub none-fit : (operands : List SemType) (vs : List Value) → NoOperand operands → AllFit code c vs operands → R [] → R vs
  none-fit [] [] typed fit k = k
  none-fit [] (v ∷ vs) typed fit k = absurd fit
  none-fit (a ∷ operands) vs typed fit k = absurd (let q : ⊥ = cc in q)

  pub one-fit : (operands : List SemType) (vs : List Value) (P : SemType → Type 0) → One operands P → AllFit code c vs operands → ((a : SemType) (v : Value) → P a → Fits code c v a → R (v ∷ [])) → R vs
  one-fit (a ∷ []) (v ∷ []) P typed (f, end) k = k a v typed f
  one-fit (a ∷ []) [] P typed fit k = absurd fit
  one-fit (a ∷ []) (v ∷ w ∷ vs) P typed (f, end) k = absurd end
  one-fit [] vs P typed fit k = absurd typed
  one-fit (a ∷ b ∷ more) vs P typed fit k = absurd typed

  pub two-fit : (operands : List SemType) (vs : List Value) (P : SemType → SemType → Type 0) → Two operands P → AllFit code c vs operands → ((a b : SemType) (v w : Value) → P a b → Fits code c v a → Fits code c w b → R (v ∷ w ∷ [])) → R vs
  two-fit (a ∷ b ∷ []) (v ∷ w ∷ []) P typed (f, (g, end)) k = k a b v w typed f g
  two-fit (a ∷ b ∷ []) [] P typed fit k = absurd fit
  two-fit (a ∷ b ∷ []) (v ∷ []) P typed (f, fit) k = absurd fit
  two-fit (a ∷ b ∷ []) (v ∷ w ∷ x ∷ vs) P typed (f, (g, end)) k = absurd end
  two-fit [] vs P typed fit k = absurd typed
  two-fit (a ∷ []) vs P typed fit k = absurd typed
  two-fit (a ∷ b ∷ d ∷ more) vs P typed fit k = absurd typed

  pub three-fit : (operands : List SemType) (vs : List Value) (P : SemType → SemType → SemType → Type 0) → Three operands P → AllFit code c vs operands →
      ((a b d : SemType) (v w x : Value) → P a b d → Fits code c v a → Fits code c w b → Fits code c x d → R (v ∷ w ∷ x ∷ [])) → R vs
  three-fit (a ∷ b ∷ d ∷ []) (v ∷ w ∷ x ∷ []) P typed (f, (g, (h, end))) k = k a b d v w x typed f g h
  three-fit (a ∷ b ∷ d ∷ []) [] P typed fit k = absurd fit
  three-fit (a ∷ b ∷ d ∷ []) (v ∷ []) P typed (f, fit) k = absurd fit
  three-fit (a ∷ b ∷ d ∷ []) (v ∷ w ∷ []) P typed (f, (g, fit)) k = absurd fit
  three-fit (a ∷ b ∷ d ∷ []) (v ∷ w ∷ x ∷ y ∷ vs) P typed (f, (g, (h, end))) k = absurd end
  three-fit [] vs P typed fit k = absurd typed
  three-fit (a ∷ []) vs P typed fit k = absurd typed
  three-fit (a ∷ b ∷ []) vs P typed fit k = absurd typed
  three-fit (a ∷ b ∷ d ∷ e ∷ more) vs P typed fit k = absurd typed

  pub more-fit : (operands : List SemType) (vs : List Value) (P : SemType → List SemType → Type 0) → OneAndMore operands P → AllFit code c vs operands →
      ((a : SemType) (more : List SemType) (v : Value) (ws : List Value) → P a more → Fits code c v a → AllFit code c ws more → R (v ∷ ws)) → R vs
  more-fit (a ∷ more) (v ∷ ws) P typed (f, fit) k = k a more v ws typed f fit
  more-fit (a ∷ more) [] P typed fit k = absurd fit
  more-fit [] vs P typed fit k = absurd typed

-- ---- kinds of shapes

pub integers : (x : Shape) → IsInteger x → kind_of x ≡ Ints
integers x (i, e) = (λ j. kind_of (e j))

pub booleans : (x : Shape) → IsBoolean x → kind_of x ≡ Booleans
booleans x (b, e) = (λ j. kind_of (e j))

pub strings : (x : Shape) → IsString x → kind_of x ≡ Strings
strings (StrShape t) h = refl
strings _ h = absurd h

pub lists : (x : Shape) → IsList x → kind_of x ≡ Lists
lists (List' mark _ items) h = refl
lists _ h = absurd h

pub mappings : (x : Shape) → IsMapping x → kind_of x ≡ Mappings
mappings (Mapping' mark _ fields) h = refl
mappings _ h = absurd h

pub errors : (x : Shape) → IsError x → kind_of x ≡ Errors
errors (Error' _ detail) h = refl
errors _ h = absurd h

pub functions : (x : Shape) → IsFunction x → kind_of x ≡ Functions
functions (FunctionShape isolated graph) h = refl
functions _ h = absurd h

pub futures : (x : Shape) → IsFuture x → kind_of x ≡ Futures
futures (Future' _ results) h = refl
futures _ h = absurd h

-- ---- values of a kind

-- that of no structure
abbrev IsSimple : Kind → Type 0
IsSimple Nothings = ⊥
IsSimple Lists = ⊥
IsSimple Mappings = ⊥
IsSimple Nils = Unit {0}
IsSimple Booleans = Unit {0}
IsSimple Ints = Unit {0}
IsSimple Strings = Unit {0}
IsSimple Errors = Unit {0}
IsSimple Functions = Unit {0}
IsSimple Futures = Unit {0}

no-structure : (o : Option Structure) (k : Kind) → IsSimple k → structure_kind o ≡ k → ⊥
no-structure None k simple e = subst IsSimple (sym e) simple
no-structure (Some s) k simple e = by s.members e
  where
    by : (m : Members) → members_kind m ≡ k → ⊥
    by (Items vs) e = subst IsSimple (sym e) simple
    by (Entries es) e = subst IsSimple (sym e) simple

module _ (h : Heap) (R : Value → Type 0) where
  pub an-int : (v : Value) → value_kind h v ≡ Ints → ((i : ℤ) → R (Int i)) → R v
  an-int (Int i) e k = k i
  an-int (Struct n) e k = absurd (no-structure _ Ints tt e)
  an-int _ e k = absurd (let q : ⊥ = cc in q)

  pub a-boolean : (v : Value) → value_kind h v ≡ Booleans → ((b : Bool) → R (Truth b)) → R v
  a-boolean (Truth b) e k = k b
  a-boolean (Struct n) e k = absurd (no-structure _ Booleans tt e)
  a-boolean _ e k = absurd (let q : ⊥ = cc in q)

  pub a-string : (v : Value) → value_kind h v ≡ Strings → ((t : Text) → R (Str t)) → R v
  a-string (Str t) e k = k t
  a-string (Struct n) e k = absurd (no-structure _ Strings tt e)
  a-string _ e k = absurd (let q : ⊥ = cc in q)

  pub an-error : (v : Value) → value_kind h v ≡ Errors → ((n : ℕ) → R (Error n)) → R v
  an-error (Error n) e k = k n
  an-error (Struct n) e k = absurd (no-structure _ Errors tt e)
  an-error _ e k = absurd (let q : ⊥ = cc in q)

  pub a-function : (v : Value) → value_kind h v ≡ Functions → ((n : ℕ) → R (Function n)) → R v
  a-function (Function n) e k = k n
  a-function (Struct n) e k = absurd (no-structure _ Functions tt e)
  a-function _ e k = absurd (let q : ⊥ = cc in q)

  pub a-future : (v : Value) → value_kind h v ≡ Futures → ((strand unit : ℕ) → R (Future strand unit)) → R v
  a-future (Future strand unit) e k = k strand unit
  a-future (Struct n) e k = absurd (no-structure _ Futures tt e)
  a-future _ e k = absurd (let q : ⊥ = cc in q)
