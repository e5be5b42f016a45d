-- What a call opens with: what is called, as it is known there, and the parts that belong to it before its arguments.
use Rattle.std.specs.Prelude.{◌≡◌, ◌++◌, ℕ, Bool, true, List, [], ◌∷◌, IsSomeAnd, Option, Some, None, slice_get, ⊤}
use Rattle.bal_base.specs.declared.place.Place.{Place}
use Rattle.bal_tree.specs.declared.name.QualifiedName.{QualifiedName}
use Rattle.bal_tree.specs.declared.name.Word.{Word}
use Rattle.descriptors.specs.declared.names.Names.{Names}
use Rattle.operations.specs.declared.library.LibraryCall.{LibraryCall}
use Rattle.operations.specs.declared.library.LibraryCall.TheVariants.{Println, Print, Readln, FromString, Abs, ToString, Clone, CloneReadOnly, StringLength, StartsWith, Trim, Substring, ToUpperAscii, ToLowerAscii, ToCodePointInts, ListLength, Push, Pop, RemoveItem, Slice, Reverse, MappingLength, Keys, HasKey, Get, RemoveKey, Message, Cause, Detail}
use Rattle.operations.specs.Rows.{IsWithin, Surroundings}
use Rattle.type_model.specs.declared.answers.TypeLimit.{TypeLimit}
use Rattle.type_model.specs.declared.atoms.AtomDef.{AtomDef}
use Rattle.type_model.specs.Calls.{Asked}
use Rattle.typed_tree.specs.declared.expr.TypedExpr.{TypedExpr}
use Rattle.typed_tree.specs.Exprs.{type_of}
use Rattle.typed_tree.specs.SharedTypes.{Shared}
use Rattle.expr_needs.specs.declared.kind.Kind.TheVariants as kind
use Rattle.expr_needs.specs.Needs.{CallsMethod, CallsNamed, CallsValue}
use Rattle.check_words.specs.Calls.{function_takes}
use Rattle.check_words.specs.Kinds.{IsOfKind}
use Rattle.check_words.specs.Library.{LibraryRow, Takes, row_of, takes_so_many}
use Rattle.check_words.specs.State.{CallAtWork, Called, IsLast, OfFunction, OfLibrary, OfValue, State}
use Rattle.check_words.specs.Words.{One}
use Rattle.tree_promises.specs.Made.{AreTypedExprs, sem}
use Rattle.typed_needs.specs.Asked.{IsOfIt}
use Rattle.typed_needs.specs.Pieces.{IsBefore, IsMet}
use Rattle.typed_needs.specs.Placing.{AreNamed, AreStored, IsUnitOf}

-- the functions of the library, which have no receiver; all others are methods
abbrev pub IsFree : LibraryCall → Type 0
IsFree Println = ⊤
IsFree Print = ⊤
IsFree Readln = ⊤
IsFree FromString = ⊤
IsFree Abs = ⊥
IsFree ToString = ⊥
IsFree Clone = ⊥
IsFree CloneReadOnly = ⊥
IsFree StringLength = ⊥
IsFree StartsWith = ⊥
IsFree Trim = ⊥
IsFree Substring = ⊥
IsFree ToUpperAscii = ⊥
IsFree ToLowerAscii = ⊥
IsFree ToCodePointInts = ⊥
IsFree ListLength = ⊥
IsFree Push = ⊥
IsFree Pop = ⊥
IsFree RemoveItem = ⊥
IsFree Slice = ⊥
IsFree Reverse = ⊥
IsFree MappingLength = ⊥
IsFree Keys = ⊥
IsFree HasKey = ⊥
IsFree Get = ⊥
IsFree RemoveKey = ⊥
IsFree Message = ⊥
IsFree Cause = ⊥
IsFree Detail = ⊥

module _ (env : List AtomDef) where
  -- of the kind, where one is asked for
  abbrev pub KindFits : Takes → TypedExpr → Type 0
  KindFits None e = ⊤
  KindFits (Some k) e = IsWithin env (IsOfKind k) (sem e)

  -- the receiver of a method is the one part, and a function has none
  abbrev pub ReceiverFits : LibraryRow → Option Shared → List TypedExpr → Type 0
  ReceiverFits r None parts = (parts ≡ []) × IsFree r.call
  ReceiverFits r (Some t) parts = (¬ IsFree r.call) × One parts (λ e. (t.value ≡ (type_of e).value) × KindFits r.receiver e)

  -- What is called with so many arguments: a unit of the place; a function value, which is the one part; or a call of the library by its row.
  abbrev pub HoldsCallee : Surroundings → ℕ → Called → List TypedExpr → Type 0
  HoldsCallee place count (OfFunction f) parts = (parts ≡ []) × (function_takes f count ≡ true) × IsSomeAnd (slice_get place.units f.unit) (IsUnitOf env f)
  HoldsCallee place count OfValue parts = One parts (λ e. IsWithin env (IsOfKind kind.AnyFunction) (sem e))
  HoldsCallee place count (OfLibrary r receiver) parts = (r ≡ row_of r.call) × (takes_so_many r count ≡ true) × ReceiverFits r receiver parts

-- a call of the library is never started
abbrev pub IsStartable : Called → Type 0
IsStartable (OfFunction f) = ⊤
IsStartable OfValue = ⊤
IsStartable (OfLibrary r receiver) = ⊥

-- a call without arguments so far
abbrev pub opened : Called → CallAtWork
opened callee = record { callee = callee; args = 0 }

module _ (passes : List AtomDef → Asked → TypeLimit → Type 0) (names : Names) (env : List AtomDef) (place : Surroundings) where
  -- one call more, with the parts that belong to it
  pub record OpensNamed (started : Bool) (count : ℕ) (old new : State) : Type 0 where
    pub callee : Called
    pub parts : List TypedExpr
    pub calls : new.calls ≡ old.calls ++ opened callee ∷ []
    pub found : new.found ≡ old.found ++ parts
    pub typed : AreTypedExprs env place parts
    pub holds : HoldsCallee env place count callee parts
    pub startable : started ≡ true → IsStartable callee

  abbrev pub NamedIsOpened : Type 0
  NamedIsOpened =
      (started : Bool) (q : QualifiedName) (count : ℕ) (at : Place) (old new : State) → IsBefore env new → IsMet passes names env (CallsNamed started q count at) old new
      → AreStored place old → AreNamed env names place → OpensNamed started count old new

  abbrev pub ValueIsOpened : Type 0
  ValueIsOpened =
      (count : ℕ) (old new : State) (e : TypedExpr) → IsMet passes names env CallsValue old new → IsOfIt passes names env kind.AnyFunction e
      → (new ≡ record old { calls = old.calls ++ opened OfValue ∷ [] }) × HoldsCallee env place count OfValue (e ∷ [])

  -- the last part is the receiver
  abbrev pub MethodIsOpened : Type 0
  MethodIsOpened =
      (w : Word) (count : ℕ) (at : Place) (old new : State) (e : TypedExpr) → IsBefore env old → IsMet passes names env (CallsMethod w count at) old new → IsLast old.found e
      → (callee : Called) × (new ≡ record old { calls = old.calls ++ opened callee ∷ [] }) × HoldsCallee env place count callee (e ∷ [])

  pub record CalleesAreOpened : Type 0 where
    pub named : NamedIsOpened
    pub values : ValueIsOpened
    pub methods : MethodIsOpened

abbrev pub AllCalleesAreOpened : (List AtomDef → Asked → TypeLimit → Type 0) → Type 0
AllCalleesAreOpened passes = (names : Names) (env : List AtomDef) (place : Surroundings) → CalleesAreOpened passes names env place
