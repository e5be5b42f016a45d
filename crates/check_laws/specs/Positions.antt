-- Where a state stands above another one: what that had is there as it was, and so many stand on it.
use Rattle.std.specs.Prelude.{◌≡◌, ◌++◌, ◌+◌, ℕ, zero, suc, List, [], ◌∷◌, length, Option, Some, None}
use Rattle.typed_tree.specs.SharedTypes.{Shared}
use Rattle.check_words.specs.State.{BlockAtWork, CallAtWork, Called, OfFunction, OfLibrary, OfValue, State, UnitAtWork}
use Rattle.check_laws.specs.Heights.{Heights, plus}

-- so many stand on these, which are as they were
pub record OnTop {A : Type 0} (xs : List A) (k : ℕ) (ys : List A) : Type 0 where
  pub more : List A
  pub is : ys ≡ xs ++ more
  pub many : length more ≡ k

-- So many units stand on these. Of these the last one is at work: other things are known of its variables, and it has other slots. All
-- before it are as they were.
pub record OnUnits (us : List UnitAtWork) (k : ℕ) (vs : List UnitAtWork) : Type 0 where
  pub kept : List UnitAtWork
  pub was : UnitAtWork
  pub now : UnitAtWork
  pub at_hand : us ≡ kept ++ was ∷ []
  pub on : OnTop (kept ++ now ∷ []) k vs

-- a receiver is a part
abbrev pub parts_received : Option Shared → ℕ
parts_received None = 0
parts_received (Some t) = 1

-- how many parts belong to calls: function values and receivers, and the arguments so far
abbrev pub parts_called : Called → ℕ
parts_called (OfFunction f) = 0
parts_called OfValue = 1
parts_called (OfLibrary row receiver) = parts_received receiver

abbrev pub parts_of_call : CallAtWork → ℕ
parts_of_call c = plus c.args (parts_called c.callee)

abbrev pub parts_of_calls : List CallAtWork → ℕ
parts_of_calls [] = 0
parts_of_calls (c ∷ cs) = parts_of_call c + parts_of_calls cs

-- So many blocks stand on these, of which the last one has so many statements more.
pub record OnBlock (bs : List BlockAtWork) (k n : ℕ) (cs : List BlockAtWork) : Type 0 where
  pub kept : List BlockAtWork
  pub was : BlockAtWork
  pub now : BlockAtWork
  pub at_hand : bs ≡ kept ++ was ∷ []
  pub scope : now.scope ≡ was.scope
  pub stmts : OnTop was.stmts n now.stmts
  pub on : OnTop (kept ++ now ∷ []) k cs

-- and where that are none, all are as they were
abbrev pub OnBlocks : List BlockAtWork → ℕ → ℕ → List BlockAtWork → Type 0
OnBlocks bs k zero cs = OnTop bs k cs
OnBlocks bs k (suc n) cs = OnBlock bs k (suc n) cs

-- the second state is the first one, and on it stand so many
pub record Above (s : State) (h : Heights) (t : State) : Type 0 where
  pub calls : OnTop s.calls h.calls t.calls
  pub found : OnTop s.found (h.parts + parts_of_calls calls.more) t.found
  pub wants : OnTop s.wants h.wants t.wants
  pub sorts : OnTop s.sorts h.sorts t.sorts
  pub accesses : OnTop s.accesses h.accesses t.accesses
  pub constructors : OnTop s.constructors h.constructors t.constructors
  pub choices : OnTop s.choices h.choices t.choices
  pub units : OnUnits s.units h.units t.units
  pub site : t.site ≡ s.site
  pub matches : OnTop s.matches h.matches t.matches
  pub blocks : OnBlocks s.blocks h.blocks h.stmts t.blocks
  pub initialiser : t.initialiser ≡ s.initialiser
