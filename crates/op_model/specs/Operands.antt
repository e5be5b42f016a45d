-- The operands of operations, the first one first.
use Rattle.std.specs.Prelude.{◌≡◌, ℤ, ℕ, List, [], ◌∷◌, Bool, Option, Some, None, option_map}
use Rattle.bal_base.specs.declared.text.Text.{Text}
use Rattle.value_model.specs.declared.value.Value.{Value}
use Rattle.value_model.specs.declared.value.Value.TheVariants.{Nil, Bool as Truth, Int, Str, Struct, Error, Function, Future}

-- no operand; one, two or three of any kind
abbrev pub NoOperand : List Value → Type 0 → Type 0
NoOperand [] P = P
NoOperand (v ∷ vs) P = ⊥

abbrev pub One : List Value → (Value → Type 0) → Type 0
One (v ∷ []) P = P v
One _ P = ⊥

abbrev pub Two : List Value → (Value → Value → Type 0) → Type 0
Two (v ∷ w ∷ []) P = P v w
Two _ P = ⊥

abbrev pub Three : List Value → (Value → Value → Value → Type 0) → Type 0
Three (v ∷ w ∷ x ∷ []) P = P v w x
Three _ P = ⊥

-- one, and any number behind it
abbrev pub OneAndMore : List Value → (Value → List Value → Type 0) → Type 0
OneAndMore (v ∷ vs) P = P v vs
OneAndMore [] P = ⊥

-- ---- the kinds of values

abbrev pub AnInt : Value → (ℤ → Type 0) → Type 0
AnInt (Int n) P = P n
AnInt _ P = ⊥

abbrev pub AString : Value → (Text → Type 0) → Type 0
AString (Str t) P = P t
AString _ P = ⊥

abbrev pub ABoolean : Value → (Bool → Type 0) → Type 0
ABoolean (Truth b) P = P b
ABoolean _ P = ⊥

abbrev pub AStructure : Value → (ℕ → Type 0) → Type 0
AStructure (Struct n) P = P n
AStructure _ P = ⊥

abbrev pub AnError : Value → (ℕ → Type 0) → Type 0
AnError (Error n) P = P n
AnError _ P = ⊥

abbrev pub AFunction : Value → (ℕ → Type 0) → Type 0
AFunction (Function n) P = P n
AFunction _ P = ⊥

abbrev pub AFuture : Value → (ℕ → Type 0) → Type 0
AFuture (Future strand unit) P = P strand
AFuture _ P = ⊥

-- ---- keys and values in turn

-- the pairs, where each key is a string
abbrev pub pairs_of : List Value → Option (List (Text × Value))
pairs_of [] = Some []
pairs_of (Str key ∷ v ∷ vs) = option_map (λ ps. (key, v) ∷ ps) (pairs_of vs)
pairs_of _ = None

-- the cause of an error: an error, or nil for none
abbrev pub cause_of : Value → Option (Option ℕ)
cause_of Nil = Some None
cause_of (Error n) = Some (Some n)
cause_of _ = None
