-- Operations on ints, strings and booleans, comparisons, and tests of types.
use Rattle.std.specs.Prelude.{◌≡◌, ◌≢◌, ◌++◌, ℤ, pos, ◌≤ℤ◌, ◌<ℤ◌, int_div, int_rem, List, Bool, Option, Some, None, IsSomeAnd, not, option_map, slice_get, [], ◌∷◌, ℕ}
use Rattle.std.specs.declared.cmp.Ordering.TheVariants.{Less, Greater}
use Rattle.std.specs.Ordering.{nat_cmp}
use Rattle.std.specs.Cmp.Lexicographic.{slice_cmp}
use Rattle.bal_base.specs.declared.text.Text.{Text}
use Rattle.type_model.specs.declared.basic.SemType.{SemType}
use Rattle.value_model.specs.declared.value.Value.{Value}
use Rattle.value_model.specs.declared.value.Value.TheVariants.{Nil, Bool as Truth, Int, Str, Struct, Error, Function, Future}
use Rattle.value_model.specs.declared.panics.PanicName.TheVariants.{DivisionByZero, TypeCastError}
use Rattle.value_model.specs.Stands.{OwnTypes, Belongs}
use Rattle.value_model.specs.World.{World, Came}
use Rattle.op_model.specs.Equality.{AreEqual}
use Rattle.op_model.specs.Operands.{AString, AnInt, ABoolean, One, Two}
use Rattle.op_model.specs.Rows.{Where, Unless, Else, GivesInt, GivesText, Tells, gives, panics}

-- two ints ("Additive expression", "Multiplicative expression")
abbrev pub OnInts : List Value → (ℤ → ℤ → Type 0) → Type 0
OnInts vs P = Two vs (λ a b. AnInt a (λ x. AnInt b (λ y. P x y)))

abbrev pub OnStrings : List Value → (Text → Text → Type 0) → Type 0
OnStrings vs P = Two vs (λ a b. AString a (λ s. AString b (λ t. P s t)))

-- the quotient is cut off towards 0
abbrev pub Divides : World → ℤ → ℤ → Came → Type 0
Divides w x y = Where (y ≡ pos 0) (panics w DivisionByZero) (GivesInt w (int_div x y))

-- the remainder has the sign of the dividend, and is an int for all ints
abbrev pub Remains : World → ℤ → ℤ → Came → Type 0
Remains w x y = Where (y ≡ pos 0) (panics w DivisionByZero) (Else (gives w (Int (int_rem x y))))

-- two ints in their order, or two strings by code points ("Relational expression")
abbrev pub Compare : (ℤ → ℤ → Type 0) → (Text → Text → Type 0) → Value → Value → World → Came → Type 0
Compare P Q (Int x) (Int y) w came = Tells w (P x y) came
Compare P Q (Str s) (Str t) w came = Tells w (Q s t) came
Compare P Q v v' w came = ⊥

abbrev pub IsBefore : Text → Text → Type 0
IsBefore s t = slice_cmp nat_cmp s t ≡ Less

abbrev pub IsNotBehind : Text → Text → Type 0
IsNotBehind s t = slice_cmp nat_cmp s t ≢ Greater

-- the value, or a panic where it doesn't belong to the type ("Type cast expression")
abbrev pub Casts : OwnTypes → SemType → Value → World → Came → Type 0
Casts own t v w = Unless (Belongs own w.heap v t) (panics w TypeCastError) (Else (gives w v))
