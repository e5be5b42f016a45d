-- What is listed of a tree, put together of what is listed of its parts.
use Rattle.std.specs.Prelude.{ℕ, ◌+◌, List, [], ◌∷◌, ◌++◌, Option, Some, None}
use Rattle.std.specs.Global.{Box}

infixr 30 ◌&◌
-- nothing, one, or what is listed of one part and then of another
pub data Listed (A : Type 0) : Type 0 where
  nothing : Listed A
  one : A → Listed A
  ◌&◌ : Listed A → Listed A → Listed A

-- what is listed of each part, one behind the other
abbrev pub joined : {A : Type 0} → List (Listed A) → Listed A
joined [] = nothing
joined (part ∷ parts) = part & joined parts

abbrev pub if_there : {A X : Type 0} → (X → Listed A) → Option X → Listed A
if_there f None = nothing
if_there f (Some x) = f x

abbrev pub if_boxed : {A X : Type 0} → (X → Listed A) → Option (Box X) → Listed A
if_boxed f None = nothing
if_boxed f (Some x) = f x.value

-- the members, in order, and how many they are
abbrev pub members : {A : Type 0} → Listed A → List A
members nothing = []
members (one a) = a ∷ []
members (p & q) = members p ++ members q

abbrev pub size : {A : Type 0} → Listed A → ℕ
size nothing = 0
size (one a) = 1
size (p & q) = size p + size q

-- what becomes of a state, where each member in turn makes a step
abbrev pub run : {S A : Type 0} → (A → S → S) → Listed A → S → S
run step nothing s = s
run step (one a) s = step a s
run step (p & q) s = run step q (run step p s)
