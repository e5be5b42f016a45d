-- Lists of needs, put together; nothing, where a test of numbers fails.
use Rattle.std.specs.Prelude.{ℕ, zero, suc, Bool, true, false, List, [], ◌∷◌, ◌++◌, ◌==◌, Option, Some, None, IsSomeAnd, All, length, nat_le}
use Rattle.type_model.specs.declared.atoms.AtomDef.{AtomDef}
use Rattle.type_model.specs.declared.atoms.AtomDef.TheVariants.{List as ListAtom, Mapping as MappingAtom, Arrow, Error as ErrorAtom, Future as FutureAtom}
use Rattle.type_model.specs.declared.atoms.FieldDef.{FieldDef}
use Rattle.type_model.specs.declared.basic.SemType.{SemType}
use Rattle.type_model.specs.declared.basic.Ty.{Ty}
use Rattle.code_needs.specs.Needs.{IsMet, Need}

abbrev pub Needs : Type 0
Needs = Option (List Need)

-- the tests pass, and each need is met
abbrev pub AreMet : List AtomDef → Needs → Type 0
AreMet env needs = IsSomeAnd needs (All (IsMet env))

infixr 30 ◌&◌
-- the ones, and then the others
abbrev pub ◌&◌ : Needs → Needs → Needs
(Some xs) & (Some ys) = Some (xs ++ ys)
(Some xs) & None = None
None & ys = None

abbrev pub nothing : Needs
nothing = Some []

abbrev pub need : Need → Needs
need n = Some (n ∷ [])

-- ---- tests

abbrev pub test : Bool → Needs
test true = nothing
test false = None

abbrev pub as_many : {A : Type 0} → List A → ℕ → Needs
as_many xs n = test (length xs == n)

abbrev pub at_most : {A : Type 0} → List A → ℕ → Needs
at_most xs n = test (nat_le (length xs) n)

abbrev pub none : {A : Type 0} → List A → Needs
none [] = nothing
none (x ∷ xs) = None

abbrev pub absent : {A : Type 0} → Option A → Needs
absent None = nothing
absent (Some x) = None

-- ---- what is there

abbrev pub of_some : {A : Type 0} → Option A → (A → Needs) → Needs
of_some (Some x) f = f x
of_some None f = None

abbrev pub of_list : Option AtomDef → (List Ty → Option Ty → Needs) → Needs
of_list (Some (ListAtom fixed rest)) f = f fixed rest
of_list (Some (MappingAtom fields rest)) f = None
of_list (Some (Arrow args outcome alone)) f = None
of_list (Some (ErrorAtom detail)) f = None
of_list (Some (FutureAtom outcome)) f = None
of_list None f = None

abbrev pub of_mapping : Option AtomDef → (List FieldDef → Option Ty → Needs) → Needs
of_mapping (Some (MappingAtom fields rest)) f = f fields rest
of_mapping (Some (ListAtom fixed rest)) f = None
of_mapping (Some (Arrow args outcome alone)) f = None
of_mapping (Some (ErrorAtom detail)) f = None
of_mapping (Some (FutureAtom outcome)) f = None
of_mapping None f = None

-- ---- operands

abbrev pub one : List SemType → (SemType → Needs) → Needs
one (a ∷ []) f = f a
one [] f = None
one (a ∷ b ∷ more) f = None

abbrev pub two : List SemType → (SemType → SemType → Needs) → Needs
two (a ∷ b ∷ []) f = f a b
two [] f = None
two (a ∷ []) f = None
two (a ∷ b ∷ c ∷ more) f = None

abbrev pub three : List SemType → (SemType → SemType → SemType → Needs) → Needs
three (a ∷ b ∷ c ∷ []) f = f a b c
three [] f = None
three (a ∷ []) f = None
three (a ∷ b ∷ []) f = None
three (a ∷ b ∷ c ∷ d ∷ more) f = None

abbrev pub one_and_more : List SemType → (SemType → List SemType → Needs) → Needs
one_and_more (a ∷ rest) f = f a rest
one_and_more [] f = None

-- so many pairs
abbrev pub in_pairs : ℕ → List SemType → (List (SemType × SemType) → Needs) → Needs
in_pairs zero [] f = f []
in_pairs zero (a ∷ rest) f = None
in_pairs (suc n) (key ∷ value ∷ rest) f = in_pairs n rest (λ pairs. f ((key, value) ∷ pairs))
in_pairs (suc n) (key ∷ []) f = None
in_pairs (suc n) [] f = None

-- ---- of each

abbrev pub each : {A : Type 0} → (A → Needs) → List A → Needs
each f [] = nothing
each f (x ∷ xs) = f x & each f xs

abbrev pub each_zip : {A B : Type 0} → (A → B → Needs) → List A → List B → Needs
each_zip f [] [] = nothing
each_zip f [] (y ∷ ys) = None
each_zip f (x ∷ xs) [] = None
each_zip f (x ∷ xs) (y ∷ ys) = f x y & each_zip f xs ys

-- only where it is so
abbrev pub only_if : Bool → Needs → Needs
only_if true needs = needs
only_if false needs = nothing
