-- The words of which the rows of operations are put together.
use Rattle.std.specs.Prelude.{◌≡◌, ◌⊎◌, ◌↔◌, ◌≤◌, ◌<◌, ◌+◌, ◌++◌, ℕ, ℤ, pos, negsuc, Bool, List, [], ◌∷◌, Option, Some, None, IsTrue, IsSomeAnd, length, nat_le, slice_get, if◌then◌else◌}
use Rattle.bal_base.specs.declared.text.Text.{Text}
use Rattle.bal_base.specs.Valid.{IsInt}
use Rattle.value_model.specs.declared.value.Value.{Value}
use Rattle.value_model.specs.declared.value.Value.TheVariants.{Nil, Bool as Truth, Int, Str, Struct, Error}
use Rattle.value_model.specs.declared.panics.PanicName.{PanicName}
use Rattle.value_model.specs.declared.panics.PanicName.TheVariants.{NumberOverflow, TooLong}
use Rattle.value_model.specs.PanicName.{panic_message}
use Rattle.value_model.specs.Heap.{Heap, Structure, ErrorObject, FunctionObject, Members, Items, Entries, cells}
use Rattle.value_model.specs.World.{World, Came, Gave, Threw, PassesCells}
use Rattle.op_model.specs.Limits.{most_cells, most_code_points, most_items}

-- ---- which row decides

-- a row of a table: where the test holds this comes, and else what the rows behind say
abbrev pub Where : {A : Type 0} → Type 0 → A → (A → Type 0) → A → Type 0
Where P x behind came = (P × (came ≡ x)) ⊎ ((¬ P) × behind came)

-- where the test does not hold this comes, and else what the rows behind say
abbrev pub Unless : {A : Type 0} → Type 0 → A → (A → Type 0) → A → Type 0
Unless P x behind came = (P × behind came) ⊎ ((¬ P) × (came ≡ x))

-- the last row
abbrev pub Else : {A : Type 0} → A → A → Type 0
Else x came = came ≡ x

-- ---- what is made

abbrev pub with_heap : World → Heap → World
with_heap w h = record w { heap = h }

abbrev pub with_structures : World → List Structure → World
with_structures w ss = with_heap w (record { structures = ss; errors = w.heap.errors; functions = w.heap.functions })

-- the numbers of the next structure and of the next error that are made
abbrev pub next_structure : World → ℕ
next_structure w = length w.heap.structures

abbrev pub next_error : World → ℕ
next_error w = length w.heap.errors

-- these structures are made
abbrev pub makes : World → List Structure → World
makes w ss = with_structures w (w.heap.structures ++ ss)

abbrev pub size_of : Members → ℕ
size_of (Items vs) = length vs
size_of (Entries es) = length es

abbrev pub new_structure : Option ℕ → Bool → Members → Structure
new_structure atom mutable members = record { atom = atom; mutable = mutable; members = members; greatest = size_of members }

-- an error is made, and its detail, which is immutable and has no atom
abbrev pub makes_error : World → Text → Option ℕ → List (Text × Value) → World
makes_error w message cause details =
    with_heap w (record { structures = w.heap.structures ++ new_structure None Bool.false (Entries details) ∷ []; errors = w.heap.errors ++ record { message = message; cause = cause; detail = next_structure w } ∷ []; functions = w.heap.functions })

-- ---- what comes

-- unless the heap has too many cells then
abbrev pub within : Came → Came
within (Gave vs w) = if nat_le (cells w.heap) most_cells then Gave vs w else PassesCells
within (Threw e w) = if nat_le (cells w.heap) most_cells then Threw e w else PassesCells
within PassesCells = PassesCells

abbrev pub gives : World → Value → Came
gives w v = Gave (v ∷ []) w

abbrev pub gives_nothing : World → Came
gives_nothing w = Gave [] w

-- a panic of the language: an error with its message, without cause and details
abbrev pub panics : World → PanicName → Came
panics w name = within (Threw (Error (next_error w)) (makes_error w (panic_message name) None []))

-- an error that the language names is given
abbrev pub gives_error : World → Text → Came
gives_error w message = within (gives (makes_error w message None []) (Error (next_error w)))

-- a structure is made and given
abbrev pub gives_structure : World → Structure → Came
gives_structure w s = within (gives (makes w (s ∷ [])) (Struct (next_structure w)))

-- ---- rows that many operations share

-- the int, or a panic where it is none
abbrev pub GivesInt : World → ℤ → Came → Type 0
GivesInt w n = Unless (IsInt n) (panics w NumberOverflow) (Else (gives w (Int n)))

-- the string, or a panic where it is too long
abbrev pub GivesText : World → Text → Came → Type 0
GivesText w t = Unless (length t ≤ most_code_points) (panics w TooLong) (Else (gives w (Str t)))

-- a new list, or a panic where it is too long
abbrev pub GivesList : World → ℕ → List Value → Came → Type 0
GivesList w atom vs = Unless (length vs ≤ most_items) (panics w TooLong) (Else (gives_structure w (new_structure (Some atom) Bool.true (Items vs))))

-- whether something is so
abbrev pub Tells : World → Type 0 → Came → Type 0
Tells w P came = (b : Bool) × (IsTrue b ↔ P) × (came ≡ gives w (Truth b))

-- what stands at a place, or a panic where there is nothing
abbrev pub found : World → PanicName → Option Value → Came
found w name (Some v) = gives w v
found w name None = panics w name

-- the place that an int names, where it names one
abbrev pub place_of : ℤ → Option ℕ
place_of (pos k) = Some k
place_of (negsuc k) = None

-- ---- lists and mappings in the heap

abbrev pub StructureAt : World → ℕ → (Structure → Type 0) → Type 0
StructureAt w n P = IsSomeAnd (slice_get w.heap.structures n) P

abbrev pub HasItems : (List Value → Type 0) → Members → Type 0
HasItems P (Items vs) = P vs
HasItems P (Entries es) = ⊥

abbrev pub HasEntries : (List (Text × Value) → Type 0) → Members → Type 0
HasEntries P (Items vs) = ⊥
HasEntries P (Entries es) = P es

-- the number is that of a list with such items, or of a mapping with such entries
abbrev pub ListAt : World → ℕ → (Structure → List Value → Type 0) → Type 0
ListAt w n P = StructureAt w n (λ s. HasItems (P s) s.members)

abbrev pub MappingAt : World → ℕ → (Structure → List (Text × Value) → Type 0) → Type 0
MappingAt w n P = StructureAt w n (λ s. HasEntries (P s) s.members)
