-- What is made, as it is held, and what comes of it.
use Rattle.std.proofs.Common.{◌≡◌, ◌∙◌, ◌+◌, ℕ, true, false, nat_le, List, [], ◌∷◌, ◌++◌, Option, Some, None, length, map, refl, ap, sym}
use Rattle.std.specs.Prelude.{if◌then◌else◌}
use Rattle.bal_base.specs.declared.text.Text.{Text}
use Rattle.value_model.specs.declared.panics.PanicName.{PanicName}
use Rattle.value_model.specs.declared.value.Value.{Value}
use Rattle.value_model.specs.declared.value.Value.TheVariants.{Error, Function, Struct}
use Rattle.value_model.specs.PanicName.{panic_message}
use Rattle.value_model.specs.Heap.{cells, Structure as ModelStructure, ErrorObject as ModelError, FunctionObject as ModelFunction, Entries}
use Rattle.value_model.specs.World.{World as ModelWorld, Gave, Threw, PassesCells}
use Rattle.op_model.specs.Limits.{most_cells}
use Rattle.op_model.specs.Rows.{gives, gives_structure, makes, makes_error, new_structure, next_error, next_structure, panics, with_heap, within}
use Rattle.op_model.specs.StructureRows.{makes_function}
use Rattle.plain_run.specs.Came.{IsErrorMade}
use Rattle.plain_run.proofs.Cells.{error-cells, function-cells, map-push, structure-cells}

-- lists that are held, with one member more
pub pushed-held : {X Y : Type 0} (f : X → Y) (old new : List X) (x : X) (y : Y) → new ≡ old ++ x ∷ [] → f x ≡ y → map f new ≡ map f old ++ y ∷ []
pushed-held f old new x y e h = ap (map f) e ∙ (map-push f old x ∙ ap (λ z. map f old ++ z ∷ []) h)

-- ---- errors

module _ (w : ModelWorld) (message : Text) (cause : Option ℕ) (details : List (Text × Value)) where
  pub error-made : (number : ℕ) (ss : List ModelStructure) (es : List ModelError) → true ≡ nat_le (cells w.heap + (length details + 2)) most_cells → number ≡ next_error w → ss ≡ w.heap.structures ++ new_structure None false (Entries details) ∷ [] → es ≡ w.heap.errors ++ record { message = message; cause = cause; detail = next_structure w } ∷ [] → IsErrorMade w message cause details (record { heap = record { structures = ss; errors = es; functions = w.heap.functions }; input = w.input; output = w.output }) (Some number)
  error-made number ss es room n s e =
      let cells-made = error-cells w.heap (new_structure None false (Entries details)) (record { message = message; cause = cause; detail = next_structure w }) in
      (n, (λ i. record { heap = record { structures = s i; errors = e i; functions = w.heap.functions }; input = w.input; output = w.output }), ap (λ k. nat_le k most_cells) cells-made ∙ sym room)

  pub error-past : false ≡ nat_le (cells w.heap + (length details + 2)) most_cells → IsErrorMade w message cause details w None
  error-past room =
      let cells-made = error-cells w.heap (new_structure None false (Entries details)) (record { message = message; cause = cause; detail = next_structure w }) in
      (refl, ap (λ k. nat_le k most_cells) cells-made ∙ sym room)

-- a panic of the language
module _ (w v : ModelWorld) (name : PanicName) (message : Text) (details : List (Text × Value)) (em : message ≡ panic_message name) (ed : details ≡ []) where
  pub panic-threw : (number : ℕ) → IsErrorMade w message None details v (Some number) → Threw (Error number) v ≡ panics w name
  panic-threw number (n, e, r) =
      let made = makes_error w message None details in
      (λ i. Threw (Error (n i)) (e i))
      ∙ (sym (ap (λ b. if b then Threw (Error (next_error w)) made else PassesCells) r) ∙ (λ i. within (Threw (Error (next_error w)) (makes_error w (em i) None (ed i)))))

  pub panic-past : IsErrorMade w message None details v None → PassesCells ≡ panics w name
  panic-past (e, r) =
      let made = makes_error w message None details in
      sym (ap (λ b. if b then Threw (Error (next_error w)) made else PassesCells) r) ∙ (λ i. within (Threw (Error (next_error w)) (makes_error w (em i) None (ed i))))

-- ---- what is given unless there are too many cells

pub gave-there : (v : Value) (w : ModelWorld) (room : ℕ) → true ≡ nat_le room most_cells → cells w.heap ≡ room → Gave (v ∷ []) w ≡ within (gives w v)
gave-there v w room r e = ap (λ b. if b then Gave (v ∷ []) w else PassesCells) (r ∙ ap (λ n. nat_le n most_cells) (sym e))

pub gave-past : (v : Value) (w : ModelWorld) (room : ℕ) → false ≡ nat_le room most_cells → cells w.heap ≡ room → PassesCells ≡ within (gives w v)
gave-past v w room r e = ap (λ b. if b then Gave (v ∷ []) w else PassesCells) (r ∙ ap (λ n. nat_le n most_cells) (sym e))

-- a structure that is made
module _ (w : ModelWorld) (made : ModelStructure) where
  pub structure_given : (number : ℕ) (ss : List ModelStructure) → true ≡ nat_le (cells w.heap + (made.greatest + 1)) most_cells → number ≡ next_structure w → ss ≡ w.heap.structures ++ made ∷ [] → Gave (Struct number ∷ []) (record { heap = record { structures = ss; errors = w.heap.errors; functions = w.heap.functions }; input = w.input; output = w.output }) ≡ gives_structure w made
  structure_given number ss room n s =
      (λ i. Gave (Struct (n i) ∷ []) (record { heap = record { structures = s i; errors = w.heap.errors; functions = w.heap.functions }; input = w.input; output = w.output }))
      ∙ gave-there (Struct (next_structure w)) (makes w (made ∷ [])) (cells w.heap + (made.greatest + 1)) room (structure-cells w.heap made)

  pub structure_past : false ≡ nat_le (cells w.heap + (made.greatest + 1)) most_cells → PassesCells ≡ gives_structure w made
  structure_past room = gave-past (Struct (next_structure w)) (makes w (made ∷ [])) (cells w.heap + (made.greatest + 1)) room (structure-cells w.heap made)

-- a function value that is made
module _ (w : ModelWorld) (unit : ℕ) (captured : List Value) where
  pub function_given : (number : ℕ) (fs : List ModelFunction) → true ≡ nat_le (cells w.heap + (length captured + 1)) most_cells → number ≡ length w.heap.functions → fs ≡ w.heap.functions ++ record { unit = unit; captured = captured } ∷ [] → Gave (Function number ∷ []) (record { heap = record { structures = w.heap.structures; errors = w.heap.errors; functions = fs }; input = w.input; output = w.output }) ≡ makes_function w unit captured
  function_given number fs room n f =
      (λ i. Gave (Function (n i) ∷ []) (record { heap = record { structures = w.heap.structures; errors = w.heap.errors; functions = f i }; input = w.input; output = w.output }))
      ∙ gave-there (Function (length w.heap.functions)) (with_heap w (record { structures = w.heap.structures; errors = w.heap.errors; functions = w.heap.functions ++ record { unit = unit; captured = captured } ∷ [] })) (cells w.heap + (length captured + 1)) room (function-cells w.heap (record { unit = unit; captured = captured }))

  pub function_past : false ≡ nat_le (cells w.heap + (length captured + 1)) most_cells → PassesCells ≡ makes_function w unit captured
  function_past room =
      gave-past (Function (length w.heap.functions)) (with_heap w (record { structures = w.heap.structures; errors = w.heap.errors; functions = w.heap.functions ++ record { unit = unit; captured = captured } ∷ [] })) (cells w.heap + (length captured + 1)) room (function-cells w.heap (record { unit = unit; captured = captured }))
