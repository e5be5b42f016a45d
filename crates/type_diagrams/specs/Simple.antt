-- What is said of simple shapes, by which they are.
use Rattle.std.specs.Prelude.{ℤ, Bool, false, not, if◌then◌else◌}
use Rattle.bal_base.specs.declared.text.Text.{Text}
use Rattle.bal_base.specs.declared.shape.Shape.{Shape, Nil, Bool as BoolShape, Int, Str, List', Mapping', Error', Function, Future'}

-- an answer for nil, for each boolean, for each int and for each string; no for all other shapes
abbrev pub by_simple : Bool → (Bool → Bool) → (ℤ → Bool) → (Text → Bool) → Shape → Bool
by_simple nil of_bool of_int of_text Nil = nil
by_simple nil of_bool of_int of_text (BoolShape b) = of_bool b
by_simple nil of_bool of_int of_text (Int i) = of_int i
by_simple nil of_bool of_int of_text (Str t) = of_text t
by_simple nil of_bool of_int of_text (List' mark _ items) = false
by_simple nil of_bool of_int of_text (Mapping' mark _ fields) = false
by_simple nil of_bool of_int of_text (Error' _ detail) = false
by_simple nil of_bool of_int of_text (Function isolated graph) = false
by_simple nil of_bool of_int of_text (Future' _ results) = false

-- whether a boolean is the other
abbrev pub is_bool : Bool → Bool → Bool
is_bool b c = if b then c else not c
