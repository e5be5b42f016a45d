-- What numbers stand for stays where a table grows.
use Rattle.std.proofs.Common.{◌≡◌, ℕ, List, [], ◌∷◌, ◌++◌, length, Bool, refl, sym, subst, ◌∙◌, ap, append_assoc, length-append, arith}
use Rattle.type_diagrams.specs.declared.node.Node.{Node}
use Rattle.type_diagrams.specs.declared.operation.Step.{Step}
use Rattle.type_diagrams.specs.Trees.{eval, RisesFrom}
use Rattle.type_diagrams.specs.Tables.{tree_of}
use Rattle.type_diagrams.specs.Decisions.{Grows, IsNumber, value_of, StartsFrom}
use Rattle.type_diagrams.specs.Operations.{meaning, CanStep, IsResultOf, Results, Remembers}
use Rattle.type_diagrams.proofs.NodeTrees.{tree_of-append}

append_nil : {X : Type 0} (xs : List X) → xs ≡ xs ++ []
append_nil [] = refl
append_nil (x ∷ xs) = ap (λ ys. x ∷ ys) (append_nil xs)

pub grows-itself : {X : Type 0} (xs : List X) → Grows xs xs
grows-itself xs = ([], append_nil xs)

pub grows-by : {X : Type 0} (xs ys : List X) → Grows xs (xs ++ ys)
grows-by xs ys = (ys, refl)

pub grows-further : {X : Type 0} (xs ys zs : List X) → Grows xs ys → Grows ys zs → Grows xs zs
grows-further xs ys zs g h = (g.0 ++ h.0, h.1 ∙ ap (λ l. l ++ h.0) g.1 ∙ append_assoc xs g.0 h.0)

module _ (old new : List Node) (g : Grows old new) where
  pub tree-grows : (n : ℕ) → IsNumber old n → tree_of new n ≡ tree_of old n
  tree-grows n h = ap (λ nodes. tree_of nodes n) g.1 ∙ tree_of-append old g.0 n h

  pub number-grows : (n : ℕ) → IsNumber old n → IsNumber new n
  number-grows n h = omega (arith, h, ap (length {A = Node}) g.1, length-append old g.0)

  pub value-grows : (n : ℕ) (v : ℕ → Bool) → IsNumber old n → value_of new n v ≡ value_of old n v
  value-grows n v h = ap (λ t. eval t v) (tree-grows n h)

  pub starts-grows : (place n : ℕ) → IsNumber old n → StartsFrom old place n → StartsFrom new place n
  starts-grows place n h s = subst (RisesFrom place) (sym (tree-grows n h)) s

  pub starts-before : (place n : ℕ) → IsNumber old n → StartsFrom new place n → StartsFrom old place n
  starts-before place n h s = subst (RisesFrom place) (tree-grows n h) s

  -- a result is a result of the same step in the longer table
  pub result-here : (s : Step) (n : ℕ) → CanStep old s → IsResultOf old s new n → IsResultOf new s new n
  result-here s n can r = record {
    number = r.number;
    value = λ v. r.value v ∙ (λ i. meaning s.operation (sym (value-grows s.left v can.left) i) (sym (value-grows s.right v can.right) i));
    starts = λ place a b. r.starts place (starts-before place s.left can.left a) (starts-before place s.right can.right b);
  }

  pub result-grows : (s : Step) (n : ℕ) → CanStep old s → IsResultOf old s old n → IsResultOf new s new n
  result-grows s n can r = result-here s n can (record {
    number = number-grows n r.number;
    value = λ v. value-grows n v r.number ∙ r.value v;
    starts = λ place a b. starts-grows place n r.number (r.starts place a b);
  })

  pub can-grows : (s : Step) → CanStep old s → CanStep new s
  can-grows s can = record { left = number-grows s.left can.left; right = number-grows s.right can.right }

  pub remembers-grows : (results : Results) → Remembers old results → Remembers new results
  remembers-grows results h s n e =
      let r = h s n e in
      (can-grows s r.0, result-grows s n r.0 r.1)
