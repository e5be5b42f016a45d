-- Counting what is listed.
use Rattle.std.proofs.Common.{◌≡◌, ℕ, ◌+◌, ◌<◌, List, [], ◌∷◌, ◌++◌, length, get_or, take, map, refl, sym, ap, ◌∙◌, arith}
use Rattle.std.specs.Prelude.{min, ◌^◌, ◌-◌, ◌≤◌}
use Rattle.bal_base.specs.declared.place.Place.{Place}
use Rattle.std.proofs.lemmas.List.{map-append, take_more}
use Rattle.typed_tree.specs.Listed.{Listed, nothing, one, ◌&◌, joined, run, size}
use Rattle.typed_tree.specs.Nodes.{counted}
use Rattle.typed_tree.proofs.ExprLayers.{expr_layers}
use Rattle.typed_tree.proofs.StmtLayers.{stmt_layers}

module _ {S A : Type 0} (step : A → S → S) where
  run-push : (ps : List (Listed A)) (q : Listed A) (s : S) → run step (joined (ps ++ q ∷ [])) s ≡ run step q (run step (joined ps) s)
  run-push [] q s = refl
  run-push (p ∷ ps) q s = run-push ps q (run step p s)

  -- a loop that makes the steps of one more part
  pub run-more : {X : Type 0} (f : X → Listed A) (xs : List X) (i : ℕ) (x : X) (old mid new : S) → i < length xs → x ≡ get_or xs i x
      → mid ≡ run step (joined (map f (take i xs))) old → new ≡ run step (f x) mid → new ≡ run step (joined (map f (take (i + 1) xs))) old
  run-more f xs i x old mid new lt is before next =
      next ∙ ap (run step (f x)) before ∙ sym (ap (λ ps. run step (joined ps) old) (ap (map f) (take_more xs i x lt ∙ ap (λ y. take i xs ++ y ∷ []) (sym is)) ∙ map-append f (take i xs) (x ∷ [])) ∙ run-push (map f (take i xs)) (f x) old)

pub ruleset counting = (expr_layers, stmt_layers)

-- ---- counting up to the greatest number

min-min : (a b m : ℕ) → min (min a m + b) m ≡ min (a + b) m
min-min a b m = grind (arith)

min-below : (a m : ℕ) → min a m ≤ m
min-below a m = grind (arith)

min-same : (a m : ℕ) → a ≤ m → a ≡ min (a + 0) m
min-same a m le = grind (arith, le)

plus-assoc : (a b c : ℕ) → a + b + c ≡ a + (b + c)
plus-assoc a b c = omega arith

zero-plus : (a : ℕ) → 0 + a ≡ a
zero-plus a = omega arith

run-counted : (l : Listed Place) (n : ℕ) → n ≤ 2 ^ 64 - 1 → run counted l n ≡ min (n + size l) (2 ^ 64 - 1)
run-counted nothing n le = min-same n (2 ^ 64 - 1) le
run-counted (one at) n le = refl
run-counted (p & q) n le =
    ap (run counted q) (run-counted p n le) ∙ run-counted q (min (n + size p) (2 ^ 64 - 1)) (min-below (n + size p) (2 ^ 64 - 1))
    ∙ min-min (n + size p) (size q) (2 ^ 64 - 1) ∙ ap (λ k. min k (2 ^ 64 - 1)) (plus-assoc n (size p) (size q))

pub counted-all : (l : Listed Place) → run counted l 0 ≡ min (size l) (2 ^ 64 - 1)
counted-all l = run-counted l 0 (omega arith) ∙ ap (λ k. min k (2 ^ 64 - 1)) (zero-plus (size l))
