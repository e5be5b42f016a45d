-- What a walk over a tree meets.
use Rattle.std.proofs.Common.{ℕ, ◌<◌, ◌+◌, length, take, get_or, ◌≡◌, List, sym, subst, ap, ◌∙◌}
use Rattle.std.proofs.lemmas.List.Sums.{fold_more}
use Rattle.bal_tree.proofs.ExprLayers.{expr_layers}
use Rattle.checks.specs.Checks.{Check}
use Rattle.typed_tree.specs.Listed.{Listed, ◌&◌}
use Rattle.needs.specs.Needs.{Going, in_turn_from, Runs}
use Rattle.needs.proofs.Running.{runs-both, running}

module _ {S N : Type 0} (meets : N → Check S (Unit {0})) where
  -- one more of a list whose members are read as they are
  pub runs-next : {X : Type 0} (start : Listed N) (f : X → Listed N) (xs : List X) (i : ℕ) (x : X) (old mid new : Going S)
      → i < length xs → x ≡ get_or xs i x
      → Runs meets (in_turn_from start f (take i xs)) old mid → Runs meets (f x) mid new
      → Runs meets (in_turn_from start f (take (i + 1) xs)) old new
  runs-next start f xs i x old mid new lt e h k =
      subst (λ l. Runs meets l old new)
      (sym (fold_more (λ l y. l & f y) start xs i x lt ∙ ap (λ y. in_turn_from start f (take i xs) & f y) (sym e)))
      (runs-both meets _ _ old mid new h k)

pub ruleset walking = (running, expr_layers)
