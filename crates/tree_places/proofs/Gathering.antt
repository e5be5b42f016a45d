-- Names with their places that are listed, gathered one behind another.
use Rattle.std.proofs.Common.{◌≡◌, ◌||◌, Bool, map, List, [], ◌∷◌, ◌++◌, refl, sym, ap, ◌∙◌, append_assoc, append-nil}
use Rattle.std.specs.List.{list_any}
use Rattle.std.proofs.lemmas.List.Folds.{list_any-append}
use Rattle.bal_tree.specs.declared.name.Word.{Word}
use Rattle.bal_tree.proofs.ExprLayers.{expr_layers}
use Rattle.bal_tree.proofs.StmtLayers.{stmt_layers}
use Rattle.typed_tree.specs.Listed.{Listed, nothing, one, ◌&◌, members, run}
use Rattle.tree_places.specs.Gathered.{gather}

-- the names that are gathered behind others
run-gathers : (l : Listed Word) (names : List Word) → run gather l names ≡ names ++ members l
run-gathers nothing names = sym (append-nil names)
run-gathers (one name) names = refl
run-gathers (p & q) names =
    run-gathers q (run gather p names) ∙ ap (λ l. l ++ members q) (run-gathers p names) ∙ append_assoc names (members p) (members q)

pub gathered : (l : Listed Word) → run gather l [] ≡ members l
gathered l = run-gathers l []

pub list_any-map : {X Y : Type 0} (p : Y → Bool) (f : X → Y) (xs : List X) → list_any p (map f xs) ≡ list_any (λ x. p (f x)) xs
list_any-map p f [] = refl
list_any-map p f (x ∷ xs) = ap (λ b. p (f x) || b) (list_any-map p f xs)

pub ruleset in_exprs = (gathered, expr_layers)

pub ruleset in_stmts = (gathered, stmt_layers)

pub ruleset in_breaks = (list_any-append, list_any-map, stmt_layers)
