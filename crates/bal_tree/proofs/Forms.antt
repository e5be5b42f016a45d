-- What search needs to see whether a tree is well formed, by its outermost layer.
use Rattle.std.proofs.Common.{◌≡◌, refl, Bool, true, false, ◌&&◌}
use Rattle.std.proofs.lemmas.List.{length-map}
use Rattle.std.proofs.lemmas.List.Folds.{list_all-append, list_all-map}
use Rattle.bal_tree.proofs.ExprLayers.{expr_layers}
use Rattle.bal_tree.proofs.StmtLayers.{stmt_layers}
use Rattle.bal_tree.proofs.TypeLayers.{type_layers}

pub and-true : (b : Bool) → (b && true) ≡ b
and-true true = refl
and-true false = refl

pub and-false : (b : Bool) → (b && false) ≡ false
and-false true = refl
and-false false = refl

pub ruleset type_forms = (list_all-append, list_all-map, type_layers)

pub ruleset stmt_forms = (length-map, list_all-append, list_all-map, stmt_layers)

pub ruleset expr_forms = (list_all-append, list_all-map, expr_layers)

-- for a list that passed, and what may be absent behind it
pub ruleset type_forms_behind = (and-true, and-false, type_forms)
