use Rattle.std.proofs.Common.{◌≡◌, ◌≤◌, true, length}
use Rattle.std.specs.List.{list_all}
use Rattle.bal_tree.specs.Spells.{Spells, kinds_of}
use Rattle.bal_tree.specs.TypePieces.{param_pieces}
use Rattle.bal_tree.specs.TypeRules.{param_is_formed}
use Rattle.parse_types.specs.Loops.{many}
use Rattle.parse_types.proofs.Commas.{trailed}
use Rattle.parse_expr.specs.Reaches.{param_comma}
use Rattle.parse_expr.proofs.parameters.param_list.Given as goal

abbrev pub invariant-params : goal.invariant-params
invariant-params l = record {
  goes : many length param_comma (kinds_of l.fn.tokens) ≡ many length param_comma (kinds_of l.rest);
  formed : list_all param_is_formed l.params.items ≡ true;
  spells : Spells l.fn.file (trailed param_pieces l.params.items) l.fn.tokens l.rest;
  no_longer : length l.rest ≤ length l.fn.tokens;
}

abbrev pub decreases-params : goal.decreases-params
decreases-params l = length l.rest
