use Rattle.std.proofs.Common.{rules, ◌≡◌, None}
use Rattle.bal_tree.specs.Spells.{kinds_of}
use Rattle.bal_tree.specs.TypeRules.{type_end}
use Rattle.parse_types.specs.Starts.{IfMissing}
use Rattle.parse_types.proofs.Holding.{if-missing}
use Rattle.parse_expr.specs.Reaches.{type_at}
use Rattle.parse_expr.proofs.Listing.{type_at-found, type_at-missing}
use Rattle.parse_expr.proofs.parameters.type_here.Goals as goal

pub returns-in_err-tree-clause-end : goal.returns-in_err-tree-clause-end
returns-in_err-tree-clause-end c =
    let e : IfMissing c.in_err-tree.field-0.0 (type_at c.args.middle (kinds_of c.args.tokens.now) ≡ None) = if-missing c.in_err-tree.field-0.0 (type_at-missing c.args.middle (kinds_of c.args.tokens.now)) c.in_err-tree.ensures.reaches in
    search rules

pub returns-clause-end : goal.returns-clause-end
returns-clause-end c = type_at-found c.args.middle (kinds_of c.args.tokens.now) (type_end c.in_ok-tree.tree).in_result (kinds_of c.in_ok-tree.rest.now) c.in_ok-tree.ensures.reaches
