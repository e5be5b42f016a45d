use Rattle.std.proofs.Common.{subst}
use Rattle.parse_types.specs.Starts.{Leaves}
use Rattle.parse_expr.proofs.Parsing.{expr-room, longest-of, none-of}
use Rattle.parse_expr.proofs.longest_expr.Goals as goal

pub returns-clause-reaches : goal.returns-clause-reaches
returns-clause-reaches c = subst (λ o. Leaves o c.up_to.result) (expr-room c.args.tokens.now) c.up_to.ensures.end

pub returns-clause-longest : goal.returns-clause-longest
returns-clause-longest c = longest-of c.args.tokens.now c.up_to.result (subst (λ o. Leaves o c.up_to.result) (expr-room c.args.tokens.now) c.up_to.ensures.end)

pub returns-clause-none : goal.returns-clause-none
returns-clause-none c = none-of c.args.tokens.now c.up_to.result (subst (λ o. Leaves o c.up_to.result) (expr-room c.args.tokens.now) c.up_to.ensures.end)
