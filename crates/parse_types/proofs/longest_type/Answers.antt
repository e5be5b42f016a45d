use Rattle.std.proofs.Common.{length, subst, arith}
use Rattle.parse_types.specs.Starts.{LeavesAs, type_left}
use Rattle.parse_types.proofs.Longest.{union-longest}
use Rattle.parse_types.proofs.Parsing.{longest-of, none-of}
use Rattle.parse_types.proofs.Settled.{settled-of}
use Rattle.parse_types.proofs.longest_type.Goals as goal

pub returns-clause-longest : goal.returns-clause-longest
returns-clause-longest c = longest-of c.args.middle c.args.tokens.now (length c.args.tokens.now) (omega arith) c.type_tree.result c.type_tree.ensures.end

pub returns-clause-none : goal.returns-clause-none
returns-clause-none c = none-of c.args.middle c.args.tokens.now (length c.args.tokens.now) (omega arith) c.type_tree.result c.type_tree.ensures.end

pub returns-clause-reaches : goal.returns-clause-reaches
returns-clause-reaches c = subst (λ o. LeavesAs type_left o c.type_tree.result) (union-longest c.args.middle c.args.tokens.now) c.type_tree.ensures.end

pub returns-clause-settled : goal.returns-clause-settled
returns-clause-settled c = settled-of c.args.file c.args.middle c.args.tokens.now (length c.args.tokens.now) (omega arith) c.type_tree.result c.type_tree.ensures.end c.type_tree.ensures.reads
