use Rattle.std.proofs.Common.{arith}
use Rattle.bal_tree.specs.TypeRules.{type_is_formed, params_are_formed}
use Rattle.parse_types.proofs.Readings.{both-true}
use Rattle.parse_expr.proofs.prefixes.function_head.Goals as goal

pub returns-clause-reads : goal.returns-clause-reads
returns-clause-reads c =
    let word = c.isolated_if_there-isolated in
    let function = c.in_ok-rest.ensures in
    let params = c.in_ok-params.ensures.reads in
    let returns = c.in_ok-rest-2.ensures in
    let result = c.in_ok-result.ensures.reads in
    record {
      formed = both-true (params_are_formed c.in_ok-params.params) (type_is_formed c.in_ok-result.result.value c.args.middle) params.formed result.formed;
      spells = (c.in_ok-rest.rest.now, (word.result.1.now, word.ensures.spells c.args.file, function.heads), (c.in_ok-params.rest.now, params.spells, (c.in_ok-rest-2.rest.now, returns.heads, result.spells)));
      shorter = omega (arith, word.ensures.no_longer, function.shorter, params.shorter, returns.shorter, result.shorter);
    }
