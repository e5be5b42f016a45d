use Rattle.std.proofs.Common.{◌≡◌, ◌≤◌, arith}
use Rattle.bal_tree.specs.DefRules.{type_is_formed_if}
use Rattle.bal_tree.specs.TypeRules.{params_are_formed}
use Rattle.parse_types.proofs.Readings.{both-true}
use Rattle.parse_stmt.proofs.reader.StmtReader.body_front.Goals as goal

pub returns-clause-reads : goal.returns-clause-reads
returns-clause-reads c =
    let file = c.args.self.file in
    let public = c.key_if_there-public in
    let isolated = c.key_if_there-isolated in
    let word = c.in_ok-rest.ensures in
    let name = c.in_ok-name.ensures.reads in
    let given = c.in_ok-params.ensures.reads in
    let stated = c.in_ok-result.ensures in
    let opens = c.in_ok-rest-2.ensures in
    record {
      formed = both-true (params_are_formed c.in_ok-params.params) (type_is_formed_if c.in_ok-result.result) given.formed stated.formed;
      spells = (
        c.in_ok-result.rest.now,
        (public.result.1.now, public.ensures.spells file, (isolated.result.1.now, isolated.ensures.spells file, (c.in_ok-rest.rest.now, word.heads, (c.in_ok-name.rest.now, name.spells, (c.in_ok-params.rest.now, given.spells, stated.spells))))),
        opens.heads,
      );
      shorter = omega (arith, public.ensures.no_longer, isolated.ensures.no_longer, word.shorter, name.shorter, given.shorter, stated.no_longer, opens.shorter);
    }
