use Rattle.std.proofs.Common.{map, sym, ap, ◌∙◌, subst}
use Rattle.std.specs.List.{list_all}
use Rattle.bal_tree.specs.DefPieces.{def_pieces}
use Rattle.bal_tree.specs.DefRules.{def_is_formed}
use Rattle.bal_tree.specs.Pieces.{joined}
use Rattle.bal_tree.specs.Spells.{Spells, kinds_of}
use Rattle.parse_types.proofs.Commas.{spells-joined}
use Rattle.parse_types.proofs.Holding.{leaves-missing}
use Rattle.parse_types.proofs.Readings.{all-push}
use Rattle.parse_stmt.specs.Chosen.{AreChosen, led_in_def, led_in_defs}
use Rattle.parse_stmt.specs.Reaches.{def}
use Rattle.parse_stmt.proofs.ChosenMaking.{more-chosen}
use Rattle.parse_stmt.proofs.reader.StmtReader.defs.Goals as goal

pub loop-defs-preserved : goal.loop-defs-preserved
loop-defs-preserved c =
    let front = c.loop-defs.invariant in
    let old = c.loop-defs.defs.items in
    let rest = c.loop-defs.rest.now in
    let after = c.in-Some.after.now in
    let next = c.in-Some.next in
    let ok = rw c.in-Some.is at c.in_ok-next.ensures in
    let reads = rw ok at c.def.ensures.reads in
    let items = c.in_ok-push.ensures.items in
    record {
      chosen = subst (λ l. AreChosen (led_in_defs l)) (sym items) (more-chosen led_in_def old next front.chosen (rw ok at c.def.ensures.chosen));
      formed = ap (list_all def_is_formed) items ∙ all-push def_is_formed old next front.formed reads.formed;
      spells = subst (λ l. Spells c.args.self.file (joined (map def_pieces l)) c.args.tokens.now after) (sym items) (spells-joined def_pieces c.args.self.file old next c.args.tokens.now rest after front.spells reads.spells);
    }

pub returns-clause-stops : goal.returns-clause-stops
returns-clause-stops c =
    let missing = rw c.in_default.is at c.in_ok-next.ensures in
    leaves-missing (def c.args.room (kinds_of c.loop-defs.rest.now)) c.def.result missing.0 missing.1 c.def.ensures.end
