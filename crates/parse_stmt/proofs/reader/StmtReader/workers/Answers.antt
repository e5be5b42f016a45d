use Rattle.std.proofs.Common.{◌≡◌, [], ◌∷◌, ◌++◌, map, length, Some, refl, sym, ap, ◌∙◌, subst, arith}
use Rattle.std.specs.List.{list_all}
use Rattle.bal_tree.specs.ActionRules.{has_members}
use Rattle.bal_tree.specs.DefPieces.{worker_pieces}
use Rattle.bal_tree.specs.DefRules.{worker_is_formed}
use Rattle.bal_tree.specs.Pieces.{joined}
use Rattle.bal_tree.specs.Spells.{Spells, kinds_of}
use Rattle.parse_types.specs.Loops.{◌>>=◌, many}
use Rattle.parse_types.proofs.Commas.{spells-joined}
use Rattle.parse_types.proofs.Holding.{leaves-missing, leaves-found}
use Rattle.parse_types.proofs.Levels.{loop-more, loop-done}
use Rattle.parse_types.proofs.Readings.{all-push, kinds-less}
use Rattle.parse_stmt.specs.Chosen.{AreChosen, led_in_worker, led_in_workers}
use Rattle.parse_stmt.specs.Reaches.{worker, workers}
use Rattle.parse_stmt.proofs.ChosenMaking.{more-chosen, none-chosen}
use Rattle.parse_stmt.proofs.StmtReadings.{has-one-more}
use Rattle.parse_stmt.proofs.reader.StmtReader.workers.Goals as goal

pub loop-workers-init : goal.loop-workers-init
loop-workers-init c =
    let file = c.args.self.file in
    let tokens = c.args.tokens.now in
    let first = c.in_ok-first.first in
    let rest = c.in_ok-first.rest.now in
    let reads = c.in_ok-first.ensures.reads in
    let none = c.new-workers.ensures.items in
    let items : c.push.new.self.items ≡ first ∷ [] = c.in_ok-push.ensures.items ∙ ap (λ l. l ++ first ∷ []) none in
    record {
      goes = ap (λ o. o >>= λ a. Some (many length (worker c.args.room) a)) c.in_ok-first.ensures.end;
      some = ap has_members items;
      chosen = subst (λ l. AreChosen (led_in_workers l)) (sym items) (more-chosen led_in_worker [] first none-chosen c.in_ok-first.ensures.chosen);
      formed = ap (list_all worker_is_formed) items ∙ all-push worker_is_formed [] first refl reads.formed;
      spells = subst (λ l. Spells file (joined (map worker_pieces l)) tokens rest) (sym items) (spells-joined worker_pieces file [] first tokens tokens rest refl reads.spells);
      shorter = reads.shorter;
    }

pub loop-workers-preserved : goal.loop-workers-preserved
loop-workers-preserved c =
    let n = c.args.room in
    let front = c.loop-workers.invariant in
    let old = c.loop-workers.workers.items in
    let rest = c.loop-workers.rest.now in
    let after = c.in-Some.after.now in
    let next = c.in-Some.next in
    let ok = rw c.in-Some.is at c.in_ok-next.ensures in
    let found = leaves-found (worker n (kinds_of rest)) c.worker-in-loop-workers.result (next, c.in-Some.after) ok c.worker-in-loop-workers.ensures.end in
    let reads = rw ok at c.worker-in-loop-workers.ensures.reads in
    let items = c.in_ok-push-2.ensures.items in
    record {
      goes = loop-more length (worker n) (workers n (kinds_of c.args.tokens.now)) (kinds_of rest) (kinds_of after) front.goes (sym found) (kinds-less after rest reads.shorter);
      some = ap has_members items ∙ has-one-more old next;
      chosen = subst (λ l. AreChosen (led_in_workers l)) (sym items) (more-chosen led_in_worker old next front.chosen (rw ok at c.worker-in-loop-workers.ensures.chosen));
      formed = ap (list_all worker_is_formed) items ∙ all-push worker_is_formed old next front.formed reads.formed;
      spells = subst (λ l. Spells c.args.self.file (joined (map worker_pieces l)) c.args.tokens.now after) (sym items) (spells-joined worker_pieces c.args.self.file old next c.args.tokens.now rest after front.spells reads.spells);
      shorter = omega (arith, reads.shorter, front.shorter);
    }

pub returns-clause-end : goal.returns-clause-end
returns-clause-end c =
    let n = c.args.room in
    let rest = c.loop-workers.rest.now in
    let missing = rw c.in_default.is at c.in_ok-next.ensures in
    loop-done length (worker n) (workers n (kinds_of c.args.tokens.now)) (kinds_of rest) c.loop-workers.invariant.goes (sym (leaves-missing (worker n (kinds_of rest)) c.worker-in-loop-workers.result missing.0 missing.1 c.worker-in-loop-workers.ensures.end))
