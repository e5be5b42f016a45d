use Rattle.std.proofs.Common.{◌≡◌, map, subst, sym}
use Rattle.std.proofs.lemmas.Result.{IfOk-weaker}
use Rattle.list_fillers.specs.Marks.{AreSound, IsRound, chosen}
use Rattle.filler_tables.specs.Tables.{IsFillerTable}
use Rattle.filler_tables.proofs.Tabled.{tabled}
use Rattle.filler_tables.proofs.tables.table.Goals as goal

pub returns-clause-table : goal.returns-clause-table
returns-clause-table c =
    let defs = c.args.defs.now in
    let rows = c.args.rows.now in
    let marks = c.deref.result.now in
    let sound = subst (AreSound defs rows) (sym c.deref.ensures.value) c.in_ok-marks.ensures.sound in
    let still = subst (λ ms. IsRound defs rows ms ms) (sym c.deref.ensures.value) c.in_ok-marks.ensures.still in
    IfOk-weaker c.all_chosen.result (λ made. made.items ≡ map (map (chosen marks)) rows) (λ made. IsFillerTable defs made.items) (λ made e. tabled defs rows marks c.requires sound still made.items e) c.all_chosen.ensures
