use Rattle.std.proofs.Common.{sym, subst}
use Rattle.std.specs.Prelude.{IfOk}
use Rattle.value_model.specs.declared.value.Value.TheVariants.{Struct}
use Rattle.plain_run.specs.Held.{heap_of}
use Rattle.plain_equality.specs.Pairs.{IsHeld}
use Rattle.plain_equality.proofs.held.hold.Goals as goal

pub returns-in-Struct-w : goal.returns-in-Struct-w
returns-in-Struct-w c =
    let h = heap_of c.args.heap.now in
    let old = c.args.held.now.items in
    let new = c.hold_structures.new.held.items in
    subst (λ v. IfOk c.hold_structures.result (IsHeld h v c.args.w.now old new)) (sym c.in-Struct.is)
    (subst (λ w. IfOk c.hold_structures.result (IsHeld h (Struct c.in-Struct.n) w old new)) (sym c.in-Struct-w.is) c.hold_structures.ensures)
