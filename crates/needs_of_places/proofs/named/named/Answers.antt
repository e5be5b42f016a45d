use Rattle.std.proofs.Common.{Option, ap, sym}
use Rattle.std.specs.Option.{option_copied}
use Rattle.stack_code.specs.declared.instr.Instr.{Instr}
use Rattle.type_model.specs.declared.basic.SemType.{SemType}
use Rattle.code_needs.specs.Combining.{◌&◌, none}
use Rattle.code_needs.specs.RowNeeds.{reads, writes}
use Rattle.needs_of_rows.proofs.Finding.{found-as, found-where}
use Rattle.needs_of_places.specs.inner.Grouped.{named_command}
use Rattle.needs_of_places.specs.Sites.{row_at}
use Rattle.needs_of_places.proofs.Others.{no-named}
use Rattle.needs_of_places.proofs.RowParts.{call-so, cast-so, constant-so, test-so}
use Rattle.needs_of_places.proofs.named.named.Goals as goal

pub returns-in-Const : goal.returns-in-Const
returns-in-Const c = found-where (λ (i : Instr). row_at c.args.site c.args.taken.operands.now (option_copied c.args.taken.given) (named_command c.args.site.code.now i)) c.args.instr.now _ _ _ c.in-Const.is
    (found-as _ _ _ _ (constant-so c.args.site c.args.taken.operands.now (option_copied c.args.taken.given) _ _ c.constant_at.ensures) c.constant_row.ensures)

pub returns-in-Load : goal.returns-in-Load
returns-in-Load c = found-where (λ (i : Instr). row_at c.args.site c.args.taken.operands.now (option_copied c.args.taken.given) (named_command c.args.site.code.now i)) c.args.instr.now _ _ _ c.in-Load.is
    (found-as _ _ _ _ (ap (λ (o : Option SemType). none c.args.taken.operands.now & reads o (option_copied c.args.taken.given)) c.slot_at.ensures) c.reads.ensures)

pub returns-in-Store : goal.returns-in-Store
returns-in-Store c = found-where (λ (i : Instr). row_at c.args.site c.args.taken.operands.now (option_copied c.args.taken.given) (named_command c.args.site.code.now i)) c.args.instr.now _ _ _ c.in-Store.is
    (found-as _ _ _ _ (ap (λ (o : Option SemType). writes o c.args.taken.operands.now (option_copied c.args.taken.given)) c.slot_at-in-Store.ensures) c.writes.ensures)

pub returns-in-LoadModule : goal.returns-in-LoadModule
returns-in-LoadModule c = found-where (λ (i : Instr). row_at c.args.site c.args.taken.operands.now (option_copied c.args.taken.given) (named_command c.args.site.code.now i)) c.args.instr.now _ _ _ c.in-LoadModule.is
    (found-as _ _ _ _ (ap (λ (o : Option SemType). none c.args.taken.operands.now & reads o (option_copied c.args.taken.given)) c.variable_at.ensures) c.reads-in-LoadModule.ensures)

pub returns-in-StoreModule : goal.returns-in-StoreModule
returns-in-StoreModule c = found-where (λ (i : Instr). row_at c.args.site c.args.taken.operands.now (option_copied c.args.taken.given) (named_command c.args.site.code.now i)) c.args.instr.now _ _ _ c.in-StoreModule.is
    (found-as _ _ _ _ (ap (λ (o : Option SemType). writes o c.args.taken.operands.now (option_copied c.args.taken.given)) c.variable_at-in-StoreModule.ensures) c.writes-in-StoreModule.ensures)

pub returns-in-Test : goal.returns-in-Test
returns-in-Test c = found-where (λ (i : Instr). row_at c.args.site c.args.taken.operands.now (option_copied c.args.taken.given) (named_command c.args.site.code.now i)) c.args.instr.now _ _ _ c.in-Test.is
    (found-as _ _ _ _ (test-so c.args.site c.args.taken.operands.now (option_copied c.args.taken.given) _ _ c.tested_at.ensures) c.test_row.ensures)

pub returns-in-Cast : goal.returns-in-Cast
returns-in-Cast c = found-where (λ (i : Instr). row_at c.args.site c.args.taken.operands.now (option_copied c.args.taken.given) (named_command c.args.site.code.now i)) c.args.instr.now _ _ _ c.in-Cast.is
    (found-as _ _ _ _ (cast-so c.args.site c.args.taken.operands.now (option_copied c.args.taken.given) _ _ c.tested_at-in-Cast.ensures) c.cast_row.ensures)

pub returns-in-Call : goal.returns-in-Call
returns-in-Call c = found-where (λ (i : Instr). row_at c.args.site c.args.taken.operands.now (option_copied c.args.taken.given) (named_command c.args.site.code.now i)) c.args.instr.now _ _ _ c.in-Call.is
    (found-as _ _ _ _ (call-so c.args.site c.args.taken.operands.now (option_copied c.args.taken.given) c.in-Call.number _ c.unit_at.ensures) c.call_row.ensures)

pub returns-in-Return : goal.returns-in-Return
returns-in-Return c = found-where (λ (i : Instr). row_at c.args.site c.args.taken.operands.now (option_copied c.args.taken.given) (named_command c.args.site.code.now i)) c.args.instr.now _ _ _ c.in-Return.is
    (c.returns.ensures)

pub returns-in_default : goal.returns-in_default
returns-in_default c =
    let d = c.in_default in
    found-as _ _ _ _ (ap (row_at c.args.site c.args.taken.operands.now (option_copied c.args.taken.given)) (sym (no-named c.args.site.code.now c.args.instr.now d.not-Const d.not-Load d.not-Store d.not-LoadModule d.not-StoreModule d.not-Test d.not-Cast d.not-Call d.not-Return))) (c.plain.ensures _ _)
