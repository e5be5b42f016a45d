use Rattle.std.proofs.Common.{◌≡◌, Some, ap, subst, sym}
use Rattle.std.specs.Option.{option_copied}
use Rattle.type_model.specs.declared.basic.SemType.{Atom}
use Rattle.operations.specs.declared.operation.Operation.TheVariants as op
use Rattle.stack_code.specs.declared.instr.Instr.{Instr}
use Rattle.stack_code.specs.Commands.{Do, command_of}
use Rattle.needs_of_rows.proofs.Finding.{found-as, found-where}
use Rattle.needs_of_places.specs.Lending.{own_atom}
use Rattle.needs_of_places.specs.Sites.{row_at}
use Rattle.needs_of_places.proofs.Others.{no-row}
use Rattle.needs_of_places.proofs.rows.row.Goals as goal

pub native-requires-clause-own : goal.native-requires-clause-own
native-requires-clause-own c = subst (λ (i : Instr). c.args.lent.own.now ≡ Atom (own_atom c.args.site.code.now i)) c.in-Native.is c.requires.own

pub native-requires-clause-lent : goal.native-requires-clause-lent
native-requires-clause-lent c = c.requires.all

pub returns-in-Native : goal.returns-in-Native
returns-in-Native c = found-where (λ (i : Instr). row_at c.args.site c.args.taken.operands.now (option_copied c.args.taken.given) (command_of c.args.site.code.now i)) c.args.instr.now _ _ _ c.in-Native.is c.native.ensures

pub waits_any-requires : goal.waits_any-requires
waits_any-requires c = c.requires.all

pub returns-in-WaitAny : goal.returns-in-WaitAny
returns-in-WaitAny c = found-where (λ (i : Instr). row_at c.args.site c.args.taken.operands.now (option_copied c.args.taken.given) (command_of c.args.site.code.now i)) c.args.instr.now _ _ _ c.in-WaitAny.is
    (found-as _ _ _ _ (ap (λ names. row_at c.args.site c.args.taken.operands.now (option_copied c.args.taken.given) (Some (Do (op.WaitAny names)))) c.as_slice.ensures) c.waits_any.ensures)

pub waits_all-requires-clause-own : goal.waits_all-requires-clause-own
waits_all-requires-clause-own c = subst (λ (i : Instr). c.args.lent.own.now ≡ Atom (own_atom c.args.site.code.now i)) c.in-WaitAll.is c.requires.own

pub waits_all-requires-clause-lent : goal.waits_all-requires-clause-lent
waits_all-requires-clause-lent c = c.requires.all

pub returns-in-WaitAll : goal.returns-in-WaitAll
returns-in-WaitAll c = found-where (λ (i : Instr). row_at c.args.site c.args.taken.operands.now (option_copied c.args.taken.given) (command_of c.args.site.code.now i)) c.args.instr.now _ _ _ c.in-WaitAll.is
    (found-as _ _ _ _ (ap (λ names. row_at c.args.site c.args.taken.operands.now (option_copied c.args.taken.given) (Some (Do (op.WaitAll c.in-WaitAll.atom names)))) c.as_slice-in-WaitAll.ensures) c.waits_all.ensures)

pub returns-in_default : goal.returns-in_default
returns-in_default c =
    let d = c.in_default in
    found-as _ _ _ _ (sym (no-row c.args.site c.args.taken.operands.now (option_copied c.args.taken.given) c.args.instr.now d.not-Native d.not-WaitAny d.not-WaitAll)) c.made.ensures
