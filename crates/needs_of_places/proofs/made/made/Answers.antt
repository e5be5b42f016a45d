use Rattle.std.proofs.Common.{◌≡◌, ℕ, Option, Some, ap, subst, sym}
use Rattle.std.specs.Option.{option_copied}
use Rattle.type_model.specs.declared.answers.Keys.{Keys}
use Rattle.type_model.specs.declared.basic.SemType.{SemType, Atom}
use Rattle.operations.specs.declared.operation.Constant.{Constant}
use Rattle.operations.specs.declared.operation.Operation.TheVariants as op
use Rattle.stack_code.specs.declared.instr.Instr.{Instr}
use Rattle.stack_code.specs.Commands.{Do, of_name}
use Rattle.code_needs.specs.Combining.{◌&◌, need, none, of_some, one}
use Rattle.code_needs.specs.declared.kind.Kind.TheVariants.{Errors, Futures}
use Rattle.code_needs.specs.Needs.{Has, PartIn}
use Rattle.code_needs.specs.RowNeeds.{reads, within}
use Rattle.needs_of_rows.specs.PairsTaken.{TakesPairs}
use Rattle.needs_of_rows.proofs.Finding.{found-as, found-where}
use Rattle.needs_of_places.specs.inner.Grouped.{made_command}
use Rattle.needs_of_places.specs.Lending.{ArePairsOf, IsFieldKey, IsFieldOf, own_atom}
use Rattle.needs_of_places.specs.Sites.{known_at, row_at}
use Rattle.needs_of_places.proofs.Others.{no-made}
use Rattle.needs_of_places.proofs.RowParts.{made-so, start-so}
use Rattle.needs_of_places.proofs.made.made.Goals as goal

pub returns-in-MakeList : goal.returns-in-MakeList
returns-in-MakeList c = found-where (λ (i : Instr). row_at c.args.site c.args.taken.operands.now (option_copied c.args.taken.given) (made_command c.args.site.code.now i)) c.args.instr.now _ _ _ c.in-MakeList.is
    (found-as _ _ _ _ (λ j. row_at c.args.site c.args.taken.operands.now (option_copied c.args.taken.given) (Some (Do (op.MakeList (c.made_of.ensures.atom j) (c.made_of.ensures.immutable j) (c.made_of.ensures.count j))))) c.list_row.ensures)

pub mapping_row-requires : goal.mapping_row-requires
mapping_row-requires c = subst (λ (n : ℕ). TakesPairs n c.args.taken.operands.now (option_copied c.args.lent.pairs)) (sym c.made_of-in-MakeMap.ensures.count) (subst (λ (i : Instr). ArePairsOf i c.args.taken.operands.now (option_copied c.args.lent.pairs)) c.in-MakeMap.is c.requires.pairs)

pub returns-in-MakeMap : goal.returns-in-MakeMap
returns-in-MakeMap c = found-where (λ (i : Instr). row_at c.args.site c.args.taken.operands.now (option_copied c.args.taken.given) (made_command c.args.site.code.now i)) c.args.instr.now _ _ _ c.in-MakeMap.is
    (found-as _ _ _ _ (λ j. row_at c.args.site c.args.taken.operands.now (option_copied c.args.taken.given) (Some (Do (op.MakeMapping (c.made_of-in-MakeMap.ensures.atom j) (c.made_of-in-MakeMap.ensures.immutable j) (c.made_of-in-MakeMap.ensures.count j))))) c.mapping_row.ensures)

pub error_row-requires : goal.error_row-requires
error_row-requires c = subst (λ (i : Instr). ArePairsOf i c.args.taken.operands.now (option_copied c.args.lent.pairs)) c.in-MakeError.is c.requires.pairs

pub returns-in-MakeError : goal.returns-in-MakeError
returns-in-MakeError c = found-where (λ (i : Instr). row_at c.args.site c.args.taken.operands.now (option_copied c.args.taken.given) (made_command c.args.site.code.now i)) c.args.instr.now _ _ _ c.in-MakeError.is
    (c.error_row.ensures c.args.site.code.now.atoms (known_at c.args.site))

pub returns-in-MakeFunction : goal.returns-in-MakeFunction
returns-in-MakeFunction c = found-where (λ (i : Instr). row_at c.args.site c.args.taken.operands.now (option_copied c.args.taken.given) (made_command c.args.site.code.now i)) c.args.instr.now _ _ _ c.in-MakeFunction.is
    (found-as _ _ _ _ (made-so c.args.site c.args.taken.operands.now (option_copied c.args.taken.given) _ _ c.args.lent.own.now _ c.unit_at.ensures (subst (λ (i : Instr). c.args.lent.own.now ≡ Atom (own_atom c.args.site.code.now i)) c.in-MakeFunction.is c.requires.own)) c.makes_function.ensures)

pub field_at-requires : goal.field_at-requires
field_at-requires c = subst (λ (o : Option Constant). IsFieldKey o c.args.lent.field.now) (sym c.constant_at.ensures) (subst (λ (i : Instr). IsFieldOf c.args.site.code.now i c.args.lent.field.now) c.in-GetField.is c.requires.field)

pub returns-in-GetField : goal.returns-in-GetField
returns-in-GetField c = found-where (λ (i : Instr). row_at c.args.site c.args.taken.operands.now (option_copied c.args.taken.given) (made_command c.args.site.code.now i)) c.args.instr.now _ _ _ c.in-GetField.is
    (found-as _ _ _ _ (ap (λ (o : Option Constant). row_at c.args.site c.args.taken.operands.now (option_copied c.args.taken.given) (of_name op.GetField o)) c.constant_at.ensures) (c.field_at.ensures c.args.site.code.now.atoms (known_at c.args.site)))

pub optional_at-requires : goal.optional_at-requires
optional_at-requires c = subst (λ (o : Option Constant). IsFieldKey o c.args.lent.field.now) (sym c.constant_at-in-GetOptional.ensures) (subst (λ (i : Instr). IsFieldOf c.args.site.code.now i c.args.lent.field.now) c.in-GetOptional.is c.requires.field)

pub returns-in-GetOptional : goal.returns-in-GetOptional
returns-in-GetOptional c = found-where (λ (i : Instr). row_at c.args.site c.args.taken.operands.now (option_copied c.args.taken.given) (made_command c.args.site.code.now i)) c.args.instr.now _ _ _ c.in-GetOptional.is
    (found-as _ _ _ _ (ap (λ (o : Option Constant). row_at c.args.site c.args.taken.operands.now (option_copied c.args.taken.given) (of_name op.GetOptional o)) c.constant_at-in-GetOptional.ensures) (c.optional_at.ensures c.args.site.code.now.atoms (known_at c.args.site)))

pub returns-in-StartCall : goal.returns-in-StartCall
returns-in-StartCall c = found-where (λ (i : Instr). row_at c.args.site c.args.taken.operands.now (option_copied c.args.taken.given) (made_command c.args.site.code.now i)) c.args.instr.now _ _ _ c.in-StartCall.is
    (found-as _ _ _ _ (start-so c.args.site c.args.taken.operands.now (option_copied c.args.taken.given) _ c.args.lent.own.now _ c.unit_at-in-StartCall.ensures (subst (λ (i : Instr). c.args.lent.own.now ≡ Atom (own_atom c.args.site.code.now i)) c.in-StartCall.is c.requires.own)) c.start_row.ensures)

pub worker_result-requires : goal.worker_result-requires
worker_result-requires c = c.requires.all.never

pub returns-in-WaitWorker : goal.returns-in-WaitWorker
returns-in-WaitWorker c = found-where (λ (i : Instr). row_at c.args.site c.args.taken.operands.now (option_copied c.args.taken.given) (made_command c.args.site.code.now i)) c.args.instr.now _ _ _ c.in-WaitWorker.is
    (found-as _ _ _ _ (ap (λ (o : Option SemType). none c.args.taken.operands.now & reads o (option_copied c.args.taken.given)) c.worker_result.ensures) c.reads.ensures)

pub returns-in-WaitFuture : goal.returns-in-WaitFuture
returns-in-WaitFuture c = found-where (λ (i : Instr). row_at c.args.site c.args.taken.operands.now (option_copied c.args.taken.given) (made_command c.args.site.code.now i)) c.args.instr.now _ _ _ c.in-WaitFuture.is
    (found-as _ _ _ _ (ap (λ (keys : Keys). one c.args.taken.operands.now (λ f. within f Futures & of_some (option_copied c.args.taken.given) (λ r. need (PartIn f keys r) & need (Has r Errors)))) c.requires.all.results) c.waits_one.ensures)

pub returns-in_default : goal.returns-in_default
returns-in_default c =
    let d = c.in_default in
    found-as _ _ _ _ (ap (row_at c.args.site c.args.taken.operands.now (option_copied c.args.taken.given)) (sym (no-made c.args.site.code.now c.args.instr.now d.not-MakeList d.not-MakeMap d.not-MakeError d.not-MakeFunction d.not-GetField d.not-GetOptional d.not-StartCall d.not-WaitWorker d.not-WaitFuture))) c.named.ensures
