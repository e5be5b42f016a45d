use Rattle.std.proofs.Common.{ap, sym}
use Rattle.std.specs.Option.{option_copied}
use Rattle.stack_code.specs.declared.instr.Instr.{Instr}
use Rattle.needs_of_places.specs.Sites.{row_of}
use Rattle.type_model.specs.declared.basic.SemType.{SemType}
use Rattle.code_needs.specs.Combining.{absent}
use Rattle.code_needs.specs.declared.kind.Kind.TheVariants.{Sendable}
use Rattle.code_needs.specs.RowNeeds.{within}
use Rattle.needs_of_rows.proofs.Finding.{found-as, found-where}
use Rattle.needs_of_places.specs.inner.Grouped.{plain_command}
use Rattle.needs_of_places.proofs.Others.{no-plain}
use Rattle.needs_of_places.proofs.RowParts.{one-and}
use Rattle.needs_of_places.proofs.simple.plain.Goals as goal

pub returns-in-Pop : goal.returns-in-Pop
returns-in-Pop c = λ env place. found-where (λ (i : Instr). row_of env place c.args.taken.operands.now (option_copied c.args.taken.given) (plain_command i)) c.args.instr.now _ _ _ c.in-Pop.is c.drops.ensures

pub returns-in-Tick : goal.returns-in-Tick
returns-in-Tick c = λ env place. found-where (λ (i : Instr). row_of env place c.args.taken.operands.now (option_copied c.args.taken.given) (plain_command i)) c.args.instr.now _ _ _ c.in-Tick.is c.nothing.ensures

pub returns-in-GetItem : goal.returns-in-GetItem
returns-in-GetItem c = λ env place. found-where (λ (i : Instr). row_of env place c.args.taken.operands.now (option_copied c.args.taken.given) (plain_command i)) c.args.instr.now _ _ _ c.in-GetItem.is c.gets_item.ensures

pub returns-in-GetKey : goal.returns-in-GetKey
returns-in-GetKey c = λ env place. found-where (λ (i : Instr). row_of env place c.args.taken.operands.now (option_copied c.args.taken.given) (plain_command i)) c.args.instr.now _ _ _ c.in-GetKey.is c.gets_key.ensures

pub returns-in-SetItem : goal.returns-in-SetItem
returns-in-SetItem c = λ env place. found-where (λ (i : Instr). row_of env place c.args.taken.operands.now (option_copied c.args.taken.given) (plain_command i)) c.args.instr.now _ _ _ c.in-SetItem.is c.sets_item.ensures

pub returns-in-SetKey : goal.returns-in-SetKey
returns-in-SetKey c = λ env place. found-where (λ (i : Instr). row_of env place c.args.taken.operands.now (option_copied c.args.taken.given) (plain_command i)) c.args.instr.now _ _ _ c.in-SetKey.is c.sets_key.ensures

pub returns-in-CallValue : goal.returns-in-CallValue
returns-in-CallValue c = λ env place. found-where (λ (i : Instr). row_of env place c.args.taken.operands.now (option_copied c.args.taken.given) (plain_command i)) c.args.instr.now _ _ _ c.in-CallValue.is c.calls_value.ensures

pub returns-in-Panic : goal.returns-in-Panic
returns-in-Panic c = λ env place. found-where (λ (i : Instr). row_of env place c.args.taken.operands.now (option_copied c.args.taken.given) (plain_command i)) c.args.instr.now _ _ _ c.in-Panic.is c.takes_one.ensures

pub returns-in-StartValue : goal.returns-in-StartValue
returns-in-StartValue c = λ env place. found-where (λ (i : Instr). row_of env place c.args.taken.operands.now (option_copied c.args.taken.given) (plain_command i)) c.args.instr.now _ _ _ c.in-StartValue.is c.starts_value.ensures

pub returns-in-Workers : goal.returns-in-Workers
returns-in-Workers c = λ env place. found-where (λ (i : Instr). row_of env place c.args.taken.operands.now (option_copied c.args.taken.given) (plain_command i)) c.args.instr.now _ _ _ c.in-Workers.is c.nothing-in-Workers.ensures

pub returns-in-Send : goal.returns-in-Send
returns-in-Send c = λ env place. found-where (λ (i : Instr). row_of env place c.args.taken.operands.now (option_copied c.args.taken.given) (plain_command i)) c.args.instr.now _ _ _ c.in-Send.is c.on_one.ensures

pub returns-in-Post : goal.returns-in-Post
returns-in-Post c = λ env place. found-where (λ (i : Instr). row_of env place c.args.taken.operands.now (option_copied c.args.taken.given) (plain_command i)) c.args.instr.now _ _ _ c.in-Post.is (found-as _ _ _ _ (one-and c.args.taken.operands.now (λ (a : SemType). within a Sendable) (absent (option_copied c.args.taken.given))) c.takes_one-in-Post.ensures)

pub returns-in-Done : goal.returns-in-Done
returns-in-Done c = λ env place. found-where (λ (i : Instr). row_of env place c.args.taken.operands.now (option_copied c.args.taken.given) (plain_command i)) c.args.instr.now _ _ _ c.in-Done.is c.gives_nil.ensures

pub returns-in-Receive : goal.returns-in-Receive
returns-in-Receive c = λ env place. found-where (λ (i : Instr). row_of env place c.args.taken.operands.now (option_copied c.args.taken.given) (plain_command i)) c.args.instr.now _ _ _ c.in-Receive.is c.receives.ensures

pub returns-in-Flush : goal.returns-in-Flush
returns-in-Flush c = λ env place. found-where (λ (i : Instr). row_of env place c.args.taken.operands.now (option_copied c.args.taken.given) (plain_command i)) c.args.instr.now _ _ _ c.in-Flush.is c.gives_nil-in-Flush.ensures

pub returns-in_default : goal.returns-in_default
returns-in_default c = λ env place.
    let d = c.in_default in
    found-as _ _ _ _ (ap (row_of env place c.args.taken.operands.now (option_copied c.args.taken.given)) (sym (no-plain c.args.instr.now d.not-Pop d.not-Tick d.not-GetItem d.not-GetKey d.not-SetItem d.not-SetKey d.not-CallValue d.not-Panic d.not-StartValue d.not-Workers d.not-Send d.not-Post d.not-Done d.not-Receive d.not-Flush))) (c.simple.ensures env place)
