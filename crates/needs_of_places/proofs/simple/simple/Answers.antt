use Rattle.std.proofs.Common.{ap}
use Rattle.std.specs.Option.{option_copied}
use Rattle.stack_code.specs.declared.instr.Instr.{Instr}
use Rattle.needs_of_places.specs.Sites.{row_of}
use Rattle.needs_of_rows.proofs.Finding.{found-refused, found-where}
use Rattle.needs_of_places.specs.inner.Grouped.{simple_command}
use Rattle.needs_of_places.proofs.Others.{no-simple}
use Rattle.needs_of_places.proofs.simple.simple.Goals as goal

pub returns-in-Add : goal.returns-in-Add
returns-in-Add c = λ env place. found-where (λ (i : Instr). row_of env place c.args.taken.operands.now (option_copied c.args.taken.given) (simple_command i)) c.args.instr.now _ _ _ c.in-Add.is c.on_two.ensures

pub returns-in-Sub : goal.returns-in-Sub
returns-in-Sub c = λ env place. found-where (λ (i : Instr). row_of env place c.args.taken.operands.now (option_copied c.args.taken.given) (simple_command i)) c.args.instr.now _ _ _ c.in-Sub.is c.on_two-in-Sub.ensures

pub returns-in-Mul : goal.returns-in-Mul
returns-in-Mul c = λ env place. found-where (λ (i : Instr). row_of env place c.args.taken.operands.now (option_copied c.args.taken.given) (simple_command i)) c.args.instr.now _ _ _ c.in-Mul.is c.on_two-in-Mul.ensures

pub returns-in-Div : goal.returns-in-Div
returns-in-Div c = λ env place. found-where (λ (i : Instr). row_of env place c.args.taken.operands.now (option_copied c.args.taken.given) (simple_command i)) c.args.instr.now _ _ _ c.in-Div.is c.on_two-in-Div.ensures

pub returns-in-Rem : goal.returns-in-Rem
returns-in-Rem c = λ env place. found-where (λ (i : Instr). row_of env place c.args.taken.operands.now (option_copied c.args.taken.given) (simple_command i)) c.args.instr.now _ _ _ c.in-Rem.is c.on_two-in-Rem.ensures

pub returns-in-Neg : goal.returns-in-Neg
returns-in-Neg c = λ env place. found-where (λ (i : Instr). row_of env place c.args.taken.operands.now (option_copied c.args.taken.given) (simple_command i)) c.args.instr.now _ _ _ c.in-Neg.is c.on_one.ensures

pub returns-in-Concat : goal.returns-in-Concat
returns-in-Concat c = λ env place. found-where (λ (i : Instr). row_of env place c.args.taken.operands.now (option_copied c.args.taken.given) (simple_command i)) c.args.instr.now _ _ _ c.in-Concat.is c.on_two-in-Concat.ensures

pub returns-in-Less : goal.returns-in-Less
returns-in-Less c = λ env place. found-where (λ (i : Instr). row_of env place c.args.taken.operands.now (option_copied c.args.taken.given) (simple_command i)) c.args.instr.now _ _ _ c.in-Less.is c.orders.ensures

pub returns-in-LessEqual : goal.returns-in-LessEqual
returns-in-LessEqual c = λ env place. found-where (λ (i : Instr). row_of env place c.args.taken.operands.now (option_copied c.args.taken.given) (simple_command i)) c.args.instr.now _ _ _ c.in-LessEqual.is c.orders-in-LessEqual.ensures

pub returns-in-Not : goal.returns-in-Not
returns-in-Not c = λ env place. found-where (λ (i : Instr). row_of env place c.args.taken.operands.now (option_copied c.args.taken.given) (simple_command i)) c.args.instr.now _ _ _ c.in-Not.is c.on_one-in-Not.ensures

pub returns-in-Equal : goal.returns-in-Equal
returns-in-Equal c = λ env place. found-where (λ (i : Instr). row_of env place c.args.taken.operands.now (option_copied c.args.taken.given) (simple_command i)) c.args.instr.now _ _ _ c.in-Equal.is c.on_two-in-Equal.ensures

pub returns-in-Same : goal.returns-in-Same
returns-in-Same c = λ env place. found-where (λ (i : Instr). row_of env place c.args.taken.operands.now (option_copied c.args.taken.given) (simple_command i)) c.args.instr.now _ _ _ c.in-Same.is c.compares.ensures

pub returns-in-GetChar : goal.returns-in-GetChar
returns-in-GetChar c = λ env place. found-where (λ (i : Instr). row_of env place c.args.taken.operands.now (option_copied c.args.taken.given) (simple_command i)) c.args.instr.now _ _ _ c.in-GetChar.is c.on_two-in-GetChar.ensures

pub returns-in_default : goal.returns-in_default
returns-in_default c = λ env place.
    let d = c.in_default in
    found-refused _ _ _ (ap (row_of env place c.args.taken.operands.now (option_copied c.args.taken.given)) (no-simple c.args.instr.now d.not-Add d.not-Sub d.not-Mul d.not-Div d.not-Rem d.not-Neg d.not-Concat d.not-Less d.not-LessEqual d.not-Not d.not-Equal d.not-Same d.not-GetChar)) c.refuse.ensures
