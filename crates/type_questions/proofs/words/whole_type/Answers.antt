use Rattle.std.proofs.Common.{◌≡◌, Ok, Err, rules}
use Rattle.bal_base.specs.declared.stop.Stop.TheVariants.{Fault as OwnFault}
use Rattle.type_questions.proofs.WordFaults.{is-part, is-refused}
use Rattle.type_questions.proofs.words.whole_type.Goals as goal

pub returns-then-end-tokens : goal.returns-then-end-tokens
returns-then-end-tokens c =
    let came : c.parse_type.result ≡ Ok (c.in-Ok.tree, c.in-Ok.end) = search rules in
    is-part c.args.file c.args.tokens.now c.parse_type.result c.in-Ok.tree c.in-Ok.end came c.if-end-tokens.true c.parse_type.ensures.longest c.parse_type.ensures.not_deep c.no_type.result c.no_type.ensures

pub returns-in-Err-Fault : goal.returns-in-Err-Fault
returns-in-Err-Fault c =
    let came : c.parse_type.result ≡ Err (OwnFault c.in-Err-Fault.fault) = search rules in
    is-refused c.args.file c.args.tokens.now c.parse_type.result c.in-Err-Fault.fault c.told.result came c.parse_type.ensures.refused c.told.ensures
