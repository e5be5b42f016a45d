use Rattle.std.proofs.Common.{Some, ap, subst}
use Rattle.std.specs.Option.{option_copied}
use Rattle.type_model.specs.declared.answers.Keys.{Keys}
use Rattle.operations.specs.declared.operation.Constant.{Constant}
use Rattle.operations.specs.declared.operation.Operation.TheVariants as op
use Rattle.stack_code.specs.Commands.{of_name}
use Rattle.code_needs.specs.Combining.{◌&◌, need, of_some, one}
use Rattle.code_needs.specs.Needs.{HasField, PartIn}
use Rattle.needs_of_places.specs.Lending.{IsFieldKey}
use Rattle.needs_of_places.specs.Sites.{row_of}
use Rattle.needs_of_rows.proofs.Finding.{found-as, found-refused, found-where}
use Rattle.needs_of_places.proofs.Fields.{no-name}
use Rattle.needs_of_places.proofs.made.field_row.Goals as goal

pub returns-in-Str : goal.returns-in-Str
returns-in-Str c = λ env place.
    found-where (λ (k : Constant). row_of env place c.args.taken.operands.now (option_copied c.args.taken.given) (of_name op.GetField (Some k))) c.args.name.now _ _ _ c.in-Str.is
    (found-as _ _ _ _ (ap (λ (keys : Keys). one c.args.taken.operands.now (λ m. need (HasField m c.in-Str.text) & of_some (option_copied c.args.taken.given) (λ r. need (PartIn m keys r)))) (subst (λ (k : Constant). IsFieldKey (Some k) c.args.keys.now) c.in-Str.is c.requires)) c.gets_field.ensures)

pub returns-in_default : goal.returns-in_default
returns-in_default c = λ env place.
    found-refused _ _ _ (ap (row_of env place c.args.taken.operands.now (option_copied c.args.taken.given)) (no-name op.GetField c.args.name.now c.in_default.not-Str)) c.refuse.ensures
