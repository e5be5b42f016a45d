use Rattle.std.proofs.Common.{Option, Some, ap, ◌∙◌}
use Rattle.std.specs.Option.{option_copied}
use Rattle.operations.specs.declared.library.LibraryCall.{LibraryCall}
use Rattle.code_needs.specs.Combining.{◌&◌, need, of_some, one, one_and_more}
use Rattle.code_needs.specs.RowNeeds.{library_needs, part_of, within}
use Rattle.type_model.specs.declared.answers.Keys.{Keys}
use Rattle.type_model.specs.declared.answers.Keys.TheVariants.{AnyIndex}
use Rattle.code_needs.specs.declared.kind.Kind.TheVariants.{Integers, Lists, Mappings, Strings}
use Rattle.code_needs.specs.Needs.{Has, PartIn}
use Rattle.needs_of_rows.specs.ListsMade.{list_with}
use Rattle.needs_of_rows.proofs.Finding.{found-as, found-refused, found-where}
use Rattle.needs_of_places.specs.inner.Called.{list_call}
use Rattle.needs_of_places.proofs.Calls.{no-list}
use Rattle.needs_of_places.proofs.library.list_row.Goals as goal

pub returns-in-ToCodePointInts : goal.returns-in-ToCodePointInts
returns-in-ToCodePointInts c = λ env atom d e. found-where (λ (call : LibraryCall). of_some (list_call call) (λ k. library_needs env k (Some atom) c.args.taken.operands.now (option_copied c.args.taken.given))) c.args.call _ _ _ c.in-ToCodePointInts.is
    (found-as _ _ _ _ (λ i. one c.args.taken.operands.now (λ s. within s Strings & list_with (d i) (λ t. need (Has t Integers)) (e i) (option_copied c.args.taken.given))) c.lists_kind.ensures)

pub returns-in-Slice : goal.returns-in-Slice
returns-in-Slice c = λ env atom d e. found-where (λ (call : LibraryCall). of_some (list_call call) (λ k. library_needs env k (Some atom) c.args.taken.operands.now (option_copied c.args.taken.given))) c.args.call _ _ _ c.in-Slice.is
    (found-as _ _ _ _ ((ap (λ (keys : Keys). part_of Lists c.args.taken.operands.now & one_and_more c.args.taken.operands.now (λ l bounds. list_with (option_copied c.args.list.def) (λ t. need (PartIn l keys t)) c.args.list.own.now (option_copied c.args.taken.given))) c.requires.indexes) ∙ (λ i. part_of Lists c.args.taken.operands.now & one_and_more c.args.taken.operands.now (λ l bounds. list_with (d i) (λ t. need (PartIn l AnyIndex t)) (e i) (option_copied c.args.taken.given)))) c.slices.ensures)

pub returns-in-Reverse : goal.returns-in-Reverse
returns-in-Reverse c = λ env atom d e. found-where (λ (call : LibraryCall). of_some (list_call call) (λ k. library_needs env k (Some atom) c.args.taken.operands.now (option_copied c.args.taken.given))) c.args.call _ _ _ c.in-Reverse.is
    (found-as _ _ _ _ ((ap (λ (keys : Keys). one c.args.taken.operands.now (λ l. within l Lists & list_with (option_copied c.args.list.def) (λ t. need (PartIn l keys t)) c.args.list.own.now (option_copied c.args.taken.given))) c.requires.indexes) ∙ (λ i. one c.args.taken.operands.now (λ l. within l Lists & list_with (d i) (λ t. need (PartIn l AnyIndex t)) (e i) (option_copied c.args.taken.given)))) c.reverses.ensures)

pub returns-in-Keys : goal.returns-in-Keys
returns-in-Keys c = λ env atom d e. found-where (λ (call : LibraryCall). of_some (list_call call) (λ k. library_needs env k (Some atom) c.args.taken.operands.now (option_copied c.args.taken.given))) c.args.call _ _ _ c.in-Keys.is
    (found-as _ _ _ _ (λ i. one c.args.taken.operands.now (λ s. within s Mappings & list_with (d i) (λ t. need (Has t Strings)) (e i) (option_copied c.args.taken.given))) c.lists_kind-in-Keys.ensures)

pub returns-in_default : goal.returns-in_default
returns-in_default c = λ env atom own is.
    let d = c.in_default in
    found-refused _ _ _ (ap (λ (o : Option LibraryCall). of_some o (λ k. library_needs env k (Some atom) c.args.taken.operands.now (option_copied c.args.taken.given))) (no-list c.args.call d.not-ToCodePointInts d.not-Slice d.not-Reverse d.not-Keys)) c.refuse.ensures
