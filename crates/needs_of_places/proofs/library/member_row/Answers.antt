use Rattle.std.proofs.Common.{None, Option, ap, sym}
use Rattle.std.specs.Option.{option_copied}
use Rattle.operations.specs.declared.library.LibraryCall.{LibraryCall}
use Rattle.code_needs.specs.Combining.{◌&◌, each, need, of_some, one, one_and_more, two}
use Rattle.code_needs.specs.RowNeeds.{has, library_needs, makes_none, within}
use Rattle.type_model.specs.declared.answers.Keys.{Keys}
use Rattle.code_needs.specs.declared.kind.Kind.TheVariants.{Integers, Lists, Mappings, Nils, Strings}
use Rattle.code_needs.specs.Needs.{PartHas, PartIn}
use Rattle.needs_of_rows.proofs.Finding.{found-as, found-where}
use Rattle.needs_of_places.specs.inner.Called.{member_call}
use Rattle.needs_of_places.proofs.Calls.{no-member}
use Rattle.needs_of_places.proofs.library.member_row.Goals as goal

pub returns-in-ListLength : goal.returns-in-ListLength
returns-in-ListLength c = λ env. found-where (λ (call : LibraryCall). of_some (member_call call) (λ k. library_needs env k None c.args.taken.operands.now (option_copied c.args.taken.given))) c.args.call _ _ _ c.in-ListLength.is c.call_on_one.ensures

pub returns-in-Push : goal.returns-in-Push
returns-in-Push c = λ env. found-where (λ (call : LibraryCall). of_some (member_call call) (λ k. library_needs env k None c.args.taken.operands.now (option_copied c.args.taken.given))) c.args.call _ _ _ c.in-Push.is (found-as _ _ _ _ (ap (λ (keys : Keys). one_and_more c.args.taken.operands.now (λ l values. within l Lists & each (λ v. need (PartHas l keys v)) values & makes_none None (has (option_copied c.args.taken.given) Nils))) c.requires.indexes) c.pushes.ensures)

pub returns-in-Pop : goal.returns-in-Pop
returns-in-Pop c = λ env. found-where (λ (call : LibraryCall). of_some (member_call call) (λ k. library_needs env k None c.args.taken.operands.now (option_copied c.args.taken.given))) c.args.call _ _ _ c.in-Pop.is (found-as _ _ _ _ (ap (λ (keys : Keys). one c.args.taken.operands.now (λ l. within l Lists & makes_none None (of_some (option_copied c.args.taken.given) (λ r. need (PartIn l keys r))))) c.requires.indexes) c.pops.ensures)

pub returns-in-RemoveItem : goal.returns-in-RemoveItem
returns-in-RemoveItem c = λ env. found-where (λ (call : LibraryCall). of_some (member_call call) (λ k. library_needs env k None c.args.taken.operands.now (option_copied c.args.taken.given))) c.args.call _ _ _ c.in-RemoveItem.is (found-as _ _ _ _ (ap (λ (keys : Keys). two c.args.taken.operands.now (λ l i. within l Lists & within i Integers & makes_none None (of_some (option_copied c.args.taken.given) (λ r. need (PartIn l keys r))))) c.requires.indexes) c.removes_item.ensures)

pub returns-in-MappingLength : goal.returns-in-MappingLength
returns-in-MappingLength c = λ env. found-where (λ (call : LibraryCall). of_some (member_call call) (λ k. library_needs env k None c.args.taken.operands.now (option_copied c.args.taken.given))) c.args.call _ _ _ c.in-MappingLength.is c.call_on_one-in-MappingLength.ensures

pub returns-in-HasKey : goal.returns-in-HasKey
returns-in-HasKey c = λ env. found-where (λ (call : LibraryCall). of_some (member_call call) (λ k. library_needs env k None c.args.taken.operands.now (option_copied c.args.taken.given))) c.args.call _ _ _ c.in-HasKey.is c.tests_string.ensures

pub returns-in-Get : goal.returns-in-Get
returns-in-Get c = λ env. found-where (λ (call : LibraryCall). of_some (member_call call) (λ k. library_needs env k None c.args.taken.operands.now (option_copied c.args.taken.given))) c.args.call _ _ _ c.in-Get.is (found-as _ _ _ _ (ap (λ (keys : Keys). two c.args.taken.operands.now (λ m k. within m Mappings & within k Strings & makes_none None (of_some (option_copied c.args.taken.given) (λ r. need (PartIn m keys r))))) c.requires.members) c.gets_member.ensures)

pub returns-in-RemoveKey : goal.returns-in-RemoveKey
returns-in-RemoveKey c = λ env. found-where (λ (call : LibraryCall). of_some (member_call call) (λ k. library_needs env k None c.args.taken.operands.now (option_copied c.args.taken.given))) c.args.call _ _ _ c.in-RemoveKey.is (found-as _ _ _ _ (ap (λ (keys : Keys). two c.args.taken.operands.now (λ m k. within m Mappings & within k Strings & makes_none None (of_some (option_copied c.args.taken.given) (λ r. need (PartIn m keys r))))) c.requires.members) c.gets_member-in-RemoveKey.ensures)

pub returns-in-Message : goal.returns-in-Message
returns-in-Message c = λ env. found-where (λ (call : LibraryCall). of_some (member_call call) (λ k. library_needs env k None c.args.taken.operands.now (option_copied c.args.taken.given))) c.args.call _ _ _ c.in-Message.is c.call_on_one-in-Message.ensures

pub returns-in-Cause : goal.returns-in-Cause
returns-in-Cause c = λ env. found-where (λ (call : LibraryCall). of_some (member_call call) (λ k. library_needs env k None c.args.taken.operands.now (option_copied c.args.taken.given))) c.args.call _ _ _ c.in-Cause.is c.call_on_one-in-Cause.ensures

pub returns-in-Detail : goal.returns-in-Detail
returns-in-Detail c = λ env. found-where (λ (call : LibraryCall). of_some (member_call call) (λ k. library_needs env k None c.args.taken.operands.now (option_copied c.args.taken.given))) c.args.call _ _ _ c.in-Detail.is c.call_on_one-in-Detail.ensures

pub returns-in_default : goal.returns-in_default
returns-in_default c = λ env.
    let d = c.in_default in
    found-as _ _ _ _ (ap (λ (o : Option LibraryCall). of_some o (λ k. library_needs env k None c.args.taken.operands.now (option_copied c.args.taken.given))) (sym (no-member c.args.call d.not-ListLength d.not-Push d.not-Pop d.not-RemoveItem d.not-MappingLength d.not-HasKey d.not-Get d.not-RemoveKey d.not-Message d.not-Cause d.not-Detail))) (c.text_row.ensures env)
