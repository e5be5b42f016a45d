use Rattle.std.proofs.Common.{None, Option, ap}
use Rattle.std.specs.Option.{option_copied}
use Rattle.operations.specs.declared.library.LibraryCall.{LibraryCall}
use Rattle.code_needs.specs.Combining.{of_some}
use Rattle.code_needs.specs.RowNeeds.{library_needs}
use Rattle.needs_of_rows.proofs.Finding.{found-refused, found-where}
use Rattle.needs_of_places.specs.inner.Called.{text_call}
use Rattle.needs_of_places.proofs.Calls.{no-text}
use Rattle.needs_of_places.proofs.library.text_row.Goals as goal

pub returns-in-Println : goal.returns-in-Println
returns-in-Println c = λ env. found-where (λ (call : LibraryCall). of_some (text_call call) (λ k. library_needs env k None c.args.taken.operands.now (option_copied c.args.taken.given))) c.args.call _ _ _ c.in-Println.is c.gives_kind.ensures

pub returns-in-Print : goal.returns-in-Print
returns-in-Print c = λ env. found-where (λ (call : LibraryCall). of_some (text_call call) (λ k. library_needs env k None c.args.taken.operands.now (option_copied c.args.taken.given))) c.args.call _ _ _ c.in-Print.is c.gives_kind-in-Print.ensures

pub returns-in-Readln : goal.returns-in-Readln
returns-in-Readln c = λ env. found-where (λ (call : LibraryCall). of_some (text_call call) (λ k. library_needs env k None c.args.taken.operands.now (option_copied c.args.taken.given))) c.args.call _ _ _ c.in-Readln.is c.reads_line.ensures

pub returns-in-FromString : goal.returns-in-FromString
returns-in-FromString c = λ env. found-where (λ (call : LibraryCall). of_some (text_call call) (λ k. library_needs env k None c.args.taken.operands.now (option_copied c.args.taken.given))) c.args.call _ _ _ c.in-FromString.is c.call_on_one.ensures

pub returns-in-Abs : goal.returns-in-Abs
returns-in-Abs c = λ env. found-where (λ (call : LibraryCall). of_some (text_call call) (λ k. library_needs env k None c.args.taken.operands.now (option_copied c.args.taken.given))) c.args.call _ _ _ c.in-Abs.is c.call_on_one-in-Abs.ensures

pub returns-in-ToString : goal.returns-in-ToString
returns-in-ToString c = λ env. found-where (λ (call : LibraryCall). of_some (text_call call) (λ k. library_needs env k None c.args.taken.operands.now (option_copied c.args.taken.given))) c.args.call _ _ _ c.in-ToString.is c.writes_text.ensures

pub returns-in-Clone : goal.returns-in-Clone
returns-in-Clone c = λ env. found-where (λ (call : LibraryCall). of_some (text_call call) (λ k. library_needs env k None c.args.taken.operands.now (option_copied c.args.taken.given))) c.args.call _ _ _ c.in-Clone.is c.copies.ensures

pub returns-in-CloneReadOnly : goal.returns-in-CloneReadOnly
returns-in-CloneReadOnly c = λ env. found-where (λ (call : LibraryCall). of_some (text_call call) (λ k. library_needs env k None c.args.taken.operands.now (option_copied c.args.taken.given))) c.args.call _ _ _ c.in-CloneReadOnly.is c.call_on_one-in-CloneReadOnly.ensures

pub returns-in-StringLength : goal.returns-in-StringLength
returns-in-StringLength c = λ env. found-where (λ (call : LibraryCall). of_some (text_call call) (λ k. library_needs env k None c.args.taken.operands.now (option_copied c.args.taken.given))) c.args.call _ _ _ c.in-StringLength.is c.call_on_one-in-StringLength.ensures

pub returns-in-StartsWith : goal.returns-in-StartsWith
returns-in-StartsWith c = λ env. found-where (λ (call : LibraryCall). of_some (text_call call) (λ k. library_needs env k None c.args.taken.operands.now (option_copied c.args.taken.given))) c.args.call _ _ _ c.in-StartsWith.is c.tests_string.ensures

pub returns-in-Trim : goal.returns-in-Trim
returns-in-Trim c = λ env. found-where (λ (call : LibraryCall). of_some (text_call call) (λ k. library_needs env k None c.args.taken.operands.now (option_copied c.args.taken.given))) c.args.call _ _ _ c.in-Trim.is c.call_on_one-in-Trim.ensures

pub returns-in-Substring : goal.returns-in-Substring
returns-in-Substring c = λ env. found-where (λ (call : LibraryCall). of_some (text_call call) (λ k. library_needs env k None c.args.taken.operands.now (option_copied c.args.taken.given))) c.args.call _ _ _ c.in-Substring.is c.takes_substring.ensures

pub returns-in-ToUpperAscii : goal.returns-in-ToUpperAscii
returns-in-ToUpperAscii c = λ env. found-where (λ (call : LibraryCall). of_some (text_call call) (λ k. library_needs env k None c.args.taken.operands.now (option_copied c.args.taken.given))) c.args.call _ _ _ c.in-ToUpperAscii.is c.call_on_one-in-ToUpperAscii.ensures

pub returns-in-ToLowerAscii : goal.returns-in-ToLowerAscii
returns-in-ToLowerAscii c = λ env. found-where (λ (call : LibraryCall). of_some (text_call call) (λ k. library_needs env k None c.args.taken.operands.now (option_copied c.args.taken.given))) c.args.call _ _ _ c.in-ToLowerAscii.is c.call_on_one-in-ToLowerAscii.ensures

pub returns-in_default : goal.returns-in_default
returns-in_default c = λ env.
    let d = c.in_default in
    found-refused _ _ _ (ap (λ (o : Option LibraryCall). of_some o (λ k. library_needs env k None c.args.taken.operands.now (option_copied c.args.taken.given))) (no-text c.args.call d.not-Println d.not-Print d.not-Readln d.not-FromString d.not-Abs d.not-ToString d.not-Clone d.not-CloneReadOnly d.not-StringLength d.not-StartsWith d.not-Trim d.not-Substring d.not-ToUpperAscii d.not-ToLowerAscii)) c.refuse.ensures
