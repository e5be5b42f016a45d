use Rattle.operations.specs.declared.library.LibraryCall.TheVariants as call
use Rattle.plain_library.proofs.Calling.{any-call, asking-call, list-call}
use Rattle.plain_library.proofs.calls.called.Goals as goal

pub returns-in-Println-clause-row : goal.returns-in-Println-clause-row
returns-in-Println-clause-row c = any-call c.args.facts.now call.Println c.args.atom c.args.operands.now c.args.world.now c.println.new.world c.args.call c.println.result c.told.result c.in-Println.is c.told.ensures c.println.ensures.row

pub returns-in-Print-clause-row : goal.returns-in-Print-clause-row
returns-in-Print-clause-row c = any-call c.args.facts.now call.Print c.args.atom c.args.operands.now c.args.world.now c.print.new.world c.args.call c.print.result c.told-in-Print.result c.in-Print.is c.told-in-Print.ensures c.print.ensures.row

pub returns-in-Readln-clause-row : goal.returns-in-Readln-clause-row
returns-in-Readln-clause-row c = any-call c.args.facts.now call.Readln c.args.atom c.args.operands.now c.args.world.now c.readln.new.world c.args.call c.readln.result c.told-in-Readln.result c.in-Readln.is c.told-in-Readln.ensures c.readln.ensures.row

pub returns-in-FromString-clause-row : goal.returns-in-FromString-clause-row
returns-in-FromString-clause-row c = any-call c.args.facts.now call.FromString c.args.atom c.args.operands.now c.args.world.now c.from_string.new.world c.args.call c.from_string.result c.told-in-FromString.result c.in-FromString.is c.told-in-FromString.ensures c.from_string.ensures.row

pub returns-in-Abs-clause-row : goal.returns-in-Abs-clause-row
returns-in-Abs-clause-row c = any-call c.args.facts.now call.Abs c.args.atom c.args.operands.now c.args.world.now c.abs.new.world c.args.call c.abs.result c.told-in-Abs.result c.in-Abs.is c.told-in-Abs.ensures c.abs.ensures.row

pub returns-in-ToString-clause-row : goal.returns-in-ToString-clause-row
returns-in-ToString-clause-row c = any-call c.args.facts.now call.ToString c.args.atom c.args.operands.now c.args.world.now c.to_string.new.world c.args.call c.to_string.result c.told-in-ToString.result c.in-ToString.is c.told-in-ToString.ensures c.to_string.ensures.row

pub returns-in-Clone-clause-row : goal.returns-in-Clone-clause-row
returns-in-Clone-clause-row c = any-call c.args.facts.now call.Clone c.args.atom c.args.operands.now c.args.world.now c.clone.new.world c.args.call c.clone.result c.told-in-Clone.result c.in-Clone.is c.told-in-Clone.ensures c.clone.ensures.row

pub returns-in-CloneReadOnly-clause-row : goal.returns-in-CloneReadOnly-clause-row
returns-in-CloneReadOnly-clause-row c = any-call c.args.facts.now call.CloneReadOnly c.args.atom c.args.operands.now c.args.world.now c.clone_read_only.new.world c.args.call c.clone_read_only.result c.told-in-CloneReadOnly.result c.in-CloneReadOnly.is c.told-in-CloneReadOnly.ensures c.clone_read_only.ensures.row

pub returns-in-StringLength-clause-row : goal.returns-in-StringLength-clause-row
returns-in-StringLength-clause-row c = any-call c.args.facts.now call.StringLength c.args.atom c.args.operands.now c.args.world.now c.args.world.now c.args.call c.string_length.result c.told-in-StringLength.result c.in-StringLength.is c.told-in-StringLength.ensures c.string_length.ensures

pub returns-in-StartsWith-clause-row : goal.returns-in-StartsWith-clause-row
returns-in-StartsWith-clause-row c = any-call c.args.facts.now call.StartsWith c.args.atom c.args.operands.now c.args.world.now c.args.world.now c.args.call c.starts_with.result c.told-in-StartsWith.result c.in-StartsWith.is c.told-in-StartsWith.ensures c.starts_with.ensures

pub returns-in-Trim-clause-row : goal.returns-in-Trim-clause-row
returns-in-Trim-clause-row c = any-call c.args.facts.now call.Trim c.args.atom c.args.operands.now c.args.world.now c.args.world.now c.args.call c.trim.result c.told-in-Trim.result c.in-Trim.is c.told-in-Trim.ensures c.trim.ensures

pub returns-in-Substring-clause-row : goal.returns-in-Substring-clause-row
returns-in-Substring-clause-row c = any-call c.args.facts.now call.Substring c.args.atom c.args.operands.now c.args.world.now c.substring.new.world c.args.call c.substring.result c.told-in-Substring.result c.in-Substring.is c.told-in-Substring.ensures c.substring.ensures.row

pub returns-in-ToUpperAscii-clause-row : goal.returns-in-ToUpperAscii-clause-row
returns-in-ToUpperAscii-clause-row c = any-call c.args.facts.now call.ToUpperAscii c.args.atom c.args.operands.now c.args.world.now c.args.world.now c.args.call c.to_upper_ascii.result c.told-in-ToUpperAscii.result c.in-ToUpperAscii.is c.told-in-ToUpperAscii.ensures c.to_upper_ascii.ensures

pub returns-in-ToLowerAscii-clause-row : goal.returns-in-ToLowerAscii-clause-row
returns-in-ToLowerAscii-clause-row c = any-call c.args.facts.now call.ToLowerAscii c.args.atom c.args.operands.now c.args.world.now c.args.world.now c.args.call c.to_lower_ascii.result c.told-in-ToLowerAscii.result c.in-ToLowerAscii.is c.told-in-ToLowerAscii.ensures c.to_lower_ascii.ensures

pub returns-in-ToCodePointInts-clause-row : goal.returns-in-ToCodePointInts-clause-row
returns-in-ToCodePointInts-clause-row c = list-call c.args.facts.now call.ToCodePointInts c.args.atom c.args.operands.now c.args.world.now c.to_code_point_ints.new.world c.args.call c.to_code_point_ints.result c.told-in-ToCodePointInts.result c.in-ToCodePointInts.is c.told-in-ToCodePointInts.ensures c.to_code_point_ints.ensures.row

pub returns-in-ListLength-clause-row : goal.returns-in-ListLength-clause-row
returns-in-ListLength-clause-row c = any-call c.args.facts.now call.ListLength c.args.atom c.args.operands.now c.args.world.now c.args.world.now c.args.call c.list_length.result c.told-in-ListLength.result c.in-ListLength.is c.told-in-ListLength.ensures c.list_length.ensures

pub returns-in-Push-clause-row : goal.returns-in-Push-clause-row
returns-in-Push-clause-row c = asking-call c.args.facts.now call.Push c.args.atom c.args.operands.now c.args.world.now c.push.new.world c.args.call c.push.result c.in-Push.is c.push.ensures.row

pub returns-in-Pop-clause-row : goal.returns-in-Pop-clause-row
returns-in-Pop-clause-row c = asking-call c.args.facts.now call.Pop c.args.atom c.args.operands.now c.args.world.now c.pop.new.world c.args.call c.pop.result c.in-Pop.is c.pop.ensures.row

pub returns-in-RemoveItem-clause-row : goal.returns-in-RemoveItem-clause-row
returns-in-RemoveItem-clause-row c = asking-call c.args.facts.now call.RemoveItem c.args.atom c.args.operands.now c.args.world.now c.remove_item.new.world c.args.call c.remove_item.result c.in-RemoveItem.is c.remove_item.ensures.row

pub returns-in-Slice-clause-row : goal.returns-in-Slice-clause-row
returns-in-Slice-clause-row c = list-call c.args.facts.now call.Slice c.args.atom c.args.operands.now c.args.world.now c.slice.new.world c.args.call c.slice.result c.told-in-Slice.result c.in-Slice.is c.told-in-Slice.ensures c.slice.ensures.row

pub returns-in-Reverse-clause-row : goal.returns-in-Reverse-clause-row
returns-in-Reverse-clause-row c = list-call c.args.facts.now call.Reverse c.args.atom c.args.operands.now c.args.world.now c.reverse.new.world c.args.call c.reverse.result c.told-in-Reverse.result c.in-Reverse.is c.told-in-Reverse.ensures c.reverse.ensures.row

pub returns-in-MappingLength-clause-row : goal.returns-in-MappingLength-clause-row
returns-in-MappingLength-clause-row c = any-call c.args.facts.now call.MappingLength c.args.atom c.args.operands.now c.args.world.now c.args.world.now c.args.call c.mapping_length.result c.told-in-MappingLength.result c.in-MappingLength.is c.told-in-MappingLength.ensures c.mapping_length.ensures

pub returns-in-Keys-clause-row : goal.returns-in-Keys-clause-row
returns-in-Keys-clause-row c = list-call c.args.facts.now call.Keys c.args.atom c.args.operands.now c.args.world.now c.keys.new.world c.args.call c.keys.result c.told-in-Keys.result c.in-Keys.is c.told-in-Keys.ensures c.keys.ensures.row

pub returns-in-HasKey-clause-row : goal.returns-in-HasKey-clause-row
returns-in-HasKey-clause-row c = any-call c.args.facts.now call.HasKey c.args.atom c.args.operands.now c.args.world.now c.args.world.now c.args.call c.has_key.result c.told-in-HasKey.result c.in-HasKey.is c.told-in-HasKey.ensures c.has_key.ensures

pub returns-in-Get-clause-row : goal.returns-in-Get-clause-row
returns-in-Get-clause-row c = any-call c.args.facts.now call.Get c.args.atom c.args.operands.now c.args.world.now c.get.new.world c.args.call c.get.result c.told-in-Get.result c.in-Get.is c.told-in-Get.ensures c.get.ensures.row

pub returns-in-RemoveKey-clause-row : goal.returns-in-RemoveKey-clause-row
returns-in-RemoveKey-clause-row c = asking-call c.args.facts.now call.RemoveKey c.args.atom c.args.operands.now c.args.world.now c.remove_key.new.world c.args.call c.remove_key.result c.in-RemoveKey.is c.remove_key.ensures.row

pub returns-in-Message-clause-row : goal.returns-in-Message-clause-row
returns-in-Message-clause-row c = any-call c.args.facts.now call.Message c.args.atom c.args.operands.now c.args.world.now c.args.world.now c.args.call c.message.result c.told-in-Message.result c.in-Message.is c.told-in-Message.ensures c.message.ensures

pub returns-in-Cause-clause-row : goal.returns-in-Cause-clause-row
returns-in-Cause-clause-row c = any-call c.args.facts.now call.Cause c.args.atom c.args.operands.now c.args.world.now c.args.world.now c.args.call c.cause.result c.told-in-Cause.result c.in-Cause.is c.told-in-Cause.ensures c.cause.ensures

pub returns-in-Detail-clause-row : goal.returns-in-Detail-clause-row
returns-in-Detail-clause-row c = any-call c.args.facts.now call.Detail c.args.atom c.args.operands.now c.args.world.now c.args.world.now c.args.call c.detail.result c.told-in-Detail.result c.in-Detail.is c.told-in-Detail.ensures c.detail.ensures
