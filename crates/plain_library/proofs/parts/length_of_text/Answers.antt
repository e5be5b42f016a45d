use Rattle.std.proofs.Common.{◌<◌, ◌^◌, rules}
use Rattle.plain_library.proofs.TextParts.{few-points}
use Rattle.plain_library.proofs.parts.length_of_text.Goals as goal

pub overflow_cast-result : goal.overflow_cast-result
overflow_cast-result c =
    let few : c.length.result < 2 ^ 63 = few-points c.length.result c.bytes_of-bytes.result c.args.text.now c.as_str.result.now c.length.ensures c.as_str.utf8 c.as_str.ensures.value c.bytes_of-bytes.ensures.value c.bytes_of-bytes.ensures.small in
    search (rules, few)

pub returns : goal.returns
returns c =
    let few : c.length.result < 2 ^ 63 = few-points c.length.result c.bytes_of-bytes.result c.args.text.now c.as_str.result.now c.length.ensures c.as_str.utf8 c.as_str.ensures.value c.bytes_of-bytes.ensures.value c.bytes_of-bytes.ensures.small in
    search (rules, few)
