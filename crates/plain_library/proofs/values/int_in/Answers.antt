use Rattle.std.proofs.Common.{◌≡◌, ◌∙◌, Ok, Err, Some, rules, encode_utf8_all, sym, ap}
use Rattle.std.specs.Bool.{⊤}
use Rattle.std.proofs.lemmas.Str.{encodes-chars}
use Rattle.op_model.specs.Strings.{int_in}
use Rattle.plain_library.specs.Ints.{IsIntOf}
use Rattle.plain_library.proofs.Numerals.{int-written}
use Rattle.plain_library.proofs.values.int_in.Goals as goal

pub returns-in-Ok : goal.returns-in-Ok
returns-in-Ok c =
    let bytes = c.as_str.result.now in
    let same : encode_utf8_all c.args.text.now ≡ bytes = ap encode_utf8_all (sym c.as_str.ensures.value) ∙ encodes-chars bytes c.as_str.utf8 in
    let row : IsIntOf (int_in c.args.text.now) (Some c.in-Ok.n) = int-written {E = ⊤} c.args.text.now bytes (Ok c.in-Ok.n) same c.in-Ok.ensures.value.0 in
    search (rules, row)

pub returns-in-Err : goal.returns-in-Err
returns-in-Err c =
    let bytes = c.as_str.result.now in
    let same : encode_utf8_all c.args.text.now ≡ bytes = ap encode_utf8_all (sym c.as_str.ensures.value) ∙ encodes-chars bytes c.as_str.utf8 in
    int-written {E = ⊤} c.args.text.now bytes (Err tt) same c.in-Err.ensures.value.0
