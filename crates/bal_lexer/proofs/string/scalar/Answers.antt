use Rattle.std.proofs.Common.{◌<◌, ◌≤◌, length, subst, chars}
use Rattle.std.specs.Option.{SomeIff}
use Rattle.std.specs.Char.{IsScalar}
use Rattle.std.specs.Str.Parse.{digits_value}
use Rattle.std.proofs.lemmas.Result.{OkIff-at_ok, OkIff-at_err}
use Rattle.bal_lexer.proofs.ScalarLemmas.{hex-same, reads-hex, scalar_at-long, scalar_at-empty, scalar_at-is}
use Rattle.bal_lexer.proofs.string.scalar.Goals as goal

pub returns-then-digits-gt6 : goal.returns-then-digits-gt6
returns-then-digits-gt6 c =
    let s = c.args.digits.now in
    let same = hex-same s (record { text = c.utf8.digits; all = c.requires }) in
    scalar_at-long (chars s) (subst (λ t. 6 < length t) same c.if-digits-gt6.true)

pub returns-in-Ok : goal.returns-in-Ok
returns-in-Ok c =
    let s = c.args.digits.now in
    let v = digits_value 16 (chars s) in
    let same = hex-same s (record { text = c.utf8.digits; all = c.requires }) in
    let read = reads-hex s c.from_str_radix.result (record { text = c.utf8.digits; all = c.requires }) c.if-digits-gt6.false c.from_str_radix.ensures.value in
    let ok = OkIff-at_ok c.from_str_radix.result _ v c.in-Ok.number read c.in-Ok.is in
    scalar_at-is (chars s) c.from_u32.result ok.0 (subst (λ t. length t ≤ 6) same c.if-digits-gt6.false)
    (subst (λ n. SomeIff c.from_u32.result (IsScalar n) n) ok.1 c.from_u32.ensures.value)

pub returns-in-Err : goal.returns-in-Err
returns-in-Err c =
    let s = c.args.digits.now in
    let read = reads-hex s c.from_str_radix.result (record { text = c.utf8.digits; all = c.requires }) c.if-digits-gt6.false c.from_str_radix.ensures.value in
    scalar_at-empty (chars s) (OkIff-at_err c.from_str_radix.result _ (digits_value 16 (chars s)) c.in-Err.field-0 read c.in-Err.is)
