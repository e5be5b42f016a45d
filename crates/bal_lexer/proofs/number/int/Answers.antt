use Rattle.std.proofs.Common.{◌≡◌, pos, Some, sym, ap, ◌∙◌, refl, w64, chars}
use mir.Val.{to_z, of_z}
use Rattle.std.specs.Str.Parse.{digits_value}
use Rattle.std.proofs.lemmas.Int.{to_z-of_z}
use Rattle.std.proofs.lemmas.Result.{OkIff-at_ok, OkIff-at_err}
use Rattle.bal_base.specs.declared.token.TokenKind.TheVariants as kind
use Rattle.bal_lexer.specs.declared.lexeme.Lexeme.TheVariants.{Token}
use Rattle.bal_lexer.specs.Numbers.{int_at}
use Rattle.bal_lexer.proofs.IntLemmas.{reads-int, int_at-some, int_at-none, fits-from}
use Rattle.bal_lexer.proofs.number.int.Goals as goal

pub returns-then-begins_with : goal.returns-then-begins_with
unfolding int_at
returns-then-begins_with c = rw (← c.begins_with.ensures, c.if-begins_with.true) refl

pub returns-in-Ok : goal.returns-in-Ok
returns-in-Ok c =
    let ds = chars c.args.digits.now in
    let v = digits_value c.args.radix ds in
    let read = reads-int c.args.radix c.args.digits.now c.from_str_radix.result c.requires.high c.utf8.digits c.requires.digits c.from_str_radix.ensures.value in
    let ok = OkIff-at_ok c.from_str_radix.result _ (pos v) c.in-Ok.value read c.in-Ok.is in
    let value : to_z w64 (of_z w64 c.in-Ok.value) ≡ pos v = ap (λ z. to_z w64 (of_z w64 z)) ok.1 ∙ to_z-of_z w64 (pos v) (fits-from v ok.0.1) in
    ap (λ z. Some (Token (kind.Int z), chars c.args.after.now)) value
    ∙ sym (int_at-some c.args.radix ds (chars c.args.after.now) (sym c.begins_with.ensures ∙ c.if-begins_with.false) ok.0.0 ok.0.1)

pub returns-in-Err : goal.returns-in-Err
returns-in-Err c =
    let read = reads-int c.args.radix c.args.digits.now c.from_str_radix.result c.requires.high c.utf8.digits c.requires.digits c.from_str_radix.ensures.value in
    let bad = OkIff-at_err c.from_str_radix.result _ (pos (digits_value c.args.radix (chars c.args.digits.now))) c.in-Err.field-0 read c.in-Err.is in
    sym (int_at-none c.args.radix (chars c.args.digits.now) (chars c.args.after.now) bad)
