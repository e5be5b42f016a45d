use Rattle.std.proofs.Common.{IsUtf8, ◌≡◌, ◌++◌, ◌∷◌, [], chars, rules, sym, ap, ◌∙◌, subst}
use Rattle.std.specs.Prelude.{encode_utf8}
use Rattle.std.specs.String.{string_bytes}
use Rattle.std.proofs.lemmas.Str.{chars-nil, IsUtf8-string_bytes}
use Rattle.bal_lexer.specs.Strings.{Closes}
use Rattle.bal_lexer.proofs.Pieces.{piece_at-shorter}
use Rattle.bal_lexer.proofs.StringScan.{HasRead, chars-push, has_read-none, has_read-more, has_read-all, has_read-bad}
use Rattle.bal_lexer.proofs.string.string.Goals as goal

pub loop-c-init : goal.loop-c-init
loop-c-init c =
    let s = chars c.args.s.now in
    (c.utf8.s, subst (λ v. HasRead s v s) (sym (ap chars c.new-value.ensures.bytes ∙ chars-nil)) (has_read-none s))

pub loop-c-smaller : goal.loop-c-smaller
loop-c-smaller c = piece_at-shorter (chars c.loop-c.rest.now) c.in-Some.c (chars c.in-Some.after.now) (sym c.in-Some.ensures)

pub loop-c-preserved : goal.loop-c-preserved
loop-c-preserved c =
    let old = c.loop-c.value in
    let new = c.push.new.self in
    let bytes : string_bytes new ≡ string_bytes old ++ encode_utf8 c.in-Some.c = c.in_ok-push.ensures.bytes in
    let done : chars (string_bytes new) ≡ chars (string_bytes old) ++ c.in-Some.c ∷ [] =
    ap chars bytes ∙ chars-push (string_bytes old) c.in-Some.c (IsUtf8-string_bytes old) (subst IsUtf8 bytes (IsUtf8-string_bytes new)) in (
      search rules,
      subst (λ v. HasRead (chars c.args.s.now) v (chars c.in-Some.after.now)) (sym done)
          (has_read-more (chars c.args.s.now) (chars (string_bytes old)) (chars c.loop-c.rest.now) c.in-Some.c (chars c.in-Some.after.now) c.loop-c.invariant.1 (sym c.in-Some.ensures)),
    )

pub returns-in-None : goal.returns-in-None
returns-in-None c =
    has_read-bad (chars c.args.s.now) (chars (string_bytes c.loop-c.value)) (chars c.loop-c.rest.now) c.loop-c.invariant.1 (sym c.in_default.ensures) (sym c.in-None.ensures)

pub returns : goal.returns
returns c =
    let value : c.in_ok-text-in-Some-after_char.text ≡ chars (string_bytes c.loop-c.value) = c.in_ok-text-in-Some-after_char.ensures in
    subst (λ v. Closes (chars c.args.s.now) v (chars c.in-Some-after_char.after.now)) (sym value)
    (has_read-all (chars c.args.s.now) (chars (string_bytes c.loop-c.value)) (chars c.loop-c.rest.now) (chars c.in-Some-after_char.after.now) c.loop-c.invariant.1 (sym c.in-Some-after_char.ensures))
