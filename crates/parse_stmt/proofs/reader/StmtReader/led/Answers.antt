use Rattle.std.proofs.Common.{rules, ◌≡◌, ◌++◌, true, None, Some, length, refl, sym, ap, ◌∙◌, arith}
use Rattle.bal_tree.specs.Pieces.{kinds}
use Rattle.bal_tree.specs.Spells.{kinds_of}
use Rattle.bal_tree.specs.StmtPieces.{stmt_pieces}
use Rattle.bal_tree.proofs.Spelling.{onto-kinds, spells-onto}
use Rattle.parse_types.proofs.Holding.{if-missing}
use Rattle.parse_types.proofs.Readings.{length-kinds}
use Rattle.parse_stmt.specs.Ahead.{first_mark}
use Rattle.parse_types.specs.Starts.{IfMissing}
use Rattle.parse_stmt.specs.Reaches.{led, led_by}
use Rattle.parse_stmt.proofs.StmtReadings.{led-none, led-through, led-elsewhere, led-there, same-ends, semicolon-ends}
use Rattle.parse_stmt.proofs.reader.StmtReader.led.Goals as goal

pub returns-in_default-clause-end : goal.returns-in_default-clause-end
returns-in_default-clause-end c = led-none (kinds_of c.args.tokens.now) (sym c.in_default.ensures)

pub returns-in_err-stmt-clause-end : goal.returns-in_err-stmt-clause-end
returns-in_err-stmt-clause-end c =
    let ks = kinds_of c.args.tokens.now in
    let marked = ap (λ m. led_by m ks) (sym c.first_mark.ensures) in
    let e : IfMissing c.in_err-stmt.field-0.0 (led ks ≡ None) = if-missing c.in_err-stmt.field-0.0 (λ none. led-through ks (kinds_of c.in-Some.end.now) (sym c.in-Some.ensures) None (marked ∙ none)) c.in_err-stmt.ensures.end in
    search rules

pub returns-then-rest-end-clause-end : goal.returns-then-rest-end-clause-end
returns-then-rest-end-clause-end c =
    let ks = kinds_of c.args.tokens.now in
    let rest = c.in_ok-stmt.rest.now in
    let end = c.in-Some.end.now in
    let marked = ap (λ m. led_by m ks) (sym c.first_mark.ensures) in
    let a = length-kinds rest in
    let b = length-kinds end in
    led-elsewhere ks (kinds_of end) (sym c.in-Some.ensures) (kinds_of rest) (marked ∙ c.in_ok-stmt.ensures.end) (λ same. c.if-rest-end.true (sym a ∙ same ∙ b))

pub returns-clause-end : goal.returns-clause-end
returns-clause-end c =
    let ks = kinds_of c.args.tokens.now in
    let rest = c.in_ok-stmt.rest.now in
    let end = c.in-Some.end.now in
    let marked = ap (λ m. led_by m ks) (sym c.first_mark.ensures) in
    let reads = c.in_ok-stmt.ensures.reads in
    let p = stmt_pieces c.in_ok-stmt.stmt in
    let whole = spells-onto c.args.self.file p c.args.tokens.now rest reads.spells ∙ onto-kinds p (kinds_of rest) in
    let front = semicolon-ends 0 ks (kinds_of end) (sym c.in-Some.ensures) in
    let size : length (kinds_of rest) ≡ length (kinds_of end) = length-kinds rest ∙ c.if-rest-end.false ∙ sym (length-kinds end) in
    led-there ks (kinds_of end) (sym c.in-Some.ensures) (kinds_of rest) (marked ∙ c.in_ok-stmt.ensures.end) size
    (same-ends (kinds p) front.0 (kinds_of rest) (kinds_of end) (sym whole ∙ front.1) size)
