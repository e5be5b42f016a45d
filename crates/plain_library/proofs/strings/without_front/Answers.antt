use Rattle.std.proofs.Common.{◌∙◌, ◌≤◌, ◌-◌, drop, length, length-drop, sym, arith}
use Rattle.std.proofs.lemmas.List.{take_all}
use Rattle.plain_library.proofs.Blanks.{front-at}
use Rattle.plain_library.proofs.strings.without_front.Goals as goal

pub returns-in-Some : goal.returns-in-Some
returns-in-Some c =
    let all = c.args.characters.now in
    let fits : length (drop c.in-Some.i all) ≤ length all - c.in-Some.i = omega (arith, length-drop c.in-Some.i all) in
    take_all (length all - c.in-Some.i) (drop c.in-Some.i all) fits ∙ front-at all c.in-Some.i (sym c.in-Some.ensures)
