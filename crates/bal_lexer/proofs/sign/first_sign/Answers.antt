use Rattle.std.proofs.Common.{ap, find, nat_eq, ◌∙◌}
use Rattle.std.specs.List.{starts_with}
use Rattle.bal_lexer.specs.Spellings.{sign_text}
use Rattle.bal_lexer.specs.Groups.{signs_from}
use Rattle.bal_lexer.proofs.Lookups.{sign-lookup}
use Rattle.bal_lexer.proofs.sign.first_sign.Goals as goal

pub returns : goal.returns
returns c =
    let s = c.args.s.now in
    c.sign_from.ensures ∙ ap (λ l. find (λ g. starts_with nat_eq s (sign_text g)) (signs_from l)) c.first_byte.ensures ∙ sign-lookup s
