use Rattle.std.proofs.Common.{◌∷◌, ◌++◌, [], codes, ap, ◌∙◌}
use Rattle.status_texts.proofs.Texts.{bytes-of}
use Rattle.status_texts.proofs.reporting.panic_text.Goals as goal

pub returns : goal.returns
returns c =
    c.in_ok-format.ensures.ok
    ∙ ap (λ l. codes "panic: " ++ (l ++ 10 ∷ [])) (bytes-of c.as_str-message.result.now c.args.message.now c.as_str-message.utf8 c.as_str-message.ensures.value)
