use Rattle.std.proofs.Common.{◌≡◌, true, string_bytes, subst}
use Rattle.std.specs.Str.{all_scalars}
use Rattle.std.proofs.lemmas.Str.{IsUtf8-string_bytes}
use Rattle.std.proofs.lemmas.Str.{scalars-chars}
use Rattle.bal_base.proofs.text.Text.as_str.Goals as goal

pub returns-clause-scalars : goal.returns-clause-scalars
returns-clause-scalars c =
    subst (λ cs. all_scalars cs ≡ true) c.text.ensures (scalars-chars (string_bytes c.text.result.now) (IsUtf8-string_bytes c.text.result.now))
