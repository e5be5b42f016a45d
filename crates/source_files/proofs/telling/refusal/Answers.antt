use Rattle.std.proofs.Common.{◌≡◌, sym, subst}
use Rattle.std.specs.Str.{chars}
use Rattle.bal_base.specs.declared.fault.Refusal.{Refusal}
use Rattle.source_files.specs.Told.{told_at}
use Rattle.source_files.proofs.telling.refusal.Goals as goal

pub returns-in-Some : goal.returns-in-Some
returns-in-Some c =
    let fault = c.args.fault in
    let lines = c.line_column-line in
    let made : Refusal = record { fault = fault; file = c.share.result; line = lines.result.0; column = lines.result.1 } in
    subst (λ o. made ≡ told_at c.args.name.now c.args.text.now fault o) (sym c.in-Some.is)
    (λ i. record { fault = fault; file = c.share.ensures i; line = lines.ensures.line i; column = lines.ensures.column i })

pub returns-in_ok-new-in-None : goal.returns-in_ok-new-in-None
unfolding chars
returns-in_ok-new-in-None c =
    let fault = c.args.fault in
    let made : Refusal = record { fault = fault; file = c.in_ok-new-in-None.field-0; line = 0; column = 0 } in
    subst (λ o. made ≡ told_at c.args.name.now c.args.text.now fault o) (sym c.in-None.is)
    (λ i. record { fault = fault; file = c.in_ok-new-in-None.ensures i; line = 0; column = 0 })
