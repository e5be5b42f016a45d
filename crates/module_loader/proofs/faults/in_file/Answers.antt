use Rattle.std.proofs.Common.{◌∙◌, ap, subst, sym}
use Rattle.std.specs.Prelude.{Some, IsCharBoundary}
use Rattle.std.proofs.lemmas.Result.{IfOk-weaker}
use Rattle.bal_base.specs.declared.fault.Kept.TheVariants.{Nothing}
use Rattle.source_files.specs.Told.{refusal_of}
use Rattle.module_loader.proofs.Placing.{same-text}
use Rattle.module_loader.proofs.faults.in_file.Goals as goal

pub refusal-requires : goal.refusal-requires
refusal-requires c =
    let h = c.requires in
    let same = same-text h.0 c.as_str.result.now h.1.0 c.as_str.utf8 (sym h.1.1 ∙ sym c.as_str.ensures.value) in
    (subst (λ b. IsCharBoundary b c.args.at.at) same h.2, h.3)

pub returns : goal.returns
returns c =
    IfOk-weaker c.refusal.result _ _
    (λ r is. λ bytes text.
    let same = same-text c.as_str.result.now bytes c.as_str.utf8 text.0 (c.as_str.ensures.value ∙ text.1) in
    is ∙ ap (λ b. refusal_of c.args.file.now.name b (record { code = c.args.code; at = Some c.args.at; kept = Nothing })) same)
    c.refusal.ensures
