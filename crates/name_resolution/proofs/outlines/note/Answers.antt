use Rattle.std.proofs.Common.{◌≡◌, ◌∙◌, ap, sym, cond, Option, None, Some, rules}
use Rattle.std.specs.Option.{option_or}
use Rattle.bal_base.specs.declared.text.Name.{Name}
use Rattle.descriptors.specs.Naming.{file_source}
use Rattle.descriptors.specs.declared.names.Source.{Source}
use Rattle.type_model.specs.Places.{is_same_text}
use Rattle.name_resolution.proofs.OutlineLoops.{noted-new, nothing-there}
use Rattle.name_resolution.proofs.outlines.note.Goals as goal

pub returns-in_ok-insert : goal.returns-in_ok-insert
returns-in_ok-insert c =
    let prefix : Name = c.args.prefix.now in
    let before : Name → Option Source = λ q. file_source q c.args.names.now in
    let now : Name → Option Source = λ q. file_source q (record { prefixes = c.insert.new.self }) in
    λ q.
    noted-new prefix c.in-Some.source before now (sym c.source.ensures ∙ nothing-there c.source.result (search rules))
    (λ p. c.in_ok-insert.ensures.updates.0 p ∙ ap (λ k. cond (is_same_text k p) (Some c.in-Some.source) (before p)) c.share.ensures) q
    ∙ ap (λ s. option_or (before q) (cond (is_same_text q prefix) s None)) (sym c.in-Some.is)
