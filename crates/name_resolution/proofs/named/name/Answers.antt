use Rattle.std.proofs.Common.{◌++◌, ◌∙◌, sym, ap, rules}
use Rattle.std.proofs.lemmas.List.{append-nil}
use Rattle.std.proofs.lemmas.Option.{slice_get_past}
use Rattle.name_resolution.specs.Faults.{name_if}
use Rattle.name_resolution.proofs.named.name.Goals as goal

pub returns-in-None : goal.returns-in-None
returns-in-None c =
    sym (append-nil c.args.names.now.items) ∙ ap (λ o. c.args.names.now.items ++ name_if o) (sym (slice_get_past c.args.outlines.now c.args.number (search rules)))
