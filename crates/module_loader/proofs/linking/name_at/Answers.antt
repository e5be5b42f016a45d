use Rattle.std.proofs.Common.{◌∙◌, ◌≤◌, [], length, rules, sym}
use Rattle.std.proofs.lemmas.List.{get_or_past}
use Rattle.std.proofs.lemmas.Result.{IfOk-weaker}
use Rattle.module_loader.proofs.linking.name_at.Goals as goal

pub returns-in-None : goal.returns-in-None
returns-in-None c =
    let end : length c.args.names.now ≤ c.args.number = search rules in
    IfOk-weaker c.no_name.result _ _ (λ name is. is ∙ sym (get_or_past c.args.names.now c.args.number [] end)) c.no_name.ensures
