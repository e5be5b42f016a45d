use Rattle.std.proofs.Common.{◌∙◌, Some, sym, ap}
use Rattle.plain_run.specs.Held.{common_of, end_of}
use Rattle.plain_strands.specs.Results.{effect_came}
use Rattle.plain_strands.proofs.Gathering.{first-any, if-ok, more-none, more-some}
use Rattle.plain_strands.proofs.all.+collects.Goals as goal

pub returns-in_ok-push-in-None-clause-row : goal.returns-in_ok-push-in-None-clause-row
returns-in_ok-push-in-None-clause-row t c =
    if-ok _ _ c.collects.result (λ came h. more-none c.args.atom c.args.names.now c.args.results.now.items (common_of c.args.common.now) c.args.targets.now _ c.push.new.self.items (effect_came came c.collects.new.common) c.in-len1-up.len_at_least (first-any _ _ c.in-len1-up.len_at_least) c.in-None.ensures.end c.in_ok-push-in-None.ensures.items h) c.collects.ensures.row

pub returns-in_ok-came-in-Some-Returned-clause-row : goal.returns-in_ok-came-in-Some-Returned-clause-row
returns-in_ok-came-in-Some-Returned-clause-row t c =
    let came = c.in_ok-came-in-Some-Returned.came in
    c.give_back_without_room.ensures.row
    ∙ more-some c.args.atom c.args.names.now c.args.results.now.items (common_of c.args.common.now) c.args.targets.now _ c.in-Some-Returned.v c.push-in-Some-Returned.new.self.items (common_of c.take_result-in-Some-Returned.new.common) (effect_came came c.collects-in-Some-Returned.new.common) c.in-len1-up.len_at_least (first-any _ _ c.in-len1-up.len_at_least) (ap (λ x. Some (end_of x)) (sym c.in-Some-Returned.field-0-is) ∙ c.in-Some-Returned.ensures.end) c.in_ok-push-in-Some-Returned.ensures.items c.take_result-in-Some-Returned.ensures c.in_ok-came-in-Some-Returned.ensures.row
