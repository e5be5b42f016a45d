use Rattle.std.proofs.Common.{◌∙◌, ap, map}
use Rattle.check_words.specs.Seen.{seen_as}
use Rattle.check_work.specs.Views.{site_of, state_of, unit_of}
use Rattle.check_work.proofs.Noting.{at-hand}
use Rattle.needs_of_matches.proofs.PatternSteps.{named-at}
use Rattle.needs_of_matches.proofs.patterns.named_constant.Goals as goal

pub returns-in-Ok : goal.returns-in-Ok
returns-in-Ok c = λ env.
    let s = state_of env c.args.work.now in
    named-at c.args.names.now c.args.q.now s (map unit_of c.args.work.now.around.items) (unit_of c.in-Ok.unit.now) (at-hand _ _ _ c.in-Ok.ensures) _ _
    (c.seen_as.ensures ∙ ap (λ vs. seen_as c.args.names.now (site_of c.args.work.now.site) vs c.args.q.now) c.as_slice.ensures.value) (c.seen_constant.ensures s)
