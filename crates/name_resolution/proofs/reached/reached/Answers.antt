use Rattle.std.proofs.Common.{◌≡◌, ◌∙◌, ◌<◌, map, length, ap, sym, subst, arith}
use Rattle.std.proofs.lemmas.List.{length-map}
use Rattle.graphs.specs.Distances.{AreAway, IsReversed}
use Rattle.name_resolution.specs.Reached.{AreReached, is_reached, uses, uses_of}
use Rattle.name_resolution.proofs.Inside.{uses-inside}
use Rattle.name_resolution.proofs.Reaching.{are-reached, if-ok}
use Rattle.graphs.proofs.TurnedRound.{has-reversed, turned-back}
use Rattle.name_resolution.proofs.reached.reached.Goals as goal

pub distances-requires : goal.distances-requires
distances-requires c =
    let long : length c.in_ok-uses.uses.items ≡ length c.args.outlines.now =
    sym (length-map c.in_ok-uses.uses.items (λ v. v.items)) ∙ ap length c.in_ok-uses.ensures ∙ length-map c.args.outlines.now (uses_of c.args.outlines.now) in
    let there = c.deref.ensures.value in subst (λ xs. c.args.from < length xs) (sym there) (omega (arith, long, c.requires.placed))

pub returns : goal.returns
returns c =
    let outlines = c.args.outlines.now in
    let graph = uses outlines in
    let users = has-reversed graph in
    let inside = uses-inside outlines in
    let same : map (λ v. v.items) c.deref.result.now ≡ graph = ap (map (λ v. v.items)) c.deref.ensures.value ∙ c.in_ok-uses.ensures in
    if-ok (λ away. AreAway users.0 c.args.from away.items) (λ away. AreReached outlines c.args.from (is_reached away.items)) c.distances.result
    (λ away a. are-reached graph users.0 inside users.1 c.args.from away.items a)
    (c.distances.ensures users.0 (subst (λ g. IsReversed users.0 g) (sym same) (turned-back graph users.0 inside users.1)))
