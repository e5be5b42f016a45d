use Rattle.std.proofs.Common.{◌∙◌, inl, inr, suc, take, ap, subst}
use Rattle.name_resolution.specs.Excerpts.{picked}
use Rattle.name_resolution.specs.MainExcerpt.{IsMainExcerpt, IsOrdered}
use Rattle.name_resolution.specs.Reached.{AreReached, is_reached}
use Rattle.name_resolution.proofs.ExcerptSteps.{excerpt-made, faulty-front, free-front}
use Rattle.name_resolution.proofs.Reaching.{if-ok}
use Rattle.name_resolution.proofs.excerpts.excerpt_from.Goals as goal

pub returns-then-not-branch : goal.returns-then-not-branch
returns-then-not-branch c =
    let all = c.args.outlines.items in
    inl (inr (
      c.args.main,
      c.requires.main,
      faulty-front c.args.home all (take (suc c.args.main) all) _ _ c.in_ok-is_free.field-0 c.deref-2.ensures.value (c.front.ensures ∙ ap (take (suc c.args.main)) c.deref-3.ensures.value) c.in_ok-is_free.ensures
          c.if-not-branch.true,
    ))

pub returns : goal.returns
returns c =
    let all = c.args.outlines.items in
    let away = c.in_ok-away.away.items in
    let before = free-front c.args.home all (take (suc c.args.main) all) _ _ c.in_ok-is_free.field-0 c.deref-2.ensures.value (c.front.ensures ∙ ap (take (suc c.args.main)) c.deref-3.ensures.value)
    c.in_ok-is_free.ensures c.if-not-branch.false in
    let reached = subst (λ os. AreReached os c.args.main (is_reached away)) c.deref-4.ensures.value c.in_ok-away.ensures in
    let chosen = c.in_ok-chosen.ensures ∙ ap (λ a. picked (is_reached a) 0 all) c.deref-5.ensures.value in
    if-ok (IsOrdered c.in_ok-chosen.chosen.items c.args.home away) (IsMainExcerpt all c.args.home) c.ordered.result
    (excerpt-made all c.args.home c.args.main away c.in_ok-chosen.chosen.items c.requires.main before reached chosen) c.ordered.ensures
