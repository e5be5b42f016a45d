use Rattle.std.proofs.Common.{◌≤◌, ◌∙◌, ap, sym, map, [], subst, arith, replicate}
use Rattle.std.proofs.lemmas.List.{length-map}
use Rattle.graphs.specs.inner.Searching.{AddsEdges}
use Rattle.graphs.proofs.Turning.{all-turned, list-at, more-turned, none-turned}
use Rattle.graphs.proofs.search.reversed.Goals as goal

pub loop-number-init : goal.loop-number-init
loop-number-init c = none-turned (map (λ v. v.items) c.args.next.now) (map (λ v. v.items) c.in_ok-back.back.items)
    (c.in_ok-back.ensures ∙ ap (λ n. replicate n []) (sym (length-map c.args.next.now (λ v. v.items))))

pub loop-number-preserved : goal.loop-number-preserved
loop-number-preserved c = more-turned c.loop-number.number (map (λ v. v.items) c.args.next.now) (map (λ v. v.items) c.loop-number.back.items) (map (λ v. v.items) c.follows_all.new.back.items) c.loop-number.invariant
    (subst (λ list. AddsEdges c.loop-number.number list (map (λ v. v.items) c.loop-number.back.items) (map (λ v. v.items) c.follows_all.new.back.items))
    (c.deref.ensures.value ∙ ap (λ v. v.items) c.index-next-number.is ∙ list-at (λ v. v.items) c.args.next.now c.loop-number.number c.index-next-number.result (grind (arith, c.loop-number-test.true))) c.in_ok-follows_all.ensures)

pub returns : goal.returns
returns c = all-turned c.loop-number.number (map (λ v. v.items) c.args.next.now) (map (λ v. v.items) c.loop-number.back.items)
    (subst (λ n. n ≤ c.loop-number.number) (sym (length-map c.args.next.now (λ v. v.items))) c.loop-number-test.false) c.loop-number.invariant
