use Rattle.std.proofs.Common.{List, ◌≡◌, subst}
use Rattle.std.proofs.lemmas.Map.Lookups.{exact_bytes}
use Rattle.std.specs.declared.cmp.Ordering.{Ordering}
use Rattle.type_diagrams.specs.declared.merge.Rule.{Rule}
use Rattle.type_diagrams.specs.Merges.{IsMerged}
use Rattle.type_diagrams.specs.Sets.{set_of}
use Rattle.type_diagrams.proofs.SimpleSets.{made-IsSetOf}
use Rattle.type_diagrams.proofs.simple.SimpleSet.made.Goals as goal

pub merged-requires-2-clause-exact : goal.merged-requires-2-clause-exact
merged-requires-2-clause-exact c = exact_bytes

-- a merge of lists that are lent
lent : {X : Type 0} (cmp : X → X → Ordering) (r : Rule) (left right lent_left lent_right places : List X) → lent_left ≡ left → lent_right ≡ right → IsMerged cmp r lent_left lent_right places → IsMerged cmp r left right places
lent cmp r left right lent_left lent_right places e f m = subst (λ l. IsMerged cmp r l right places) e (subst (λ l. IsMerged cmp r lent_left l places) f m)

pub returns : goal.returns
returns c =
    made-IsSetOf c.args.operation (set_of c.args.left.now) (set_of c.args.right.now) _ c.requires.left c.requires.right c.holds.ensures c.holds-2.ensures c.holds-3.ensures
    c.answer.ensures (lent _ _ _ _ c.deref.result.now c.deref-2.result.now _ c.deref.ensures.value c.deref-2.ensures.value c.in_ok-merged.ensures)
    c.answer-2.ensures (lent _ _ _ _ c.deref-3.result.now c.deref-4.result.now _ c.deref-3.ensures.value c.deref-4.ensures.value c.in_ok-merged-2.ensures)
