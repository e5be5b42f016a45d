use Rattle.std.proofs.Common.{List, map, subst}
use Rattle.typed_tree.specs.declared.expr.TypedExpr.{TypedExpr}
use Rattle.check_kinds.proofs.Over.{over-at}
use Rattle.check_words.specs.State.{IsLast}
use Rattle.check_work.specs.declared.work.Constructor.{Constructor}
use Rattle.check_work.specs.Views.{constructor_of, state_of}
use Rattle.check_work.proofs.Noting.{mapped-last}
use Rattle.needs_of_structures.specs.Fitting.{frozen_so}
use Rattle.needs_of_structures.proofs.Fitting.{detail-fits}
use Rattle.needs_of_structures.proofs.members.detail_added.Goals as goal

pub returns-in-Some-last-clause-comes : goal.returns-in-Some-last-clause-comes
returns-in-Some-last-clause-comes g c =
    let s = state_of (g.T.Types.atoms c.args.types.now) c.args.work.now in
    let held = c.in-Some.field-0.now in
    let e = c.in-Some-last.e.now in
    let last = subst (λ (cs : List Constructor). IsLast cs held) c.as_slice.ensures.value c.in-Some.ensures in
    detail-fits g.T.Types.passes c.args.at s (constructor_of held) e c.frozen_copy.result _
    (record { kept = map constructor_of last.kept; is = mapped-last constructor_of c.args.work.now.constructors.items last.kept held last.is })
    (subst (λ (es : List TypedExpr). IsLast es e) c.as_slice-in-Some.ensures.value c.in-Some-last.ensures)
    (over-at (frozen_so g.T.Types.passes e c.args.at) s c.frozen_copy.result _ c.frozen_copy.ensures.comes)
