use Rattle.std.proofs.Common.{arith, get_or, subst, ◌<◌, length}
use Rattle.std.proofs.lemmas.List.{get_or_default, take_all}
use Rattle.std.proofs.lemmas.List.Elements.{All-nil}
use Rattle.std.specs.Prelude.{All}
use Rattle.bal_base.proofs.Loops.{one_more}
use Rattle.tested_types.specs.Asked.{HasMember, IsDefinedAt}
use Rattle.tested_types.proofs.Noting.{notes-all, notes-empty, notes-next}
use Rattle.tested_types.proofs.members.members.Goals as goal

pub loop-a-init : goal.loop-a-init
loop-a-init c = (notes-empty (HasMember c.args.atoms.now) _, All-nil (IsDefinedAt c.args.atoms.now))

pub loop-a-preserved : goal.loop-a-preserved
loop-a-preserved c =
    let inherent = c.args.inherent.now in
    let i = c.loop-a.a-index in
    let a = get_or inherent i 0 in
    let lt : i < length inherent = grind (arith, c.loop-a-test.true) in (
      notes-next (HasMember c.args.atoms.now) inherent i a _ _ _ lt (get_or_default inherent i 0 a lt) c.loop-a.invariant.0 c.in_ok-atom.ensures.notes,
      one_more (IsDefinedAt c.args.atoms.now) inherent i a lt (get_or_default inherent i 0 a lt) c.loop-a.invariant.1 c.in_ok-atom.ensures.defined,
    )

pub returns-clause-notes : goal.returns-clause-notes
returns-clause-notes c = notes-all (HasMember c.args.atoms.now) c.args.inherent.now c.loop-a.a-index _ _ (omega (arith, c.loop-a-test.false)) c.loop-a.invariant.0

pub returns-clause-defined : goal.returns-clause-defined
returns-clause-defined c = subst (All (IsDefinedAt c.args.atoms.now)) (take_all c.loop-a.a-index c.args.inherent.now (omega (arith, c.loop-a-test.false))) c.loop-a.invariant.1
