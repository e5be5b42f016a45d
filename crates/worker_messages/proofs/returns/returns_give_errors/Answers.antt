use Rattle.std.proofs.Common.{◌≡◌, length, map, subst, sym}
use Rattle.std.specs.Prelude.{All}
use Rattle.worker_members.specs.Held.{member_held}
use Rattle.worker_messages.specs.Defined.{IsMemberDefined}
use Rattle.worker_messages.proofs.Returned.{none-pass, own-too}
use Rattle.worker_messages.proofs.returns.returns_give_errors.Goals as goal

pub named_then_own-requires-clause-own : goal.named_then_own-requires-clause-own
named_then_own-requires-clause-own g c =
    let env = g.T.Types.atoms c.args.types.now in
    (own-too (IsMemberDefined env) c.deref.result.now c.in-Some.own.now c.in-Some.named.now c.in-Some.ensures.cases.0
    (subst (λ ws. All (IsMemberDefined env) (map member_held ws)) (sym c.deref.ensures.value) c.requires)).0

pub named_then_own-requires-clause-named : goal.named_then_own-requires-clause-named
named_then_own-requires-clause-named g c =
    let env = g.T.Types.atoms c.args.types.now in
    (own-too (IsMemberDefined env) c.deref.result.now c.in-Some.own.now c.in-Some.named.now c.in-Some.ensures.cases.0
    (subst (λ ws. All (IsMemberDefined env) (map member_held ws)) (sym c.deref.ensures.value) c.requires)).1

pub returns-in-None-clause-comes : goal.returns-in-None-clause-comes
returns-in-None-clause-comes g c =
    none-pass g.T.Types.passes c.args.members.now.workers.items (g.T.Types.atoms c.args.types.now) (subst (λ ws. length ws ≡ 0) c.deref.ensures.value c.in-None.ensures.cases)
