use Rattle.std.proofs.Common.{length, subst, sym}
use Rattle.type_model.specs.declared.basic.Ty.{Ty}
use Rattle.type_model.specs.Defined.{TyBelow}
use Rattle.descriptors.specs.Described.{IsUnion}
use Rattle.flow_narrowing.proofs.MetWays.{union-alike}
use Rattle.flow_narrowing.proofs.flow.union.Goals as goal

pub returns-then-adds_nothing-clause-union : goal.returns-then-adds_nothing-clause-union
returns-then-adds_nothing-clause-union g c =
    let env = g.T.Types.atoms c.args.types.now in
    let s = c.args.s.now.value in
    let t = c.args.t.now.value in
    let alike = c.adds_nothing.ensures.0 c.if-adds_nothing.true in
    let is : IsUnion s t env s =
    subst (λ (u : Ty). IsUnion s u env s) c.as_ref-2.ensures
    (subst (λ (u : Ty). IsUnion u c.as_ref-2.result.now env u) c.as_ref.ensures (union-alike env c.as_ref.result.now c.as_ref-2.result.now alike.0 alike.1)) in
    subst (IsUnion s t env) (sym c.in_ok-clone.ensures.cases) is

pub returns-clause-defined : goal.returns-clause-defined
returns-clause-defined g c = subst (TyBelow (length (g.T.Types.atoms c.args.types.now))) (sym c.in_ok-new.ensures.ok) c.in_ok-written.ensures.defined

pub returns-clause-union : goal.returns-clause-union
returns-clause-union g c =
    let env = g.T.Types.atoms c.args.types.now in
    let s = c.args.s.now.value in
    let t = c.args.t.now.value in
    subst (IsUnion s t env) (sym c.in_ok-new.ensures.ok)
    (subst (λ (u : Ty). IsUnion s u env c.in_ok-written.written) c.as_ref-4.ensures
    (subst (λ (u : Ty). IsUnion u c.as_ref-4.result.now env c.in_ok-written.written) c.as_ref-3.ensures c.in_ok-written.ensures.union))
