use Rattle.std.proofs.Common.{◌≡◌, ◌≤◌, ◌+◌, length, sym, subst, ◌∙◌, arith}
use Rattle.bal_base.specs.declared.limits.TheConstants.{MOST_ATOMS}
use Rattle.descriptors.specs.Steps.{AreOwnTypes}
use Rattle.descriptors.proofs.Yielding.{own-kept}
use Rattle.type_builder.proofs.Built.{added-is, all-defined, are-names, comes-handed, long-added, no-fault, no-limit}
use Rattle.type_builder.proofs.building.define_all.Goals as goal

pub returns-in_err-names-clause-comes : goal.returns-in_err-names-clause-comes
returns-in_err-names-clause-comes g c = comes-handed _ _ _ _ _ c.from_residual.ensures (no-fault _ _ _ _ c.kept_types.result c.in_err-names.was c.kept_types.ensures.faultless)

pub returns-in_err-group-clause-comes : goal.returns-in_err-group-clause-comes
returns-in_err-group-clause-comes g c = comes-handed _ _ _ _ _ c.from_residual-in_err-group.ensures (no-fault _ _ _ _ c.define.result c.in_err-group.was c.define.ensures.faultless)

pub returns-in_err-add-clause-comes : goal.returns-in_err-add-clause-comes
returns-in_err-add-clause-comes g c =
    let first : c.args.listing.now.first ≡ length (g.T.Types.atoms c.args.types.now) = c.requires.1.1.1.1.1.0 in
    let room : length (g.T.Types.atoms c.args.types.now) + length c.in_ok-group.group.items ≤ MOST_ATOMS = omega (arith, first, c.in_ok-group.ensures.long, c.requires.1.1.1.1.1.1.1) in
    comes-handed _ _ _ _ _ c.from_residual-in_err-add.ensures (no-limit _ _ _ _ _ room c.in_err-add.ensures.comes)

pub returns-clause-comes : goal.returns-clause-comes
returns-clause-comes g c =
    let old = g.T.Types.atoms c.args.types.now in
    let new = g.T.Types.atoms c.add.new.types in
    let first : length old ≡ c.args.listing.now.first = sym c.requires.1.1.1.1.1.0 in
    all-defined g.whole c.args.own old new c.in_ok-group.group.items c.define.new.names c.in_ok-names.names.own c.in_ok-names.ensures.kept.entries.own_are
    (added-is old new c.in_ok-group.group.items _ c.in_ok-add.ensures.comes) (own-kept old new c.args.own c.in_ok-add.ensures.kept c.requires.1.1.1.1.1.1.0) (c.in_ok-group.ensures.defined old first)

pub returns-clause-names : goal.returns-clause-names
returns-clause-names g c =
    let old = g.T.Types.atoms c.args.types.now in
    let new = g.T.Types.atoms c.add.new.types in
    let is : new ≡ _ = added-is old new c.in_ok-group.group.items _ c.in_ok-add.ensures.comes in
    let first : c.args.listing.now.first ≡ length old = c.requires.1.1.1.1.1.0 in
    let owns = own-kept old new c.args.own c.in_ok-add.ensures.kept c.requires.1.1.1.1.1.1.0 in
    let was = c.in_ok-names.ensures.kept.entries.own_are in
    let named = c.in_ok-group.ensures.defined old (sym first) (subst (λ e. AreOwnTypes e c.in_ok-names.names.own) is (subst (AreOwnTypes new) (sym was) owns)) in
    are-names new _ c.define.new.names (long-added old new c.in_ok-group.group.items _ _ is first c.in_ok-group.ensures.long)
    (subst (AreOwnTypes new) (sym (named.own_are ∙ was)) owns) c.in_ok-group.ensures.meanings
