use Rattle.std.proofs.Common.{refl, subst, sym}
use Rattle.typed_tree.specs.declared.stmt.UpdateTarget.TheVariants.{Member}
use Rattle.declared_reads.specs.Declared.{IsBareTarget}
use Rattle.bare_packages.proofs.Bare.{ok-one}
use Rattle.bare_packages.proofs.stmts.target.Goals as goal

pub returns-in_ok-boxed-in-Member : goal.returns-in_ok-boxed-in-Member
returns-in_ok-boxed-in-Member c =
    ok-one c.boxed-in-Member.result (λ x. subst (λ z. IsBareTarget z (Member c.in-Member._own c.in-Member._read c.boxed.new.e c.boxed-in-Member.new.e c.in-Member._ty)) (sym c.in-Member.is) (c.boxed.new.e, c.boxed-in-Member.new.e, c.in_ok-boxed-in-Member.ensures, x, refl)) c.boxed-in-Member.ensures
