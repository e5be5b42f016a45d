use Rattle.std.proofs.Common.{map, subst, sym}
use Rattle.std.specs.Prelude.{All}
use Rattle.type_model.specs.Defined.{IsDefined}
use Rattle.checks.specs.Checks.{Comes}
use Rattle.worker_pairing.specs.Faults.{all_pass, return_passes}
use Rattle.worker_members.specs.Held.{member_held, returning_held, sem_said}
use Rattle.worker_messages.proofs.Returned.{of-map}
use Rattle.worker_messages.proofs.returns.member_passes.Goals as goal

pub returns-clause-comes : goal.returns-clause-comes
returns-clause-comes g c =
    subst (λ rs. Comes (all_pass (return_passes g.T.Types.passes (member_held c.args.member.now)) (map returning_held rs)) (g.T.Types.atoms c.args.types.now) c.returns_pass.result (g.T.Types.atoms c.returns_pass.new.types))
    c.deref.ensures.value c.returns_pass.ensures.comes

pub returns_pass-requires : goal.returns_pass-requires
returns_pass-requires g c =
    subst (λ rs. All (λ r. IsDefined (g.T.Types.atoms c.args.types.now) (sem_said r.ty)) rs) (sym c.deref.ensures.value)
    (of-map (λ r. IsDefined (g.T.Types.atoms c.args.types.now) r.type) returning_held c.args.member.now.returns.items c.requires.returns)
