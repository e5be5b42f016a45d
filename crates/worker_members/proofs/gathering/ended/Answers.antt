use Rattle.std.proofs.Common.{false, refl, subst}
use Rattle.typed_tree.specs.declared.event.EventKind.TheVariants.{End}
use Rattle.typed_tree.specs.Listed.{one}
use Rattle.worker_pairing.specs.Marks.{Says, nil_type}
use Rattle.worker_members.specs.inner.Hearing.{Grows}
use Rattle.worker_members.proofs.Whole.{ended-all}
use Rattle.worker_members.proofs.gathering.ended.Goals as goal

pub returns : goal.returns
returns c =
    ended-all c.args.heard c.say.new.self c.args.gives.now c.args.end _
    (subst (λ s. Grows s (one (Says End c.args.end false nil_type)) c.args.heard c.say.new.self) c.outside.ensures c.say.ensures) c.if-heard.false refl refl refl
