use Rattle.std.proofs.Common.{◌∙◌, ap, sym}
use Rattle.worker_pairing.specs.Marks.{members_of}
use Rattle.plan_checks.specs.Stripping.{is_part, numbered}
use Rattle.plan_checks.proofs.Stripped.{strips-in, strips-out}
use Rattle.plan_checks.proofs.pairs.without_if_part.Goals as goal

pub returns-then-is_part : goal.returns-then-is_part
returns-then-is_part c s same =
    strips-in (members_of c.args.f.now) c.args.part (numbered c.args.worker c.args.number s) c.args.given.now _
    (ap (λ o. is_part c.args.part o.initial) same ∙ sym c.is_part.ensures ∙ c.if-is_part.true) (c.without_pairs.ensures s same)

pub returns-else-is_part : goal.returns-else-is_part
returns-else-is_part c s same =
    strips-out (members_of c.args.f.now) c.args.part (numbered c.args.worker c.args.number s) c.args.given.now
    (ap (λ o. is_part c.args.part o.initial) same ∙ sym c.is_part.ensures ∙ c.if-is_part.false)
