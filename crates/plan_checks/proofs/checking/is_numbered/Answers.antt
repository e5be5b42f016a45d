use Rattle.std.proofs.Common.{length, refl}
use Rattle.worker_pairing.specs.Marks.{members_of}
use Rattle.plan_checks.proofs.Plans.{not-long, not-rising, numbered-if}
use Rattle.plan_checks.proofs.checking.is_numbered.Goals as goal

pub returns-then-not-has_as_many : goal.returns-then-not-has_as_many
returns-then-not-has_as_many c =
    not-long (members_of c.args.f.now) c.args.ranks.now (length c.args.ranks.now) c.has_as_many.result refl c.has_as_many.ensures c.if-not-has_as_many.true

pub ranks_rise-requires : goal.ranks_rise-requires
ranks_rise-requires c = c.has_as_many.ensures.0 c.if-not-has_as_many.false

pub returns-then-not-ranks_rise : goal.returns-then-not-ranks_rise
returns-then-not-ranks_rise c = not-rising (members_of c.args.f.now) c.args.ranks.now c.ranks_rise.result c.ranks_rise.ensures c.if-not-ranks_rise.true

pub returns : goal.returns
returns c = numbered-if (members_of c.args.f.now) c.args.ranks.now c.needs_fall.result (c.has_as_many.ensures.0 c.if-not-has_as_many.false) c.needs_fall.ensures
