use Rattle.code_needs.specs.Combining.{need}
use Rattle.code_needs.specs.Needs.{Has, MemberIn}
use Rattle.code_needs.specs.declared.kind.Kind.TheVariants.{Nils}
use Rattle.needs_of_rows.proofs.Finding.{found-then}
use Rattle.needs_of_rows.proofs.members.member_or_nil.Goals as goal

pub returns : goal.returns
returns c =
    found-then (need (MemberIn c.args.m.now c.args.k.now c.args.r.now)) (need (Has c.args.r.now Nils)) _ _ _ c.ask.ensures c.has_kind.ensures
