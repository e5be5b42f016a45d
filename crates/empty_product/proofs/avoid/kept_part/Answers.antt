use Rattle.std.proofs.Common.{subst}
use Rattle.type_diagrams.specs.Tables.{condition}
use Rattle.type_diagrams.proofs.Asking.{one_itself}
use Rattle.empty_product.specs.Slots.{IsSlot, TellsPart}
use Rattle.empty_product.proofs.Narrowing.{present-held, present-condition}
use Rattle.empty_product.proofs.avoid.kept_part.Goals as goal

pub returns-in-Held : goal.returns-in-Held
returns-in-Held g c = λ env sound x at.
    let t = c.args.dia.now in
    let kept = g.M.Member.kept c.args.context.now.m.now in
    present-held env t kept c.args.slot c.in-Present.question c.in-Present.is
    (subst (TellsPart env t kept c.in-Present.question) c.in-Held.is (c.in_ok-part.ensures env sound)) x at

pub returns-in-Unknown : goal.returns-in-Unknown
returns-in-Unknown g c = λ env sound.
    let t = c.args.dia.now in
    let kept = g.M.Member.kept c.args.context.now.m.now in
    let q = c.in-Present.question in
    let told = subst (TellsPart env t kept q) c.in-Unknown.is (c.in_ok-part.ensures env sound) in
    (subst (IsSlot t) c.in-Present.is c.requires.slot, told.0, told.1, (condition t q, present-condition env t kept c.args.slot q c.in-Present.is, one_itself (condition t q)))
