use Rattle.std.proofs.Common.{Some, None, subst, []}
use Rattle.type_diagrams.specs.Conditions.{IsShapeOf}
use Rattle.type_diagrams.specs.Tables.{condition}
use Rattle.type_diagrams.specs.Finding.{IsFinding}
use Rattle.empty_arrow.proofs.PairLaws.{held-arguments, held-result, ask-arguments, ask-result, pair-of}
use Rattle.type_diagrams.proofs.Tellings.{told-IsShapeOf}
use Rattle.empty_arrow.proofs.pairs.kept_pair.Goals as goal

pub returns-in-Held : goal.returns-in-Held
returns-in-Held g c =
    held-arguments c.args.context.now.env.now c.args.dia.now (g.M.Member.kept c.args.context.now.m.now) [] c.args.sought.args (condition c.args.dia.now c.args.sought.result) c.args.sought.may_fail
    (subst (IsFinding (g.M.Member.kept c.args.context.now.m.now) c.args.sought.args) c.in-Held.is c.in_ok-part.ensures)

pub returns-in-Unknown : goal.returns-in-Unknown
returns-in-Unknown g c =
    ask-arguments c.args.context.now.env.now c.args.dia.now (g.M.Member.kept c.args.context.now.m.now) [] c.args.sought.args (condition c.args.dia.now c.args.sought.result) c.args.sought.may_fail
    (subst (IsFinding (g.M.Member.kept c.args.context.now.m.now) c.args.sought.args) c.in-Unknown.is c.in_ok-part.ensures) c.requires.args

pub returns-then-sought : goal.returns-then-sought
returns-then-sought g c =
    let env = c.args.context.now.env.now in
    let kept = g.M.Member.kept c.args.context.now.m.now in
    let told = subst (IsFinding kept c.args.sought.args) c.in-Part.is c.in_ok-part.ensures in
    let is = told-IsShapeOf env c.args.dia.now kept c.args.sought.args c.requires.sound c.in-Part.part c.in_ok-copied-in-Part.field-0 told c.in_ok-copied-in-Part.ensures in
    pair-of env (condition c.args.dia.now c.args.sought.args) (condition c.args.dia.now c.args.sought.result) c.args.sought.may_fail c.items-args.result
    (subst (IsShapeOf env (condition c.args.dia.now c.args.sought.args)) c.items-args.ensures is) None c.if-sought.true tt

pub returns-in_ok-copied-in-Part-2 : goal.returns-in_ok-copied-in-Part-2
returns-in_ok-copied-in-Part-2 g c =
    let env = c.args.context.now.env.now in
    let kept = g.M.Member.kept c.args.context.now.m.now in
    let told = subst (IsFinding kept c.args.sought.args) c.in-Part.is c.in_ok-part.ensures in
    let is = told-IsShapeOf env c.args.dia.now kept c.args.sought.args c.requires.sound c.in-Part.part c.in_ok-copied-in-Part.field-0 told c.in_ok-copied-in-Part.ensures in
    let answer = subst (IsFinding kept c.args.sought.result) c.in-Part-2.is c.in_ok-part-2.ensures in
    let known = told-IsShapeOf env c.args.dia.now kept c.args.sought.result c.requires.sound c.in-Part-2.part c.in_ok-copied-in-Part-2.field-0 answer c.in_ok-copied-in-Part-2.ensures in
    pair-of env (condition c.args.dia.now c.args.sought.args) (condition c.args.dia.now c.args.sought.result) c.args.sought.may_fail c.items-args.result
    (subst (IsShapeOf env (condition c.args.dia.now c.args.sought.args)) c.items-args.ensures is) (Some c.in_ok-copied-in-Part-2.field-0) known.1 known.0

pub returns-in-Held-2 : goal.returns-in-Held-2
returns-in-Held-2 g c =
    held-result c.args.context.now.env.now c.args.dia.now (g.M.Member.kept c.args.context.now.m.now) [] c.args.sought.result (condition c.args.dia.now c.args.sought.args) c.args.sought.may_fail c.if-sought.false
    (subst (IsFinding (g.M.Member.kept c.args.context.now.m.now) c.args.sought.result) c.in-Held-2.is c.in_ok-part-2.ensures)

pub returns-in-Unknown-2 : goal.returns-in-Unknown-2
returns-in-Unknown-2 g c =
    ask-result c.args.context.now.env.now c.args.dia.now (g.M.Member.kept c.args.context.now.m.now) [] c.args.sought.result (condition c.args.dia.now c.args.sought.args) c.args.sought.may_fail c.if-sought.false
    (subst (IsFinding (g.M.Member.kept c.args.context.now.m.now) c.args.sought.result) c.in-Unknown-2.is c.in_ok-part-2.ensures) c.requires.results
