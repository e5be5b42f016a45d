use Rattle.std.proofs.Common.{◌≡◌, Ok, Err, rules, subst}
use Rattle.checks.specs.Checks.{Comes}
use Rattle.type_questions.specs.Asked.{asked as asked_in}
use Rattle.package_questions.proofs.PackageAsking.{names-asked, names-stop}
use Rattle.package_questions.proofs.asked.Goals as goal

pub returns-in-Ok : goal.returns-in-Ok
returns-in-Ok g c =
    let came : c.build.result ≡ Ok c.in-Ok.names = search rules in
    let types = g.T.Types in
    let s = c.args.s.now in
    let t = c.args.t.now in
    let home = c.args.«package».now.main in
    names-asked types.passes c.args.«package».now s t _ _ c.build.result c.build.ensures.comes c.in-Ok.names c.ask.result _ came
    (subst (λ first. Comes (asked_in types.passes c.in-Ok.names home first s t) (types.atoms c.build.new.types) c.ask.result (types.atoms c.ask.new.types)) c.requires.first c.ask.ensures.comes)

pub returns-in-Err : goal.returns-in-Err
returns-in-Err g c =
    let came : c.build.result ≡ Err c.in-Err.stop = search rules in
    names-stop g.T.Types.passes c.args.«package».now c.args.s.now c.args.t.now _ _ c.build.result c.build.ensures.comes c.in-Err.stop came
