use Rattle.std.proofs.Common.{refl, subst}
use Rattle.checks.specs.Checks.{Comes}
use Rattle.compile_front.specs.Front.{front_of}
use Rattle.type_diagrams.specs.Reach.{Passes}
use Rattle.folder_programs.proofs.ProgramAnswers.{front-gives, front-stops, large-refused}
use Rattle.folder_programs.proofs.compiling.package_program.Goals as goal

pub returns-in-Ok-within_nodes : goal.returns-in-Ok-within_nodes
returns-in-Ok-within_nodes c =
    record {
      source = refl;
      accepted = c.in-Ok.accepted;
      gives = front-gives c.args.source c.new.result.atoms c.accept-types.result.types.atoms c.in-Ok.accepted c.new.ensures.atoms
          (subst (λ a. Comes (front_of Passes c.args.source) c.new.result.atoms a c.accept-types.result.types.atoms) c.in-Ok.is c.accept-types.ensures.comes);
      typed = refl;
      plans = refl;
      fits = c.in-Ok-within_nodes.ensures.within;
    }

pub returns-in-Err-within_nodes : goal.returns-in-Err-within_nodes
returns-in-Err-within_nodes c =
    large-refused c.args.source c.in-Ok.accepted c.accept-types.result.types.atoms c.in-Err-within_nodes.stop
    (front-gives c.args.source c.new.result.atoms c.accept-types.result.types.atoms c.in-Ok.accepted c.new.ensures.atoms
    (subst (λ a. Comes (front_of Passes c.args.source) c.new.result.atoms a c.accept-types.result.types.atoms) c.in-Ok.is c.accept-types.ensures.comes))
    c.in-Err-within_nodes.ensures.large

pub returns-in-Err : goal.returns-in-Err
returns-in-Err c =
    front-stops c.args.source c.new.result.atoms c.accept-types.result.types.atoms c.in-Err.stop c.refused.result
    c.new.ensures.atoms
    (subst (λ a. Comes (front_of Passes c.args.source) c.new.result.atoms a c.accept-types.result.types.atoms) c.in-Err.is c.accept-types.ensures.comes)
    c.refused.ensures
