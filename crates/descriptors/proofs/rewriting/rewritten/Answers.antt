use Rattle.std.proofs.Common.{◌++◌, Ok, Err, length, refl, subst, sym}
use Rattle.bal_base.specs.declared.stop.Stop.TheVariants.{Memory}
use Rattle.type_model.specs.declared.basic.Ty.{Ty}
use Rattle.type_model.specs.Defined.{IsEnv, TyBelow}
use Rattle.type_model.proofs.Kept.{KeepsTypes-append}
use Rattle.descriptors.specs.Described.{Atoms, IsRewritten, rewritten}
use Rattle.descriptors.specs.Steps.{Yields}
use Rattle.descriptors.proofs.Yielding.{rewritten-kept, yields-given, yields-ran_out}
use Rattle.descriptors.proofs.rewriting.rewritten.Goals as goal

pub returns-in-Ok : goal.returns-in-Ok
returns-in-Ok g c =
    let old = g.T.Types.atoms c.args.types.now in
    let t : Ty = record { sem = c.in-Ok.sem; lists = c.args.t.lists; maps = c.args.t.maps } in
    let env : IsEnv old = subst IsEnv c.env.ensures c.defs-atoms.ensures.env in
    let below : TyBelow (length old) t = (c.in-Ok.ensures.defined, c.requires.1, c.requires.2) in
    let same : IsRewritten c.args.t old t = record { shapes = c.in-Ok.ensures.shapes; lists = refl; maps = refl } in
    subst (λ e. Yields TyBelow (rewritten c.args.t) old (Ok t) e) (sym c.in-Ok.ensures.atoms)
    (yields-given TyBelow (λ e u. (more : Atoms) → IsRewritten c.args.t (e ++ more) u) old t
    (λ more. rewritten-kept old (old ++ more) c.args.t t (KeepsTypes-append old more env) c.requires below same) below)

pub returns-in-Err : goal.returns-in-Err
returns-in-Err g c =
    let old = g.T.Types.atoms c.args.types.now in
    subst (λ e. Yields TyBelow (rewritten c.args.t) old (Err Memory) e) (sym c.in-Err.ensures.atoms) (yields-ran_out TyBelow (rewritten c.args.t) old)
