use Rattle.std.proofs.Common.{List, ◌++◌, subst, sym, arith}
use Rattle.type_model.specs.declared.atoms.AtomDef.{AtomDef}
use Rattle.type_model.specs.Defined.{IsDefinedGroup}
use Rattle.type_model.specs.Calls.{KeepsTypes}
use Rattle.type_model.proofs.DefinedLaws.{IsEnv-append}
use Rattle.type_model.proofs.Kept.{KeepsTypes-append}
use Rattle.type_model.proofs.env.TypeEnv.add.Goals as goal

pub invariant_of-self-2 : goal.invariant_of-self-2
invariant_of-self-2 c =
    let group : List AtomDef = c.args.defs.items in
    let named = subst (λ (env : List AtomDef). IsDefinedGroup env group) (sym c.self.view_is) c.requires.named in
    rw c.in_ok-append.ensures.items (IsEnv-append _ _ c.self.invariant named c.requires.distinct (omega arith))

pub returns-clause-env : goal.returns-clause-env
returns-clause-env c =
    let group : List AtomDef = c.args.defs.items in
    let named = subst (λ (env : List AtomDef). IsDefinedGroup env group) (sym c.self.view_is) c.requires.named in
    rw c.in_ok-append.ensures.items (IsEnv-append _ _ c.self.invariant named c.requires.distinct (omega arith))

pub returns-clause-kept : goal.returns-clause-kept
returns-clause-kept c =
    let old : List AtomDef = c.self.inside.defs.items in
    let group : List AtomDef = c.args.defs.items in
    rw c.in_ok-append.ensures.items (subst (λ (env : List AtomDef). KeepsTypes env (old ++ group)) c.self.view_is (KeepsTypes-append old group c.self.invariant))
