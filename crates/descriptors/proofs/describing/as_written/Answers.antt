use Rattle.std.proofs.Common.{length, ap, subst, ◌∙◌}
use Rattle.type_model.specs.Defined.{IsEnv, TyBelow}
use Rattle.descriptors.specs.Descriptors.{descriptor_of}
use Rattle.descriptors.proofs.AddedDrafts.{added-defined, added-distinct, added-yields, group-added, no_limit}
use Rattle.descriptors.proofs.Yielding.{handed-on}
use Rattle.descriptors.proofs.describing.as_written.Goals as goal

pub add-requires-clause-named : goal.add-requires-clause-named
add-requires-clause-named g c =
    added-defined _ (subst IsEnv c.env.ensures c.defs.ensures.env) c.args.names.now c.requires c.args.scope (descriptor_of c.args.tree.now) _ _
    (ap length (c.defs.ensures.value ∙ c.env.ensures)) c.new.ensures.items _ c.type_tree-made.ensures

pub add-requires-clause-distinct : goal.add-requires-clause-distinct
add-requires-clause-distinct g c =
    added-distinct _ (subst IsEnv c.env.ensures c.defs.ensures.env) c.args.names.now c.requires c.args.scope (descriptor_of c.args.tree.now) _ _
    (ap length (c.defs.ensures.value ∙ c.env.ensures)) c.new.ensures.items _ c.type_tree-made.ensures

pub returns-in_err-add : goal.returns-in_err-add
returns-in_err-add g c = handed-on TyBelow _ _ _ _ _ c.from_residual.ensures
    (no_limit _ (subst IsEnv c.env.ensures c.defs.ensures.env) c.args.names.now c.requires c.args.scope (descriptor_of c.args.tree.now) _ _
    (ap length (c.defs.ensures.value ∙ c.env.ensures)) c.new.ensures.items _ c.type_tree-made.ensures _ c.in_err-add.ensures.refused _ c.in_err-add.ensures.comes)

pub returns : goal.returns
returns g c =
    added-yields _ (subst IsEnv c.env.ensures c.defs.ensures.env) c.args.names.now c.requires c.args.scope (descriptor_of c.args.tree.now) _ _
    (ap length (c.defs.ensures.value ∙ c.env.ensures)) c.new.ensures.items _ c.type_tree-made.ensures _ (group-added _ _ _ _ c.in_ok-add.ensures.comes) c.in_ok-add.ensures.kept
