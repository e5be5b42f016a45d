use Rattle.std.proofs.Common.{arith}
use Rattle.indexmap.specs.IndexSet.{contains}
use Rattle.type_model.specs.Places.{is_same_text}
use Rattle.descriptors.specs.Descriptors.{descriptor_of, of_param, of_field}
use Rattle.name_resolution.proofs.MentionLoops.{all-more, fields-more, names-more}
use Rattle.name_resolution.proofs.mentions.Reader.+types.Goals as goal

pub type_list-loop-t-preserved : goal.type_list-loop-t-preserved
type_list-loop-t-preserved t c =
    all-more _ _ descriptor_of c.args.types.now c.loop-t.t-index c.t-item.result c.args.out.now.items c.loop-t.out.items c.type_tree.new.out.items (grind (arith, c.loop-t-test.true)) c.t-item.is c.loop-t.invariant c.in_ok-type_tree.ensures

pub param_list-loop-p-preserved : goal.param_list-loop-p-preserved
param_list-loop-p-preserved t c =
    all-more _ _ of_param c.args.params.now c.loop-p.p-index c.p-item.result c.args.out.now.items c.loop-p.out.items c.param.new.out.items (grind (arith, c.loop-p-test.true)) c.p-item.is c.loop-p.invariant c.in_ok-param.ensures

pub field_list-loop-f-preserved : goal.field_list-loop-f-preserved
field_list-loop-f-preserved t c = (
  fields-more _ _ of_field c.args.fields.now c.loop-f.f-index c.f-item.result (contains is_same_text c.loop-f.earlier (of_field c.f-item.result).name.name) c.args.out.now.items c.loop-f.out.items c.field.new.out.items (grind (arith, c.loop-f-test.true)) c.f-item.is (c.loop-f.invariant.1 (of_field c.f-item.result).name.name) c.loop-f.invariant.0 c.in_ok-field.ensures.mentions,
  names-more of_field c.args.fields.now c.loop-f.f-index c.f-item.result (contains is_same_text c.loop-f.earlier) (contains is_same_text c.field.new.earlier) (grind (arith, c.loop-f-test.true)) c.f-item.is c.loop-f.invariant.1 c.in_ok-field.ensures.earlier.0,
)
