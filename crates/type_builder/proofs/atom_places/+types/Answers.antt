use Rattle.std.proofs.Common.{arith}
use Rattle.descriptors.specs.Descriptors.{descriptor_of, of_param, of_field}
use Rattle.type_builder.proofs.PlaceLoops.{all-more, fields-more}
use Rattle.type_builder.proofs.atom_places.+types.Goals as goal

pub type_list_places-loop-t-preserved : goal.type_list_places-loop-t-preserved
type_list_places-loop-t-preserved t c =
    all-more descriptor_of c.args.types.now c.loop-t.t-index c.t-item.result c.args.out.now.items c.loop-t.out.items c.type_places.new.out.items (grind (arith, c.loop-t-test.true)) c.t-item.is c.loop-t.invariant c.in_ok-type_places.ensures

pub param_list_places-loop-p-preserved : goal.param_list_places-loop-p-preserved
param_list_places-loop-p-preserved t c =
    all-more of_param c.args.params.now c.loop-p.p-index c.p-item.result c.args.out.now.items c.loop-p.out.items c.param_type_places.new.out.items (grind (arith, c.loop-p-test.true)) c.p-item.is c.loop-p.invariant c.in_ok-param_type_places.ensures

pub field_list_places-loop-f-preserved : goal.field_list_places-loop-f-preserved
field_list_places-loop-f-preserved t c =
    fields-more of_field c.args.fields.now c.loop-f.f-index c.f-item.result c.args.out.now.items c.loop-f.out.items c.one_field_places.new.out.items (grind (arith, c.loop-f-test.true)) c.f-item.is c.loop-f.invariant c.in_ok-one_field_places.ensures
