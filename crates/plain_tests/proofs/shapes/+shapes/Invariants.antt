use Rattle.std.proofs.Common.{◌+◌, ◌*◌, take}
use Rattle.std.specs.List.{AllZip}
use Rattle.plain_run.specs.Held.{heap_of}
use Rattle.plain_tests.specs.Shapes.{IsField, IsInner}
use Rattle.plain_tests.proofs.shapes.+shapes.Given as goal

abbrev pub decreases-structure_shape : goal.decreases-structure_shape
decreases-structure_shape l = l.most * 8 + 2

abbrev pub decreases-inner_shape : goal.decreases-inner_shape
decreases-inner_shape l = l.most * 8 + 3

abbrev pub decreases-key_shape : goal.decreases-key_shape
decreases-key_shape l = l.most * 8 + 4

abbrev pub decreases-item_shapes : goal.decreases-item_shapes
decreases-item_shapes l = l.most * 8 + 5

abbrev pub decreases-field_shapes : goal.decreases-field_shapes
decreases-field_shapes l = l.most * 8 + 5

abbrev pub decreases-list_shape : goal.decreases-list_shape
decreases-list_shape l = l.most * 8 + 6

abbrev pub decreases-mapping_shape : goal.decreases-mapping_shape
decreases-mapping_shape l = l.most * 8 + 6

abbrev pub decreases-members_shape : goal.decreases-members_shape
decreases-members_shape l = l.most * 8 + 7

abbrev pub invariant-item_shapes-loop-v : goal.invariant-item_shapes-loop-v
invariant-item_shapes-loop-v l = AllZip (IsInner (heap_of l.heap)) (take l.v-index l.items) l.shapes.items

abbrev pub invariant-field_shapes-loop-key : goal.invariant-field_shapes-loop-key
invariant-field_shapes-loop-key l = AllZip (IsField (heap_of l.heap) l.entries) (take l.key-index l.keys) l.fields.items
