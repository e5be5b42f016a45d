use Rattle.std.proofs.Common.{◌∙◌, ◌<◌, ◌≤◌, length, List, None, option_copied, option_map, sym, ap, subst, arith}
use Rattle.std.specs.List.{AllZip}
use Rattle.bal_base.specs.declared.text.Text.{Text}
use Rattle.bal_base.specs.declared.shape.Shape.{Shape}
use Rattle.plain_run.specs.Held.{heap_of}
use Rattle.plain_run.proofs.Given.{if-ok}
use Rattle.plain_tests.specs.Shapes.{Finds, FindsAt, FindsEach, FindsFields, IsField, IsInner}
use Rattle.plain_tests.proofs.HeldShapes.{list_none, list_some, mapping_none, mapping_short, mapping_some}
use Rattle.plain_tests.proofs.Steps.{at_key, at_no_key, zip_more}
use Rattle.plain_tests.proofs.shapes.+shapes.Goals as goal

pub item_shapes-loop-v-preserved : goal.item_shapes-loop-v-preserved
item_shapes-loop-v-preserved t c =
    let h = heap_of c.args.heap.now in
    let i = c.loop-v.v-index in
    let v = c.v-item.result in
    let inner = subst (Finds h c.args.most v) c.in-Some.is c.in_ok-inner_shape.ensures in
    zip_more (IsInner h) c.args.items.now c.loop-v.shapes.items c.push.new.self.items i v c.in-Some.shape c.in_ok-push-in-Some.ensures.items (omega arith) c.v-item.is c.loop-v.invariant inner

pub field_shapes-loop-key-preserved : goal.field_shapes-loop-key-preserved
field_shapes-loop-key-preserved t c =
    let h = heap_of c.args.heap.now in
    let es = c.args.entries.now in
    let i = c.loop-key.key-index in
    let key = c.key-item.result in
    let found = subst (FindsAt h c.args.most es key) c.in-Some.is c.in_ok-key_shape.ensures in
    zip_more (IsField h es) c.args.keys.now c.loop-key.fields.items c.push.new.self.items i key (c.share.result, c.in-Some.shape) c.in_ok-push-in-Some.ensures.items (omega arith) c.key-item.is c.loop-key.invariant (c.share.ensures, found)

pub key_shape-returns-in-None : goal.key_shape-returns-in-None
key_shape-returns-in-None t c =
    at_no_key (heap_of c.args.heap.now) c.args.most c.args.entries.now c.args.key.now (sym c.entry_with.ensures ∙ ap option_copied c.in-None.is)

pub key_shape-returns-in-Some : goal.key_shape-returns-in-Some
key_shape-returns-in-Some t c =
    let h = heap_of c.args.heap.now in
    let es = c.args.entries.now in
    let key = c.args.key.now in
    let e = c.in-Some.e.now in
    if-ok (Finds h c.args.most e.1) (FindsAt h c.args.most es key) c.inner_shape.result (at_key h c.args.most es key e (sym c.entry_with.ensures ∙ ap option_copied c.in-Some.is)) c.inner_shape.ensures

pub list_shape-returns-in-None : goal.list_shape-returns-in-None
list_shape-returns-in-None t c =
    let h = heap_of c.args.heap.now in
    let vs = c.args.items.now in
    list_none h c.args.most vs (subst (λ found. FindsEach h c.args.most vs (option_map (λ xs. xs.items) found)) c.in-None.is c.in_ok-item_shapes.ensures)

pub list_shape-returns-in-Some : goal.list_shape-returns-in-Some
list_shape-returns-in-Some t c =
    let h = heap_of c.args.heap.now in
    let vs = c.args.items.now in
    let all = subst (λ found. FindsEach h c.args.most vs (option_map (λ xs. xs.items) found)) c.in-Some.is c.in_ok-item_shapes.ensures in
    list_some h c.args.most vs c.of.result (subst (λ (xs : List Shape). AllZip (IsInner h) vs xs) (sym c.of.ensures) all)

pub mapping_shape-returns-then-as_slice-entries : goal.mapping_shape-returns-then-as_slice-entries
mapping_shape-returns-then-as_slice-entries t c =
    let short : length c.in_ok-keys.keys.items < length c.args.entries.now = omega (arith, ap length c.as_slice.ensures.value) in
    mapping_short (heap_of c.args.heap.now) c.args.most c.args.entries.now c.in_ok-keys.keys.items c.in_ok-keys.ensures short

pub mapping_shape-returns-in-None : goal.mapping_shape-returns-in-None
mapping_shape-returns-in-None t c =
    let h = heap_of c.args.heap.now in
    let es = c.args.entries.now in
    let keys = c.as_slice-2.result.now in
    let none = subst (λ found. FindsFields h c.args.most es keys (option_map (λ fields. fields.items) found)) c.in-None.is c.in_ok-field_shapes.ensures in
    mapping_none h c.args.most es c.in_ok-keys.keys.items c.in_ok-keys.ensures (subst (λ (ks : List Text). FindsFields h c.args.most es ks None) c.as_slice-2.ensures.value none)

pub mapping_shape-returns : goal.mapping_shape-returns
mapping_shape-returns t c =
    let h = heap_of c.args.heap.now in
    let es = c.args.entries.now in
    let long : length es ≤ length c.in_ok-keys.keys.items = omega (arith, ap length c.as_slice.ensures.value) in
    let all = subst (λ found. FindsFields h c.args.most es c.as_slice-2.result.now (option_map (λ fields. fields.items) found)) c.in-Some.is c.in_ok-field_shapes.ensures in
    let by_keys = subst (λ (ks : List Text). AllZip (IsField h es) ks c.in-Some.fields.items) c.as_slice-2.ensures.value all in
    mapping_some h c.args.most es c.in_ok-keys.keys.items c.in_ok-keys.ensures c.of.result long (subst (λ (fs : List (Text × Shape)). AllZip (IsField h es) c.in_ok-keys.keys.items fs) (sym c.of.ensures) by_keys)
