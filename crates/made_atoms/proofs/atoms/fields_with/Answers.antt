use Rattle.std.proofs.Common.{◌≡◌, length, ap, ◌∙◌, arith}
use Rattle.std.specs.Iterator.Adapters.{zip_first, zip_second}
use Rattle.std.specs.Vec.Iter.{into_iter_items, into_iter_len}
use Rattle.std.proofs.lemmas.Iterator.{YieldsList-from_zip}
use Rattle.std.proofs.lemmas.Iterator.Adapters.{YieldsList-from_vec}
use Rattle.std.proofs.lemmas.Iterator.Consumers.{YieldsList-at, YieldsList-end}
use Rattle.made_atoms.proofs.Groups.{all-fields, one-field}
use Rattle.made_atoms.proofs.atoms.fields_with.Goals as goal

pub loop-key-preserved : goal.loop-key-preserved
loop-key-preserved c = one-field c.loop-key.yielded (c.in-Some.key, c.in-Some.ty) c.loop-key.fields.items c.add_field.new.fields.items c.loop-key.invariant c.in_ok-add_field.ensures

pub returns : goal.returns
returns c =
    let z = c.zip-key-items.ensures in
    let first_items : into_iter_items (zip_first c.zip-key-items.result) ≡ c.args.keys.items = ap into_iter_items z.first ∙ c.into_iter.ensures.rest in
    let first_len : into_iter_len (zip_first c.zip-key-items.result) ≡ length c.args.keys.items = omega (arith, ap into_iter_len z.first, c.into_iter.ensures.len, c.args.keys.ok.0) in
    let second_len : into_iter_len (zip_second c.zip-key-items.result) ≡ length c.args.types.items = omega (arith, z.second.1, c.args.types.ok.0) in
    let road = YieldsList-from_zip (YieldsList-from_vec c.args.keys.items first_items first_len) (YieldsList-from_vec c.args.types.items z.second.0 second_len) in
    let t = YieldsList-end (YieldsList-at c.into_iter-key-iterator.ensures.into_iter_gives road) c.loop-key.yielded c.loop-key.key-iterator c.loop-key.yielded_by c.next.result c.next.new.self c.in-None.is c.next.ensures.steps in
    all-fields c.loop-key.yielded c.args.keys.items c.args.types.items c.loop-key.fields.items c.loop-key.invariant t.0
