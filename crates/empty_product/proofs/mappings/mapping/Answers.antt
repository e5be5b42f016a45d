use Rattle.std.proofs.Common.{◌≡◌, length, refl, subst, sym, ◌∙◌, arith}
use Rattle.std.specs.Vec.Iter.{into_iter_len}
use Rattle.std.proofs.lemmas.Iterator.Adapters.{YieldsList-from_vec}
use Rattle.std.proofs.lemmas.Iterator.Consumers.{YieldsList-end}
use Rattle.bal_base.specs.declared.shape.Fields.{Fields}
use Rattle.type_diagrams.proofs.Shapes.{IfOk-map}
use Rattle.empty_product.specs.Keys.{IsBehind}
use Rattle.empty_product.specs.Mappings.{IsMappingOf}
use Rattle.empty_product.proofs.MappingMade.{further-mapping, no-further, one-further-member, shapes-themselves}
use Rattle.empty_product.proofs.mappings.mapping.Goals as goal

pub loop-part-init : goal.loop-part-init
loop-part-init c = no-further c.args.keys.items c.args.parts.items c.requires.ordered

pub loop-part-preserved : goal.loop-part-preserved
loop-part-preserved c =
    one-further-member c.args.keys.items c.args.parts.items c.loop-part.keys.items c.loop-part.parts.items c.loop-part.yielded c.in_ok-key.key c.in-Some.part c.push.new.self.items c.push-in-loop-part.new.self.items
    c.loop-part.invariant (subst (λ ks. IsBehind ks c.in_ok-key.key) c.as_slice.ensures.value c.in_ok-key.ensures) c.in_ok-push.ensures.items c.in_ok-push-2.ensures.items

pub returns : goal.returns
returns c =
    let g = c.into_iter-part-iterator.ensures.into_iter_gives in
    let long : into_iter_len c.into_iter-part-iterator.result ≡ length c.args.further.items = omega (arith, g.1, c.args.further.ok.0) in
    let t = YieldsList-end (YieldsList-from_vec c.args.further.items g.0 long) c.loop-part.yielded c.loop-part.part-iterator c.loop-part.yielded_by c.next.result c.next.new.self c.in-None.is c.next.ensures.steps in
    let fields : Fields = record { items = c.in_ok-fields.fields } in
    let is = further-mapping c.args.mark c.args.keys.items c.args.parts.items c.loop-part.keys.items c.loop-part.parts.items c.loop-part.yielded c.args.further.items fields c.in_ok-fields.fields.items
    c.loop-part.invariant (sym (shapes-themselves c.loop-part.yielded) ∙ t.0) c.in_ok-fields.ensures refl in
    IfOk-map _ _ (λ x e. subst (IsMappingOf c.args.mark c.args.keys.items c.args.parts.items c.args.further.items) (sym e) is) c.mapping.result c.mapping.ensures
