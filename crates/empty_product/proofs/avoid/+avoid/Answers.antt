use Rattle.std.proofs.Common.{◌*◌, ◌/◌, ◌%◌, ◌≤◌, All, length, map, nat_eq, refl, sym, subst, ap, ◌∙◌, arith}
use Rattle.std.proofs.lemmas.List.{length-map}
use Rattle.type_diagrams.specs.Tables.{condition}
use Rattle.type_diagrams.proofs.AskedDiagrams.{then_all}
use Rattle.type_diagrams.proofs.Shapes.{IfOk-map}
use Rattle.type_diagrams.proofs.Tellings.{sound-keeps}
use Rattle.empty_product.specs.Products.{AreSlots, AreUnwanted, AsksPart, Avoids, TellsFilling, TellsNext, all_askings, askings_of, places_of}
use Rattle.empty_product.specs.Slots.{asking_of, place_of}
use Rattle.empty_product.proofs.AvoidedFirst.{all-first, ask-AsksPart, first-IsOver, length-next, next-AsksPart, next-Parts, no_items, none-after, none-Empty, none-Nothing, rest-AreUnwanted, rest-shorter, rest_of, skipped, told-next, told-rest}
use Rattle.empty_product.proofs.GrownPlaces.{places-keep, unwanted-keep}
use Rattle.empty_product.proofs.avoid.+avoid.Goals as goal

pub returns-then-branch-clause-extends : goal.returns-then-branch-clause-extends
returns-then-branch-clause-extends g t c = then_all _ _ _ _ c.is_avoided.ensures.extends c.avoid.ensures.extends

pub returns-then-branch-clause-tells : goal.returns-then-branch-clause-tells
returns-then-branch-clause-tells g t c =
    let old = c.args.dia.now in
    let kept = g.M.Member.kept c.args.context.now.m.now in
    let slots = c.args.slots.now in
    let us = c.args.unwanted.now in
    let f = c.first-item.result in
    let mid = c.is_avoided.new.dia in
    let fin = c.avoid.new.dia in
    let keeps = c.is_avoided.ensures.extends.keeps in
    let are = rest-AreUnwanted old us f c.in-len1-up.len_at_least c.first-item.is (length slots) c.requires.unwanted in
    IfOk-map _ _ (λ filling h env sound.
    let told = told-rest env old mid fin kept (length slots) slots slots (rest_of us) filling keeps are refl (h env (sound-keeps env old mid kept keeps sound)) in
    let here = subst (λ ps. TellsFilling env fin kept ps (all_askings old (rest_of us)) filling) (places-keep old mid keeps slots c.requires.slots) told in
    subst (λ bs. TellsFilling env fin kept (places_of old slots) bs filling) (sym (all-first old us f c.in-len1-up.len_at_least c.first-item.is))
    (skipped env fin kept (places_of old slots) (askings_of old f) (all_askings old (rest_of us))
    (λ parts is. subst (λ bs. Avoids env bs parts) (ap (map (asking_of old)) c.deref.ensures.value) (c.in_ok-is_avoided-in-len1-up.ensures.avoided c.if-branch.true env parts is)) filling here))
    c.avoid.result c.avoid.ensures.tells

pub returns-in_err-next-in-len1-up-clause-extends : goal.returns-in_err-next-in-len1-up-clause-extends
returns-in_err-next-in-len1-up-clause-extends g t c = then_all _ _ _ _ c.loop-step.invariant.0 c.narrow.ensures.extends

pub loop-step-preserved-in-Nothing : goal.loop-step-preserved-in-Nothing
loop-step-preserved-in-Nothing g t c =
    let old = c.args.dia.now in
    let kept = g.M.Member.kept c.args.context.now.m.now in
    let slots = c.args.slots.now in
    let us = c.args.unwanted.now in
    let f = c.first-item.result in
    let mid = c.loop-step.dia in
    let new = c.narrow.new.dia in
    let place = c.loop-step.step / 2 in
    let absent = nat_eq (c.loop-step.step % 2) 0 in
    let over = first-IsOver old us f c.in-len1-up.len_at_least c.first-item.is (length slots) c.requires.unwanted in
    let tells = told-next old mid new kept slots f c.deref-in-loop-step.result.now place absent c.in_ok-next-in-len1-up.field-0 c.loop-step.invariant.0.keeps c.requires.slots over.0 c.deref-in-loop-step.ensures.value c.in_ok-next-in-len1-up.ensures.tells in
    let void = subst (TellsNext new kept (places_of old slots) (askings_of old f) place absent) c.in-Nothing.is tells in (
      then_all 0 old mid new c.loop-step.invariant.0 c.narrow.ensures.extends,
      λ env sound. none-Nothing env mid new kept (places_of old slots) (askings_of old f) (all_askings old (rest_of us)) c.loop-step.step (c.loop-step.invariant.1 env sound) c.narrow.ensures.extends.keeps
          (sound-keeps env old mid kept c.loop-step.invariant.0.keeps sound) void,
    )

pub returns-in-Ask-clause-extends : goal.returns-in-Ask-clause-extends
returns-in-Ask-clause-extends g t c = then_all _ _ _ _ c.loop-step.invariant.0 c.narrow.ensures.extends

pub returns-in-Ask-clause-tells : goal.returns-in-Ask-clause-tells
returns-in-Ask-clause-tells g t c =
    let old = c.args.dia.now in
    let kept = g.M.Member.kept c.args.context.now.m.now in
    let slots = c.args.slots.now in
    let us = c.args.unwanted.now in
    let f = c.first-item.result in
    let mid = c.loop-step.dia in
    let new = c.narrow.new.dia in
    let place = c.loop-step.step / 2 in
    let absent = nat_eq (c.loop-step.step % 2) 0 in
    let over = first-IsOver old us f c.in-len1-up.len_at_least c.first-item.is (length slots) c.requires.unwanted in
    let tells = told-next old mid new kept slots f c.deref-in-loop-step.result.now place absent c.in_ok-next-in-len1-up.field-0 c.loop-step.invariant.0.keeps c.requires.slots over.0 c.deref-in-loop-step.ensures.value c.in_ok-next-in-len1-up.ensures.tells in
    let asks = subst (TellsNext new kept (places_of old slots) (askings_of old f) place absent) c.in-Ask.is tells in
    λ env sound. (
      asks.0,
      asks.1,
      asks.2,
      subst (λ bs. AsksPart (places_of old slots) bs (condition new c.in-Ask.question)) (sym (all-first old us f c.in-len1-up.len_at_least c.first-item.is))
          (ask-AsksPart env mid new kept (places_of old slots) (askings_of old f) (all_askings old (rest_of us)) c.loop-step.step (condition new c.in-Ask.question) asks.3),
    )

pub avoid-requires-in-loop-step : goal.avoid-requires-in-loop-step
avoid-requires-in-loop-step g t c κs within =
    let old = c.args.dia.now in
    let kept = g.M.Member.kept c.args.context.now.m.now in
    let slots = c.args.slots.now in
    let us = c.args.unwanted.now in
    let f = c.first-item.result in
    let mid = c.loop-step.dia in
    let new = c.narrow.new.dia in
    let place = c.loop-step.step / 2 in
    let absent = nat_eq (c.loop-step.step % 2) 0 in
    let over = first-IsOver old us f c.in-len1-up.len_at_least c.first-item.is (length slots) c.requires.unwanted in
    let tells = told-next old mid new kept slots f c.deref-in-loop-step.result.now place absent c.in_ok-next-in-len1-up.field-0 c.loop-step.invariant.0.keeps c.requires.slots over.0 c.deref-in-loop-step.ensures.value c.in_ok-next-in-len1-up.ensures.tells in
    let next = subst (TellsNext new kept (places_of old slots) (askings_of old f) place absent) c.in-Slots.is tells in
    let on = then_all 0 old mid new c.loop-step.invariant.0 c.narrow.ensures.extends in
    let are = rest-AreUnwanted old us f c.in-len1-up.len_at_least c.first-item.is (length slots) c.requires.unwanted in
    let shorter = rest-shorter us f c.in-len1-up.len_at_least in
    let same = ap length c.deref-in-loop-step-2.ensures.value ∙ (length-next new kept (places_of old slots) (askings_of old f) place absent c.in-Slots.next.items next ∙ length-map slots (place_of old)) in (
      omega (arith, shorter),
      (
        within,
        (
          subst (AreSlots new) (sym c.deref-in-loop-step-2.ensures.value) next.slots,
          subst (λ n. AreUnwanted new n (rest_of us)) (sym same) (unwanted-keep old new on.keeps (length slots) (rest_of us) are),
        ),
      ),
    )

pub returns-in_err-avoid-in-len1-up-clause-extends : goal.returns-in_err-avoid-in-len1-up-clause-extends
returns-in_err-avoid-in-len1-up-clause-extends g t c = then_all _ _ _ _ c.loop-step.invariant.0 (then_all _ _ _ _ c.narrow.ensures.extends c.avoid-in-loop-step.ensures.extends)

pub returns-in-Parts-clause-extends : goal.returns-in-Parts-clause-extends
returns-in-Parts-clause-extends g t c = then_all _ _ _ _ c.loop-step.invariant.0 (then_all _ _ _ _ c.narrow.ensures.extends c.avoid-in-loop-step.ensures.extends)

pub returns-in-Parts-clause-tells : goal.returns-in-Parts-clause-tells
returns-in-Parts-clause-tells g t c =
    let old = c.args.dia.now in
    let kept = g.M.Member.kept c.args.context.now.m.now in
    let slots = c.args.slots.now in
    let us = c.args.unwanted.now in
    let f = c.first-item.result in
    let mid = c.loop-step.dia in
    let new = c.narrow.new.dia in
    let place = c.loop-step.step / 2 in
    let absent = nat_eq (c.loop-step.step % 2) 0 in
    let over = first-IsOver old us f c.in-len1-up.len_at_least c.first-item.is (length slots) c.requires.unwanted in
    let tells = told-next old mid new kept slots f c.deref-in-loop-step.result.now place absent c.in_ok-next-in-len1-up.field-0 c.loop-step.invariant.0.keeps c.requires.slots over.0 c.deref-in-loop-step.ensures.value c.in_ok-next-in-len1-up.ensures.tells in
    let next = subst (TellsNext new kept (places_of old slots) (askings_of old f) place absent) c.in-Slots.is tells in
    let on = then_all 0 old mid new c.loop-step.invariant.0 c.narrow.ensures.extends in
    let are = rest-AreUnwanted old us f c.in-len1-up.len_at_least c.first-item.is (length slots) c.requires.unwanted in
    let fin = c.avoid-in-loop-step.new.dia in
    λ env sound.
    let told = told-rest env old new fin kept (length slots) c.in-Slots.next.items c.deref-in-loop-step-2.result.now (rest_of us) c.in_ok-avoid-in-len1-up.field-0 on.keeps are c.deref-in-loop-step-2.ensures.value
    (c.in_ok-avoid-in-len1-up.ensures.tells env (sound-keeps env old new kept on.keeps sound)) in
    let found = subst (TellsFilling env fin kept (places_of new c.in-Slots.next.items) (all_askings old (rest_of us))) c.in-Parts.is told in
    let all = next-Parts env mid new kept (places_of old slots) (askings_of old f) (all_askings old (rest_of us)) c.loop-step.step c.in-Slots.next.items next c.in-Parts.parts.items found in
    (all.0, subst (All (λ a. Avoids env a c.in-Parts.parts.items)) (sym (all-first old us f c.in-len1-up.len_at_least c.first-item.is)) all.1)

pub returns-in-Ask-2-clause-extends : goal.returns-in-Ask-2-clause-extends
returns-in-Ask-2-clause-extends g t c = then_all _ _ _ _ c.loop-step.invariant.0 (then_all _ _ _ _ c.narrow.ensures.extends c.avoid-in-loop-step.ensures.extends)

pub returns-in-Ask-2-clause-tells : goal.returns-in-Ask-2-clause-tells
returns-in-Ask-2-clause-tells g t c =
    let old = c.args.dia.now in
    let kept = g.M.Member.kept c.args.context.now.m.now in
    let slots = c.args.slots.now in
    let us = c.args.unwanted.now in
    let f = c.first-item.result in
    let mid = c.loop-step.dia in
    let new = c.narrow.new.dia in
    let place = c.loop-step.step / 2 in
    let absent = nat_eq (c.loop-step.step % 2) 0 in
    let over = first-IsOver old us f c.in-len1-up.len_at_least c.first-item.is (length slots) c.requires.unwanted in
    let tells = told-next old mid new kept slots f c.deref-in-loop-step.result.now place absent c.in_ok-next-in-len1-up.field-0 c.loop-step.invariant.0.keeps c.requires.slots over.0 c.deref-in-loop-step.ensures.value c.in_ok-next-in-len1-up.ensures.tells in
    let next = subst (TellsNext new kept (places_of old slots) (askings_of old f) place absent) c.in-Slots.is tells in
    let on = then_all 0 old mid new c.loop-step.invariant.0 c.narrow.ensures.extends in
    let are = rest-AreUnwanted old us f c.in-len1-up.len_at_least c.first-item.is (length slots) c.requires.unwanted in
    let fin = c.avoid-in-loop-step.new.dia in
    λ env sound.
    let told = told-rest env old new fin kept (length slots) c.in-Slots.next.items c.deref-in-loop-step-2.result.now (rest_of us) c.in_ok-avoid-in-len1-up.field-0 on.keeps are c.deref-in-loop-step-2.ensures.value
    (c.in_ok-avoid-in-len1-up.ensures.tells env (sound-keeps env old new kept on.keeps sound)) in
    let asks = subst (TellsFilling env fin kept (places_of new c.in-Slots.next.items) (all_askings old (rest_of us))) c.in-Ask-2.is told in (
      asks.0,
      asks.1,
      asks.2,
      subst (λ bs. AsksPart (places_of old slots) bs (condition fin c.in-Ask-2.question)) (sym (all-first old us f c.in-len1-up.len_at_least c.first-item.is))
          (next-AsksPart env mid new kept (places_of old slots) (askings_of old f) (all_askings old (rest_of us)) c.loop-step.step c.in-Slots.next.items next (condition fin c.in-Ask-2.question) asks.3),
    )

pub loop-step-preserved : goal.loop-step-preserved
loop-step-preserved g t c =
    let old = c.args.dia.now in
    let kept = g.M.Member.kept c.args.context.now.m.now in
    let slots = c.args.slots.now in
    let us = c.args.unwanted.now in
    let f = c.first-item.result in
    let mid = c.loop-step.dia in
    let new = c.narrow.new.dia in
    let place = c.loop-step.step / 2 in
    let absent = nat_eq (c.loop-step.step % 2) 0 in
    let over = first-IsOver old us f c.in-len1-up.len_at_least c.first-item.is (length slots) c.requires.unwanted in
    let tells = told-next old mid new kept slots f c.deref-in-loop-step.result.now place absent c.in_ok-next-in-len1-up.field-0 c.loop-step.invariant.0.keeps c.requires.slots over.0 c.deref-in-loop-step.ensures.value c.in_ok-next-in-len1-up.ensures.tells in
    let next = subst (TellsNext new kept (places_of old slots) (askings_of old f) place absent) c.in-Slots.is tells in
    let on = then_all 0 old mid new c.loop-step.invariant.0 c.narrow.ensures.extends in
    let are = rest-AreUnwanted old us f c.in-len1-up.len_at_least c.first-item.is (length slots) c.requires.unwanted in
    let fin = c.avoid-in-loop-step.new.dia in
    let further = then_all 0 mid new fin c.narrow.ensures.extends c.avoid-in-loop-step.ensures.extends in (
      then_all 0 old mid fin c.loop-step.invariant.0 further,
      λ env sound.
          let told = told-rest env old new fin kept (length slots) c.in-Slots.next.items c.deref-in-loop-step-2.result.now (rest_of us) c.in_ok-avoid-in-len1-up.field-0 on.keeps are c.deref-in-loop-step-2.ensures.value
          (c.in_ok-avoid-in-len1-up.ensures.tells env (sound-keeps env old new kept on.keeps sound)) in
          let empty = subst (TellsFilling env fin kept (places_of new c.in-Slots.next.items) (all_askings old (rest_of us))) c.in-Empty.is told in
          none-Empty env mid new kept (places_of old slots) (askings_of old f) (all_askings old (rest_of us)) c.loop-step.step c.in-Slots.next.items next fin further.keeps
          (sound-keeps env old mid kept c.loop-step.invariant.0.keeps sound) (c.loop-step.invariant.1 env sound) empty,
    )

pub returns-in-empty-clause-tells : goal.returns-in-empty-clause-tells
returns-in-empty-clause-tells g t c =
    let old = c.args.dia.now in
    let kept = g.M.Member.kept c.args.context.now.m.now in
    let none = no_items c.args.unwanted.now (omega arith) in
    IfOk-map _ _ (λ filling h env sound. subst (λ us. TellsFilling env old kept (places_of old c.args.slots.now) (all_askings old us) filling) (sym none) (h env sound))
    c.filled.result c.filled.ensures

pub returns-after-loop-step-clause-tells : goal.returns-after-loop-step-clause-tells
returns-after-loop-step-clause-tells g t c =
    let old = c.args.dia.now in
    let kept = g.M.Member.kept c.args.context.now.m.now in
    let slots = c.args.slots.now in
    let us = c.args.unwanted.now in
    let f = c.first-item.result in
    let enough : 2 * length f.demands.items ≤ c.loop-step.step = omega (arith, c.len-step-end.ensures, c.loop-step-test.false) in
    λ env sound parts is all.
    none-after env c.loop-step.dia kept (places_of old slots) (askings_of old f) (all_askings old (rest_of us)) c.loop-step.step (length f.demands.items) (length-map f.demands.items (asking_of old)) enough
    (c.loop-step.invariant.1 env sound) parts is (subst (All (λ a. Avoids env a parts)) (all-first old us f c.in-len1-up.len_at_least c.first-item.is) all)
