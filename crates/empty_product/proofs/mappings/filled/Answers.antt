use Rattle.std.proofs.Common.{sym, subst}
use Rattle.std.specs.List.{AllZip}
use Rattle.type_diagrams.proofs.AskedDiagrams.{then_all, then_on}
use Rattle.type_diagrams.proofs.Tellings.{sound-keeps}
use Rattle.empty_product.specs.Mappings.{AreDemandsOf, IsSlotOf}
use Rattle.empty_product.specs.Products.{TellsFilling, all_askings, places_of}
use Rattle.empty_product.proofs.MappingBodies.{ask-filled, avoid-slots, avoid-unwanted, empty-filled, found-filled, parts-long}
use Rattle.empty_product.proofs.mappings.filled.Goals as goal

pub returns-in_err-asked-clause-extends : goal.returns-in_err-asked-clause-extends
returns-in_err-asked-clause-extends g c = then_all _ _ _ _ c.slots.ensures.extends c.all_demands.ensures.extends

pub avoid-requires-clause-slots : goal.avoid-requires-clause-slots
avoid-requires-clause-slots g c =
    let env = c.args.context.now.env.now in
    let wanted = c.args.literals.now.wanted.now in
    let marked = c.args.literals.now.marked in
    let keys = c.args.keys.items in
    let staying = c.args.literals.now.unwanted.now in
    let first = c.slots.new.dia in
    let mid = c.all_demands.new.dia in
    let ss = c.as_slice-slots.result.now in
    let us = c.as_slice-unwanted.result.now in
    let ss_are = subst (λ xs. AllZip (IsSlotOf env wanted marked first) keys xs) (sym c.as_slice-slots.ensures.value) (subst (λ ks. AllZip (IsSlotOf env wanted marked first) ks c.in_ok-places.places.items) c.as_slice.ensures.value c.in_ok-places.ensures.slots) in
    let us_are = subst (λ xs. AllZip (AreDemandsOf env mid keys) staying xs) (sym c.as_slice-unwanted.ensures.value) (subst (λ ks. AllZip (AreDemandsOf env mid ks) staying c.in_ok-asked.asked.items) c.as_slice-2.ensures.value c.in_ok-asked.ensures.demands) in
    avoid-slots env wanted marked keys staying first mid c.all_demands.ensures.extends.keeps ss us ss_are us_are

pub avoid-requires-clause-unwanted : goal.avoid-requires-clause-unwanted
avoid-requires-clause-unwanted g c =
    let env = c.args.context.now.env.now in
    let wanted = c.args.literals.now.wanted.now in
    let marked = c.args.literals.now.marked in
    let keys = c.args.keys.items in
    let staying = c.args.literals.now.unwanted.now in
    let first = c.slots.new.dia in
    let mid = c.all_demands.new.dia in
    let ss = c.as_slice-slots.result.now in
    let us = c.as_slice-unwanted.result.now in
    let ss_are = subst (λ xs. AllZip (IsSlotOf env wanted marked first) keys xs) (sym c.as_slice-slots.ensures.value) (subst (λ ks. AllZip (IsSlotOf env wanted marked first) ks c.in_ok-places.places.items) c.as_slice.ensures.value c.in_ok-places.ensures.slots) in
    let us_are = subst (λ xs. AllZip (AreDemandsOf env mid keys) staying xs) (sym c.as_slice-unwanted.ensures.value) (subst (λ ks. AllZip (AreDemandsOf env mid ks) staying c.in_ok-asked.asked.items) c.as_slice-2.ensures.value c.in_ok-asked.ensures.demands) in
    avoid-unwanted env wanted marked keys staying first mid c.all_demands.ensures.extends.keeps ss us ss_are us_are

pub returns-in_err-filling-clause-extends : goal.returns-in_err-filling-clause-extends
returns-in_err-filling-clause-extends g c = then_on _ _ _ _ (then_all _ _ _ _ c.slots.ensures.extends c.all_demands.ensures.extends) c.avoid.ensures.extends

pub mapping-requires-clause-long : goal.mapping-requires-clause-long
mapping-requires-clause-long g c =
    let env = c.args.context.now.env.now in
    let wanted = c.args.literals.now.wanted.now in
    let marked = c.args.literals.now.marked in
    let keys = c.args.keys.items in
    let staying = c.args.literals.now.unwanted.now in
    let first = c.slots.new.dia in
    let mid = c.all_demands.new.dia in
    let ss = c.as_slice-slots.result.now in
    let us = c.as_slice-unwanted.result.now in
    let ss_are = subst (λ xs. AllZip (IsSlotOf env wanted marked first) keys xs) (sym c.as_slice-slots.ensures.value) (subst (λ ks. AllZip (IsSlotOf env wanted marked first) ks c.in_ok-places.places.items) c.as_slice.ensures.value c.in_ok-places.ensures.slots) in
    let us_are = subst (λ xs. AllZip (AreDemandsOf env mid keys) staying xs) (sym c.as_slice-unwanted.ensures.value) (subst (λ ks. AllZip (AreDemandsOf env mid ks) staying c.in_ok-asked.asked.items) c.as_slice-2.ensures.value c.in_ok-asked.ensures.demands) in
    let kept = g.M.Member.kept c.args.context.now.m.now in
    let new = c.avoid.new.dia in
    let sound = sound-keeps env c.args.dia.now mid kept (then_all _ _ _ _ c.slots.ensures.extends c.all_demands.ensures.extends).keeps c.requires.sound in
    let told = c.in_ok-filling.ensures.tells env sound in
    parts-long env wanted marked keys staying first mid c.all_demands.ensures.extends.keeps ss us ss_are us_are new kept c.in-Parts.parts (subst (TellsFilling env new kept (places_of mid ss) (all_askings mid us)) c.in-Parts.is told)

pub returns-in_err-mapping-in-Parts-clause-extends : goal.returns-in_err-mapping-in-Parts-clause-extends
returns-in_err-mapping-in-Parts-clause-extends g c = then_on _ _ _ _ (then_all _ _ _ _ c.slots.ensures.extends c.all_demands.ensures.extends) c.avoid.ensures.extends

pub returns-in_ok-mapping-in-Parts-clause-extends : goal.returns-in_ok-mapping-in-Parts-clause-extends
returns-in_ok-mapping-in-Parts-clause-extends g c = then_on _ _ _ _ (then_all _ _ _ _ c.slots.ensures.extends c.all_demands.ensures.extends) c.avoid.ensures.extends

pub returns-in_ok-mapping-in-Parts-clause-tells : goal.returns-in_ok-mapping-in-Parts-clause-tells
returns-in_ok-mapping-in-Parts-clause-tells g c =
    let env = c.args.context.now.env.now in
    let wanted = c.args.literals.now.wanted.now in
    let marked = c.args.literals.now.marked in
    let keys = c.args.keys.items in
    let staying = c.args.literals.now.unwanted.now in
    let first = c.slots.new.dia in
    let mid = c.all_demands.new.dia in
    let ss = c.as_slice-slots.result.now in
    let us = c.as_slice-unwanted.result.now in
    let ss_are = subst (λ xs. AllZip (IsSlotOf env wanted marked first) keys xs) (sym c.as_slice-slots.ensures.value) (subst (λ ks. AllZip (IsSlotOf env wanted marked first) ks c.in_ok-places.places.items) c.as_slice.ensures.value c.in_ok-places.ensures.slots) in
    let us_are = subst (λ xs. AllZip (AreDemandsOf env mid keys) staying xs) (sym c.as_slice-unwanted.ensures.value) (subst (λ ks. AllZip (AreDemandsOf env mid ks) staying c.in_ok-asked.asked.items) c.as_slice-2.ensures.value c.in_ok-asked.ensures.demands) in
    let kept = g.M.Member.kept c.args.context.now.m.now in
    let new = c.avoid.new.dia in
    let sound = sound-keeps env c.args.dia.now mid kept (then_all _ _ _ _ c.slots.ensures.extends c.all_demands.ensures.extends).keeps c.requires.sound in
    let told = c.in_ok-filling.ensures.tells env sound in
    found-filled env wanted marked keys staying first mid c.all_demands.ensures.extends.keeps ss us ss_are us_are new kept c.args.further.items c.in-Parts.parts c.in_ok-mapping-in-Parts.field-0 (subst (TellsFilling env new kept (places_of mid ss) (all_askings mid us)) c.in-Parts.is told) c.in_ok-mapping-in-Parts.ensures

pub returns-in-Empty-clause-extends : goal.returns-in-Empty-clause-extends
returns-in-Empty-clause-extends g c = then_on _ _ _ _ (then_all _ _ _ _ c.slots.ensures.extends c.all_demands.ensures.extends) c.avoid.ensures.extends

pub returns-in-Empty-clause-tells : goal.returns-in-Empty-clause-tells
returns-in-Empty-clause-tells g c =
    let env = c.args.context.now.env.now in
    let wanted = c.args.literals.now.wanted.now in
    let marked = c.args.literals.now.marked in
    let keys = c.args.keys.items in
    let staying = c.args.literals.now.unwanted.now in
    let first = c.slots.new.dia in
    let mid = c.all_demands.new.dia in
    let ss = c.as_slice-slots.result.now in
    let us = c.as_slice-unwanted.result.now in
    let ss_are = subst (λ xs. AllZip (IsSlotOf env wanted marked first) keys xs) (sym c.as_slice-slots.ensures.value) (subst (λ ks. AllZip (IsSlotOf env wanted marked first) ks c.in_ok-places.places.items) c.as_slice.ensures.value c.in_ok-places.ensures.slots) in
    let us_are = subst (λ xs. AllZip (AreDemandsOf env mid keys) staying xs) (sym c.as_slice-unwanted.ensures.value) (subst (λ ks. AllZip (AreDemandsOf env mid ks) staying c.in_ok-asked.asked.items) c.as_slice-2.ensures.value c.in_ok-asked.ensures.demands) in
    let kept = g.M.Member.kept c.args.context.now.m.now in
    let new = c.avoid.new.dia in
    let sound = sound-keeps env c.args.dia.now mid kept (then_all _ _ _ _ c.slots.ensures.extends c.all_demands.ensures.extends).keeps c.requires.sound in
    let told = c.in_ok-filling.ensures.tells env sound in
    empty-filled env wanted marked keys staying first mid c.all_demands.ensures.extends.keeps ss us ss_are us_are new kept c.args.further.items (subst (TellsFilling env new kept (places_of mid ss) (all_askings mid us)) c.in-Empty.is told)

pub returns-in-Ask-clause-extends : goal.returns-in-Ask-clause-extends
returns-in-Ask-clause-extends g c = then_on _ _ _ _ (then_all _ _ _ _ c.slots.ensures.extends c.all_demands.ensures.extends) c.avoid.ensures.extends

pub returns-in-Ask-clause-tells : goal.returns-in-Ask-clause-tells
returns-in-Ask-clause-tells g c =
    let env = c.args.context.now.env.now in
    let wanted = c.args.literals.now.wanted.now in
    let marked = c.args.literals.now.marked in
    let keys = c.args.keys.items in
    let staying = c.args.literals.now.unwanted.now in
    let first = c.slots.new.dia in
    let mid = c.all_demands.new.dia in
    let ss = c.as_slice-slots.result.now in
    let us = c.as_slice-unwanted.result.now in
    let ss_are = subst (λ xs. AllZip (IsSlotOf env wanted marked first) keys xs) (sym c.as_slice-slots.ensures.value) (subst (λ ks. AllZip (IsSlotOf env wanted marked first) ks c.in_ok-places.places.items) c.as_slice.ensures.value c.in_ok-places.ensures.slots) in
    let us_are = subst (λ xs. AllZip (AreDemandsOf env mid keys) staying xs) (sym c.as_slice-unwanted.ensures.value) (subst (λ ks. AllZip (AreDemandsOf env mid ks) staying c.in_ok-asked.asked.items) c.as_slice-2.ensures.value c.in_ok-asked.ensures.demands) in
    let kept = g.M.Member.kept c.args.context.now.m.now in
    let new = c.avoid.new.dia in
    let sound = sound-keeps env c.args.dia.now mid kept (then_all _ _ _ _ c.slots.ensures.extends c.all_demands.ensures.extends).keeps c.requires.sound in
    let told = c.in_ok-filling.ensures.tells env sound in
    ask-filled env wanted marked keys staying first mid c.all_demands.ensures.extends.keeps ss us ss_are us_are new kept c.args.further.items c.in-Ask.question (subst (TellsFilling env new kept (places_of mid ss) (all_askings mid us)) c.in-Ask.is told)
