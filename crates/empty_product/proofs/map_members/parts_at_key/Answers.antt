use Rattle.std.proofs.Common.{◌≡◌, ◌++◌, All, Some, length, slice_get, sym, subst}
use Rattle.std.specs.List.{AllZip}
use Rattle.std.proofs.lemmas.Option.{slice_get_within}
use Rattle.type_diagrams.specs.Conditions.{LooksAtKinds}
use Rattle.type_diagrams.specs.Tables.{condition}
use Rattle.type_diagrams.proofs.AskedDiagrams.{then_all, then_on}
use Rattle.type_diagrams.proofs.Shapes.{IfOk-map, gives-keeps}
use Rattle.type_diagrams.proofs.Tellings.{sound-keeps}
use Rattle.empty_product.specs.Further.{TellsFurther, rest_askings_of}
use Rattle.empty_product.specs.Keys.{HasNamedKeys}
use Rattle.empty_product.specs.Mappings.{IsRestDemandOf, wanted_at}
use Rattle.empty_product.specs.MemberParts.{IsRoom, TellsPlaced}
use Rattle.empty_product.specs.Play.{IsMappingAtom}
use Rattle.empty_product.proofs.MappingBodies.{rest-askings, rest-diagrams, split-keeps, staying-are}
use Rattle.empty_product.proofs.MappingPlaced.{further-TellsMembers, placed-TellsMembers}
use Rattle.empty_product.proofs.MappingQuestions.{also-named}
use Rattle.empty_product.proofs.map_members.parts_at_key.Goals as goal

pub returns-in_err-made-clause-extends : goal.returns-in_err-made-clause-extends
returns-in_err-made-clause-extends g c =
    let to_mid = then_all _ _ _ _ c.base.ensures.extends c.rest_demands.ensures.extends in
    to_mid

pub further_parts-requires-clause-demands : goal.further_parts-requires-clause-demands
further_parts-requires-clause-demands g c =
    let env = c.args.context.now.env.now in
    let unwanted = c.args.literals.now.unwanted.now in
    let fresh = c.in_ok-fresh.fresh in
    let mid = c.rest_demands.new.dia in
    let demands = c.as_slice-demands.result.now in
    let demands_are = subst (λ ds. AllZip (IsRestDemandOf env mid fresh) unwanted ds) (sym c.as_slice-demands.ensures.value) c.in_ok-made.ensures.demands in
    rest-diagrams env mid fresh unwanted demands demands_are

pub returns-in_err-split-clause-extends : goal.returns-in_err-split-clause-extends
returns-in_err-split-clause-extends g c =
    let to_mid = then_all _ _ _ _ c.base.ensures.extends c.rest_demands.ensures.extends in
    let to_new = then_on _ _ _ _ to_mid c.further_parts.ensures.extends in
    to_new

pub returns-in_err-_room-in-Parts-clause-extends : goal.returns-in_err-_room-in-Parts-clause-extends
returns-in_err-_room-in-Parts-clause-extends g c =
    let to_mid = then_all _ _ _ _ c.base.ensures.extends c.rest_demands.ensures.extends in
    let to_new = then_on _ _ _ _ to_mid c.further_parts.ensures.extends in
    to_new

pub placed_parts-requires-clause-atoms : goal.placed_parts-requires-clause-atoms
placed_parts-requires-clause-atoms g c =
    let env = c.args.context.now.env.now in
    let unwanted = c.args.literals.now.unwanted.now in
    let kept = g.M.Member.kept c.args.context.now.m.now in
    let fresh = c.in_ok-fresh.fresh in
    let old = c.args.dia.now in
    let mid = c.rest_demands.new.dia in
    let new = c.further_parts.new.dia in
    let demands = c.as_slice-demands.result.now in
    let q = c.in_ok-rest.rest in
    let to_mid = then_all _ _ _ _ c.base.ensures.extends c.rest_demands.ensures.extends in
    let demands_are = subst (λ ds. AllZip (IsRestDemandOf env mid fresh) unwanted ds) (sym c.as_slice-demands.ensures.value) c.in_ok-made.ensures.demands in
    let rest = condition mid q in
    let askings = rest_askings_of mid demands in
    let askings_are = rest-askings env mid fresh unwanted demands demands_are in
    let sound = sound-keeps env old mid kept to_mid.keeps c.requires.sound in
    let told = c.in_ok-split.ensures.tells env sound in
    let further = c.in-Parts.field-0.parts.items in
    let staying = c.in-Parts.field-0.staying.items in
    let split = subst (TellsFurther env new kept rest askings) c.in-Parts.is told in
    subst (All (IsMappingAtom env)) (sym c.as_slice-atoms.ensures.value) (staying-are (IsMappingAtom env) env new kept rest fresh unwanted askings askings_are c.requires.unwanted further staying split)

pub placed_parts-requires-clause-target : goal.placed_parts-requires-clause-target
placed_parts-requires-clause-target g c =
    let key = c.args.key.now in
    let keys = c.as_slice-all.result.now in
    let target = c.in_ok-target.target in
    let is_target = subst (λ ks. slice_get ks target ≡ Some key) (sym c.as_slice-all.ensures.value) c.in_ok-target.ensures.place in
    slice_get_within keys target key is_target

pub placed_parts-requires-clause-sound : goal.placed_parts-requires-clause-sound
placed_parts-requires-clause-sound g c =
    let env = c.args.context.now.env.now in
    let kept = g.M.Member.kept c.args.context.now.m.now in
    let old = c.args.dia.now in
    let new = c.further_parts.new.dia in
    let to_mid = then_all _ _ _ _ c.base.ensures.extends c.rest_demands.ensures.extends in
    let to_new = then_on _ _ _ _ to_mid c.further_parts.ensures.extends in
    sound-keeps env old new kept to_new.keeps c.requires.sound

pub returns-in-Parts-clause-extends : goal.returns-in-Parts-clause-extends
returns-in-Parts-clause-extends g c =
    let to_mid = then_all _ _ _ _ c.base.ensures.extends c.rest_demands.ensures.extends in
    let to_new = then_on _ _ _ _ to_mid c.further_parts.ensures.extends in
    then_all _ _ _ _ to_new c.placed_parts.ensures.extends

pub returns-in-Parts-clause-looks : goal.returns-in-Parts-clause-looks
returns-in-Parts-clause-looks g c =
    let env = c.args.context.now.env.now in
    let to_mid = then_all _ _ _ _ c.base.ensures.extends c.rest_demands.ensures.extends in
    let to_new = then_on _ _ _ _ to_mid c.further_parts.ensures.extends in
    let same_found = to_new.keeps.conditions c.args.found c.requires.found in
    IfOk-map _ _ (λ p h looks. h (subst (LooksAtKinds env) (sym same_found) looks)) c.placed_parts.result c.placed_parts.ensures.looks

pub returns-in-Parts-clause-tells : goal.returns-in-Parts-clause-tells
returns-in-Parts-clause-tells g c =
    let env = c.args.context.now.env.now in
    let wanted = c.args.literals.now.wanted.now in
    let marked = c.args.literals.now.marked in
    let unwanted = c.args.literals.now.unwanted.now in
    let kept = g.M.Member.kept c.args.context.now.m.now in
    let key = c.args.key.now in
    let keys = c.as_slice-all.result.now in
    let target = c.in_ok-target.target in
    let fresh = c.in_ok-fresh.fresh in
    let old = c.args.dia.now in
    let first = c.base.new.dia in
    let mid = c.rest_demands.new.dia in
    let new = c.further_parts.new.dia in
    let last = c.placed_parts.new.dia in
    let demands = c.as_slice-demands.result.now in
    let q = c.in_ok-rest.rest in
    let to_mid = then_all _ _ _ _ c.base.ensures.extends c.rest_demands.ensures.extends in
    let to_new = then_on _ _ _ _ to_mid c.further_parts.ensures.extends in
    let demands_are = subst (λ ds. AllZip (IsRestDemandOf env mid fresh) unwanted ds) (sym c.as_slice-demands.ensures.value) c.in_ok-made.ensures.demands in
    let rest = condition mid q in
    let askings = rest_askings_of mid demands in
    let askings_are = rest-askings env mid fresh unwanted demands demands_are in
    let named = subst (HasNamedKeys env (wanted ++ unwanted)) (sym c.as_slice-all.ensures.value) (also-named env (wanted ++ unwanted) c.in_ok-keys.keys.items c.add_key.new.keys.items c.in_ok-keys.ensures c.in_ok-target.ensures.ordered c.in_ok-target.ensures.added) in
    let is_target = subst (λ ks. slice_get ks target ≡ Some key) (sym c.as_slice-all.ensures.value) c.in_ok-target.ensures.place in
    let rest_is = (gives-keeps first mid (wanted_at env wanted marked fresh) q c.rest_demands.ensures.extends.keeps c.in_ok-rest.ensures.made).condition in
    let sound = sound-keeps env old mid kept to_mid.keeps c.requires.sound in
    let told = c.in_ok-split.ensures.tells env sound in
    let further = c.in-Parts.field-0.parts.items in
    let staying = c.in-Parts.field-0.staying.items in
    let split = subst (TellsFurther env new kept rest askings) c.in-Parts.is told in
    let found = condition old c.args.found in
    let same_found = to_new.keeps.conditions c.args.found c.requires.found in
    let later = split-keeps env new last c.placed_parts.ensures.extends.keeps kept (sound-keeps env mid new kept c.further_parts.ensures.extends.keeps sound) rest askings further staying split in
    let room = subst (λ fs. IsRoom keys (length fs) c.in_ok-_room-in-Parts._room.items) c.as_slice.ensures.value c.in_ok-_room-in-Parts.ensures in
    IfOk-map _ _ (λ p h. placed-TellsMembers env wanted marked last kept unwanted key found keys named target is_target fresh c.in_ok-fresh.ensures rest rest_is askings askings_are further staying later c.in_ok-_room-in-Parts._room room p
    (subst (λ f. TellsPlaced env wanted marked last kept keys target staying f p) same_found
    (subst (λ xs. TellsPlaced env wanted marked last kept keys target xs (condition new c.args.found) p) c.as_slice-atoms.ensures.value h))) c.placed_parts.result c.placed_parts.ensures.tells

pub returns-clause-extends : goal.returns-clause-extends
returns-clause-extends g c =
    let to_mid = then_all _ _ _ _ c.base.ensures.extends c.rest_demands.ensures.extends in
    let to_new = then_on _ _ _ _ to_mid c.further_parts.ensures.extends in
    to_new

pub returns-clause-tells : goal.returns-clause-tells
returns-clause-tells g c =
    let env = c.args.context.now.env.now in
    let wanted = c.args.literals.now.wanted.now in
    let marked = c.args.literals.now.marked in
    let unwanted = c.args.literals.now.unwanted.now in
    let kept = g.M.Member.kept c.args.context.now.m.now in
    let key = c.args.key.now in
    let keys = c.as_slice-all.result.now in
    let target = c.in_ok-target.target in
    let fresh = c.in_ok-fresh.fresh in
    let old = c.args.dia.now in
    let first = c.base.new.dia in
    let mid = c.rest_demands.new.dia in
    let new = c.further_parts.new.dia in
    let demands = c.as_slice-demands.result.now in
    let q = c.in_ok-rest.rest in
    let to_mid = then_all _ _ _ _ c.base.ensures.extends c.rest_demands.ensures.extends in
    let demands_are = subst (λ ds. AllZip (IsRestDemandOf env mid fresh) unwanted ds) (sym c.as_slice-demands.ensures.value) c.in_ok-made.ensures.demands in
    let rest = condition mid q in
    let askings = rest_askings_of mid demands in
    let askings_are = rest-askings env mid fresh unwanted demands demands_are in
    let named = subst (HasNamedKeys env (wanted ++ unwanted)) (sym c.as_slice-all.ensures.value) (also-named env (wanted ++ unwanted) c.in_ok-keys.keys.items c.add_key.new.keys.items c.in_ok-keys.ensures c.in_ok-target.ensures.ordered c.in_ok-target.ensures.added) in
    let is_target = subst (λ ks. slice_get ks target ≡ Some key) (sym c.as_slice-all.ensures.value) c.in_ok-target.ensures.place in
    let rest_is = (gives-keeps first mid (wanted_at env wanted marked fresh) q c.rest_demands.ensures.extends.keeps c.in_ok-rest.ensures.made).condition in
    let sound = sound-keeps env old mid kept to_mid.keeps c.requires.sound in
    let told = c.in_ok-split.ensures.tells env sound in
    let found = condition old c.args.found in
    further-TellsMembers env wanted marked new kept unwanted key found keys named target is_target fresh c.in_ok-fresh.ensures rest rest_is askings askings_are c.in-Ask.question (subst (TellsFurther env new kept rest askings) c.in-Ask.is told)
