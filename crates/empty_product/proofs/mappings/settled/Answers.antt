use Rattle.std.proofs.Common.{All, sym, subst}
use Rattle.std.specs.List.{AllZip}
use Rattle.type_diagrams.specs.Tables.{condition}
use Rattle.type_diagrams.proofs.AskedDiagrams.{then_all, then_on}
use Rattle.type_diagrams.proofs.Shapes.{IfOk-map, gives-keeps}
use Rattle.type_diagrams.proofs.Tellings.{sound-keeps}
use Rattle.empty_product.specs.Further.{TellsFurther, rest_askings_of}
use Rattle.empty_product.specs.Keys.{IsBehind}
use Rattle.empty_product.specs.Mappings.{IsRestDemandOf, TellsFilled, wanted_at}
use Rattle.empty_product.specs.Play.{IsMappingAtom}
use Rattle.empty_product.proofs.MappingBodies.{asked-tells, rest-askings, rest-diagrams, settled-tells, split-keeps, staying-are}
use Rattle.empty_product.proofs.mappings.settled.Goals as goal

pub returns-in_err-made-clause-extends : goal.returns-in_err-made-clause-extends
returns-in_err-made-clause-extends g c = then_all _ _ _ _ c.base.ensures.extends c.rest_demands.ensures.extends

pub further_parts-requires-clause-demands : goal.further_parts-requires-clause-demands
further_parts-requires-clause-demands g c =
    let env = c.args.context.now.env.now in
    let wanted = c.args.literals.now.wanted.now in
    let marked = c.args.literals.now.marked in
    let unwanted = c.args.literals.now.unwanted.now in
    let kept = g.M.Member.kept c.args.context.now.m.now in
    let keys = c.in_ok-keys.keys.items in
    let fresh = c.in_ok-fresh.fresh in
    let first = c.base.new.dia in
    let mid = c.rest_demands.new.dia in
    let demands = c.as_slice-demands.result.now in
    let demands_are = subst (λ ds. AllZip (IsRestDemandOf env mid fresh) unwanted ds) (sym c.as_slice-demands.ensures.value) c.in_ok-made.ensures.demands in
    rest-diagrams env mid fresh unwanted demands demands_are

pub returns-in_err-found-clause-extends : goal.returns-in_err-found-clause-extends
returns-in_err-found-clause-extends g c = then_on _ _ _ _ (then_all _ _ _ _ c.base.ensures.extends c.rest_demands.ensures.extends) c.further_parts.ensures.extends

pub filled-requires-clause-staying : goal.filled-requires-clause-staying
filled-requires-clause-staying g c =
    let env = c.args.context.now.env.now in
    let wanted = c.args.literals.now.wanted.now in
    let marked = c.args.literals.now.marked in
    let unwanted = c.args.literals.now.unwanted.now in
    let kept = g.M.Member.kept c.args.context.now.m.now in
    let keys = c.in_ok-keys.keys.items in
    let fresh = c.in_ok-fresh.fresh in
    let first = c.base.new.dia in
    let mid = c.rest_demands.new.dia in
    let demands = c.as_slice-demands.result.now in
    let demands_are = subst (λ ds. AllZip (IsRestDemandOf env mid fresh) unwanted ds) (sym c.as_slice-demands.ensures.value) c.in_ok-made.ensures.demands in
    let new = c.further_parts.new.dia in
    let q = c.in_ok-rest.rest in
    let rest = condition mid q in
    let askings = rest_askings_of mid demands in
    let askings_are = rest-askings env mid fresh unwanted demands demands_are in
    let behind = subst (λ ks. IsBehind ks fresh) c.as_slice.ensures.value c.in_ok-fresh.ensures in
    let rest_is = (gives-keeps first mid (wanted_at env wanted marked fresh) q c.rest_demands.ensures.extends.keeps c.in_ok-rest.ensures.made).condition in
    let sound = sound-keeps env c.args.dia.now mid kept (then_all _ _ _ _ c.base.ensures.extends c.rest_demands.ensures.extends).keeps c.requires.sound in
    let told = c.in_ok-found.ensures.tells env sound in
    let split = subst (TellsFurther env new kept rest askings) c.in-Parts.is told in
    subst (All (IsMappingAtom env)) (sym c.as_slice-atoms.ensures.value) (staying-are (IsMappingAtom env) env new kept rest fresh unwanted askings askings_are c.requires.unwanted c.in-Parts.field-0.parts.items c.in-Parts.field-0.staying.items split)

pub returns-in-Parts-clause-extends : goal.returns-in-Parts-clause-extends
returns-in-Parts-clause-extends g c = then_all _ _ _ _ (then_on _ _ _ _ (then_all _ _ _ _ c.base.ensures.extends c.rest_demands.ensures.extends) c.further_parts.ensures.extends) c.filled.ensures.extends

pub returns-in-Parts-clause-tells : goal.returns-in-Parts-clause-tells
returns-in-Parts-clause-tells g c =
    let env = c.args.context.now.env.now in
    let wanted = c.args.literals.now.wanted.now in
    let marked = c.args.literals.now.marked in
    let unwanted = c.args.literals.now.unwanted.now in
    let kept = g.M.Member.kept c.args.context.now.m.now in
    let keys = c.in_ok-keys.keys.items in
    let fresh = c.in_ok-fresh.fresh in
    let first = c.base.new.dia in
    let mid = c.rest_demands.new.dia in
    let demands = c.as_slice-demands.result.now in
    let demands_are = subst (λ ds. AllZip (IsRestDemandOf env mid fresh) unwanted ds) (sym c.as_slice-demands.ensures.value) c.in_ok-made.ensures.demands in
    let new = c.further_parts.new.dia in
    let q = c.in_ok-rest.rest in
    let rest = condition mid q in
    let askings = rest_askings_of mid demands in
    let askings_are = rest-askings env mid fresh unwanted demands demands_are in
    let behind = subst (λ ks. IsBehind ks fresh) c.as_slice.ensures.value c.in_ok-fresh.ensures in
    let rest_is = (gives-keeps first mid (wanted_at env wanted marked fresh) q c.rest_demands.ensures.extends.keeps c.in_ok-rest.ensures.made).condition in
    let sound = sound-keeps env c.args.dia.now mid kept (then_all _ _ _ _ c.base.ensures.extends c.rest_demands.ensures.extends).keeps c.requires.sound in
    let told = c.in_ok-found.ensures.tells env sound in
    let split = subst (TellsFurther env new kept rest askings) c.in-Parts.is told in
    let last = c.filled.new.dia in
    let kept_sound = sound-keeps env mid new kept c.further_parts.ensures.extends.keeps sound in
    let later = split-keeps env new last c.filled.ensures.extends.keeps kept kept_sound rest askings c.in-Parts.field-0.parts.items c.in-Parts.field-0.staying.items split in
    IfOk-map _ _ (λ turn h. settled-tells env wanted marked last kept unwanted keys c.in_ok-keys.ensures fresh behind rest rest_is askings askings_are c.in-Parts.field-0.parts.items c.in-Parts.field-0.staying.items later turn
    (subst (λ xs. TellsFilled env wanted marked last kept keys c.in-Parts.field-0.parts.items xs turn) c.as_slice-atoms.ensures.value h)) c.filled.result c.filled.ensures.tells

pub returns-in-Ask-clause-extends : goal.returns-in-Ask-clause-extends
returns-in-Ask-clause-extends g c = then_on _ _ _ _ (then_all _ _ _ _ c.base.ensures.extends c.rest_demands.ensures.extends) c.further_parts.ensures.extends

pub returns-in-Ask-clause-tells : goal.returns-in-Ask-clause-tells
returns-in-Ask-clause-tells g c =
    let env = c.args.context.now.env.now in
    let wanted = c.args.literals.now.wanted.now in
    let marked = c.args.literals.now.marked in
    let unwanted = c.args.literals.now.unwanted.now in
    let kept = g.M.Member.kept c.args.context.now.m.now in
    let keys = c.in_ok-keys.keys.items in
    let fresh = c.in_ok-fresh.fresh in
    let first = c.base.new.dia in
    let mid = c.rest_demands.new.dia in
    let demands = c.as_slice-demands.result.now in
    let demands_are = subst (λ ds. AllZip (IsRestDemandOf env mid fresh) unwanted ds) (sym c.as_slice-demands.ensures.value) c.in_ok-made.ensures.demands in
    let new = c.further_parts.new.dia in
    let q = c.in_ok-rest.rest in
    let rest = condition mid q in
    let askings = rest_askings_of mid demands in
    let askings_are = rest-askings env mid fresh unwanted demands demands_are in
    let behind = subst (λ ks. IsBehind ks fresh) c.as_slice.ensures.value c.in_ok-fresh.ensures in
    let rest_is = (gives-keeps first mid (wanted_at env wanted marked fresh) q c.rest_demands.ensures.extends.keeps c.in_ok-rest.ensures.made).condition in
    let sound = sound-keeps env c.args.dia.now mid kept (then_all _ _ _ _ c.base.ensures.extends c.rest_demands.ensures.extends).keeps c.requires.sound in
    let told = c.in_ok-found.ensures.tells env sound in
    asked-tells env wanted marked new kept unwanted keys c.in_ok-keys.ensures fresh behind rest rest_is askings askings_are c.in-Ask.question (subst (TellsFurther env new kept rest askings) c.in-Ask.is told)
