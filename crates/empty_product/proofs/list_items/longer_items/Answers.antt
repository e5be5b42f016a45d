use Rattle.std.proofs.Common.{ℕ, ◌≡◌, ◌-◌, ◌<◌, List, map, take, length, get_or, All, Contains, refl, sym, subst, arith}
use Rattle.std.proofs.lemmas.List.{length-take}
use Rattle.std.proofs.lemmas.List.Elements.{All-contains, All-take, All-weaker}
use Rattle.std.proofs.lemmas.Option.{slice_get-get_or}
use Rattle.type_diagrams.specs.Conditions.{Condition}
use Rattle.type_diagrams.specs.Members.{item_of}
use Rattle.type_diagrams.specs.Tables.{condition}
use Rattle.type_diagrams.specs.Whole.{Gives}
use Rattle.type_diagrams.proofs.AskedDiagrams.{gives_itself, then_on, then_all}
use Rattle.type_diagrams.proofs.Keeping.{keeps-further, keeps-itself}
use Rattle.type_diagrams.proofs.Shapes.{IfOk-map}
use Rattle.type_diagrams.proofs.Tellings.{sound-keeps}
use Rattle.empty_product.specs.declared.further.RestDemand.{RestDemand}
use Rattle.empty_product.specs.Further.{AreSplit, TellsFurther, rest_askings_of}
use Rattle.empty_product.specs.Items.{IsLooking, TellsItemsAt}
use Rattle.empty_product.specs.Play.{IsListAtom}
use Rattle.empty_product.proofs.ItemPlaces.{AreAsked-keeps, AreAsked-take}
use Rattle.empty_product.proofs.LongerItems.{longer-TellsItemsAt}
use Rattle.empty_product.proofs.LongerLists.{further-IsItemQuestion, staying-among}
use Rattle.empty_product.proofs.Looking.{all_looking-keep}
use Rattle.empty_product.proofs.list_items.longer_items.Goals as goal

pub returns-in_err-split-clause-extends : goal.returns-in_err-split-clause-extends
returns-in_err-split-clause-extends g c = then_on _ _ _ _ c.rest_demands.ensures.extends c.further_parts.ensures.extends

pub returns-in_err-_room-in-Parts-clause-extends : goal.returns-in_err-_room-in-Parts-clause-extends
returns-in_err-_room-in-Parts-clause-extends g c = then_on _ _ _ _ c.rest_demands.ensures.extends c.further_parts.ensures.extends

pub returns-clause-extends : goal.returns-clause-extends
returns-clause-extends g c = then_on _ _ _ _ c.rest_demands.ensures.extends c.further_parts.ensures.extends

pub returns-in-Parts-clause-extends : goal.returns-in-Parts-clause-extends
returns-in-Parts-clause-extends g c = then_all _ _ _ _ (then_on _ _ _ _ c.rest_demands.ensures.extends c.further_parts.ensures.extends) c.items_of.ensures.extends

pub items_of-requires-clause-atoms : goal.items_of-requires-clause-atoms
items_of-requires-clause-atoms g c =
    let env = c.args.context.now.env.now in
    let kept = g.M.Member.kept c.args.context.now.m.now in
    let t0 = c.args.dia.now in
    let t1 = c.rest_demands.new.dia in
    let t2 = c.further_parts.new.dia in
    let bases = c.args.bases.now in
    let atoms = c.args.atoms.now in
    let some = c.requires.place in
    let n = length bases - 1 in
    let rest = get_or bases n 0 in
    let lt : n < length bases = omega (arith, some) in
    let ds = c.deref.result.now in
    let first_keeps = c.rest_demands.ensures.extends.keeps in
    let next_keeps = c.further_parts.ensures.extends.keeps in
    let named = subst (λ (xs : List RestDemand). map (λ (d : RestDemand). d.atom) xs ≡ atoms) (sym c.deref.ensures.value) c.in_ok-demands.ensures.atoms in
    let given = subst (All (λ (d : RestDemand). Gives t1 (item_of env n d.atom) d.question)) (sym c.deref.ensures.value) c.in_ok-demands.ensures.made in
    let told = c.in_ok-split.ensures.tells env (sound-keeps env t0 t1 kept first_keeps c.requires.sound) in
    let parts = c.in-Parts.split.parts.items in
    let staying = c.deref-in-Parts.result.now in
    let split_first = subst (TellsFurther env t2 kept (condition t1 rest) (rest_askings_of t1 ds)) c.in-Parts.is told in
    let split = subst (AreSplit env t2 kept (condition t1 rest) (rest_askings_of t1 ds) parts) (sym c.deref-in-Parts.ensures.value) split_first in
    let base : ℕ → Condition = λ place. condition t0 rest in
    let rest_given = gives_itself t0 rest (c.requires.bases n 0 lt).diagram in
    let among = staying-among env base n (λ place le. refl) kept t0 t1 t2 t2 rest rest_given first_keeps next_keeps (keeps-itself t2) atoms c.requires.atoms_before ds named given parts staying split in
    All-weaker (Contains atoms) (IsListAtom env) (λ a h. All-contains (IsListAtom env) atoms a c.requires.atoms h) staying among

pub items_of-requires-clause-bases : goal.items_of-requires-clause-bases
items_of-requires-clause-bases g c =
    let env = c.args.context.now.env.now in
    let t0 = c.args.dia.now in
    let t2 = c.further_parts.new.dia in
    let bases = c.args.bases.now in
    All-take (IsLooking env t2) (length bases - 1) bases (all_looking-keep env t0 t2 (keeps-further t0 c.rest_demands.new.dia t2 c.rest_demands.ensures.extends.keeps c.further_parts.ensures.extends.keeps) bases c.requires.bases)

pub returns-clause-tells : goal.returns-clause-tells
returns-clause-tells g c = λ base asked same.
    let env = c.args.context.now.env.now in
    let kept = g.M.Member.kept c.args.context.now.m.now in
    let t0 = c.args.dia.now in
    let t1 = c.rest_demands.new.dia in
    let t2 = c.further_parts.new.dia in
    let bases = c.args.bases.now in
    let atoms = c.args.atoms.now in
    let some = c.requires.place in
    let n = length bases - 1 in
    let rest = get_or bases n 0 in
    let lt : n < length bases = omega (arith, some) in
    let ds = c.deref.result.now in
    let first_keeps = c.rest_demands.ensures.extends.keeps in
    let next_keeps = c.further_parts.ensures.extends.keeps in
    let named = subst (λ (xs : List RestDemand). map (λ (d : RestDemand). d.atom) xs ≡ atoms) (sym c.deref.ensures.value) c.in_ok-demands.ensures.atoms in
    let given = subst (All (λ (d : RestDemand). Gives t1 (item_of env n d.atom) d.question)) (sym c.deref.ensures.value) c.in_ok-demands.ensures.made in
    let told = c.in_ok-split.ensures.tells env (sound-keeps env t0 t1 kept first_keeps c.requires.sound) in
    let rest_given = asked n rest (slice_get-get_or bases n 0 lt) in
    let q = c.in-Ask.question in
    let f = subst (TellsFurther env t2 kept (condition t1 rest) (rest_askings_of t1 ds)) c.in-Ask.is told in
    further-IsItemQuestion env base n same kept t0 t1 t2 t2 rest rest_given first_keeps next_keeps (keeps-itself t2) atoms c.requires.atoms_before ds named given q f.0 f.1 f.2 f.3

pub returns-in-Parts-clause-tells : goal.returns-in-Parts-clause-tells
returns-in-Parts-clause-tells g c =
    let env = c.args.context.now.env.now in
    let kept = g.M.Member.kept c.args.context.now.m.now in
    let t0 = c.args.dia.now in
    let t1 = c.rest_demands.new.dia in
    let t2 = c.further_parts.new.dia in
    let t3 = c.items_of.new.dia in
    let bases = c.args.bases.now in
    let atoms = c.args.atoms.now in
    let some = c.requires.place in
    let n = length bases - 1 in
    let rest = get_or bases n 0 in
    let lt : n < length bases = omega (arith, some) in
    let ds = c.deref.result.now in
    let first_keeps = c.rest_demands.ensures.extends.keeps in
    let next_keeps = c.further_parts.ensures.extends.keeps in
    let last_keeps = c.items_of.ensures.extends.keeps in
    let named = subst (λ (xs : List RestDemand). map (λ (d : RestDemand). d.atom) xs ≡ atoms) (sym c.deref.ensures.value) c.in_ok-demands.ensures.atoms in
    let given = subst (All (λ (d : RestDemand). Gives t1 (item_of env n d.atom) d.question)) (sym c.deref.ensures.value) c.in_ok-demands.ensures.made in
    let told = c.in_ok-split.ensures.tells env (sound-keeps env t0 t1 kept first_keeps c.requires.sound) in
    let parts = c.in-Parts.split.parts.items in
    let staying = c.deref-in-Parts.result.now in
    let split_first = subst (TellsFurther env t2 kept (condition t1 rest) (rest_askings_of t1 ds)) c.in-Parts.is told in
    let split = subst (AreSplit env t2 kept (condition t1 rest) (rest_askings_of t1 ds) parts) (sym c.deref-in-Parts.ensures.value) split_first in
    let both = keeps-further t0 t1 t2 first_keeps next_keeps in
    let m = length (take n bases) in
    let count : m ≡ n = omega (arith, length-take n bases, lt) in
    let found = condition t0 c.args.found in
    let exact = c.in_ok-_room-in-Parts.ensures.exact in
    let small = c.in_ok-_room-in-Parts._room.small in
    IfOk-map _ _ (λ p h base asked same.
    let rest_given = asked n rest (slice_get-get_or bases n 0 lt) in
    let here = AreAsked-take t2 base bases n (AreAsked-keeps t0 t2 base bases both asked) in
    let before = subst (λ d. TellsItemsAt env base t3 kept (λ k. k ≡ m) staying c.args.place d p) (both.conditions c.args.found c.requires.found.diagram) (h base here) in
    longer-TellsItemsAt env base n same kept t0 t1 t2 t3 rest rest_given first_keeps next_keeps last_keeps atoms c.requires.atoms_before ds named given parts staying split c.requires.sound
    (length bases) (omega (arith, some)) (omega (arith, exact, small)) m count c.requires.last.0 c.requires.last.1 c.args.place c.requires.place found p before)
    c.items_of.result c.items_of.ensures.tells
