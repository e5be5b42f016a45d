use Rattle.std.proofs.Common.{ℕ, ◌≡◌, ◌+◌, ◌-◌, ◌<◌, ◌≤◌, ◌∷◌, ◌++◌, List, map, take, length, get_or, All, Contains, refl, sym, subst, arith}
use Rattle.std.proofs.lemmas.List.{length-take}
use Rattle.std.proofs.lemmas.List.Elements.{All-contains, All-take, All-weaker}
use Rattle.std.proofs.lemmas.Option.{slice_get-get_or}
use Rattle.type_diagrams.specs.Conditions.{Condition}
use Rattle.type_diagrams.specs.Members.{item_of}
use Rattle.type_diagrams.specs.Tables.{IsDiagram, condition}
use Rattle.type_diagrams.specs.Whole.{Gives}
use Rattle.type_diagrams.proofs.AskedDiagrams.{gives_itself, then_on, then_all}
use Rattle.type_diagrams.proofs.Keeping.{keeps-further, keeps-itself}
use Rattle.type_diagrams.proofs.Shapes.{IfOk-map}
use Rattle.type_diagrams.proofs.Tellings.{sound-keeps}
use Rattle.empty_product.specs.declared.further.RestDemand.{RestDemand}
use Rattle.empty_product.specs.Further.{AreSplit, TellsFurther, rest_askings_of}
use Rattle.empty_product.specs.Lists.{TellsItems}
use Rattle.empty_product.specs.Play.{IsListAtom}
use Rattle.empty_product.proofs.DemandLists.{diagrams-keep}
use Rattle.empty_product.proofs.ItemLists.{IsItemQuestion-more}
use Rattle.empty_product.proofs.ItemPlaces.{AreAsked-keeps, AreAsked-take}
use Rattle.empty_product.proofs.LongerLists.{AvoidAll-length, filled-TellsItems, further-IsItemQuestion, longer-AvoidAll, longer-none, staying-among}
use Rattle.empty_product.proofs.lists.longer_lists.Goals as goal

pub returns-in_err-split-clause-extends : goal.returns-in_err-split-clause-extends
returns-in_err-split-clause-extends g c = then_on _ _ _ _ c.rest_demands.ensures.extends c.further_parts.ensures.extends

pub returns-in-Ask-clause-extends : goal.returns-in-Ask-clause-extends
returns-in-Ask-clause-extends g c = then_on _ _ _ _ c.rest_demands.ensures.extends c.further_parts.ensures.extends

pub returns-in-Ask-clause-tells : goal.returns-in-Ask-clause-tells
returns-in-Ask-clause-tells g c = λ base asked same.
    let env = c.args.context.now.env.now in
    let kept = g.M.Member.kept c.args.context.now.m.now in
    let t0 = c.args.dia.now in
    let t1 = c.rest_demands.new.dia in
    let t2 = c.further_parts.new.dia in
    let bases = c.args.bases.now in
    let atoms = c.args.atoms.now in
    let some = c.requires.some in
    let n = length bases - 1 in
    let rest = get_or bases n 0 in
    let lt : n < length bases = omega (arith, some) in
    let ds = c.deref.result.now in
    let first_keeps = c.rest_demands.ensures.extends.keeps in
    let next_keeps = c.further_parts.ensures.extends.keeps in
    let named = subst (λ (xs : List RestDemand). map (λ (d : RestDemand). d.atom) xs ≡ atoms) (sym c.deref.ensures.value) c.in_ok-demands.ensures.atoms in
    let given = subst (All (λ (d : RestDemand). Gives t1 (item_of env n d.atom) d.question)) (sym c.deref.ensures.value) c.in_ok-demands.ensures.made in
    let told = c.in_ok-split.ensures.tells env (sound-keeps env t0 t1 kept first_keeps c.requires.sound) in
    let rest_given = asked n rest (slice_get-get_or bases n 0 lt) in
    let q = c.in-Ask.question in
    let f = subst (TellsFurther env t2 kept (condition t1 rest) (rest_askings_of t1 ds)) c.in-Ask.is told in
    further-IsItemQuestion env base n same kept t0 t1 t2 t2 rest rest_given first_keeps next_keeps (keeps-itself t2) atoms c.requires.atoms_before ds named given q f.0 f.1 f.2 f.3

pub lists_of-requires-clause-atoms : goal.lists_of-requires-clause-atoms
lists_of-requires-clause-atoms g c =
    let env = c.args.context.now.env.now in
    let kept = g.M.Member.kept c.args.context.now.m.now in
    let t0 = c.args.dia.now in
    let t1 = c.rest_demands.new.dia in
    let t2 = c.further_parts.new.dia in
    let bases = c.args.bases.now in
    let atoms = c.args.atoms.now in
    let some = c.requires.some in
    let n = length bases - 1 in
    let rest = get_or bases n 0 in
    let lt : n < length bases = omega (arith, some) in
    let ds = c.deref.result.now in
    let first_keeps = c.rest_demands.ensures.extends.keeps in
    let next_keeps = c.further_parts.ensures.extends.keeps in
    let named = subst (λ (xs : List RestDemand). map (λ (d : RestDemand). d.atom) xs ≡ atoms) (sym c.deref.ensures.value) c.in_ok-demands.ensures.atoms in
    let given = subst (All (λ (d : RestDemand). Gives t1 (item_of env n d.atom) d.question)) (sym c.deref.ensures.value) c.in_ok-demands.ensures.made in
    let told = c.in_ok-split.ensures.tells env (sound-keeps env t0 t1 kept first_keeps c.requires.sound) in
    let parts = c.in-Parts.split.parts.items in
    let staying = c.deref-2.result.now in
    let split_first = subst (TellsFurther env t2 kept (condition t1 rest) (rest_askings_of t1 ds)) c.in-Parts.is told in
    let split = subst (AreSplit env t2 kept (condition t1 rest) (rest_askings_of t1 ds) parts) (sym c.deref-2.ensures.value) split_first in
    let base : ℕ → Condition = λ place. condition t0 rest in
    let rest_given = gives_itself t0 rest (c.requires.bases n 0 lt) in
    let among = staying-among env base n (λ place le. refl) kept t0 t1 t2 t2 rest rest_given first_keeps next_keeps (keeps-itself t2) atoms c.requires.atoms_before ds named given parts staying split in
    All-weaker (Contains atoms) (IsListAtom env) (λ a h. All-contains (IsListAtom env) atoms a c.requires.atoms h) staying among

pub lists_of-requires-clause-bases : goal.lists_of-requires-clause-bases
lists_of-requires-clause-bases g c =
    let t2 = c.further_parts.new.dia in
    let bases = c.args.bases.now in
    let keeps = keeps-further c.args.dia.now c.rest_demands.new.dia t2 c.rest_demands.ensures.extends.keeps c.further_parts.ensures.extends.keeps in
    All-take (IsDiagram t2) (length bases - 1) bases (diagrams-keep c.args.dia.now t2 bases keeps c.requires.bases)

pub returns-in_err-parts-clause-extends : goal.returns-in_err-parts-clause-extends
returns-in_err-parts-clause-extends g c = then_all _ _ _ _ (then_on _ _ _ _ c.rest_demands.ensures.extends c.further_parts.ensures.extends) c.lists_of.ensures.extends

pub returns-in-Parts-2-clause-extends : goal.returns-in-Parts-2-clause-extends
returns-in-Parts-2-clause-extends g c = then_all _ _ _ _ (then_on _ _ _ _ c.rest_demands.ensures.extends c.further_parts.ensures.extends) c.lists_of.ensures.extends

pub returns-in-Empty-clause-extends : goal.returns-in-Empty-clause-extends
returns-in-Empty-clause-extends g c = then_all _ _ _ _ (then_on _ _ _ _ c.rest_demands.ensures.extends c.further_parts.ensures.extends) c.lists_of.ensures.extends

pub returns-in-Ask-2-clause-extends : goal.returns-in-Ask-2-clause-extends
returns-in-Ask-2-clause-extends g c = then_all _ _ _ _ (then_on _ _ _ _ c.rest_demands.ensures.extends c.further_parts.ensures.extends) c.lists_of.ensures.extends

pub returns-in-Parts-2-clause-tells : goal.returns-in-Parts-2-clause-tells
returns-in-Parts-2-clause-tells g c =
    let env = c.args.context.now.env.now in
    let kept = g.M.Member.kept c.args.context.now.m.now in
    let t0 = c.args.dia.now in
    let t1 = c.rest_demands.new.dia in
    let t2 = c.further_parts.new.dia in
    let bases = c.args.bases.now in
    let atoms = c.args.atoms.now in
    let some = c.requires.some in
    let n = length bases - 1 in
    let rest = get_or bases n 0 in
    let lt : n < length bases = omega (arith, some) in
    let ds = c.deref.result.now in
    let first_keeps = c.rest_demands.ensures.extends.keeps in
    let next_keeps = c.further_parts.ensures.extends.keeps in
    let named = subst (λ (xs : List RestDemand). map (λ (d : RestDemand). d.atom) xs ≡ atoms) (sym c.deref.ensures.value) c.in_ok-demands.ensures.atoms in
    let given = subst (All (λ (d : RestDemand). Gives t1 (item_of env n d.atom) d.question)) (sym c.deref.ensures.value) c.in_ok-demands.ensures.made in
    let told = c.in_ok-split.ensures.tells env (sound-keeps env t0 t1 kept first_keeps c.requires.sound) in
    let parts = c.in-Parts.split.parts.items in
    let staying = c.deref-2.result.now in
    let split_first = subst (TellsFurther env t2 kept (condition t1 rest) (rest_askings_of t1 ds)) c.in-Parts.is told in
    let split = subst (AreSplit env t2 kept (condition t1 rest) (rest_askings_of t1 ds) parts) (sym c.deref-2.ensures.value) split_first in
    let t3 = c.lists_of.new.dia in
    let last_keeps = c.lists_of.ensures.extends.keeps in
    let both = keeps-further t0 t1 t2 first_keeps next_keeps in
    let m = length (take n bases) in
    let count : m ≡ n = omega (arith, length-take n bases, lt) in
    IfOk-map _ _ (λ filling filled base asked same.
    let rest_given = asked n rest (slice_get-get_or bases n 0 lt) in
    let here = AreAsked-take t2 base bases n (AreAsked-keeps t0 t2 base bases both asked) in
    let items_told = c.in_ok-parts.ensures.tells base here in
    let found = subst (TellsItems env base t3 kept (λ k. k ≡ m) staying) c.in-Parts-2.is items_told in
    let all = longer-AvoidAll env base n same kept t0 t1 t2 t3 rest rest_given first_keeps next_keeps last_keeps atoms c.requires.atoms_before ds named given parts staying split m count c.args.first c.requires.first found.0 found.2 in
    filled-TellsItems env base t3 kept (λ k. length bases ≤ k) atoms c.in-Parts-2.parts.items found.0 (c.args.first ∷ parts) found.1
    (AvoidAll-length env base (λ k. n + 1 ≤ k) (λ k. length bases ≤ k) (λ k le. omega (arith, le, some)) atoms (found.0 ++ c.args.first ∷ parts) all) filling filled)
    c.with_further.result c.with_further.ensures

pub returns-in-Empty-clause-tells : goal.returns-in-Empty-clause-tells
returns-in-Empty-clause-tells g c = λ base asked same items all.
    let env = c.args.context.now.env.now in
    let kept = g.M.Member.kept c.args.context.now.m.now in
    let t0 = c.args.dia.now in
    let t1 = c.rest_demands.new.dia in
    let t2 = c.further_parts.new.dia in
    let bases = c.args.bases.now in
    let atoms = c.args.atoms.now in
    let some = c.requires.some in
    let n = length bases - 1 in
    let rest = get_or bases n 0 in
    let lt : n < length bases = omega (arith, some) in
    let ds = c.deref.result.now in
    let first_keeps = c.rest_demands.ensures.extends.keeps in
    let next_keeps = c.further_parts.ensures.extends.keeps in
    let named = subst (λ (xs : List RestDemand). map (λ (d : RestDemand). d.atom) xs ≡ atoms) (sym c.deref.ensures.value) c.in_ok-demands.ensures.atoms in
    let given = subst (All (λ (d : RestDemand). Gives t1 (item_of env n d.atom) d.question)) (sym c.deref.ensures.value) c.in_ok-demands.ensures.made in
    let told = c.in_ok-split.ensures.tells env (sound-keeps env t0 t1 kept first_keeps c.requires.sound) in
    let parts = c.in-Parts.split.parts.items in
    let staying = c.deref-2.result.now in
    let split_first = subst (TellsFurther env t2 kept (condition t1 rest) (rest_askings_of t1 ds)) c.in-Parts.is told in
    let split = subst (AreSplit env t2 kept (condition t1 rest) (rest_askings_of t1 ds) parts) (sym c.deref-2.ensures.value) split_first in
    let t3 = c.lists_of.new.dia in
    let last_keeps = c.lists_of.ensures.extends.keeps in
    let both = keeps-further t0 t1 t2 first_keeps next_keeps in
    let m = length (take n bases) in
    let count : m ≡ n = omega (arith, length-take n bases, lt) in
    let rest_given = asked n rest (slice_get-get_or bases n 0 lt) in
    let here = AreAsked-take t2 base bases n (AreAsked-keeps t0 t2 base bases both asked) in
    let items_told = c.in_ok-parts.ensures.tells base here in
    let none = subst (TellsItems env base t3 kept (λ k. k ≡ m) staying) c.in-Empty.is items_told in
    longer-none env base n same kept t0 t1 t2 t3 rest rest_given first_keeps next_keeps last_keeps atoms c.requires.atoms_before ds named given parts staying split m count c.requires.sound none items
    (AvoidAll-length env base (λ k. length bases ≤ k) (λ k. n + 1 ≤ k) (λ k le. omega (arith, le, some)) atoms items all)

pub returns-in-Ask-2-clause-tells : goal.returns-in-Ask-2-clause-tells
returns-in-Ask-2-clause-tells g c = λ base asked same.
    let env = c.args.context.now.env.now in
    let kept = g.M.Member.kept c.args.context.now.m.now in
    let t0 = c.args.dia.now in
    let t1 = c.rest_demands.new.dia in
    let t2 = c.further_parts.new.dia in
    let bases = c.args.bases.now in
    let atoms = c.args.atoms.now in
    let some = c.requires.some in
    let n = length bases - 1 in
    let rest = get_or bases n 0 in
    let lt : n < length bases = omega (arith, some) in
    let ds = c.deref.result.now in
    let first_keeps = c.rest_demands.ensures.extends.keeps in
    let next_keeps = c.further_parts.ensures.extends.keeps in
    let named = subst (λ (xs : List RestDemand). map (λ (d : RestDemand). d.atom) xs ≡ atoms) (sym c.deref.ensures.value) c.in_ok-demands.ensures.atoms in
    let given = subst (All (λ (d : RestDemand). Gives t1 (item_of env n d.atom) d.question)) (sym c.deref.ensures.value) c.in_ok-demands.ensures.made in
    let told = c.in_ok-split.ensures.tells env (sound-keeps env t0 t1 kept first_keeps c.requires.sound) in
    let parts = c.in-Parts.split.parts.items in
    let staying = c.deref-2.result.now in
    let split_first = subst (TellsFurther env t2 kept (condition t1 rest) (rest_askings_of t1 ds)) c.in-Parts.is told in
    let split = subst (AreSplit env t2 kept (condition t1 rest) (rest_askings_of t1 ds) parts) (sym c.deref-2.ensures.value) split_first in
    let t3 = c.lists_of.new.dia in
    let last_keeps = c.lists_of.ensures.extends.keeps in
    let both = keeps-further t0 t1 t2 first_keeps next_keeps in
    let m = length (take n bases) in
    let count : m ≡ n = omega (arith, length-take n bases, lt) in
    let rest_given = asked n rest (slice_get-get_or bases n 0 lt) in
    let here = AreAsked-take t2 base bases n (AreAsked-keeps t0 t2 base bases both asked) in
    let items_told = c.in_ok-parts.ensures.tells base here in
    let q = c.in-Ask-2.question in
    let asks = subst (TellsItems env base t3 kept (λ k. k ≡ m) staying) c.in-Ask-2.is items_told in
    IsItemQuestion-more env base t3 kept staying atoms (staying-among env base n same kept t0 t1 t2 t3 rest rest_given first_keeps next_keeps last_keeps atoms c.requires.atoms_before ds named given parts staying split) q asks
