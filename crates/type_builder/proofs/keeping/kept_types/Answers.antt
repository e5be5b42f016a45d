use Rattle.std.proofs.Common.{◌≡◌, ◌+◌, ◌<◌, ◌≤◌, [], Ok, Err, fold, Some, None, length, map, take, get_or, slice_get, sym, ap, subst, ◌∙◌, arith}
use Rattle.name_resolution.proofs.Known.{apart-placed}
use Rattle.package_imports.specs.InPackage.{linked}
use Rattle.type_builder.specs.Building.{IsModule}
use Rattle.type_builder.proofs.KeptStages.{IsStage, first-stage, stage-below}
use Rattle.type_builder.proofs.KeptOrder.{finished, goes-on, goes-past, handed, lent, no-fault, not-lent}
use Rattle.type_builder.proofs.Noted.{side-by-side}
use Rattle.type_builder.proofs.Listed.{module-there, no-site, of-package, site-at, sites-placed}
use Rattle.name_resolution.specs.Definitions.{definitions_of}
use Rattle.type_builder.specs.Listing.{placed_of}
use Rattle.type_builder.specs.Passes.{end_of, placed_places}
use Rattle.type_builder.specs.AtomPlaces.{def_places, package_places}
use Rattle.bal_base.specs.declared.limits.TheConstants.{MOST_ATOMS}
use Rattle.std.proofs.lemmas.List.{get_or_default, take_all}
use Rattle.type_builder.proofs.Adding.{started-within}
use Rattle.type_builder.proofs.keeping.kept_types.Goals as goal
use Rattle.type_builder.proofs.keeping.kept_types.Goals.{in-Some+in_ok-keep, in_default}

pub first_names-requires : goal.first_names-requires
first_names-requires g c = (c.requires.0, (ap (map _) c.deref.ensures.value ∙ sites-placed (definitions_of g.whole) c.args.listing.now c.requires.1.1.0, apart-placed g.whole c.requires.1.0))

-- src/keeping.rt:38:5
pub loop-number-init : goal.loop-number-init
loop-number-init g c =
    let pack = g.whole in (
      c.requires.1.1.1.0,
      first-stage pack c.args.own c.args.listing.now.first (end_of c.args.listing.now.first pack) c.in_ok-names.names c.in_ok-names.ensures,
    )

-- src/keeping.rt:40:13
pub keep-requires-clause-placed : goal.keep-requires-clause-placed
keep-requires-clause-placed g c =
    let pack = g.whole in
    let number = get_or c.args.order.now c.loop-number.number-index 0 in
    let there : slice_get c.args.listing.now.sites.items number ≡ Some c.in-Some.site.now =
    lent c.deref-in-loop-number.result.now c.args.listing.now.sites.items number c.in-Some.site.now c.deref-in-loop-number.ensures.value c.in-Some.ensures.lookup.3.0 c.in-Some.ensures.lookup.1 in
    let of : slice_get (definitions_of pack) number ≡ Some (placed_of c.in-Some.site.now) =
    (started-within c.args.listing.now.first [] (definitions_of pack) number c.in-Some.site.now.first (placed_of c.in-Some.site.now)
    (site-at (definitions_of pack) c.args.listing.now number c.in-Some.site.now c.requires.1.1.0 there)).0 in
    let long : length c.loop-number.names.modules.items ≡ length pack.modules = side-by-side (IsModule (linked pack)) pack.modules c.loop-number.names.modules.items c.loop-number.invariant.1.entries.files in
    let within : c.in-Some.site.now.«module» < length pack.modules = module-there pack number (placed_of c.in-Some.site.now) of in
    omega (arith, long, within)

-- src/keeping.rt:40:13
pub keep-requires-clause-room : goal.keep-requires-clause-room
keep-requires-clause-room g c =
    let pack = g.whole in
    let number = get_or c.args.order.now c.loop-number.number-index 0 in
    let there : slice_get c.args.listing.now.sites.items number ≡ Some c.in-Some.site.now =
    lent c.deref-in-loop-number.result.now c.args.listing.now.sites.items number c.in-Some.site.now c.deref-in-loop-number.ensures.value c.in-Some.ensures.lookup.3.0 c.in-Some.ensures.lookup.1 in
    let within : c.in-Some.site.now.first + length (def_places [] c.in-Some.site.now.def.now) ≤ c.args.listing.now.first + length (fold placed_places [] (definitions_of pack)) =
    (started-within c.args.listing.now.first [] (definitions_of pack) number c.in-Some.site.now.first (placed_of c.in-Some.site.now)
    (site-at (definitions_of pack) c.args.listing.now number c.in-Some.site.now c.requires.1.1.0 there)).1 in
    let all : length (fold placed_places [] (definitions_of pack)) ≡ length (package_places pack) = ap length (of-package pack) in
    let room : c.args.listing.now.first + length (package_places pack) ≤ MOST_ATOMS = c.requires.1.1.1.1.0 in
    omega (arith, within, all, room)

-- src/keeping.rt:40:13
pub returns-in_err-keep-clause-faultless : goal.returns-in_err-keep-clause-faultless
returns-in_err-keep-clause-faultless g c =
    let pack = g.whole in
    let number = get_or c.args.order.now c.loop-number.number-index 0 in
    let there : slice_get c.args.listing.now.sites.items number ≡ Some c.in-Some.site.now =
    lent c.deref-in-loop-number.result.now c.args.listing.now.sites.items number c.in-Some.site.now c.deref-in-loop-number.ensures.value c.in-Some.ensures.lookup.3.0 c.in-Some.ensures.lookup.1 in
    let starts = site-at (definitions_of pack) c.args.listing.now number c.in-Some.site.now c.requires.1.1.0 there in
    handed c.in_err-keep.field-0.0 c.from_residual-in_err-keep.result c.from_residual-in_err-keep.ensures
    (no-fault pack c.args.own c.args.listing.now.first c.args.order.now c.loop-number.invariant.0 c.requires.1.0 c.requires.1.1.1.1.1 c.requires.1.1.1.1.0 (of-package pack)
    c.loop-number.number-index number c.in-Some.site.now.first (placed_of c.in-Some.site.now) c.loop-number-test.true (get_or_default c.args.order.now c.loop-number.number-index 0 number c.loop-number-test.true) starts c.loop-number.names c.keep.new.names (Err c.in_err-keep.field-0.0)
    c.loop-number.invariant.1 c.in_err-keep.ensures)

-- src/keeping.rt:38:5
pub loop-number-preserved : goal.loop-number-preserved
loop-number-preserved g c =
    let pack = g.whole in
    let order = c.args.order.now in
    let number = get_or order c.loop-number.number-index 0 in
    let first = c.args.listing.now.first in
    let stage = IsStage pack c.args.own first (end_of first pack) (take (c.loop-number.number-index + 1) order) in
    let sites = c.args.listing.now.sites.items in
    let lends = c.deref-in-loop-number in
    let at : number ≡ get_or order c.loop-number.number-index number = get_or_default order c.loop-number.number-index 0 number c.loop-number-test.true in (
      c.loop-number.invariant.0,
      elim c.match-get.branch [
        | in-Some+in_ok-keep w ↦
            let there : slice_get sites number ≡ Some w.in-Some.site.now = lent lends.result.now sites number w.in-Some.site.now lends.ensures.value w.in-Some.ensures.lookup.3.0 w.in-Some.ensures.lookup.1 in
            let starts = site-at (definitions_of pack) c.args.listing.now number w.in-Some.site.now c.requires.1.1.0 there in
            subst stage (sym w.names-is)
            (goes-on pack c.args.own first order c.loop-number.invariant.0 c.requires.1.0 c.requires.1.1.1.1.1 c.requires.1.1.1.1.0 (of-package pack)
            c.loop-number.number-index number w.in-Some.site.now.first (placed_of w.in-Some.site.now) c.loop-number-test.true at starts c.loop-number.names w.keep.new.names (Ok w.in_ok-keep.field-0)
            c.loop-number.invariant.1 w.in_ok-keep.ensures)
        | in_default w ↦
            let none : slice_get sites number ≡ None = not-lent lends.result.now sites number lends.ensures.value w.in_default.ensures.lookup.3 in
            subst stage (sym w.names-is)
            (goes-past pack c.args.own first order c.loop-number.invariant.0 c.loop-number.number-index number c.loop-number.names c.loop-number-test.true at
            (no-site (definitions_of pack) c.args.listing.now number c.requires.1.1.0 none) c.loop-number.invariant.1)
      ],
    )

-- src/keeping.rt:22:1
pub returns-clause-below : goal.returns-clause-below
returns-clause-below g c =
    let pack = g.whole in
    stage-below pack c.args.own c.args.listing.now.first (end_of c.args.listing.now.first pack) (take c.loop-number.number-index c.args.order.now) c.loop-number.names c.requires.1.1.1.1.1
    (omega arith) c.loop-number.invariant.1

-- src/keeping.rt:22:1
pub returns-clause-kept : goal.returns-clause-kept
returns-clause-kept g c =
    let pack = g.whole in
    let order = c.args.order.now in
    finished pack c.args.own c.args.listing.now.first order c.loop-number.invariant.0 c.loop-number.names
    (subst (λ xs. IsStage pack c.args.own c.args.listing.now.first (end_of c.args.listing.now.first pack) xs c.loop-number.names) (take_all c.loop-number.number-index order (omega arith)) c.loop-number.invariant.1)
