use Rattle.std.proofs.Common.{◌≡◌, ◌∙◌, Some, ap, map, subst}
use Rattle.std.specs.Prelude.{IfOk, option_map}
use Rattle.typed_tree.specs.Listed.{run}
use Rattle.package_units.specs.Held.{tree_of}
use Rattle.package_units.specs.Noted.{noted, noted_of}
use Rattle.package_units.proofs.Found.{listed}
use Rattle.package_units.proofs.Meeting.{all-gathered, all-hold}
use Rattle.package_units.proofs.walk_units.units.Goals as goal

pub returns-clause-units : goal.returns-clause-units
returns-clause-units c =
    all-gathered c.args.package.now (noted_of c.all.new.n) (c.all.ensures ∙ ap (run noted (listed c.args.package.now)) c.in_ok-met.ensures) c.if-not-met.false c.gathered.result
    (subst (λ ms. IfOk c.gathered.result (λ us. map (option_map tree_of) ms ≡ map Some (map tree_of us.items))) c.deref.ensures.value c.gathered.ensures)

pub returns-clause-all : goal.returns-clause-all
returns-clause-all c =
    all-hold c.args.package.now (noted_of c.all.new.n) (c.all.ensures ∙ ap (run noted (listed c.args.package.now)) c.in_ok-met.ensures) c.if-not-met.false c.gathered.result
    (subst (λ ms. IfOk c.gathered.result (λ us. map (option_map tree_of) ms ≡ map Some (map tree_of us.items))) c.deref.ensures.value c.gathered.ensures)
