use Rattle.std.proofs.Common.{◌≡◌, ◌<◌, ℕ, Bool, false, None, Some, length, map, slice_get, refl, sym, subst, ap, arith}
use Rattle.std.specs.Option.{is_some}
use Rattle.type_diagrams.specs.contracts.simple.SimpleSetPartialEq.TheImpl as same_set
use Rattle.type_diagrams.specs.Sets.{set_of}
use Rattle.type_diagrams.specs.Tables.{Table}
use Rattle.type_diagrams.proofs.Numbering.{same_set-Decides, numbered-found}
use Rattle.type_diagrams.proofs.Inserts.{set_in-IsTable, set_in-Extends, set_in-made, sets-unchanged}
use Rattle.type_diagrams.proofs.diagrams.Diagrams.set_number.Goals as goal

none_of : {b : Bool} → is_some {T = ℕ} None ≡ b → b ≡ false
none_of e = sym e

pub returns-in-Some-clause-made : goal.returns-in-Some-clause-made
returns-in-Some-clause-made c =
    let at = numbered-found same_set.ghosts.eq set_of same_set-Decides c.self.inside.sets.keys c.args.set c.in-Some.place (sym c.in-Some.ensures.index) in
    subst (λ (t : Table). slice_get t.sets c.in-Some.place ≡ Some (set_of c.args.set)) c.self.view_is at

pub invariant_of-self-in-None : goal.invariant_of-self-in-None
invariant_of-self-in-None c =
    let room : length c.self.inside.sets.keys < 4294967293 = omega arith in
    set_in-IsTable _ c.self.invariant c.args.set c.self.inside.sets.keys c.insert.new.self.keys refl (none_of c.in-None.ensures.found) c.in_ok-insert-in-None.ensures.keys c.requires room

pub returns-in_ok-insert-in-None-clause-extends : goal.returns-in_ok-insert-in-None-clause-extends
returns-in_ok-insert-in-None-clause-extends c =
    set_in-Extends _ c.self.invariant c.args.set c.self.inside.sets.keys c.insert.new.self.keys refl (none_of c.in-None.ensures.found) c.in_ok-insert-in-None.ensures.keys c.args.self.now c.self.view_is

pub returns-in_ok-insert-in-None-clause-made : goal.returns-in_ok-insert-in-None-clause-made
returns-in_ok-insert-in-None-clause-made c =
    set_in-made _ c.self.invariant c.args.set c.self.inside.sets.keys c.insert.new.self.keys refl (none_of c.in-None.ensures.found) c.in_ok-insert-in-None.ensures.keys c.len-place.result c.len-place.ensures.len

pub returns-in_err-insert-in-None-clause-extends : goal.returns-in_err-insert-in-None-clause-extends
returns-in_err-insert-in-None-clause-extends c = sets-unchanged _ (map set_of c.insert.new.self.keys) c.args.self.now (ap (map set_of) c.in_err-insert-in-None.ensures.err) c.self.view_is
