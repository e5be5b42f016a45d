use Rattle.std.proofs.Common.{refl, subst, sym}
use Rattle.isolation_check.specs.declared.parts.Found.{Found}
use Rattle.isolation_check.specs.declared.parts.HeldPart.{HeldPart}
use Rattle.isolation_check.specs.Parts.{noted}
use Rattle.isolation_check.specs.inner.Views.{Grows, does_of}
use Rattle.isolation_check.proofs.Growing.{grows-inside, grows-own}
use Rattle.isolation_check.proofs.parts.Found.note.Goals as goal

pub returns-in-Body : goal.returns-in-Body
returns-in-Body c =
    let old = c.args.self.now in
    let new : Found = record { own = c.put.new.parts; inside = old.inside; full = c.put.new.full } in
    let part : HeldPart = record { deed = c.args.deed; at = c.args.at } in
    subst (λ w. Grows (noted w (does_of c.args.deed) c.args.at) old new) (sym c.in-Body.is) (grows-own old new part c.put.ensures refl)

pub returns-in-Isolated : goal.returns-in-Isolated
returns-in-Isolated c =
    let old = c.args.self.now in
    let new : Found = record { own = old.own; inside = c.put-in-Isolated.new.parts; full = c.put-in-Isolated.new.full } in
    let part : HeldPart = record { deed = c.args.deed; at = c.args.at } in
    subst (λ w. Grows (noted w (does_of c.args.deed) c.args.at) old new) (sym c.in-Isolated.is) (grows-inside old new part c.put-in-Isolated.ensures refl)
