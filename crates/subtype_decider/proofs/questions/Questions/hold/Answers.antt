use Rattle.std.proofs.Common.{Result, Ok, Err, OnOk, refl}
use Rattle.subtype_decider.specs.declared.held.Held.{Held}
use Rattle.subtype_decider.proofs.questions.Questions.hold.Goals as goal

-- what holds in each case
always : {T E : Type 0} (P : Type 0) (r : Result T E) → P → OnOk r P
always P (Ok x) p = p
always P (Err e) p = tt

pub returns-clause-held : goal.returns-clause-held
returns-clause-held c =
    let h : Held = record { question = c.args.question; ways = c.in_ok-ways.ways; next = 0 } in
    always _ c.add.result (record { held = h; is = refl; next = refl; ways = c.in_ok-ways.ensures; pending = c.in_ok-push.ensures.items })
