-- What holds of answers.
use Rattle.std.proofs.Common.{Result, Ok, Err, OnOk}
use Rattle.bal_base.specs.declared.fault.Fault.{Fault}
use Rattle.bal_base.specs.declared.stop.Stop.{Stop}

pub both-on : (P Q : Type 0) (r : Result (Unit {0}) (Stop Fault)) → P → OnOk r Q → OnOk r (P × Q)
both-on P Q (Ok a) p h = (p, h)
both-on P Q (Err e) p h = tt

-- what holds whatever was answered
pub on-any : (P : Type 0) (r : Result (Unit {0}) (Stop Fault)) → P → OnOk r P
on-any P (Ok a) h = h
on-any P (Err e) h = tt
