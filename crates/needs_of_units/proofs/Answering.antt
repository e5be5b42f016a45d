-- What a call answered, as the answer of what it is a part of.
use Rattle.std.proofs.Common.{◌≡◌, IsErr, IsErrAnd, Result, Ok, Err, OnOk, subst, sym}
use Rattle.std.proofs.lemmas.Bool.{false≢true}
use Rattle.bal_base.specs.declared.fault.Fault.{Fault}
use Rattle.bal_base.specs.declared.stop.Memory.{Memory as NoMemory}
use Rattle.bal_base.specs.declared.stop.Stop.{Stop}
use Rattle.checks.specs.Checks.{Comes}
use Rattle.checks.proofs.Steps.{ran_out}
use Rattle.descriptors.specs.Steps.{lifted}
use Rattle.check_words.specs.State.{State}
use Rattle.check_words.specs.Words.{Step}

pub on-stop : (P Q : Type 0) (m : Result (Unit {0}) (Stop Fault)) → P → OnOk m Q → OnOk m (P × Q)
on-stop P Q (Ok a) p h = (p, h)
on-stop P Q (Err e) p h = tt

-- what holds where something was made
pub made-behind : (P : Type 0) (m : Result (Unit {0}) NoMemory) (r : Result (Unit {0}) (Stop Fault)) → r ≡ lifted m → OnOk m P → OnOk r P
made-behind P m r e h = subst (λ x. OnOk x P) (sym e) (by m h)
  where
    by : (m : Result (Unit {0}) NoMemory) → OnOk m P → OnOk (lifted m) P
    by (Ok a) h = h
    by (Err e) h = tt

-- what was made is what a check comes to
pub made-so : (k : Step) (s new : State) (m : Result (Unit {0}) NoMemory) (r : Result (Unit {0}) (Stop Fault)) → r ≡ lifted m → OnOk m (Comes k s (Ok tt) new) → Comes k s r new
made-so k s new m r e h = subst (λ x. Comes k s x new) (sym e) (by m h)
  where
    by : (m : Result (Unit {0}) NoMemory) → OnOk m (Comes k s (Ok tt) new) → Comes k s (lifted m) new
    by (Ok a) h = h
    by (Err e) h = ran_out k s new

-- what stopped a call is handed on by `?`
pub handed-on : {B : Type 0} (P : Result B (Stop Fault) → Type 0) (stop : Stop Fault) (r : Result B (Stop Fault)) → IsErr r × IsErrAnd r (λ e. e ≡ stop) → P (Err stop) → P r
handed-on P stop (Ok b) h y = absurd (false≢true h.0)
handed-on P stop (Err s) h y = subst (λ e. P (Err e)) (sym h.1) y
