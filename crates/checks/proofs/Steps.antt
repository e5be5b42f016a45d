-- How an answer of one call goes on to the answer of what follows.
use Rattle.std.proofs.Common.{◌≡◌, Result, Ok, Err, inl, inr}
use Rattle.bal_base.specs.declared.fault.Fault.{Fault}
use Rattle.bal_base.specs.declared.stop.Stop.{Stop}
use Rattle.bal_base.specs.declared.stop.Stop.TheVariants.{Memory, Fault as OwnFault}
use Rattle.checks.specs.Checks.{Check, Comes, gives_some, ◌▷◌}

module _ {S A B : Type 0} where
  -- the first gave something, and then this came
  pub goes_on : (m : Check S A) (next : A → Check S B) (old mid new : S) (a : A) (r : Result B (Stop Fault)) → Comes m old (Ok a) mid → Comes (next a) mid r new → Comes (m ▷ next) old r new
  unfolding ◌▷◌ Comes
  goes_on m next old mid new a (Ok b) h k = (a, mid, h, k)
  goes_on m next old mid new a (Err (OwnFault f)) h k = inr (a, mid, h, k)
  goes_on m next old mid new a (Err Memory) h k = tt

  -- the first stopped
  pub stops : (m : Check S A) (next : A → Check S B) (old new : S) (stop : Stop Fault) → Comes m old (Err stop) new → Comes (m ▷ next) old (Err stop) new
  unfolding ◌▷◌ Comes
  stops m next old new (OwnFault f) h = inl h
  stops m next old new Memory h = tt

-- something that is so is given
pub some_is : {S A : Type 0} (P : S → A → Type 0) (old new : S) (a : A) → new ≡ old → P old a → Comes (gives_some P) old (Ok a) new
unfolding Comes gives_some
some_is P old new a e h = (h, e)

pub ran_out : {S A : Type 0} (m : Check S A) (old new : S) → Comes m old (Err Memory) new
unfolding Comes
ran_out m old new = tt
