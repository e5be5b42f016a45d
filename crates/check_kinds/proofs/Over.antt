-- Checks of a state that look at its atoms alone, one behind another.
use Rattle.std.proofs.Common.{◌≡◌, Result, Ok, Err, refl, subst, sym}
use Rattle.bal_base.specs.declared.fault.Fault.{Fault}
use Rattle.bal_base.specs.declared.stop.Stop.{Stop}
use Rattle.bal_base.specs.declared.stop.Stop.TheVariants.{Memory, Fault as OwnFault}
use Rattle.checks.specs.Checks.{Check, Comes, gives_some, ◌▷◌}
use Rattle.checks.proofs.Steps.{goes_on, stops}
use Rattle.needs.specs.Needs.{asks}
use Rattle.check_words.specs.State.{State}
use Rattle.check_words.specs.Words.{Atoms, asking, some_over}
use Rattle.check_kinds.specs.Over.{ComesOver}

module _ {A : Type 0} where
  -- for whoever has the state
  pub over-at : (m : Check State A) (s : State) (r : Result A (Stop Fault)) (new : Atoms) → ComesOver m s.atoms r new → Comes m s r (record s { atoms = new })
  unfolding ComesOver
  over-at m s r new h = h s refl

  -- something is so over the atoms
  pub over-some : (P : Atoms → A → Type 0) (old : Atoms) (a : A) → P old a → ComesOver (some_over P) old (Ok a) old
  unfolding ComesOver Comes gives_some
  over-some P old a h s e = (subst (λ (o : Atoms). P o a) (sym e) h, subst (λ (o : Atoms). record s { atoms = o } ≡ s) e refl)

  -- a question over the atoms
  asked : (q : Check Atoms A) (s : State) (new : Atoms) (r : Result A (Stop Fault)) → Comes q s.atoms r new → Comes (asking q) s r (record s { atoms = new })
  unfolding Comes asks
  asked q s new (Ok a) h = (h, refl)
  asked q s new (Err (OwnFault f)) h = (h, refl)
  asked q s new (Err Memory) h = tt

  pub over-asks : (q : Check Atoms A) (old new : Atoms) (r : Result A (Stop Fault)) → Comes q old r new → ComesOver (asking q) old r new
  unfolding ComesOver
  over-asks q old new r h s e = asked q s new r (subst (λ (o : Atoms). Comes q o r new) (sym e) h)

  pub over-out : (m : Check State A) (old new : Atoms) → ComesOver m old (Err Memory) new
  unfolding ComesOver Comes
  over-out m old new s e = tt

module _ {A B : Type 0} (m : Check State A) (next : A → Check State B) (old : Atoms) where
  pub over-on : (mid new : Atoms) (a : A) (r : Result B (Stop Fault)) → ComesOver m old (Ok a) mid → ComesOver (next a) mid r new → ComesOver (m ▷ next) old r new
  unfolding ComesOver
  over-on mid new a r h k s e = goes_on m next s (record s { atoms = mid }) (record s { atoms = new }) a r (h s e) (k (record s { atoms = mid }) refl)

  pub over-stops : (new : Atoms) (stop : Stop Fault) → ComesOver m old (Err stop) new → ComesOver (m ▷ next) old (Err stop) new
  unfolding ComesOver
  over-stops new stop h s e = stops m next s (record s { atoms = new }) stop (h s e)

pub ruleset overs = (over-out)
