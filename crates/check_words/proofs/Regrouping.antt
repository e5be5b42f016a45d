-- Chains of checks, put together otherwise: the front of a chain may be one call, and what follows from its value the next.
use Rattle.std.proofs.Common.{Result, Ok, Err, inl, inr, ⊎_elim}
use Rattle.bal_base.specs.declared.fault.Fault.{Fault}
use Rattle.bal_base.specs.declared.stop.Stop.{Stop}
use Rattle.bal_base.specs.declared.stop.Stop.TheVariants.{Memory, Fault as OwnFault}
use Rattle.checks.specs.Checks.{Check, Comes, ◌▷◌}

module _ {S A B C : Type 0} (m : Check S A) (n : A → Check S B) (k : B → Check S C) (old new : S) where
  -- two checks before a third
  pub regroup-all : (r : Result C (Stop Fault)) → Comes ((m ▷ n) ▷ k) old r new → Comes (m ▷ λ a. n a ▷ k) old r new
  unfolding Comes ◌▷◌
  regroup-all (Ok c) h = (h.2.0, h.2.1, h.2.2, (h.0, h.1, h.2.3, h.3))
  regroup-all (Err (OwnFault f)) h =
      ⊎_elim (⊎_elim (λ x. inl x) (λ y. inr (y.0, y.1, y.2, inl y.3))) (λ y. inr (y.2.0, y.2.1, y.2.2, inr (y.0, y.1, y.2.3, y.3))) h
  regroup-all (Err Memory) h = tt

module _ {S A B : Type 0} (m : Check S A) (n k : A → Check S B) (old new : S) where
  -- what follows put otherwise
  pub under : (r : Result B (Stop Fault)) → Comes (m ▷ n) old r new → ((a : A) (s : S) → Comes (n a) s r new → Comes (k a) s r new) → Comes (m ▷ k) old r new
  unfolding Comes ◌▷◌
  under (Ok b) h f = (h.0, h.1, h.2, f h.0 h.1 h.3)
  under (Err (OwnFault e)) h f = ⊎_elim (λ x. inl x) (λ y. inr (y.0, y.1, y.2, f y.0 y.1 y.3)) h
  under (Err Memory) h f = tt

-- three checks before a fourth
pub regroup-three : {S A B C D : Type 0} (m : Check S A) (n : A → Check S B) (o : A → B → Check S C) (k : C → Check S D) (old new : S) (r : Result D (Stop Fault))
    → Comes ((m ▷ λ a. n a ▷ o a) ▷ k) old r new → Comes (m ▷ λ a. n a ▷ λ b. o a b ▷ k) old r new
regroup-three m n o k old new r h =
    under m (λ a. (n a ▷ o a) ▷ k) (λ a. n a ▷ λ b. o a b ▷ k) old new r (regroup-all m (λ a. n a ▷ o a) k old new r h) (λ a s. regroup-all (n a) (o a) k s new r)
