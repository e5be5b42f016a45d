-- What is received, by the first message that waits, and what a flush gives.
use Rattle.std.proofs.Common.{◌≡◌, ℕ, List, [], ◌∷◌, Some, None, drop, refl, sym, ap}
use Rattle.value_model.specs.declared.value.Value.{Value}
use Rattle.op_model.specs.Common.{Common, End, Role, Returned, Panicked}
use Rattle.op_model.specs.Effects.{Gives}
use Rattle.op_model.specs.Messages.{flushes_end, receives, receives_end, receives_from, with_received}
use Rattle.op_model.specs.Strands.{channel_at, settled, worker_end}
use Rattle.op_model.specs.Waits.{ends_with}
use Rattle.plain_messages.specs.declared.passing.Passing.TheVariants.{Received}
use Rattle.plain_messages.specs.Channels.{first_of, passed_on}

some-same : (x y : Value) → Some x ≡ Some y → x ≡ y
some-same x y e = let q : x ≡ y = cc in q

none-waits : (q : List Value) → first_of q ≡ None → q ≡ []
none-waits [] e = refl
none-waits (v ∷ q) e = absurd (let bad : ⊥ = cc in bad)

pub flush-ended : (c : Common) (r : Role) (to sent : ℕ) (end : End) → ends_with c end ≡ flushes_end c r to sent (Some end)
flush-ended c r to sent (Returned v) = refl
flush-ended c r to sent (Panicked e) = refl

module _ (c : Common) (r : Role) (from : ℕ) where
  first-by : (q : List Value) (v : Value) → first_of q ≡ Some v → Gives (v ∷ []) (settled (with_received c r from (drop 1 q))) ≡ receives_from c r from q
  first-by [] v e = absurd (let bad : ⊥ = cc in bad)
  first-by (x ∷ q) v e = ap (λ y. Gives (y ∷ []) (settled (with_received c r from q))) (sym (some-same x v e))

  pub received-first : (v : Value) → first_of (channel_at c r.activation from r.worker).queue ≡ Some v → Gives (v ∷ []) (settled (passed_on Received r.activation from r.worker c)) ≡ receives c r from
  received-first v e = first-by (channel_at c r.activation from r.worker).queue v e

  pub received-end : first_of (channel_at c r.activation from r.worker).queue ≡ None → receives_end c r from (worker_end c r.activation from) ≡ receives c r from
  received-end e = ap (receives_from c r from) (sym (none-waits (channel_at c r.activation from r.worker).queue e))

  pub received-none : first_of (channel_at c r.activation from r.worker).queue ≡ None → passed_on Received r.activation from r.worker c ≡ with_received c r from []
  received-none e = ap (λ q. with_received c r from (drop 1 q)) (none-waits (channel_at c r.activation from r.worker).queue e)

pub ruleset receiving = (flush-ended, received-first, received-end, received-none)
