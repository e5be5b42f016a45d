-- Behind a tick no message is sent or received in the reach of a trap: where it lands the numbers would be those of before the
-- message and those of behind it.
use Rattle.std.proofs.Common.{◌≡◌, ◌≢◌, ◌<◌, ◌∙◌, ◌+◌, ◌-◌, ℕ, zero, suc, List, [], ◌∷◌, Option, Some, None, length, refl, sym, ap, subst, arith}
use Rattle.std.specs.Prelude.{All, Contains, IsSomeAnd, get_or, option_map, slice_get, slice_set}
use Rattle.operations.specs.declared.operation.Operation.{Operation}
use Rattle.operations.specs.declared.operation.Operation.TheVariants as op
use Rattle.operations.specs.Talk.{talk_of}
use Rattle.machine_model.proofs.Once.{some-same}
use Rattle.stack_code.specs.declared.code.Code.{Code}
use Rattle.stack_code.specs.declared.code.Unit.{Unit as CodeUnit}
use Rattle.stack_code.specs.Commands.{Do, OpenTrap, command_at}
use Rattle.stack_code.specs.Flow.{IsTypedAt, one_more, received_one, sent_one, tally_landing, tally_thrown}
use Rattle.stack_code.specs.Messages.{peers_in}
use Rattle.stack_code.specs.Places.{IsIn, IsStation, Station, Tally, crew, map_at, tally_at, traps_at}
use Rattle.stack_code.specs.WellTyped.{WellTyped}
use Rattle.code_keeping.specs.Laws.{NoTrappedReceive, NoTrappedSend}
use Rattle.code_keeping.proofs.Landing.{opened}
use Rattle.code_keeping.proofs.Lists.{at-some, some-there}
use Rattle.code_keeping.proofs.Places.{done-behind, typed-by, typed-in}
use Rattle.code_keeping.proofs.Talking.{sizes}

-- ---- one more is another number

set-there : (ns : List ℕ) (w x : ℕ) → w < length ns → get_or (slice_set ns w x) w 0 ≡ x
set-there [] w x lt = absurd (omega (arith, lt))
set-there (n ∷ ns) zero x lt = refl
set-there (n ∷ ns) (suc w) x lt = set-there ns w x (omega (arith, lt))

more-is-other : (ns : List ℕ) (w : ℕ) → w < length ns → one_more ns w ≡ ns → ⊥
more-is-other ns w lt same =
    let there = set-there ns w (suc (get_or ns w 0)) lt in
    let e = ap (λ x. get_or x w 0) same in
    omega (arith, there, e)

-- ---- the numbers in the reach of a trap

module _ (code : Code) (unit : ℕ) (u : CodeUnit) (station : Station) (p : ℕ) (o : Operation) (typed : WellTyped code) (eu : slice_get code.units unit ≡ Some u) (stationed : IsStation code unit station)
    (here : IsIn u p) (next : IsIn u (p + 1)) (tick : command_at code p ≡ Some (Do op.Tick)) (does : command_at code (p + 1) ≡ Some (Do o)) where
  typed-here : IsTypedAt code u station p
  typed-here = typed-in code typed unit u eu station stationed p here

  same-numbers : tally_at code (p + 1) ≡ tally_at code p
  same-numbers = ((typed-by code u station p (Do op.Tick) tick typed-here).next (λ x. x)).2

  -- what is said behind the tick would change no numbers
  same-thrown : (t : ℕ) (ts : List ℕ) → traps_at code u p ≡ Some (t ∷ ts) → tally_thrown (talk_of o) (tally_at code (p + 1)) ≡ tally_at code (p + 1)
  same-thrown t ts e =
      let (k, landing, lt, et, ec, ek) = opened code u.first (p - u.first) (p - u.first) t ts (omega arith) e in
      let in-t : IsIn u t = (omega (arith, et), omega (arith, et, lt, here.0, here.1)) in
      let (lands-at, lands, tallies, goes) = typed-by code u station t (OpenTrap landing) ec (typed-in code typed unit u eu station stationed t in-t) in
      let at : tally_at code p ≡ tally_at code landing = subst (λ c. tally_landing c (tally_at code p) ≡ tally_at code landing) tick (tallies p here (reach p e)) in
      let behind : tally_thrown (talk_of o) (tally_at code (p + 1)) ≡ tally_at code landing =
      subst (λ c. tally_landing c (tally_at code (p + 1)) ≡ tally_at code landing) does (tallies (p + 1) next (reach (p + 1) (done-behind code u p here.0 op.Tick (t ∷ ts) tick e))) in
      behind ∙ sym at ∙ sym same-numbers
    where
      reach : (q : ℕ) → traps_at code u q ≡ Some (t ∷ ts) → IsSomeAnd (traps_at code u q) (λ traps. Contains traps t)
      reach q er = at-some (λ traps. Contains traps t) (traps_at code u q) (t ∷ ts) er (0, omega arith, refl)

  -- so there is no trap, where it would
  no-trap : ((t : ℕ) (ts : List ℕ) → traps_at code u p ≡ Some (t ∷ ts) → ⊥) → traps_at code u (p + 1) ≡ Some []
  no-trap none = let (ts, e, k) = some-there _ (traps_at code u p) typed-here.begins in by ts e
    where
      by : (ts : List ℕ) → traps_at code u p ≡ Some ts → traps_at code u (p + 1) ≡ Some []
      by [] e = done-behind code u p here.0 op.Tick [] tick e
      by (t ∷ ts) e = absurd (none t ts e)

  -- the numbers are there, one for each worker
  pub record Counted (w : ℕ) : Type 0 where
    pub tally : Tally
    pub is : tally_at code (p + 1) ≡ Some tally
    pub sent : w < length tally.sent
    pub received : w < length tally.received

  counted : (w : ℕ) → peers_in (talk_of o) ≡ w ∷ [] → Counted w
  counted w peers =
      let named = ((typed.places (p + 1)).talks.workers station.function station.worker o (unit, stationed, at-some (λ x. IsIn x (p + 1)) (slice_get code.units unit) u eu next) does).0 in
      let (few, other, some) = subst (λ ws. All (λ w. (w < length (crew code station.function)) × (w ≢ station.worker) × (tally_at code (p + 1) ≢ None)) ws) peers named 0 0 (omega arith) in
      by (tally_at code (p + 1)) refl few some
    where
      by : (r : Option Tally) → tally_at code (p + 1) ≡ r → w < length (crew code station.function) → (tally_at code (p + 1) ≢ None) → Counted w
      by None e few some = absurd (some e)
      by (Some t) e few some =
          let (s, r) = sizes (map_at code (p + 1)) (length (crew code station.function)) t e (((typed.places (p + 1)).uses unit u eu next).numbers station stationed) in
          record { tally = t; is = e; sent = omega (arith, few, s); received = omega (arith, few, r) }

pub no-trapped-receive : NoTrappedReceive
no-trapped-receive code unit u station p w o typed eu stationed here next tick does talk = no-trap code unit u station p o typed eu stationed here next tick does none
  where
    none : (t : ℕ) (ts : List ℕ) → traps_at code u p ≡ Some (t ∷ ts) → ⊥
    none t ts e =
        let k = counted code unit u station p o typed eu stationed here next tick does w (ap peers_in talk) in
        let same : option_map (received_one w) (Some k.tally) ≡ Some k.tally =
        subst (λ x. option_map (received_one w) x ≡ x) k.is (subst (λ x. tally_thrown x (tally_at code (p + 1)) ≡ tally_at code (p + 1)) talk (same-thrown code unit u station p o typed eu stationed here next tick does t ts e)) in
        more-is-other k.tally.received w k.received (ap (λ x. x.received) (some-same (received_one w k.tally) k.tally same))

pub no-trapped-send : NoTrappedSend
no-trapped-send code unit u station p w o typed eu stationed here next tick does talk = no-trap code unit u station p o typed eu stationed here next tick does none
  where
    none : (t : ℕ) (ts : List ℕ) → traps_at code u p ≡ Some (t ∷ ts) → ⊥
    none t ts e =
        let k = counted code unit u station p o typed eu stationed here next tick does w (ap peers_in talk) in
        let same : option_map (sent_one w) (Some k.tally) ≡ Some k.tally =
        subst (λ x. option_map (sent_one w) x ≡ x) k.is (subst (λ x. tally_thrown x (tally_at code (p + 1)) ≡ tally_at code (p + 1)) talk (same-thrown code unit u station p o typed eu stationed here next tick does t ts e)) in
        more-is-other k.tally.sent w k.sent (ap (λ x. x.sent) (some-same (sent_one w k.tally) k.tally same))
