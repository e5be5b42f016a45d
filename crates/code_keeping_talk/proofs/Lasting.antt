-- What holds of frames, results, errors and strands holds later.
use Rattle.std.proofs.Common.{◌≡◌, ℕ, zero, suc, List, [], ◌∷◌, Option, Some, None, inl, inr, reverse, refl, sym, subst}
use Rattle.std.specs.Prelude.{IsTrue, get_or, is_some, slice_get}
use Rattle.value_model.specs.declared.value.Value.{Value}
use Rattle.op_model.specs.Common.{Activation, Common, Role, Strand}
use Rattle.op_model.specs.Strands.{end_in, has_ended, no_activation, no_strand}
use Rattle.machine_model.specs.Keeping.{RunsOn}
use Rattle.machine_model.specs.Machine.{Frame}
use Rattle.stack_code.specs.declared.code.Code.{Code}
use Rattle.stack_code.specs.CodeMachine.{OpenedTrap, Standing}
use Rattle.stack_code.specs.Frames.{AwaitsResult, IsLowest, StandsIn, StandsWell, TopFits, TrapFits}
use Rattle.stack_code.specs.Good.{IsLater, IsSameCall, IsSameStrand}
use Rattle.stack_code.specs.Places.{stack_at, tally_at, traps_at}
use Rattle.stack_code.specs.Tables.{UnitAt}
use Rattle.stack_code.specs.Values.{Fits}
use Rattle.code_keeping.proofs.Changing.{or-there}
use Rattle.code_keeping.proofs.Later.{strand-later}
use Rattle.code_keeping.proofs.Lists.{some-there, some-to, zip-to}
use Rattle.code_keeping.proofs.Staying.{all-later, error-later, fits-later, slots-later, tally-later, unit-later}
use Rattle.code_keeping_talk.specs.Laws.{WhatHeldHolds}

or-none : {A : Type 0} (xs : List A) (n : ℕ) (d : A) → slice_get xs n ≡ None → get_or xs n d ≡ d
or-none [] n d e = refl
or-none (x ∷ xs) zero d e = absurd (let q : ⊥ = cc in q)
or-none (x ∷ xs) (suc n) d e = or-none xs n d e

module _ (code : Code) (c d : Common) where
  stands-later : (f : Frame Standing) → IsLater f.role c d → StandsWell code c f → StandsWell code d f
  stands-later f l (unit, tally, own) = (
    some-to (StandsIn code c f.control.place f.control.local.slots f.control.local.stack f.control.traps) (StandsIn code d f.control.place f.control.local.slots f.control.local.stack f.control.traps) (slice_get code.units f.unit)
        (λ u k. (k.0, slots-later code f.role c d l u f.control.local.slots k.1, some-to _ _ (traps_at code u f.control.place) (λ ts h. zip-to (TrapFits code c f.control.local.stack) (TrapFits code d f.control.local.stack) trap-so f.control.traps ts h) k.2)) unit,
    tally-later code c d f.role (tally_at code f.control.place) l tally,
    unit-later code f.role c d l f.unit own,
  )
    where
      trap-so : (trap : OpenedTrap) (t : ℕ) → TrapFits code c f.control.local.stack trap t → TrapFits code d f.control.local.stack trap t
      trap-so trap t (command, fit, above) = (command, all-later code f.role c d l (reverse trap.below) (stack_at code t) fit, above)

  top-later : (f : Frame Standing) → IsLater f.role c d → TopFits code c f → TopFits code d f
  top-later f l (stands, fit) = (stands-later f l stands, all-later code f.role c d l (reverse f.control.local.stack) (stack_at code f.control.place) fit)

  awaits-later : (f : Frame Standing) (callee : ℕ) → IsLater f.role c d → AwaitsResult code c f callee → AwaitsResult code d f callee
  awaits-later f callee l h =
      record {
        call = h.call;
        rest = h.rest;
        result = h.result;
        behind = h.behind;
        inside = h.inside;
        is_call = h.is_call;
        stack = h.stack;
        stands = stands-later f l h.stands;
        operands = all-later code f.role c d l (reverse f.control.local.stack) h.rest h.operands;
        below = h.below;
      }

  module _ (l : IsLater None c d) where
    holds-later : (v : Value) (unit : ℕ) → UnitAt code unit (λ u. Fits code c v u.result) → UnitAt code unit (λ u. Fits code d v u.result)
    holds-later v unit h = some-to (λ u. Fits code c v u.result) (λ u. Fits code d v u.result) (slice_get code.units unit) (λ u k. fits-later code None c d l v u.result k) h

    lowest-later : (n unit : ℕ) → IsLowest code c n unit → IsLowest code d n unit
    lowest-later n unit (inl h) = inl (strand-later code c d l n (λ own role. own ≡ unit) h)
    lowest-later n unit (inr h) = inr h

    gone-later : (n : ℕ) → IsTrue (has_ended c n) → IsTrue (has_ended d n)
    gone-later n h = by (slice_get c.strands n) refl
      where
        by : (o : Option Strand) → slice_get c.strands n ≡ o → IsTrue (has_ended d n)
        by None e = absurd (let k : IsTrue (is_some (end_in no_strand.status)) = subst (λ (z : Strand). IsTrue (is_some (end_in z.status))) (or-none c.strands n no_strand e) h in let q : ⊥ = cc in q)
        by (Some s) e =
            let ended : IsTrue (is_some (end_in s.status)) = subst (λ (z : Strand). IsTrue (is_some (end_in z.status))) (or-there c.strands n s no_strand e) h in
            let (t, et, same) = some-there (IsSameStrand s) (slice_get d.strands n) (l.strands n s e) in
            subst (λ (z : Strand). IsTrue (is_some (end_in z.status))) (sym (or-there d.strands n t no_strand et)) (same.2 ended)

    runs-later : (n : ℕ) (role : Option Role) → RunsOn c n role → RunsOn d n role
    runs-later n None h = tt
    runs-later n (Some r) h = by (slice_get c.activations r.activation) refl
      where
        by : (o : Option Activation) → slice_get c.activations r.activation ≡ o → RunsOn d n (Some r)
        by None e = absurd (let k : slice_get no_activation.strands r.worker ≡ Some n = subst (λ (z : Activation). slice_get z.strands r.worker ≡ Some n) (or-none c.activations r.activation no_activation e) h in let q : ⊥ = cc in q)
        by (Some x) e =
            let was : slice_get x.strands r.worker ≡ Some n = subst (λ (z : Activation). slice_get z.strands r.worker ≡ Some n) (or-there c.activations r.activation x no_activation e) h in
            let (y, ey, same) = some-there (IsSameCall x) (slice_get d.activations r.activation) (l.calls r.activation x e) in
            subst (λ (z : Activation). slice_get z.strands r.worker ≡ Some n) (sym (or-there d.activations r.activation y no_activation ey)) (subst (λ ss. slice_get ss r.worker ≡ Some n) (sym same.1) was)

pub what-held-holds : WhatHeldHolds
what-held-holds code c d = (
  top-later code c d,
  awaits-later code c d,
  λ l. (holds-later code c d l, error-later code None c d l, lowest-later code c d l, gone-later code c d l, runs-later code c d l),
)
