-- Where no strand is ready, each strand that has not ended has stopped in a worker that waits for another one.
use Rattle.std.proofs.Common.{◌≡◌, ◌≢◌, ◌<◌, ◌≤◌, ◌⊎◌, ◌&&◌, ◌∙◌, ℕ, zero, suc, Bool, true, false, List, [], ◌∷◌, Option, Some, None, IsSomeAnd, length, refl, sym, subst, ap, inl, inr, arith}
use Rattle.std.proofs.lemmas.Bool.{cases_lt}
use Rattle.std.proofs.lemmas.Option.{none-some, slice_get-get_or}
use Rattle.std.specs.Prelude.{Contains, get_or, is_some, option_map, slice_get, ⊤}
use Rattle.std.specs.List.{list_all}
use Rattle.operations.specs.declared.operation.Operation.{Operation}
use Rattle.operations.specs.declared.operation.Operation.TheVariants as op
use Rattle.operations.specs.Talk.{Talk, talk_of, workers_in}
use Rattle.value_model.specs.declared.value.Value.{Value}
use Rattle.value_model.specs.declared.value.Value.TheVariants.{Future}
use Rattle.value_model.specs.Meaning.{Answers}
use Rattle.op_model.specs.Common.{Caller, Common, End, Need, Message, Received, AllEnded, AnyGiven, Role, Status, IsActive, IsBlocked, IsEnded}
use Rattle.op_model.specs.Effects.{Effect, Waits as WaitsEffect}
use Rattle.op_model.specs.ProgramFacts.{ProgramFacts}
use Rattle.op_model.specs.Performs.{Performs}
use Rattle.op_model.specs.Strands.{activation_at, end_in, end_of, has_ended, met, no_activation, no_strand, strand_at, worker_end}
use Rattle.op_model.specs.Waits.{Target, strands_in, targets, with_target, worker_target}
use Rattle.machine_model.specs.Machine.{Ask, On, Does, Stuck, Frame, Machine, State, caller}
use Rattle.machine_model.specs.Runs.{Picking, does_in, next_operation}
use Rattle.machine_model.specs.Strands.{AreOn, HasRole, IsLaterThanAll, IsOn, IsUnfinished, LowestIs, Rise, StillWaits, StrandHolds, StrandsHold, TopWaits, due, due_in, frames_of, role_of, roles_of, times, top_role}
use Rattle.machine_model.proofs.Alike.{or-both}
use Rattle.machine_model.proofs.Boards.{later-than}
use Rattle.machine_model.proofs.Once.{some-same}
use Rattle.machine_model.proofs.Places.{get-past}
use Rattle.machine_model.proofs.ShapeRows.{performs-shape}
use Rattle.machine_model.proofs.Shapes.{WaitsAs, in-future, in-none, in-one, in-some}
use Rattle.worker_waits.specs.Standing.{AreStuck, IsLastOf}
use Rattle.worker_waits.specs.Waiting.{StopsAt, Waits, awaited_workers}
use Rattle.lowered_ends.specs.Starting.{AwaitsNamed}

-- ---- lists

within : {A : Type 0} (xs : List A) (j : ℕ) (y : A) → slice_get xs j ≡ Some y → j < length xs
within [] zero y e = absurd (none-some y e)
within [] (suc j) y e = absurd (none-some y e)
within (z ∷ xs) zero y e = omega arith
within (z ∷ xs) (suc j) y e = let h = within xs j y e in omega (arith, h)

more-contains : (x : ℕ) (xs : List ℕ) (v : ℕ) → Contains xs v → Contains (x ∷ xs) v
more-contains x xs v (k, lt, same) = (suc k, omega (arith, lt), same)

-- the value is one of these
abbrev pub IsAmong : Value → List Value → Type 0
IsAmong v [] = ⊥
IsAmong v (w ∷ ws) = (w ≡ v) ⊎ IsAmong v ws

-- none of these is a future
abbrev pub NoFutures : List Value → Type 0
NoFutures vs = (n unit : ℕ) → IsAmong (Future n unit) vs → ⊥

-- it may wait for futures
abbrev pub TakesFutures : Operation → Type 0
TakesFutures op.WaitFuture = ⊤
TakesFutures (op.WaitAny names) = ⊤
TakesFutures (op.WaitAll atom names) = ⊤
TakesFutures o = ⊥

-- ---- roles

has-lowest : (r : Role) (rs : List (Option Role)) → LowestIs r rs → HasRole r rs
has-lowest r [] h = h
has-lowest r (role ∷ []) h = inl h
has-lowest r (role ∷ other ∷ rs) h = inr (has-lowest r (other ∷ rs) h)

on-has : (c : Common) (n : ℕ) (r : Role) (rs : List (Option Role)) → AreOn c n rs → HasRole r rs → IsOn c n (Some r)
on-has c n r [] on h = absurd h
on-has c n r (role ∷ rs) on (inl e) = subst (IsOn c n) e on.0
on-has c n r (role ∷ rs) on (inr h) = on-has c n r rs on.1 h

none-of : (o : Option End) → is_some o ≡ false → o ≡ None
none-of None e = refl
none-of (Some end) e = absurd (let q : ⊥ = cc in q)

first-false : (b : Bool) → (b && true) ≡ false → b ≡ false
first-false true e = e
first-false false e = refl

-- ---- whom a wait awaits

module _ (c : Common) where
  -- a worker that is named, on a strand that has not ended
  record Unended (role : Option Role) (names : List (Option ℕ)) : Type 0 where
    r : Role
    is : role ≡ Some r
    worker : ℕ
    among : Contains (workers_in names) worker
    strand : ℕ
    runs : slice_get (activation_at c r.activation).strands worker ≡ Some strand
    left : has_ended c strand ≡ false

  skips-one : (role : Option Role) (name : ℕ) (names : List (Option ℕ)) → Unended role names → Unended role (Some name ∷ names)
  skips-one role name names h = record { r = h.r; is = h.is; worker = h.worker; among = more-contains name (workers_in names) h.worker h.among; strand = h.strand; runs = h.runs; left = h.left }

  unended : (role : Option Role) (names : List (Option ℕ)) (vs : List Value) (ts : List Target) → targets c role names vs ≡ Some ts → NoFutures vs → list_all (has_ended c) (strands_in ts) ≡ false → Unended role names
  unended (Some r) [] [] ts e none left = absurd (let all : true ≡ false = ap (λ l. list_all (has_ended c) (strands_in l)) (some-same [] ts e) ∙ left in let q : ⊥ = cc in q)
  unended None [] [] ts e none left = absurd (let all : true ≡ false = ap (λ l. list_all (has_ended c) (strands_in l)) (some-same [] ts e) ∙ left in let q : ⊥ = cc in q)
  unended (Some r) [] (v ∷ vs) ts e none left = absurd (let q : ⊥ = cc in q)
  unended None [] (v ∷ vs) ts e none left = absurd (let q : ⊥ = cc in q)
  unended None (Some worker ∷ names) vs ts e none left = absurd (let q : ⊥ = cc in q)
  unended (Some r) (Some worker ∷ names) vs ts e none left = by (slice_get (activation_at c r.activation).strands worker) (targets c (Some r) names vs) refl refl e (λ rest are all. unended (Some r) names vs rest are none all)
    where
      at : (n : ℕ) (rest : List Target) → slice_get (activation_at c r.activation).strands worker ≡ Some n → targets c (Some r) names vs ≡ Some rest → ((rest : List Target) → targets c (Some r) names vs ≡ Some rest → list_all (has_ended c) (strands_in rest) ≡ false → Unended (Some r) names) →
          (b : Bool) → has_ended c n ≡ b → (b && list_all (has_ended c) (strands_in rest)) ≡ false → Unended (Some r) (Some worker ∷ names)
      at n rest runs are more false is all = record { r = r; is = refl; worker = worker; among = (0, omega arith, refl); strand = n; runs = runs; left = is }
      at n rest runs are more true is all = skips-one (Some r) worker names (more rest are all)

      by : (o : Option ℕ) (p : Option (List Target)) → slice_get (activation_at c r.activation).strands worker ≡ o → targets c (Some r) names vs ≡ p → with_target (option_map (λ n. record { strand = n; is_worker = true }) o) p ≡ Some ts →
          ((rest : List Target) → targets c (Some r) names vs ≡ Some rest → list_all (has_ended c) (strands_in rest) ≡ false → Unended (Some r) names) → Unended (Some r) (Some worker ∷ names)
      by (Some n) (Some rest) runs are e more =
          at n rest runs are more (has_ended c n) refl (ap (λ l. list_all (has_ended c) (strands_in l)) (some-same (let t : Target = record { strand = n; is_worker = true } in t ∷ rest) ts e) ∙ left)
      by (Some n) None runs are e more = absurd (let q : ⊥ = cc in q)
      by None p runs are e more = absurd (let q : ⊥ = cc in q)
  unended (Some r) (None ∷ names) (Future n unit ∷ vs) ts e none left = absurd (none n unit (inl refl))
  unended None (None ∷ names) (Future n unit ∷ vs) ts e none left = absurd (none n unit (inl refl))
  unended (Some r) (None ∷ names) _ ts e none left = absurd (let q : ⊥ = cc in q)
  unended None (None ∷ names) _ ts e none left = absurd (let q : ⊥ = cc in q)

  -- the worker whose message or receipt a need names is there
  abbrev pub NamesWorker : Need → Type 0
  NamesWorker (Message a from to) = from < length (activation_at c a).ends
  NamesWorker (Received a from to count) = to < length (activation_at c a).ends
  NamesWorker (AllEnded ns) = ⊤
  NamesWorker (AnyGiven ns) = ⊤

  unfinished-by : (a w : ℕ) → is_some (worker_end c a w) ≡ false → w < length (activation_at c a).ends → IsUnfinished c a w
  unfinished-by a w e lt = slice_get-get_or (activation_at c a).ends w None lt ∙ ap Some (none-of (worker_end c a w) e)

-- a worker that has to be awaited
record Awaits (c : Common) (role : Option Role) (talk : Talk) : Type 0 where
  r : Role
  is : role ≡ Some r
  worker : ℕ
  among : Contains (awaited_workers talk) worker
  unfinished : IsUnfinished c r.activation worker

module _ {C : Type 0} (natives : Answers) (M : Machine C) (s : State C) (holds : StrandsHold natives M Picking s) where
  abbrev c : Common
  c = s.common

  -- each named worker's strand was made for it
  abbrev pub AreCrews : Type 0
  AreCrews = (a w n : ℕ) → slice_get (activation_at c a).strands (suc w) ≡ Some n → IsSomeAnd (slice_get c.strands n) (λ x. x.role ≡ Some (role_of a (suc w)))

  module _ (crews : AreCrews) where
    -- so it has not ended as long as its strand has not
    named-unfinished : (a w n : ℕ) → w ≢ 0 → slice_get (activation_at c a).strands w ≡ Some n → has_ended c n ≡ false → IsUnfinished c a w
    named-unfinished a zero n ne runs left = absurd (ne refl)
    named-unfinished a (suc w) n ne runs left =
        in-some (slice_get c.strands n) (crews a w n runs) (λ x at role.
        let h = holds.strands n x at in
        let same : strand_at c n ≡ x = some-same _ _ (sym (slice_get-get_or c.strands n no_strand (within c.strands n x at)) ∙ at) in
        let none : end_in x.status ≡ None = ap (λ z. end_in z.status) (sym same) ∙ none-of (end_of c n) left in
        (on-has c n (role_of a (suc w)) (roles_of (frames_of s n)) h.on (has-lowest (role_of a (suc w)) (roles_of (frames_of s n)) ((h.named (role_of a (suc w)) role).1 none))).1)

    awaited : (facts : ProgramFacts) (o : Operation) (vs : List Value) (who : Caller) (need : Need) → WaitsAs facts o vs who c need → met c need ≡ false → NamesWorker c need → (TakesFutures o → NoFutures vs) → AwaitsNamed o → Awaits c who.role (talk_of o)
    awaited facts (op.Receive w) vs who need h unmet there none named =
        in-none vs h (λ empty k. in-some who.role k (λ r role e.
        record { r = r; is = role; worker = w; among = (0, omega arith, refl); unfinished = unfinished-by c r.activation w (or-both _ (is_some (worker_end c r.activation w)) (subst (λ z. met c z ≡ false) e unmet)).1 (subst (NamesWorker c) e there) }))
    awaited facts (op.Done w) vs who need h unmet there none named =
        in-none vs h (λ empty k. in-some who.role k (λ r role e.
        record { r = r; is = role; worker = w; among = (0, omega arith, refl); unfinished = unfinished-by c r.activation w (or-both _ (is_some (worker_end c r.activation w)) (subst (λ z. met c z ≡ false) e unmet)).1 (subst (NamesWorker c) e there) }))
    awaited facts (op.Flush w) vs who need h unmet there none named =
        in-none vs h (λ empty k. in-some who.role k (λ r role e.
        record { r = r; is = role; worker = w; among = (0, omega arith, refl); unfinished = unfinished-by c r.activation w (or-both _ (is_some (worker_end c r.activation w)) (subst (λ z. met c z ≡ false) e unmet)).1 (subst (NamesWorker c) e there) }))
    awaited facts (op.WaitWorker w) vs who need h unmet there none named =
        in-none vs h (λ empty k. in-some who.role k (λ r role k. in-some (worker_target c r w) k (λ t is e.
        let left : has_ended c t.strand ≡ false = first-false (has_ended c t.strand) (subst (λ z. met c z ≡ false) e unmet) in
        record { r = r; is = role; worker = w; among = (0, omega arith, refl); unfinished = named-unfinished r.activation w t.strand (named w (0, omega arith, refl)) (target-runs r w t is) left })))
      where
        target-runs : (r : Role) (w : ℕ) (t : Target) → worker_target c r w ≡ Some t → slice_get (activation_at c r.activation).strands w ≡ Some t.strand
        target-runs r w t is = by (slice_get (activation_at c r.activation).strands w) is
          where
            by : (o : Option ℕ) → option_map (λ n. record { strand = n; is_worker = true }) o ≡ Some t → o ≡ Some t.strand
            by (Some n) e = ap (λ (x : Target). Some x.strand) (some-same _ t e)
            by None e = absurd (let q : ⊥ = cc in q)
    awaited facts op.WaitFuture vs who need h unmet there none named =
        absurd (in-one vs h (λ f is k. in-future f k (λ n unit same e. none tt n unit (subst (IsAmong (Future n unit)) (sym is) (inl same)))))
    awaited facts (op.WaitAny names) vs who need h unmet there none named =
        in-some (targets c who.role names vs) h (λ ts are e.
        let x = unended c who.role names vs ts are (none tt) (or-both _ (list_all (has_ended c) (strands_in ts)) (subst (λ z. met c z ≡ false) e unmet)).1 in
        record { r = x.r; is = x.is; worker = x.worker; among = x.among; unfinished = named-unfinished x.r.activation x.worker x.strand (named x.worker x.among) x.runs x.left })
    awaited facts (op.WaitAll atom names) vs who need h unmet there none named =
        in-some (slice_get facts.atoms atom) h (λ d known k. in-some (targets c who.role names vs) k (λ ts are e.
        let x = unended c who.role names vs ts are (none tt) (subst (λ z. met c z ≡ false) e unmet) in
        record { r = x.r; is = x.is; worker = x.worker; among = x.among; unfinished = named-unfinished x.r.activation x.worker x.strand (named x.worker x.among) x.runs x.left }))
    awaited facts o vs who need h unmet there none named = absurd h

    -- ---- strands that have stopped

    -- what the top frame of each blocked strand asks for names workers, and takes no future
    abbrev pub WaitForWorkers : Type 0
    WaitForWorkers =
        (n : ℕ) (need : Need) (f : Frame C) (fs : List (Frame C)) (o : Operation) (vs : List Value) (k : C) → n < length c.strands → (strand_at c n).status ≡ IsBlocked need →
        frames_of s n ≡ f ∷ fs → M.look f.unit f.control ≡ Does o vs k → NamesWorker c need × (TakesFutures o → NoFutures vs) × AwaitsNamed o

    abbrev need_of : Effect → Need
    need_of (WaitsEffect need) = need
    need_of _ = AnyGiven []

    -- an alternate wait for nothing is met
    none-any : (facts : ProgramFacts) (who : Caller) (need : Need) (vs : List Value) → Performs facts natives (op.WaitAny []) vs who c (WaitsEffect need) → met c need ≡ false → ⊥
    none-any facts who need [] h unmet = let same : need ≡ AnyGiven [] = ap need_of h in let bad : true ≡ false = ap (met c) (sym same) ∙ unmet in let q : ⊥ = cc in q
    none-any facts who need (v ∷ vs) h unmet = h

    module _ (idle : c.ready ≡ []) (waits : WaitForWorkers) where
      record Stopped (n : ℕ) : Type 0 where
        need : Need
        blocked : (strand_at c n).status ≡ IsBlocked need
        frame : Frame C
        below : List (Frame C)
        is : frames_of s n ≡ frame ∷ below
        operation : Operation
        operands : List Value
        control : C
        looks : M.look frame.unit frame.control ≡ Does operation operands control
        awaits : Awaits c frame.role (talk_of operation)

      module _ (n : ℕ) (lt : n < length c.strands) where
        at : slice_get c.strands n ≡ Some (strand_at c n)
        at = slice_get-get_or c.strands n no_strand lt

        strand : StrandHolds natives M Picking s n (strand_at c n)
        strand = holds.strands n (strand_at c n) at

        stopped-by : (need : Need) → (strand_at c n).status ≡ IsBlocked need → Stopped n
        stopped-by need blocked = by (frames_of s n) refl (strand.blocked need blocked).1
          where
            unmet : met c need ≡ false
            unmet = (strand.blocked need blocked).0

            by-ask : (f : Frame C) (fs : List (Frame C)) → frames_of s n ≡ f ∷ fs → (ask : Ask C) → M.look f.unit f.control ≡ ask → StillWaits natives M Picking s need f fs ask → Stopped n
            by-ask f fs is (On k) looks still = absurd still
            by-ask f fs is Stuck looks still = absurd still
            by-ask f fs is (Does o vs k) looks still =
                let w = waits n need f fs o vs k lt blocked is looks in
                let shape = performs-shape M.facts natives vs (caller f fs) c (WaitsEffect need) o (λ names e empty. none-any M.facts (caller f fs) need vs (subst (λ x. Performs M.facts natives x vs (caller f fs) c (WaitsEffect need)) (e ∙ ap op.WaitAny empty) still) unmet) still in
                record {
                  need = need;
                  blocked = blocked;
                  frame = f;
                  below = fs;
                  is = is;
                  operation = o;
                  operands = vs;
                  control = k;
                  looks = looks;
                  awaits = awaited M.facts o vs (caller f fs) need shape.0 unmet w.0 w.1 w.2;
                }

            by : (fs : List (Frame C)) → frames_of s n ≡ fs → TopWaits natives M Picking s need fs → Stopped n
            by [] is still = absurd still
            by (f ∷ fs) is still = by-ask f fs is (M.look f.unit f.control) refl still

        -- a strand has ended, or it has stopped
        ended-or : (has_ended c n ≡ true) ⊎ Stopped n
        ended-or = by (strand_at c n).status refl
          where
            by : (status : Status) → (strand_at c n).status ≡ status → (has_ended c n ≡ true) ⊎ Stopped n
            by (IsEnded k end) e = inl (ap (λ x. is_some (end_in x)) e)
            by (IsBlocked need) e = inr (stopped-by need e)
            by IsActive e =
                let none : times n c.ready ≡ 0 = ap (times n) idle in
                let one : due Picking c n ≡ 1 = ap (λ o. due_in Picking c.running n (option_map (λ x. x.status) o)) at ∙ ap (λ x. due_in Picking c.running n (Some x)) e in
                let all = holds.ready n in
                absurd (omega (arith, none, one, all))

        -- one with frames has stopped
        stopped-at : (r : Role) → top_role (frames_of s n) ≡ Some r → Stopped n
        stopped-at r top = by (strand_at c n).status refl
          where
            by : (status : Status) → (strand_at c n).status ≡ status → Stopped n
            by (IsEnded k end) e =
                let over : end_in (strand_at c n).status ≢ None = (λ none. let bad : Some end ≡ None = ap end_in (sym e) ∙ none in let q : ⊥ = cc in q) in
                absurd (none-some r (sym (ap top_role (strand.ended over)) ∙ top))
            by (IsBlocked need) e = stopped-by need e
            by IsActive e = keep ended-or
              where
                keep : (has_ended c n ≡ true) ⊎ Stopped n → Stopped n
                keep (inr h) = h
                keep (inl h) = absurd (let bad : false ≡ true = ap (λ x. is_some (end_in x)) (sym e) ∙ h in let q : ⊥ = cc in q)

        module _ (x : Stopped n) where
          abbrev r : Role
          r = x.awaits.r

          top-is : top_role (frames_of s n) ≡ Some r
          top-is = ap top_role x.is ∙ x.awaits.is

          on-it : IsOn c n (Some r)
          on-it = on-has c n r (roles_of (frames_of s n)) strand.on (subst (λ l. HasRole r (roles_of l)) (sym x.is) (inl x.awaits.is))

          runs-in : r.activation < length c.activations
          runs-in = by (cases_lt r.activation (length c.activations))
            where
              by : (r.activation < length c.activations) ⊎ (length c.activations ≤ r.activation) → r.activation < length c.activations
              by (inl lt) = lt
              by (inr le) = absurd (none-some n (sym (ap (λ z. slice_get z.strands r.worker) (get-past c.activations r.activation no_activation le)) ∙ on-it.0))

          last-is : IsLastOf s (length c.activations) n r.activation r.worker
          last-is = record { strand = lt; activation = runs-in; role = top-is; unfinished = on-it.1 }

          stops-is : StopsAt M s r.activation r.worker n (talk_of x.operation)
          stops-is =
              record {
                runs = on-it.0;
                need = x.need;
                blocked = x.blocked;
                role = top-is;
                next = subst (λ l. IsSomeAnd (next_operation M l) (λ o. talk_of o.0 ≡ talk_of x.operation)) (sym x.is) (subst (λ a. IsSomeAnd (does_in a) (λ o. talk_of o.0 ≡ talk_of x.operation)) (sym x.looks) refl);
              }

          waits-is : Waits M s r.activation r.worker x.awaits.worker
          waits-is = record { strand = n; talk = talk_of x.operation; stops = stops-is; awaits = x.awaits.among; unfinished = x.awaits.unfinished }

      -- ---- so the state is stuck

      later-is : (a w : ℕ) → IsUnfinished c a w → (n b x : ℕ) × IsLastOf s (length c.activations) n b x × ((a < b) ⊎ ((b ≡ a) × (x ≡ w)))
      later-is a w left = by (cases_lt a (length c.activations))
        where
          past : length c.activations ≤ a → ⊥
          past le = none-some _ (sym (ap (λ z. slice_get z.ends w) (get-past c.activations a no_activation le)) ∙ left)

          behind : (n : ℕ) (lt : n < length c.strands) (r : Role) (rs : List (Option Role)) → IsLaterThanAll (Some r) rs → HasRole (role_of a w) rs → a < r.activation
          behind n lt r rs later has = later-than r rs (role_of a w) later has

          at-strand : (n : ℕ) (lt : n < length c.strands) (x : Stopped n) → HasRole (role_of a w) (roles_of (frames_of s n)) → (n b x : ℕ) × IsLastOf s (length c.activations) n b x × ((a < b) ⊎ ((b ≡ a) × (x ≡ w)))
          at-strand n lt x has = (n, x.awaits.r.activation, x.awaits.r.worker, last-is n lt x, place (subst (λ l. HasRole (role_of a w) (roles_of l)) x.is has))
            where
              rising : Rise (roles_of (x.frame ∷ x.below))
              rising = subst (λ l. Rise (roles_of l)) x.is (strand n lt).rise

              place : (x.frame.role ≡ Some (role_of a w)) ⊎ HasRole (role_of a w) (roles_of x.below) → (a < x.awaits.r.activation) ⊎ ((x.awaits.r.activation ≡ a) × (x.awaits.r.worker ≡ w))
              place (inl e) = let same = some-same x.awaits.r (role_of a w) (sym x.awaits.is ∙ e) in inr (ap (λ z. z.activation) same, ap (λ z. z.worker) same)
              place (inr h) = inl (behind n lt x.awaits.r (roles_of x.below) (subst (λ role. IsLaterThanAll role (roles_of x.below)) x.awaits.is rising.0) h)

          of-strand : (n : ℕ) (lt : n < length c.strands) (fs : List (Frame C)) → frames_of s n ≡ fs → HasRole (role_of a w) (roles_of fs) → Stopped n
          of-strand n lt [] is has = absurd has
          of-strand n lt (f ∷ fs) is has = keep (ended-or n lt)
            where
              keep : (has_ended c n ≡ true) ⊎ Stopped n → Stopped n
              keep (inr h) = h
              keep (inl h) =
                  let over : end_in (strand_at c n).status ≢ None = (λ none. let bad : true ≡ false = sym h ∙ ap is_some none in let q : ⊥ = cc in q) in
                  absurd (let bad : f ∷ fs ≡ [] = sym is ∙ (strand n lt).ended over in let l = ap length bad in omega (arith, l))

          by : (a < length c.activations) ⊎ (length c.activations ≤ a) → (n b x : ℕ) × IsLastOf s (length c.activations) n b x × ((a < b) ⊎ ((b ≡ a) × (x ≡ w)))
          by (inr le) = absurd (past le)
          by (inl lt) =
              let h = holds.activations a (activation_at c a) (slice_get-get_or c.activations a no_activation lt) in
              let among = within (activation_at c a).ends w None left in
              let long = h.ends in
              let n : ℕ = get_or (activation_at c a).strands w 0 in
              let runs : slice_get (activation_at c a).strands w ≡ Some n = slice_get-get_or (activation_at c a).strands w 0 (omega (arith, among, long)) in
              let on = h.workers w n runs in
              at-strand n on.0 (of-strand n on.0 (frames_of s n) refl (on.1 left)) (on.1 left)

      pub are-stuck : AreStuck M s
      are-stuck =
          record {
            count = length c.activations;
            last = λ n lt. last n lt (ended-or n lt);
            waits = λ n a w l. waits-so n a w l;
            later = later-is;
          }
        where
          last : (n : ℕ) (lt : n < length c.strands) → (has_ended c n ≡ true) ⊎ Stopped n → (has_ended c n ≡ true) ⊎ ((a w : ℕ) × IsLastOf s (length c.activations) n a w)
          last n lt (inl h) = inl h
          last n lt (inr x) = inr (x.awaits.r.activation, x.awaits.r.worker, last-is n lt x)

          waits-so : (n a w : ℕ) → IsLastOf s (length c.activations) n a w → (u : ℕ) × Waits M s a w u
          waits-so n a w l =
              let x = stopped-at n l.strand (role_of a w) l.role in
              let same : x.awaits.r ≡ role_of a w = some-same x.awaits.r (role_of a w) (sym (top-is n l.strand x) ∙ l.role) in
              (x.awaits.worker, subst (λ r. Waits M s r.activation r.worker x.awaits.worker) same (waits-is n l.strand x))
