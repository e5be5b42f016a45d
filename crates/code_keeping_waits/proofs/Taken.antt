-- The result of a strand is taken: all that is shared stays good, and what held holds.
use Rattle.std.proofs.Common.{◌≡◌, ◌≢◌, ◌<◌, ◌+◌, ◌∙◌, ℕ, zero, suc, Bool, true, false, List, [], ◌∷◌, Option, Some, None, inl, inr, length, refl, sym, ap, subst}
use Rattle.std.specs.Prelude.{◌⊎◌, All, IsSomeAnd, IsTrue, if◌then◌else◌, is_some, slice_get, slice_set}
use Rattle.value_model.specs.Heap.{values_of}
use Rattle.op_model.specs.Common.{AllEnded, AnyGiven, Common, IsActive, IsBlocked, Message, Need, Received, Role, Strand}
use Rattle.op_model.specs.Strands.{end_in, ended_count, met, no_strand, strand_at}
use Rattle.op_model.specs.Waits.{future_target, took}
use Rattle.machine_model.specs.Keeping.{KeepsStrands}
use Rattle.machine_model.specs.Runs.{Running}
use Rattle.machine_model.proofs.Alike.{calm-took}
use Rattle.machine_model.proofs.Once.{some-same}
use Rattle.stack_code.specs.declared.code.Code.{Code}
use Rattle.stack_code.specs.Good.{GoodCommon, GoodReady, IsKnown, IsLater, IsSameStrand, NeedIsThere, StrandAt, StrandFits, WorkerStays}
use Rattle.stack_code.specs.Values.{AllFit, GoodHeap, IsMade, IsWithinUnit}
use Rattle.code_keeping.proofs.Changing.{get-set-other, get-set-same, length-set, or-there, same-or-not}
use Rattle.code_keeping.proofs.Later.{activation-later, end-later, strand-later, to-run-later, variables-later}
use Rattle.code_keeping.proofs.Lists.{at-some, some-there, some-to}
use Rattle.code_keeping.proofs.Serving.{all-to}
use Rattle.code_keeping.proofs.Staying.{all-later, later-so, made-later, same-calls}

-- as many have ended where one is set to one that has ended as it has
count-same : (ss : List Strand) (n : ℕ) (s t : Strand) → slice_get ss n ≡ Some s → end_in t.status ≡ end_in s.status → ended_count (slice_set ss n t) ≡ ended_count ss
count-same [] n s t e same = refl
count-same (x ∷ ss) zero s t e same =
    ap (λ o. (if is_some o then 1 else 0) + ended_count ss) (same ∙ sym (ap (λ (y : Strand). end_in y.status) (some-same x s e)))
count-same (x ∷ ss) (suc n) s t e same = ap (λ k. (if is_some (end_in x.status) then 1 else 0) + k) (count-same ss n s t e same)

module _ (code : Code) (c : Common) (good : GoodCommon code c Running) (n : ℕ) (s : Strand) (es : slice_get c.strands n ≡ Some s) (ended : IsTrue (is_some (end_in s.status))) where
  abbrev pub d : Common
  d = took c (future_target n)

  its : strand_at c n ≡ s
  its = or-there c.strands n s no_strand es

  abbrev new : Strand
  new = record { unit = (strand_at c n).unit; role = (strand_at c n).role; status = (strand_at c n).status; taken = true }

  new-there : slice_get d.strands n ≡ Some new
  new-there = get-set-same c.strands n new s es

  many : length d.strands ≡ length c.strands
  many = length-set c.strands n new

  pub keeps : KeepsStrands c d
  keeps = (refl, many)

  -- each strand is as it was, or is the one whose result is taken
  each : (P : ℕ → Strand → Type 0) → P n new → ((k : ℕ) (z : Strand) → slice_get c.strands k ≡ Some z → P k z) → (k : ℕ) (z : Strand) → slice_get d.strands k ≡ Some z → P k z
  each P mine other k z e = by (same-or-not n k)
    where
      by : (n ≡ k) ⊎ (n ≢ k) → P k z
      by (inl is) = subst (λ j. P j z) is (subst (λ y. P n y) (some-same new z (sym new-there ∙ subst (λ j. slice_get d.strands j ≡ Some z) (sym is) e)) mine)
      by (inr ne) = other k z (sym (get-set-other c.strands n k new ne) ∙ e)

  -- what is said of the unit, the role and the status of a strand is said of it still
  still : (P : Strand → Type 0) → (P s → P new) → (k : ℕ) → IsSomeAnd (slice_get c.strands k) P → IsSomeAnd (slice_get d.strands k) P
  still P mine k h = by (same-or-not n k)
    where
      by : (n ≡ k) ⊎ (n ≢ k) → IsSomeAnd (slice_get d.strands k) P
      by (inr ne) = subst (λ o. IsSomeAnd o P) (sym (get-set-other c.strands n k new ne)) h
      by (inl is) =
          let (z, ez, p) = some-there P (slice_get c.strands k) h in
          let same : z ≡ s = some-same z s (sym ez ∙ subst (λ j. slice_get c.strands j ≡ Some s) is es) in
          subst (λ j. IsSomeAnd (slice_get d.strands j) P) is (at-some P (slice_get d.strands n) new new-there (mine (subst P same p)))

  -- ---- what comes later

  pub later : (q : Option Role) → IsLater q c d
  later q = later-so q c d refl strands (same-calls c) (stay q)
    where
      stay : (q : Option Role) → WorkerStays q c d
      stay (Some r) = ((λ w. (refl, refl)), refl)
      stay None = tt

      strands : (k : ℕ) (z : Strand) → slice_get c.strands k ≡ Some z → IsSomeAnd (slice_get d.strands k) (IsSameStrand z)
      strands k z e = by (same-or-not n k)
        where
          by : (n ≡ k) ⊎ (n ≢ k) → IsSomeAnd (slice_get d.strands k) (IsSameStrand z)
          by (inr ne) = at-some (IsSameStrand z) (slice_get d.strands k) z (get-set-other c.strands n k new ne ∙ e) (refl, refl, λ h. h)
          by (inl is) =
              let same : s ≡ z = some-same s z (sym es ∙ subst (λ j. slice_get c.strands j ≡ Some z) (sym is) e) in
              subst (λ j. IsSomeAnd (slice_get d.strands j) (IsSameStrand z)) is
              (at-some (IsSameStrand z) (slice_get d.strands n) new new-there
              (ap (λ (y : Strand). y.unit) (its ∙ same), ap (λ (y : Strand). y.role) (its ∙ same), λ h. subst (λ (y : Strand). IsTrue (is_some (end_in y.status))) (sym (its ∙ same)) h))

  -- ---- all that is shared

  need-so : (need : Need) → NeedIsThere code c need → NeedIsThere code d need
  need-so (Message a from to) h = h
  need-so (Received a from to count) h = h
  need-so (AllEnded ns) h = all-to (λ k. k < length c.strands) (λ k. k < length d.strands) (λ k l. subst (λ m. k < m) (sym many) l) ns h
  need-so (AnyGiven ns) h = all-to (λ k. k < length c.strands) (λ k. k < length d.strands) (λ k l. subst (λ m. k < m) (sym many) l) ns h

  heap-so : GoodHeap code c → GoodHeap code d
  heap-so h =
      record {
        mutable = h.mutable;
        immutable = h.immutable;
        members = all-to (λ s. All (IsMade code c) (values_of s.members)) (λ s. All (IsMade code d) (values_of s.members)) (λ s k. all-to (IsMade code c) (IsMade code d) (made-later code None c d (later None)) (values_of s.members) k) c.world.heap.structures h.members;
        functions = all-to (IsWithinUnit code c) (IsWithinUnit code d) (λ f k. (k.0, some-to (λ u. AllFit code c f.captured u.captured) (λ u. AllFit code d f.captured u.captured) (slice_get code.units f.unit) (λ u m. all-later code None c d (later None) f.captured u.captured m) k.1)) c.world.heap.functions h.functions;
        valid = h.valid;
        closed = h.closed;
        short = h.short;
        apart = h.apart;
      }

  count-is : ended_count d.strands ≡ ended_count c.strands
  count-is = count-same c.strands n s new es (ap (λ (z : Strand). end_in z.status) its)

  strand-so : (k : ℕ) (z : Strand) → StrandFits code c k z → StrandFits code d k z
  strand-so k z h =
      record {
        end = end-later code c d (later None) k z.unit (end_in z.status) h.end;
        need = λ need e. need-so need (h.need need e);
        before = λ j end e. subst (λ m. j < m) (sym count-is) (h.before j end e);
        taken = h.taken;
      }

  mine-fits : StrandFits code d n new
  mine-fits =
      let h = subst (λ (z : Strand). StrandFits code c n z) (sym its) (good.nearly.strands n s es) in
      record {
        end = end-later code c d (later None) n (strand_at c n).unit (end_in (strand_at c n).status) h.end;
        need = λ need e. need-so need (h.need need e);
        before = λ j end e. subst (λ m. j < m) (sym count-is) (h.before j end e);
        taken = λ t. subst (λ (z : Strand). IsTrue (is_some (end_in z.status))) (sym its) ended;
      }

  ready-so : GoodReady code c Running → GoodReady code d Running
  ready-so h =
      record {
        active = all-to (λ k. StrandAt code c k (λ z. z.status ≡ IsActive)) (λ k. StrandAt code d k (λ z. z.status ≡ IsActive)) (λ k a. still (λ (z : Strand). z.status ≡ IsActive) (λ a. ap (λ (z : Strand). z.status) its ∙ a) k a) c.ready h.active;
        once = h.once;
        known = each (λ k z. z.status ≡ IsActive → IsKnown code d Running k) (λ a. h.known n s es (sym (ap (λ (z : Strand). z.status) its) ∙ a)) (λ k z e a. h.known k z e a);
        running = (still (λ (z : Strand). z.status ≡ IsActive) (λ a. ap (λ (z : Strand). z.status) its ∙ a) c.running h.running.0, h.running.1);
        there = subst (λ m. c.running < m) (sym many) h.there;
      }

  -- no need is met that was not
  unmet : (need : Need) → ¬ (IsTrue (met c need)) → ¬ (IsTrue (met d need))
  unmet need h = by (met c need) refl h
    where
      by : (b : Bool) → met c need ≡ b → ¬ (IsTrue b) → ¬ (IsTrue (met d need))
      by true e h m = h refl
      by false e h m = let k : met d need ≡ false = (calm-took None c (future_target n)).unmet need e in let q : ⊥ = cc in q

  pub taken-good : GoodCommon code d Running
  taken-good =
      record {
        nearly = record {
          heap = heap-so good.nearly.heap;
          variables = variables-later code c d (later None) c.variables code.variables good.nearly.variables;
          strands = each (StrandFits code d) mine-fits (λ k z e. strand-so k z (good.nearly.strands k z e));
          activations = λ a x e. activation-later code c d (later None) a x (good.nearly.activations a x e);
          to_run = to-run-later code c d (later None) c.to_run good.nearly.to_run;
          ready = ready-so good.nearly.ready;
          main = strand-later code c d (later None) 0 (λ unit role. (unit ≡ code.start) × (role ≡ None)) good.nearly.main;
        };
        settled = each (λ k z. (need : Need) → z.status ≡ IsBlocked need → ¬ (IsTrue (met d need))) (λ need e. unmet need (good.settled n s es need (sym (ap (λ (z : Strand). z.status) its) ∙ e)))
            (λ k z e need is. unmet need (good.settled k z e need is));
      }
