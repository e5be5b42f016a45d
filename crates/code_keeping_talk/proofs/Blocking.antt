-- The running strand blocks: what is shared stays good, and nobody whose need is met is blocked.
use Rattle.std.proofs.Common.{◌≡◌, ◌≢◌, ◌<◌, ◌+◌, ◌∙◌, ℕ, zero, suc, true, false, List, [], ◌∷◌, Option, Some, None, inl, inr, length, refl, sym, ap, subst, arith}
use Rattle.std.specs.Prelude.{◌⊎◌, ◌&&◌, ◌||◌, All, Contains, IsSomeAnd, IsTrue, get_or, if◌then◌else◌, is_some, not, slice_get, slice_set}
use Rattle.std.specs.List.{list_all, list_any}
use Rattle.value_model.specs.Heap.{values_of}
use Rattle.op_model.specs.Common.{AllEnded, AnyGiven, Common, End, IsActive, IsBlocked, Message, Need, Received, Role, Strand}
use Rattle.op_model.specs.Strands.{end_in, end_of, ended_count, has_ended, has_success, is_success, met, no_strand, strand_at, strand_blocked, with_status}
use Rattle.machine_model.specs.Runs.{Picking, Running}
use Rattle.machine_model.proofs.Once.{some-same}
use Rattle.stack_code.specs.declared.code.Code.{Code}
use Rattle.stack_code.specs.Good.{GoodCommon, GoodReady, IsKnown, IsLater, IsSameStrand, NeedIsThere, StrandAt, StrandFits, WorkerStays}
use Rattle.stack_code.specs.Values.{AllFit, GoodHeap, IsMade, IsWithinUnit}
use Rattle.code_keeping.proofs.Changing.{get-set-other, get-set-same, length-set, or-set-other, or-there, same-or-not}
use Rattle.code_keeping.proofs.Later.{activation-later, end-later, strand-later, to-run-later, variables-later}
use Rattle.code_keeping.proofs.Lists.{at-some, some-there, some-to}
use Rattle.code_keeping.proofs.Serving.{all-to}
use Rattle.code_keeping.proofs.Settling.{all-same, any-same}
use Rattle.code_keeping.proofs.Staying.{all-later, later-so, made-later, same-calls}
use Rattle.code_keeping_talk.specs.Laws.{BlockingKeeps}

-- as many have ended where one that hasn't is set to one that hasn't
count-set : (ss : List Strand) (n : ℕ) (s t : Strand) → slice_get ss n ≡ Some s → end_in s.status ≡ None → end_in t.status ≡ None → ended_count (slice_set ss n t) ≡ ended_count ss
count-set [] n s t e hs ht = refl
count-set (x ∷ ss) zero s t e hs ht =
    let hx : end_in x.status ≡ None = subst (λ (y : Strand). end_in y.status ≡ None) (sym (some-same x s e)) hs in
    ap (λ (o : Option End). (if is_some o then 1 else 0) + ended_count ss) (ht ∙ sym hx)
count-set (x ∷ ss) (suc n) s t e hs ht = ap (λ k. (if is_some (end_in x.status) then 1 else 0) + k) (count-set ss n s t e hs ht)

not-ended : (z : Strand) → z.status ≡ IsActive → IsTrue (is_some (end_in z.status)) → ⊥
not-ended z a h = let k : IsTrue (is_some (end_in IsActive)) = subst (λ y. IsTrue (is_some (end_in y))) a h in let q : ⊥ = cc in q

module _ (code : Code) (c : Common) (need : Need) (good : GoodCommon code c Running) where
  abbrev d : Common
  d = strand_blocked need c

  abbrev me : ℕ
  me = c.running

  -- the running strand, which is active
  its : (s : Strand) × (slice_get c.strands me ≡ Some s) × (s.status ≡ IsActive)
  its = some-there (λ (s : Strand). s.status ≡ IsActive) (slice_get c.strands me) good.nearly.ready.running.0

  abbrev s : Strand
  s = its.0

  at-me : strand_at c me ≡ s
  at-me = or-there c.strands me s no_strand its.1

  active : (strand_at c me).status ≡ IsActive
  active = ap (λ (z : Strand). z.status) at-me ∙ its.2

  abbrev new : Strand
  new = with_status (strand_at c me) (IsBlocked need)

  new-there : slice_get d.strands me ≡ Some new
  new-there = get-set-same c.strands me new s its.1

  -- each strand is as it was, or is the one that blocks
  each : (P : ℕ → Strand → Type 0) → P me new → ((n : ℕ) (z : Strand) → me ≢ n → slice_get c.strands n ≡ Some z → P n z) → (n : ℕ) (z : Strand) → slice_get d.strands n ≡ Some z → P n z
  each P mine other n z e = by (same-or-not me n)
    where
      by : (me ≡ n) ⊎ (me ≢ n) → P n z
      by (inl is) = subst (λ k. P k z) is (subst (λ y. P me y) (some-same new z (sym new-there ∙ subst (λ k. slice_get d.strands k ≡ Some z) (sym is) e)) mine)
      by (inr ne) = other n z ne (sym (get-set-other c.strands me n new ne) ∙ e)

  ended-is : (n : ℕ) → end_of d n ≡ end_of c n
  ended-is n = by (same-or-not me n)
    where
      by : (me ≡ n) ⊎ (me ≢ n) → end_of d n ≡ end_of c n
      by (inl is) = subst (λ k. end_of d k ≡ end_of c k) is (ap (λ (z : Strand). end_in z.status) (or-there d.strands me new no_strand new-there) ∙ sym (ap end_in active))
      by (inr ne) = ap (λ (z : Strand). end_in z.status) (or-set-other c.strands me n new no_strand ne)

  taken-is : (n : ℕ) → (strand_at d n).taken ≡ (strand_at c n).taken
  taken-is n = by (same-or-not me n)
    where
      by : (me ≡ n) ⊎ (me ≢ n) → (strand_at d n).taken ≡ (strand_at c n).taken
      by (inl is) = subst (λ k. (strand_at d k).taken ≡ (strand_at c k).taken) is (ap (λ (z : Strand). z.taken) (or-there d.strands me new no_strand new-there))
      by (inr ne) = ap (λ (z : Strand). z.taken) (or-set-other c.strands me n new no_strand ne)

  has-is : (n : ℕ) → has_ended d n ≡ has_ended c n
  has-is n = ap (λ (o : Option End). is_some o) (ended-is n)

  success-is : (n : ℕ) → has_success d n ≡ has_success c n
  success-is n = ap (λ (o : Option End). is_success o && not (strand_at d n).taken) (ended-is n) ∙ ap (λ b. is_success (end_of c n) && not b) (taken-is n)

  met-is : (other : Need) → met d other ≡ met c other
  met-is (Message a from to) = refl
  met-is (Received a from to count) = refl
  met-is (AllEnded ns) = all-same (has_ended d) (has_ended c) has-is ns
  met-is (AnyGiven ns) = ap (λ b. b || list_all (has_ended d) ns) (any-same (has_success d) (has_success c) success-is ns) ∙ ap (λ b. list_any (has_success c) ns || b) (all-same (has_ended d) (has_ended c) has-is ns)

  -- ---- what comes later

  pub later : (q : Option Role) → IsLater q c d
  later q = later-so q c d refl strands (same-calls c) (stay q)
    where
      stay : (q : Option Role) → WorkerStays q c d
      stay (Some r) = ((λ w. (refl, refl)), refl)
      stay None = tt

      strands : (n : ℕ) (z : Strand) → slice_get c.strands n ≡ Some z → IsSomeAnd (slice_get d.strands n) (IsSameStrand z)
      strands n z e = by (same-or-not me n)
        where
          by : (me ≡ n) ⊎ (me ≢ n) → IsSomeAnd (slice_get d.strands n) (IsSameStrand z)
          by (inr ne) = at-some (IsSameStrand z) (slice_get d.strands n) z (get-set-other c.strands me n new ne ∙ e) (refl, refl, λ h. h)
          by (inl is) =
              let same : s ≡ z = some-same s z (sym its.1 ∙ subst (λ k. slice_get c.strands k ≡ Some z) (sym is) e) in
              subst (λ k. IsSomeAnd (slice_get d.strands k) (IsSameStrand z)) is
              (at-some (IsSameStrand z) (slice_get d.strands me) new new-there
              (ap (λ (y : Strand). y.unit) (at-me ∙ same), ap (λ (y : Strand). y.role) (at-me ∙ same), λ h. absurd (not-ended z (subst (λ (y : Strand). y.status ≡ IsActive) same its.2) h)))

  -- ---- all that is shared

  module _ (there : NeedIsThere code c need) (open-need : met c need ≡ false) where
    many : length d.strands ≡ length c.strands
    many = length-set c.strands me new

    need-so : (other : Need) → NeedIsThere code c other → NeedIsThere code d other
    need-so (Message a from to) h = h
    need-so (Received a from to count) h = h
    need-so (AllEnded ns) h = all-to (λ n. n < length c.strands) (λ n. n < length d.strands) (λ n k. subst (λ m. n < m) (sym many) k) ns h
    need-so (AnyGiven ns) h = all-to (λ n. n < length c.strands) (λ n. n < length d.strands) (λ n k. subst (λ m. n < m) (sym many) k) ns h

    heap-so : GoodHeap code c → GoodHeap code d
    heap-so h =
        record {
          mutable = h.mutable;
          immutable = h.immutable;
          members = all-to (λ s. All (IsMade code c) (values_of s.members)) (λ s. All (IsMade code d) (values_of s.members)) (λ s k. all-to (IsMade code c) (IsMade code d) (made-later code None c d (later None)) (values_of s.members) k) c.world.heap.structures h.members;
          functions = all-to (IsWithinUnit code c) (IsWithinUnit code d) (λ f k. (k.0, some-to (λ u. AllFit code c f.captured u.captured) (λ u. AllFit code d f.captured u.captured) (slice_get code.units f.unit) (λ u m. all-later code None c d (later None) f.captured u.captured m) k.1)) c.world.heap.functions h.functions;
          valid = h.valid;
          closed = h.closed;
          short = h.short;
          apart = h.apart;
        }

    count-is : ended_count d.strands ≡ ended_count c.strands
    count-is = count-set c.strands me s new its.1 (ap end_in its.2) refl

    strand-so : (n : ℕ) (z : Strand) → StrandFits code c n z → StrandFits code d n z
    strand-so n z h =
        record {
          end = end-later code c d (later None) n z.unit (end_in z.status) h.end;
          need = λ other e. need-so other (h.need other e);
          before = λ k end e. subst (λ m. k < m) (sym count-is) (h.before k end e);
          taken = h.taken;
        }

    need-same : (other : Need) → IsBlocked need ≡ IsBlocked other → need ≡ other
    need-same other e = let q : need ≡ other = cc in q

    mine-fits : StrandFits code d me new
    mine-fits =
        record {
          end = tt;
          need = λ other e. subst (λ y. NeedIsThere code d y) (need-same other e) (need-so need there);
          before = λ k end e. absurd (let q : ⊥ = cc in q);
          taken = λ t. absurd (let k : IsTrue (is_some (end_in s.status)) = (good.nearly.strands me s its.1).taken (subst (λ (y : Strand). IsTrue y.taken) at-me t) in let z : IsTrue (is_some (end_in IsActive)) = subst (λ y. IsTrue (is_some (end_in y))) its.2 k in let q : ⊥ = cc in q);
        }

    ready-so : GoodReady code d Picking
    ready-so =
        record {
          active = λ k n l. still _ (good.nearly.ready.active k n l) (λ e. good.nearly.ready.running.1 (k, l, or-same k n l e));
          once = good.nearly.ready.once;
          known = each (λ n z. z.status ≡ IsActive → IsKnown code d Picking n) (λ e. absurd (let q : ⊥ = cc in q)) (λ n z ne e a. other n ne (good.nearly.ready.known n z e a));
          running = tt;
          there = subst (λ m. me < m) (sym many) good.nearly.ready.there;
        }
      where
        still : (n : ℕ) → StrandAt code c n (λ s. s.status ≡ IsActive) → me ≢ n → StrandAt code d n (λ s. s.status ≡ IsActive)
        still n h ne = subst (λ o. IsSomeAnd o (λ (s : Strand). s.status ≡ IsActive)) (sym (get-set-other c.strands me n new ne)) h

        or-same : (k n : ℕ) → k < length c.ready → me ≡ get_or c.ready k n → get_or c.ready k me ≡ me
        or-same k n l e = same-default c.ready k n me l ∙ sym e
          where
            same-default : (xs : List ℕ) (k a b : ℕ) → k < length xs → get_or xs k b ≡ get_or xs k a
            same-default [] k a b l = absurd (omega (arith, l))
            same-default (x ∷ xs) zero a b l = refl
            same-default (x ∷ xs) (suc k) a b l = same-default xs k a b (omega (arith, l))

        other : (n : ℕ) → me ≢ n → Contains c.ready n ⊎ (n ≡ me) → Contains c.ready n
        other n ne (inl k) = k
        other n ne (inr e) = absurd (ne (sym e))

    pub blocked : GoodCommon code d Picking
    blocked =
        record {
          nearly = record {
            heap = heap-so good.nearly.heap;
            variables = variables-later code c d (later None) c.variables code.variables good.nearly.variables;
            strands = each (StrandFits code d) mine-fits (λ n z ne e. strand-so n z (good.nearly.strands n z e));
            activations = λ a x e. activation-later code c d (later None) a x (good.nearly.activations a x e);
            to_run = to-run-later code c d (later None) c.to_run good.nearly.to_run;
            ready = ready-so;
            main = strand-later code c d (later None) 0 (λ unit role. (unit ≡ code.start) × (role ≡ None)) good.nearly.main;
          };
          settled = each (λ n z. (other : Need) → z.status ≡ IsBlocked other → ¬ (IsTrue (met d other)))
              (λ other e m. mine other (subst (λ y. met d y ≡ true) (sym (need-same other e)) m))
              (λ n z ne e other is m. good.settled n z e other is (subst IsTrue (met-is other) m));
        }
      where
        mine : (other : Need) → met d need ≡ true → ⊥
        mine other m = let k : met c need ≡ true = sym (met-is need) ∙ m in let q : ⊥ = cc in q

pub blocking-keeps : BlockingKeeps
blocking-keeps code c need good there open-need = (blocked code c need good there open-need, later code c need good)
