-- The running strand ends: what is shared stays good, before those who wake are ready.
use Rattle.std.proofs.Common.{◌≡◌, ◌≢◌, ◌<◌, ◌+◌, ◌∙◌, ℕ, zero, suc, Bool, List, [], ◌∷◌, Option, Some, None, inl, inr, length, refl, sym, ap, subst, arith}
use Rattle.std.specs.Prelude.{◌⊎◌, All, Contains, IsSomeAnd, IsTrue, get_or, if◌then◌else◌, is_some, slice_get, slice_set}
use Rattle.bal_base.specs.declared.shape.Shape.{Shape}
use Rattle.type_model.specs.declared.basic.SemType.{SemType}
use Rattle.operations.specs.Kinds.{IsError, IsNil}
use Rattle.operations.specs.Rows.{IsWithin}
use Rattle.value_model.specs.declared.value.Value.{Value}
use Rattle.value_model.specs.declared.value.Value.TheVariants.{Nil, Bool as Truth, Int, Str, Struct, Error, Function, Future}
use Rattle.value_model.specs.Heap.{Entries, Items, Members, Structure, values_of}
use Rattle.op_model.specs.Common.{AllEnded, AnyGiven, Common, End, IsActive, IsEnded, Message, Need, Panicked, Received, Returned, Role, Strand}
use Rattle.op_model.specs.Strands.{end_in, ended_count, has_ended, no_strand, strand_at, strand_ended, with_status}
use Rattle.machine_model.specs.Runs.{Picking, Running}
use Rattle.machine_model.proofs.Once.{some-same}
use Rattle.stack_code.specs.declared.code.Code.{Code}
use Rattle.stack_code.specs.declared.code.Unit.{Unit as CodeUnit}
use Rattle.stack_code.specs.Frames.{IsLowest}
use Rattle.stack_code.specs.Good.{EndFits, GoodReady, IsKnown, IsLater, IsSameStrand, IsNilOrError, NearlyCommon, NeedIsThere, ResultFits, StrandAt, StrandFits, WorkerStays}
use Rattle.stack_code.specs.Tables.{IsInitialiserWell, IsMain, ReturnsNilOrErrors, UnitAt}
use Rattle.stack_code.specs.Values.{AllFit, Fits, GoodHeap, IsMade, IsWithinUnit}
use Rattle.stack_code.specs.WellTyped.{WellTyped}
use Rattle.code_keeping.specs.Kinds.{Errors, Nils, kind_of, members_kind, structure_kind, value_kind}
use Rattle.code_keeping.proofs.Changing.{get-set-other, get-set-same, length-set, or-there, same-or-not}
use Rattle.code_keeping.proofs.Later.{activation-later, end-later, strand-later, to-run-later, variables-later}
use Rattle.code_keeping.proofs.Lists.{at-some, of-some, some-there, some-to}
use Rattle.code_keeping.proofs.OfKind.{of-kind}
use Rattle.code_keeping.proofs.Operands.{errors}
use Rattle.code_keeping.proofs.Serving.{all-to}
use Rattle.code_keeping.proofs.Staying.{all-later, error-later, later-so, made-later, same-calls}
use Rattle.code_keeping_talk.specs.Laws.{EndOfStrand, EndingKeeps}

abbrev as-number : Bool → ℕ
as-number b = if b then 1 else 0

-- one more has ended where one that hasn't is set to one that has
count-more : (ss : List Strand) (n : ℕ) (s t : Strand) → slice_get ss n ≡ Some s → end_in s.status ≡ None → IsTrue (is_some (end_in t.status)) → ended_count (slice_set ss n t) ≡ ended_count ss + 1
count-more [] n s t e hs ht = absurd (let q : ⊥ = cc in q)
count-more (x ∷ ss) zero s t e hs ht =
    let hx : end_in x.status ≡ None = subst (λ (y : Strand). end_in y.status ≡ None) (sym (some-same x s e)) hs in
    let one : as-number (is_some (end_in t.status)) ≡ 1 = ap as-number ht in
    let none : as-number (is_some (end_in x.status)) ≡ 0 = ap (λ (o : Option End). as-number (is_some o)) hx in
    omega (arith, one, none)
count-more (x ∷ ss) (suc n) s t e hs ht = let k = count-more ss n s t e hs ht in omega (arith, k)

not-ended : (z : Strand) → z.status ≡ IsActive → IsTrue (is_some (end_in z.status)) → ⊥
not-ended z a h = let k : IsTrue (is_some (end_in IsActive)) = subst (λ y. IsTrue (is_some (end_in y))) a h in let q : ⊥ = cc in q

module _ (code : Code) (c : Common) (end : End) (good : NearlyCommon code c Running) where
  abbrev d : Common
  d = strand_ended end c

  abbrev me : ℕ
  me = c.running

  -- the running strand, which is active
  pub its : (s : Strand) × (slice_get c.strands me ≡ Some s) × (s.status ≡ IsActive)
  its = some-there (λ (s : Strand). s.status ≡ IsActive) (slice_get c.strands me) good.ready.running.0

  abbrev s : Strand
  s = its.0

  at-me : strand_at c me ≡ s
  at-me = or-there c.strands me s no_strand its.1

  active : (strand_at c me).status ≡ IsActive
  active = ap (λ (z : Strand). z.status) at-me ∙ its.2

  abbrev new : Strand
  new = with_status (strand_at c me) (IsEnded (ended_count c.strands) end)

  new-there : slice_get d.strands me ≡ Some new
  new-there = get-set-same c.strands me new s its.1

  -- each strand is as it was, or is the one that blocks
  each : (P : ℕ → Strand → Type 0) → P me new → ((n : ℕ) (z : Strand) → me ≢ n → slice_get c.strands n ≡ Some z → P n z) → (n : ℕ) (z : Strand) → slice_get d.strands n ≡ Some z → P n z
  each P mine other n z e = by (same-or-not me n)
    where
      by : (me ≡ n) ⊎ (me ≢ n) → P n z
      by (inl is) = subst (λ k. P k z) is (subst (λ y. P me y) (some-same new z (sym new-there ∙ subst (λ k. slice_get d.strands k ≡ Some z) (sym is) e)) mine)
      by (inr ne) = other n z ne (sym (get-set-other c.strands me n new ne) ∙ e)

  -- ---- what comes later

  pub later : (q : Option Role) → IsLater q c d
  later q = later-so q c d refl strands (same-calls c) (stay q)
    where
      stay : (q : Option Role) → WorkerStays q c d
      stay (Some r) = ((λ w. (refl, refl)), refl)
      stay None = tt

      strands : (n : ℕ) (z : Strand) → slice_get c.strands n ≡ Some z → IsSomeAnd (slice_get d.strands n) (IsSameStrand z)
      strands n z e = by (same-or-not me n)
        where
          by : (me ≡ n) ⊎ (me ≢ n) → IsSomeAnd (slice_get d.strands n) (IsSameStrand z)
          by (inr ne) = at-some (IsSameStrand z) (slice_get d.strands n) z (get-set-other c.strands me n new ne ∙ e) (refl, refl, λ h. h)
          by (inl is) =
              let same : s ≡ z = some-same s z (sym its.1 ∙ subst (λ k. slice_get c.strands k ≡ Some z) (sym is) e) in
              subst (λ k. IsSomeAnd (slice_get d.strands k) (IsSameStrand z)) is
              (at-some (IsSameStrand z) (slice_get d.strands me) new new-there
              (ap (λ (y : Strand). y.unit) (at-me ∙ same), ap (λ (y : Strand). y.role) (at-me ∙ same), λ h. absurd (not-ended z (subst (λ (y : Strand). y.status ≡ IsActive) same its.2) h)))

  -- ---- all that is shared

  pub gone : IsTrue (has_ended d me)
  gone = subst (λ (z : Strand). IsTrue (is_some (end_in z.status))) (sym (or-there d.strands me new no_strand new-there)) refl

  module _ (fits : EndFits code d me s.unit (Some end)) where
    many : length d.strands ≡ length c.strands
    many = length-set c.strands me new

    need-so : (other : Need) → NeedIsThere code c other → NeedIsThere code d other
    need-so (Message a from to) h = h
    need-so (Received a from to count) h = h
    need-so (AllEnded ns) h = all-to (λ n. n < length c.strands) (λ n. n < length d.strands) (λ n k. subst (λ m. n < m) (sym many) k) ns h
    need-so (AnyGiven ns) h = all-to (λ n. n < length c.strands) (λ n. n < length d.strands) (λ n k. subst (λ m. n < m) (sym many) k) ns h

    heap-so : GoodHeap code c → GoodHeap code d
    heap-so h =
        record {
          mutable = h.mutable;
          immutable = h.immutable;
          members = all-to (λ s. All (IsMade code c) (values_of s.members)) (λ s. All (IsMade code d) (values_of s.members)) (λ s k. all-to (IsMade code c) (IsMade code d) (made-later code None c d (later None)) (values_of s.members) k) c.world.heap.structures h.members;
          functions = all-to (IsWithinUnit code c) (IsWithinUnit code d) (λ f k. (k.0, some-to (λ u. AllFit code c f.captured u.captured) (λ u. AllFit code d f.captured u.captured) (slice_get code.units f.unit) (λ u m. all-later code None c d (later None) f.captured u.captured m) k.1)) c.world.heap.functions h.functions;
          valid = h.valid;
          closed = h.closed;
          short = h.short;
          apart = h.apart;
        }

    count-is : ended_count d.strands ≡ ended_count c.strands + 1
    count-is = count-more c.strands me s new its.1 (ap end_in its.2) refl

    strand-so : (n : ℕ) (z : Strand) → StrandFits code c n z → StrandFits code d n z
    strand-so n z h =
        record {
          end = end-later code c d (later None) n z.unit (end_in z.status) h.end;
          need = λ other e. need-so other (h.need other e);
          before = λ k end e. let l = h.before k end e in let m = count-is in omega (arith, l, m);
          taken = h.taken;
        }

    same-place : (k : ℕ) (other : End) → IsEnded (ended_count c.strands) end ≡ IsEnded k other → ended_count c.strands ≡ k
    same-place k other e = let q : ended_count c.strands ≡ k = cc in q

    mine-fits : StrandFits code d me new
    mine-fits =
        record {
          end = subst (λ n. EndFits code d me n (Some end)) (sym (ap (λ (z : Strand). z.unit) at-me)) fits;
          need = λ other e. absurd (let q : ⊥ = cc in q);
          before = λ k other e. let l = same-place k other e in let m = count-is in omega (arith, l, m);
          taken = λ t. refl;
        }

    ready-so : GoodReady code d Picking
    ready-so =
        record {
          active = λ k n l. still _ (good.ready.active k n l) (λ e. good.ready.running.1 (k, l, or-same k n l e));
          once = good.ready.once;
          known = each (λ n z. z.status ≡ IsActive → IsKnown code d Picking n) (λ e. absurd (let q : ⊥ = cc in q)) (λ n z ne e a. other n ne (good.ready.known n z e a));
          running = tt;
          there = subst (λ m. me < m) (sym many) good.ready.there;
        }
      where
        still : (n : ℕ) → StrandAt code c n (λ s. s.status ≡ IsActive) → me ≢ n → StrandAt code d n (λ s. s.status ≡ IsActive)
        still n h ne = subst (λ o. IsSomeAnd o (λ (s : Strand). s.status ≡ IsActive)) (sym (get-set-other c.strands me n new ne)) h

        or-same : (k n : ℕ) → k < length c.ready → me ≡ get_or c.ready k n → get_or c.ready k me ≡ me
        or-same k n l e = same-default c.ready k n me l ∙ sym e
          where
            same-default : (xs : List ℕ) (k a b : ℕ) → k < length xs → get_or xs k b ≡ get_or xs k a
            same-default [] k a b l = absurd (omega (arith, l))
            same-default (x ∷ xs) zero a b l = refl
            same-default (x ∷ xs) (suc k) a b l = same-default xs k a b (omega (arith, l))

        other : (n : ℕ) → me ≢ n → Contains c.ready n ⊎ (n ≡ me) → Contains c.ready n
        other n ne (inl k) = k
        other n ne (inr e) = absurd (ne (sym e))

    pub ended : NearlyCommon code d Picking
    ended =
        record {
          heap = heap-so good.heap;
          variables = variables-later code c d (later None) c.variables code.variables good.variables;
          strands = each (StrandFits code d) mine-fits (λ n z ne e. strand-so n z (good.strands n z e));
          activations = λ a x e. activation-later code c d (later None) a x (good.activations a x e);
          to_run = to-run-later code c d (later None) c.to_run good.to_run;
          ready = ready-so;
          main = strand-later code c d (later None) 0 (λ unit role. (unit ≡ code.start) × (role ≡ None)) good.main;
        }

-- ---- what it ends with

-- a value of a type of nil and errors is one of these
nil-or-error : (code : Code) (t : WellTyped code) (c : Common) (good : GoodHeap code c) (v : Value) (s : SemType) → Fits code c v s → IsWithin code.atoms (λ x. IsNil x ⊎ IsError x) s → IsNilOrError code c v
nil-or-error code t c good v s fits within = by v (of-kind code t c good (λ k. (k ≡ Nils) ⊎ (k ≡ Errors)) v s fits (λ x h. of-shape x (within x h)))
  where
    of-shape : (x : Shape) → IsNil x ⊎ IsError x → (kind_of x ≡ Nils) ⊎ (kind_of x ≡ Errors)
    of-shape x (inl e) = inl (ap kind_of e)
    of-shape x (inr h) = inr (errors x h)

    no-members : (m : Members) → (members_kind m ≡ Nils) ⊎ (members_kind m ≡ Errors) → ⊥
    no-members (Items vs) (inl e) = let q : ⊥ = cc in q
    no-members (Items vs) (inr e) = let q : ⊥ = cc in q
    no-members (Entries es) (inl e) = let q : ⊥ = cc in q
    no-members (Entries es) (inr e) = let q : ⊥ = cc in q

    no-structure : (o : Option Structure) → (structure_kind o ≡ Nils) ⊎ (structure_kind o ≡ Errors) → ⊥
    no-structure (Some s) k = no-members s.members k
    no-structure None (inl e) = let q : ⊥ = cc in q
    no-structure None (inr e) = let q : ⊥ = cc in q

    by : (v : Value) → (value_kind c.world.heap v ≡ Nils) ⊎ (value_kind c.world.heap v ≡ Errors) → IsNilOrError code c v
    by Nil k = inl refl
    by (Error n) k = inr refl
    by (Struct n) k = absurd (no-structure _ k)
    by (Truth b) (inl e) = absurd (let q : ⊥ = cc in q)
    by (Truth b) (inr e) = absurd (let q : ⊥ = cc in q)
    by (Int i) (inl e) = absurd (let q : ⊥ = cc in q)
    by (Int i) (inr e) = absurd (let q : ⊥ = cc in q)
    by (Str z) (inl e) = absurd (let q : ⊥ = cc in q)
    by (Str z) (inr e) = absurd (let q : ⊥ = cc in q)
    by (Function n) (inl e) = absurd (let q : ⊥ = cc in q)
    by (Function n) (inr e) = absurd (let q : ⊥ = cc in q)
    by (Future n unit) (inl e) = absurd (let q : ⊥ = cc in q)
    by (Future n unit) (inr e) = absurd (let q : ⊥ = cc in q)

module _ (code : Code) (t : WellTyped code) (c : Common) (good : NearlyCommon code c Running) where
  -- the strand that runs is of this unit
  abbrev s-of : (end : End) → Strand
  s-of end = s code c end good

  -- the result of the lowest frame's unit is one of the strand's
  result-fits : (end : End) (v : Value) (unit : ℕ) → UnitAt code unit (λ u. Fits code c v u.result) → IsLowest code c c.running unit → ResultFits code c c.running (s-of end).unit v
  result-fits end v unit holds lowest =
      let (u, eu, fits) = some-there (λ u. Fits code c v u.result) (slice_get code.units unit) holds in
      (fits.1, (λ ne. own ne lowest), (λ zero-is. nil-or-error code t c good.heap v u.result fits (returns u eu zero-is lowest)))
    where
      there : slice_get c.strands c.running ≡ Some (s-of end)
      there = (its code c end good).1

      own : c.running ≢ 0 → IsLowest code c c.running unit → UnitAt code (s-of end).unit (λ u. Fits code c v u.result)
      own ne (inl e) = subst (λ n. UnitAt code n (λ u. Fits code c v u.result)) (sym (of-some (λ (z : Strand). z.unit ≡ unit) (slice_get c.strands c.running) (s-of end) there e)) holds
      own ne (inr k) = absurd (ne k.0)

      returns : (u : CodeUnit) → slice_get code.units unit ≡ Some u → c.running ≡ 0 → IsLowest code c c.running unit → ReturnsNilOrErrors code u
      returns u eu zero-is (inr (z, init)) =
          (of-some (IsInitialiserWell code unit) (slice_get code.units unit) u eu (contained unit init)).3
        where
          contained : (n : ℕ) → Contains code.initialisers n → UnitAt code n (IsInitialiserWell code n)
          contained n (k, l, e) = subst (λ m. UnitAt code m (IsInitialiserWell code m)) e (t.fields.initialisers k n l)
      returns u eu zero-is (inl e) =
          let mine : (s-of end).unit ≡ unit = of-some (λ (z : Strand). z.unit ≡ unit) (slice_get c.strands c.running) (s-of end) there e in
          let main : (s-of end).unit ≡ code.start = (of-some (λ (z : Strand). (z.unit ≡ code.start) × (z.role ≡ None)) (slice_get c.strands 0) (s-of end) (subst (λ n. slice_get c.strands n ≡ Some (s-of end)) zero-is there) good.main).0 in
          let start-is : slice_get code.units code.start ≡ Some u = subst (λ n. slice_get code.units n ≡ Some u) (sym mine ∙ main) eu in
          (of-some (IsMain code) (slice_get code.units code.start) u start-is t.fields.main).1

  end-fits : (end : End) → EndOfStrand code c end → EndFits code (strand_ended end c) c.running (s-of end).unit (Some end)
  end-fits (Returned v) (unit, holds, lowest) = end-later code c (strand_ended (Returned v) c) (later code c (Returned v) good None) c.running (s-of (Returned v)).unit (Some (Returned v)) (result-fits (Returned v) v unit holds lowest)
  end-fits (Panicked e) error = error-later code None c (strand_ended (Panicked e) c) (later code c (Panicked e) good None) e error

pub ending-keeps : EndingKeeps
ending-keeps code c end t good fits = (ended code c end good (end-fits code t c good end fits), later code c end good, gone code c end good)
