-- What holds of values, slots and numbers holds later.
use Rattle.std.proofs.Common.{◌≡◌, ◌<◌, ◌+◌, ◌∙◌, ℕ, zero, suc, List, [], ◌∷◌, Option, Some, None, length, refl, sym, ap, subst, arith}
use Rattle.std.proofs.lemmas.List.{append-nil, length-append}
use Rattle.std.specs.Prelude.{IsSomeAnd, slice_get}
use Rattle.type_model.specs.declared.basic.SemType.{SemType}
use Rattle.type_model.specs.Membership.{In}
use Rattle.operations.specs.Rows.{AreBelow, IsWithin}
use Rattle.value_model.specs.declared.value.Value.{Value}
use Rattle.value_model.specs.declared.value.Value.TheVariants.{Nil, Bool as Truth, Int, Str, Struct, Error, Function, Future}
use Rattle.value_model.specs.Heap.{AreAlike, Begins, Grows, Heap, IsClosed, IsThere, Members, Items, Entries, Stays, Structure}
use Rattle.value_model.proofs.Stability.{stable}
use Rattle.op_model.specs.Common.{Activation, Common, Role, Strand}
use Rattle.stack_code.specs.declared.code.Code.{Code}
use Rattle.stack_code.specs.declared.code.Unit.{Unit as CodeUnit}
use Rattle.stack_code.specs.Frames.{IsOfItsUnit, SlotsFit, TallyIs}
use Rattle.stack_code.specs.Good.{IsLater, IsSameCall, IsSameStrand, WorkerStays}
use Rattle.stack_code.specs.Places.{IsStation, Tally}
use Rattle.stack_code.specs.Values.{AllFit, Fits, HeldFits, IsMade, IsMadeError, IsOfStrand, code_types}
use Rattle.code_keeping.proofs.Lists.{some-to, there, zip-then, zip-to}

-- ---- nothing changes

pub stays-same : (s : Structure) → Stays s s
stays-same s = record { kind = alike s.members; atom = refl; mutable = refl; frozen = λ f. refl }
  where
    alike : (m : Members) → AreAlike m m
    alike (Items vs) = tt
    alike (Entries es) = tt

grows-same : (h : Heap) → Grows h h
grows-same h =
    record {
      structures = λ n s e. subst (λ o. IsSomeAnd o (Stays s)) (sym e) (stays-same s);
      errors = ([], sym (append-nil h.errors));
      functions = ([], sym (append-nil h.functions));
    }

-- the world is the same, and so are strands and calls but for what may change; of the worker what is asked for
pub later-so : (q : Option Role) (c d : Common) → d.world ≡ c.world → ((n : ℕ) (s : Strand) → slice_get c.strands n ≡ Some s → IsSomeAnd (slice_get d.strands n) (IsSameStrand s)) →
    ((a : ℕ) (x : Activation) → slice_get c.activations a ≡ Some x → IsSomeAnd (slice_get d.activations a) (IsSameCall x)) → WorkerStays q c d → IsLater q c d
later-so q c d world strands calls worker =
    record {
      heap = subst (λ w. Grows c.world.heap w.heap) (sym world) (grows-same c.world.heap);
      closed = λ h. subst (λ w. IsClosed w.heap) (sym world) h;
      strands = strands;
      calls = calls;
      worker = worker;
    }

pub same-strands : (c : Common) (n : ℕ) (s : Strand) → slice_get c.strands n ≡ Some s → IsSomeAnd (slice_get c.strands n) (IsSameStrand s)
same-strands c n s e = subst (λ o. IsSomeAnd o (IsSameStrand s)) (sym e) (refl, refl, λ h. h)

pub same-calls : (c : Common) (a : ℕ) (x : Activation) → slice_get c.activations a ≡ Some x → IsSomeAnd (slice_get c.activations a) (IsSameCall x)
same-calls c a x e = subst (λ o. IsSomeAnd o (IsSameCall x)) (sym e) (refl, refl)

pub same : (q : Option Role) (c : Common) → IsLater q c c
same q c = later-so q c c refl (same-strands c) (same-calls c) (stay q)
  where
    stay : (q : Option Role) → WorkerStays q c c
    stay (Some r) = ((λ w. (refl, refl)), refl)
    stay None = tt

-- what comes later for a worker comes later
pub for-none : (q : Option Role) (c d : Common) → IsLater q c d → IsLater None c d
for-none q c d l = record { heap = l.heap; closed = l.closed; strands = l.strands; calls = l.calls; worker = tt }

-- ---- what is there

is-some : {A : Type 0} (P : A → Type 0) (xs : List A) (n : ℕ) → IsSomeAnd (slice_get xs n) P → n < length xs
is-some P [] n h = absurd h
is-some P (x ∷ xs) zero h = omega arith
is-some P (x ∷ xs) (suc n) h = let l : n < length xs = is-some P xs n h in omega (arith, l)

begun : {A : Type 0} (front all : List A) (n : ℕ) → Begins front all → n < length front → n < length all
begun front all n (rest, e) l = let k : length all ≡ length front + length rest = ap length e ∙ length-append front rest in omega (arith, k, l)

pub there-later : (old new : Heap) → Grows old new → (v : Value) → IsThere old v → IsThere new v
there-later old new grows Nil t = tt
there-later old new grows (Truth b) t = tt
there-later old new grows (Int i) t = tt
there-later old new grows (Str s) t = tt
there-later old new grows (Struct n) t = let (s, e) = there old.structures n t in is-some (Stays s) new.structures n (grows.structures n s e)
there-later old new grows (Error n) t = begun old.errors new.errors n grows.errors t
there-later old new grows (Function n) t = begun old.functions new.functions n grows.functions t
there-later old new grows (Future strand unit) t = tt

module _ (code : Code) (q : Option Role) (c d : Common) (l : IsLater q c d) where
  still-there : (v : Value) → IsThere c.world.heap v → IsThere d.world.heap v
  still-there = there-later c.world.heap d.world.heap l.heap

  strand-later : (n unit : ℕ) (o : Option Strand) → slice_get c.strands n ≡ o → IsSomeAnd o (λ s. (s.unit ≡ unit) × (s.role ≡ None)) → IsSomeAnd (slice_get d.strands n) (λ s. (s.unit ≡ unit) × (s.role ≡ None))
  strand-later n unit None e h = absurd h
  strand-later n unit (Some s) e h = some-to (IsSameStrand s) (λ t. (t.unit ≡ unit) × (t.role ≡ None)) (slice_get d.strands n) (λ t k. (k.0 ∙ h.0, k.1 ∙ h.1)) (l.strands n s e)

  of-strand : (v : Value) → IsOfStrand code c v → IsOfStrand code d v
  of-strand Nil h = tt
  of-strand (Truth b) h = tt
  of-strand (Int i) h = tt
  of-strand (Str s) h = tt
  of-strand (Struct n) h = tt
  of-strand (Error n) h = tt
  of-strand (Function n) h = tt
  of-strand (Future n unit) (other, h, k) = (other, strand-later n unit (slice_get c.strands n) refl h, k)

  pub made-later : (v : Value) → IsMade code c v → IsMade code d v
  made-later v (t, valid, s) = (still-there v t, valid, of-strand v s)

  pub error-later : (v : Value) → IsMadeError code c v → IsMadeError code d v
  error-later v (is, made) = (is, made-later v made)

  pub fits-later : (v : Value) (t : SemType) → Fits code c v t → Fits code d v t
  fits-later v t (closed, made, belongs) = (l.closed closed, made-later v made, (stable (code_types code) c.world.heap d.world.heap closed l.heap v made.0 t).0 belongs)

  pub all-later : (vs : List Value) (ts : List SemType) → AllFit code c vs ts → AllFit code d vs ts
  all-later vs ts h = zip-to (Fits code c) (Fits code d) fits-later vs ts h

  pub slots-later : (u : CodeUnit) (slots : List (Option Value)) → SlotsFit code c u slots → SlotsFit code d u slots
  slots-later u slots (h, stored) = (zip-to (HeldFits code c) (HeldFits code d) (λ held t k v e. fits-later v t (k v e)) slots u.slots h, stored)

  pub station-later : (unit a worker : ℕ) → IsSomeAnd (slice_get c.activations a) (λ x. IsStation code unit (record { function = x.unit; worker = worker })) →
      IsSomeAnd (slice_get d.activations a) (λ x. IsStation code unit (record { function = x.unit; worker = worker }))
  station-later unit a worker h = by (slice_get c.activations a) refl h
    where
      by : (o : Option Activation) → slice_get c.activations a ≡ o → IsSomeAnd o (λ x. IsStation code unit (record { function = x.unit; worker = worker })) → IsSomeAnd (slice_get d.activations a) (λ x. IsStation code unit (record { function = x.unit; worker = worker }))
      by None e h = absurd h
      by (Some x) e h = some-to (IsSameCall x) _ (slice_get d.activations a) (λ y k. subst (λ n. IsStation code unit (record { function = n; worker = worker })) (sym k.0) h) (l.calls a x e)

-- of a worker of which nothing changes
pub unit-later : (code : Code) (role : Option Role) (c d : Common) → IsLater role c d → (unit : ℕ) → IsOfItsUnit code c unit role → IsOfItsUnit code d unit role
unit-later code None c d l unit h = h
unit-later code (Some r) c d l unit (h, open-end) = (station-later code (Some r) c d l unit r.activation r.worker h, l.worker.1 ∙ open-end)

-- the numbers of a worker, where nothing was sent or received by it
pub tally-later : (code : Code) (c d : Common) (role : Option Role) (tally : Option Tally) → IsLater role c d → TallyIs code c role tally → TallyIs code d role tally
tally-later code c d None None l h = tt
tally-later code c d None (Some t) l h = absurd h
tally-later code c d (Some r) None l h = absurd h
tally-later code c d (Some r) (Some t) l (sent, received) =
    ((λ w k. sent w k ∙ ap (λ n. Some n) (sym (l.worker.0 w).0)), (λ w k. received w k ∙ ap (λ n. Some n) (sym (l.worker.0 w).1)))

-- a value of a type is of each type above
pub above : (code : Code) (c : Common) (vs : List Value) (ts us : List SemType) → AllFit code c vs ts → AreBelow code.atoms ts us → AllFit code c vs us
above code c vs ts us h k = zip-then (Fits code c) (λ s t. IsWithin code.atoms (λ x. In code.atoms x t) s) (Fits code c) (λ v s t f b. (f.0, f.1, (λ x valid stands. b x (valid, f.2 x valid stands)))) vs ts us h k
