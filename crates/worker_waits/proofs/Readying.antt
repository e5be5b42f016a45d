-- Strands that are ready are there.
use Rattle.std.proofs.Common.{◌≡◌, ◌<◌, ◌≤◌, ◌+◌, ◌++◌, ◌∙◌, ℕ, zero, suc, Bool, true, false, List, [], ◌∷◌, Option, Some, length, map, refl, sym, subst, ap, arith}
use Rattle.std.proofs.lemmas.List.{length-append, length-map, length-set}
use Rattle.std.proofs.lemmas.Option.{none-some}
use Rattle.std.specs.Prelude.{⊤, if◌then◌else◌, remove, slice_get}
use Rattle.op_model.specs.CallRows.{strands_made}
use Rattle.op_model.specs.Common.{Common, End, Need, Role, Strand, IsActive, IsBlocked, IsEnded}
use Rattle.op_model.specs.Effects.{Spawned}
use Rattle.op_model.specs.Strands.{ended_count, settled, strand_at, strand_blocked, strand_ended, strand_made, wakes, with_status, woken, woken_from}
use Rattle.machine_model.proofs.Alike.{board, seen}
use Rattle.machine_model.proofs.Once.{some-same}

abbrev pub AreBelow : List ℕ → ℕ → Type 0
AreBelow [] k = ⊤
AreBelow (n ∷ ns) k = (n < k) × AreBelow ns k

abbrev pub ReadyThere : Common → Type 0
ReadyThere c = AreBelow c.ready (length c.strands)

pub below-more : (ns : List ℕ) (j k : ℕ) → j ≤ k → AreBelow ns j → AreBelow ns k
below-more [] j k le h = tt
below-more (n ∷ ns) j k le (lt, h) = (omega (arith, lt, le), below-more ns j k le h)

pub below-both : (ns ms : List ℕ) (k : ℕ) → AreBelow ns k → AreBelow ms k → AreBelow (ns ++ ms) k
below-both [] ms k h g = g
below-both (n ∷ ns) ms k (lt, h) g = (lt, below-both ns ms k h g)

pub below-at : (ns : List ℕ) (k i n : ℕ) → AreBelow ns k → slice_get ns i ≡ Some n → n < k
below-at [] k zero n h e = absurd (none-some n e)
below-at [] k (suc i) n h e = absurd (none-some n e)
below-at (m ∷ ns) k zero n (lt, h) e = let same = some-same m n e in omega (arith, lt, same)
below-at (m ∷ ns) k (suc i) n (lt, h) e = below-at ns k i n h e

pub below-remove : (ns : List ℕ) (k i : ℕ) → AreBelow ns k → AreBelow (remove ns i) k
below-remove [] k zero h = tt
below-remove [] k (suc i) h = tt
below-remove (m ∷ ns) k zero (lt, h) = h
below-remove (m ∷ ns) k (suc i) (lt, h) = (lt, below-remove ns k i h)

pub ready-board : (c d : Common) → board d ≡ board c → ReadyThere c → ReadyThere d
ready-board c d e h =
    let r : d.ready ≡ c.ready = ap (λ b. b.ready) e in
    let n : length (map seen d.strands) ≡ length (map seen c.strands) = ap (λ b. length b.strands) e in
    let x : length (map seen c.strands) ≡ length c.strands = length-map c.strands seen in
    let y : length (map seen d.strands) ≡ length d.strands = length-map d.strands seen in
    subst (λ l. AreBelow l (length d.strands)) (sym r) (below-more c.ready (length c.strands) (length d.strands) (omega (arith, n, x, y)) h)

woken-below : (c : Common) (n k : ℕ) (ss : List Strand) → n + length ss ≤ k → AreBelow (woken_from c n ss) k
woken-below c n k [] le = tt
woken-below c n k (s ∷ ss) le = by (wakes c s.status) (woken-below c (n + 1) k ss (omega (arith, le)))
  where
    by : (b : Bool) → AreBelow (woken_from c (n + 1) ss) k → AreBelow (if b then n ∷ woken_from c (n + 1) ss else woken_from c (n + 1) ss) k
    by true h = (omega (arith, le), h)
    by false h = h

pub ready-settled : (c : Common) → ReadyThere c → ReadyThere (settled c)
ready-settled c h =
    let n : length (map (woken c) c.strands) ≡ length c.strands = length-map c.strands (woken c) in
    below-both c.ready (woken_from c 0 c.strands) _ (below-more c.ready _ _ (omega (arith, n)) h) (woken-below c 0 _ c.strands (omega (arith, n)))

pub ready-blocked : (need : Need) (c : Common) → ReadyThere c → ReadyThere (strand_blocked need c)
ready-blocked need c h = let n = length-set c.strands c.running (with_status (strand_at c c.running) (IsBlocked need)) in below-more c.ready (length c.strands) _ (omega (arith, n)) h

pub ready-ended : (end : End) (c : Common) → ReadyThere c → ReadyThere (strand_ended end c)
ready-ended end c h = let n = length-set c.strands c.running (with_status (strand_at c c.running) (IsEnded (ended_count c.strands) end)) in below-more c.ready (length c.strands) _ (omega (arith, n)) h

-- ---- strands that are made

pub record Made (c d : Common) (more : ℕ) : Type 0 where
  pub running : d.running ≡ c.running
  pub count : length d.strands ≡ length c.strands + more
  pub ready : ReadyThere c → ReadyThere d
  pub activations : d.activations ≡ c.activations

pub made-one : (unit : ℕ) (role : Option Role) (c : Common) → Made c (strand_made unit role c) 1
made-one unit role c =
    let new : Strand = record { unit = unit; role = role; status = IsActive; taken = false } in
    let n = length-append c.strands (new ∷ []) in
    record {
      running = refl;
      count = n;
      ready = λ h. below-both c.ready (length c.strands ∷ []) _ (below-more c.ready (length c.strands) _ (omega (arith, n)) h) (omega (arith, n), tt);
      activations = refl;
    }

pub made-all : (ss : List Spawned) (c : Common) → Made c (strands_made ss c) (length ss)
made-all [] c = record { running = refl; count = omega arith; ready = λ h. h; activations = refl }
made-all (s ∷ ss) c =
    let one = made-one s.unit s.role c in
    let more = made-all ss (strand_made s.unit s.role c) in
    let a = one.count in
    let b = more.count in
    record { running = more.running ∙ one.running; count = omega (arith, a, b); ready = λ h. more.ready (one.ready h); activations = more.activations ∙ one.activations }
