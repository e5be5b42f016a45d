-- A worker makes its events one after another: where it stands, and what it has sent and received.
use Rattle.std.proofs.Common.{◌≡◌, ◌<◌, ◌+◌, ◌++◌, ◌∙◌, ℕ, zero, suc, List, [], ◌∷◌, Some, map, length, refl, sym, ap, arith, Bool, true, false}
use Rattle.std.proofs.lemmas.Bool.{false≢true}
use Rattle.std.specs.Prelude.{drop, if◌then◌else◌, slice_get}
use Rattle.typed_tree.specs.declared.event.EventKind.{EventKind}
use Rattle.typed_tree.specs.declared.event.EventKind.TheVariants.{Send, Post, Done, Receive, Flush, Wait, End}
use Rattle.worker_pairing.specs.Events.{before, is_message, receives_from, sends_to}
use Rattle.worker_waits.specs.Left.{Step, Makes, Begins}
use Rattle.worker_waits.proofs.Told.{lasting, lasts}

-- behind the first m events these steps are left, and the end
abbrev pub AtStep : List EventKind → ℕ → List Step → Type 0
AtStep es m steps = map Makes (drop m es) ≡ steps ++ Makes End ∷ []

abbrev pub one_if : Bool → ℕ
one_if b = if b then 1 else 0

-- what stands at a place, where something is left there
pub record Next (es : List EventKind) (m : ℕ) (e : EventKind) (rest : List EventKind) : Type 0 where
  pub here : slice_get es m ≡ Some e
  pub behind : drop (suc m) es ≡ rest
  pub inside : m < length es
  pub counts : (is : EventKind → Bool) → before is es (suc m) ≡ before is es m + one_if (is e)

pub next-of : (es : List EventKind) (m : ℕ) (e : EventKind) (rest : List EventKind) → drop m es ≡ e ∷ rest → Next es m e rest
next-of [] zero e rest h = absurd (let n = ap length h in omega (arith, n))
next-of [] (suc m) e rest h = absurd (let n = ap length h in omega (arith, n))
next-of (x ∷ es) zero e rest h =
    let same = heads x e es rest h in
    record { here = ap Some same.0; behind = same.1; inside = omega arith; counts = λ is. let c = ap (λ y. one_if (is y)) same.0 in omega (arith, c) }
  where
    head : List EventKind → EventKind
    head [] = End
    head (y ∷ ys) = y

    tail : List EventKind → List EventKind
    tail [] = []
    tail (y ∷ ys) = ys

    heads : (x e : EventKind) (es rest : List EventKind) → x ∷ es ≡ e ∷ rest → (x ≡ e) × (es ≡ rest)
    heads x e es rest h = (ap head h, ap tail h)
next-of (x ∷ es) (suc m) e rest h =
    let n = next-of es m e rest h in
    let i = n.inside in
    record { here = n.here; behind = n.behind; inside = omega (arith, i); counts = λ is. let c = n.counts is in omega (arith, c) }

-- ---- steps

abbrev pub the_event : Step → EventKind
the_event (Makes e) = e
the_event Begins = End

abbrev is_made : Step → Bool
is_made (Makes e) = true
is_made Begins = false

abbrev head_step : List Step → Step
head_step [] = Begins
head_step (x ∷ xs) = x

abbrev tail_steps : List Step → List Step
tail_steps [] = []
tail_steps (x ∷ xs) = xs

-- where a step is left it is that of the next event
pub record Moves (es : List EventKind) (m : ℕ) (x : Step) (rest : List Step) : Type 0 where
  pub event : EventKind
  pub is : x ≡ Makes event
  pub more : List EventKind
  pub next : Next es m event more
  pub onward : AtStep es (suc m) rest

pub moves : (es : List EventKind) (m : ℕ) (x : Step) (rest : List Step) → AtStep es m (x ∷ rest) → Moves es m x rest
moves es m x rest h = by (drop m es) refl h
  where
    by : (ds : List EventKind) → drop m es ≡ ds → map Makes ds ≡ x ∷ (rest ++ Makes End ∷ []) → Moves es m x rest
    by [] e h = absurd (let n = ap length h in omega (arith, n))
    by (d ∷ ds) e h =
        let n = next-of es m d ds e in
        record { event = d; is = sym (ap head_step h); more = ds; next = n; onward = ap (λ l. map Makes l) n.behind ∙ ap tail_steps h }

-- where no step is left the end is
pub stands-inside : (es : List EventKind) (m : ℕ) (steps : List Step) → AtStep es m steps → m < length es
stands-inside es m [] h = by (drop m es) refl h
  where
    by : (ds : List EventKind) → drop m es ≡ ds → map Makes ds ≡ Makes End ∷ [] → m < length es
    by [] e h = absurd (let n = ap length h in omega (arith, n))
    by (d ∷ ds) e h = (next-of es m d ds e).inside
stands-inside es m (x ∷ rest) h = (moves es m x rest h).next.inside

-- the named workers are started before any event
pub never-begins : (es : List EventKind) (m : ℕ) (rest : List Step) → AtStep es m (Begins ∷ rest) → ⊥
never-begins es m rest h = let x = (moves es m Begins rest h).is in false≢true (ap is_made x)

pub not-begins : (e : EventKind) (rest more : List Step) → Makes e ∷ rest ≡ Begins ∷ more → ⊥
not-begins e rest more h = false≢true (sym (ap (λ l. is_made (head_step l)) h))

pub not-made : (es : List EventKind) (rest : List Step) → Begins ∷ rest ≡ map Makes es → ⊥
not-made [] rest h = let n = ap length h in omega (arith, n)
not-made (e ∷ es) rest h = not-begins e (map Makes es) rest (sym h)

-- ---- steps that are no messages

quiet-sends : (w : ℕ) (e : EventKind) → is_message e ≡ false → sends_to w e ≡ false
quiet-sends w (Send peer) h = absurd (false≢true (sym h))
quiet-sends w (Post peer) h = absurd (false≢true (sym h))
quiet-sends w (Receive peer) h = refl
quiet-sends w (Done peer) h = refl
quiet-sends w (Flush peer) h = refl
quiet-sends w (Wait ns) h = refl
quiet-sends w End h = refl

quiet-receives : (w : ℕ) (e : EventKind) → is_message e ≡ false → receives_from w e ≡ false
quiet-receives w (Send peer) h = refl
quiet-receives w (Post peer) h = refl
quiet-receives w (Receive peer) h = absurd (false≢true (sym h))
quiet-receives w (Done peer) h = refl
quiet-receives w (Flush peer) h = refl
quiet-receives w (Wait ns) h = refl
quiet-receives w End h = refl

-- as many messages stand before one place as before another
pub record SameCounts (es : List EventKind) (m n : ℕ) : Type 0 where
  pub sent : (w : ℕ) → before (sends_to w) es n ≡ before (sends_to w) es m
  pub received : (w : ℕ) → before (receives_from w) es n ≡ before (receives_from w) es m

pub skips : (es : List EventKind) (m : ℕ) (xs rest : List Step) → lasting xs ≡ 0 → AtStep es m (xs ++ rest) → (n : ℕ) × AtStep es n rest × SameCounts es m n
skips es m [] rest none h = (m, h, record { sent = λ w. refl; received = λ w. refl })
skips es m (x ∷ xs) rest none h = by (lasts x) refl (moves es m x (xs ++ rest) h) (λ few step. skips es (suc m) xs rest few step)
  where
    by : (b : Bool) → lasts x ≡ b → Moves es m x (xs ++ rest) → (lasting xs ≡ 0 → AtStep es (suc m) (xs ++ rest) → (n : ℕ) × AtStep es n rest × SameCounts es (suc m) n) → (n : ℕ) × AtStep es n rest × SameCounts es m n
    by true e step behind = absurd (let c = ap one_if e in omega (arith, none, c))
    by false e step behind =
        let more = behind (let c = ap one_if e in omega (arith, none, c)) step.onward in
        let quiet : is_message step.event ≡ false = sym (ap lasts step.is) ∙ e in (
          more.0,
          more.1,
          record {
            sent = λ w. let a = more.2.sent w in let b = step.next.counts (sends_to w) in let z = ap one_if (quiet-sends w step.event quiet) in omega (arith, a, b, z);
            received = λ w. let a = more.2.received w in let b = step.next.counts (receives_from w) in let z = ap one_if (quiet-receives w step.event quiet) in omega (arith, a, b, z);
          },
        )
