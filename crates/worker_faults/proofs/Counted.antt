-- Events of a worker that are counted one after another, and those before one of them.
use Rattle.std.proofs.Common.{◌≡◌, ◌∙◌, ◌<◌, ◌≤◌, ◌+◌, ◌==◌, ℕ, zero, suc, List, [], ◌∷◌, Some, None, map, drop, take, get_or, length, refl, sym, ap, arith, true, false}
use Rattle.std.specs.Prelude.{Bool, slice_get, if◌then◌else◌}
use Rattle.std.proofs.lemmas.List.{drop_all, drop_more, take-map}
use Rattle.std.proofs.lemmas.Option.{slice_get_past, slice_get_read}
use Rattle.typed_tree.specs.declared.event.EventKind.{EventKind}
use Rattle.worker_pairing.specs.Events.{before, count, receives_from, sends_to}
use Rattle.worker_pairing.specs.Faults.{kinds_of, other_side, place_on, received_in, sent_in}
use Rattle.worker_pairing.specs.Marks.{Members, Numbered}
use Rattle.worker_members.specs.declared.held.HeldMember.{HeldMember}
use Rattle.worker_members.specs.declared.held.Said.{Said}
use Rattle.worker_members.specs.Held.{kind_of, member_held, saying_held}
use Rattle.worker_faults.specs.Routes.{kinds_said, one_if}

-- ---- counting

module _ (is : EventKind → Bool) (xs : List Said) (i n g : ℕ) where
  pub counted-next : (x : Said) (m : ℕ) → i < length xs → x ≡ get_or xs i x → m ≡ one_if (is (kind_of x.kind))
      → n + count is (kinds_said (drop i xs)) ≡ g → (n + m) + count is (kinds_said (drop (i + 1) xs)) ≡ g
  counted-next x m lt at one before =
      let same : count is (kinds_said (drop i xs)) ≡ one_if (is (kind_of x.kind)) + count is (kinds_said (drop (i + 1) xs)) =
      ap (λ d. count is (kinds_said d)) (drop_more xs i x lt ∙ ap (λ y. y ∷ drop (i + 1) xs) (sym at)) in
      omega (arith, same, one, before)

  pub counted-all : length xs ≤ i → n + count is (kinds_said (drop i xs)) ≡ g → n ≡ g
  counted-all le before =
      let none : count is (kinds_said (drop i xs)) ≡ 0 = ap (λ d. count is (kinds_said d)) (drop_all i xs le) in
      omega (arith, none, before)

-- ---- the events of a worker

pub kinds-of-one : (ss : List Said) → map (λ s. s.kind) (map saying_held ss) ≡ kinds_said ss
kinds-of-one [] = refl
kinds-of-one (s ∷ ss) = ap (λ l. kind_of s.kind ∷ l) (kinds-of-one ss)

pub kinds-there : (ws : List HeldMember) (w : ℕ) (m : HeldMember) → Some m ≡ slice_get ws w → kinds_said m.sayings.items ≡ kinds_of (map member_held ws) w
kinds-there [] w m at = absurd (grind (arith, at))
kinds-there (x ∷ ws) zero m at = ap (λ (k : HeldMember). kinds_said k.sayings.items) (same at) ∙ sym (kinds-of-one x.sayings.items)
  where
    same : Some m ≡ Some x → m ≡ x
    same e = grind (arith, e)
kinds-there (x ∷ ws) (suc w) m at = kinds-there ws w m at

pub kinds-past : (ws : List HeldMember) (w : ℕ) → None ≡ slice_get ws w → [] ≡ kinds_of (map member_held ws) w
kinds-past [] w at = refl
kinds-past (x ∷ ws) zero at = absurd (grind (arith, at))
kinds-past (x ∷ ws) (suc w) at = kinds-past ws w at

module _ (ws : List HeldMember) (w : ℕ) where
  pub kinds-read : (m : HeldMember) → w < length ws → m ≡ get_or ws w m → kinds_said m.sayings.items ≡ kinds_of (map member_held ws) w
  kinds-read m lt at = kinds-there ws w m (sym (slice_get_read ws (length ws) w m refl lt at))

  pub first-read : (m : HeldMember) (n : ℕ) → w < length ws → m ≡ get_or ws w m → kinds_said (take n m.sayings.items) ≡ take n (kinds_of (map member_held ws) w)
  first-read m n lt at = sym (take-map (λ s. kind_of s.kind) n m.sayings.items) ∙ ap (take n) (kinds-read m lt at)

  pub kinds-none : length ws ≤ w → [] ≡ kinds_of (map member_held ws) w
  kinds-none le = kinds-past ws w (sym (slice_get_past ws w le))

none-before : (is : EventKind → Bool) (n : ℕ) → 0 ≡ before is [] n
none-before is zero = refl
none-before is (suc n) = refl

pub none-read : (is : EventKind → Bool) (ws : List HeldMember) (w n : ℕ) → length ws ≤ w → 0 ≡ before is (kinds_of (map member_held ws) w) n
none-read is ws w n le = none-before is n ∙ ap (λ es. before is es n) (kinds-none ws w le)

-- ---- on routes

module _ (ms : Members) (e : Numbered) (r : ℕ × ℕ) (n : ℕ) where
  abbrev place_if : Bool → ℕ
  place_if b = if b then before (sends_to r.1) (kinds_of ms e.worker) e.number else before (receives_from r.0) (kinds_of ms e.worker) e.number

  abbrev side_if : Bool → ℕ
  side_if b = if b then received_in ms r.0 r.1 else sent_in ms r.0 r.1

  pub place-sent : (e.worker == r.0) ≡ true → n ≡ before (sends_to r.1) (kinds_of ms e.worker) e.number → n ≡ place_on ms e r
  place-sent is same = same ∙ sym (ap place_if is)

  pub place-received : (e.worker == r.0) ≡ false → n ≡ before (receives_from r.0) (kinds_of ms e.worker) e.number → n ≡ place_on ms e r
  place-received is same = same ∙ sym (ap place_if is)

  pub side-received : (e.worker == r.0) ≡ true → n ≡ received_in ms r.0 r.1 → n ≡ other_side ms e r
  side-received is same = same ∙ sym (ap side_if is)

  pub side-sent : (e.worker == r.0) ≡ false → n ≡ sent_in ms r.0 r.1 → n ≡ other_side ms e r
  side-sent is same = same ∙ sym (ap side_if is)
