-- A search for the k-th message among the events of a worker, one after another.
use Rattle.std.proofs.Common.{◌≡◌, ◌∙◌, ◌<◌, ◌≤◌, ◌⊎◌, ◌+◌, ℕ, zero, suc, Bool, true, false, List, [], ◌∷◌, Option, Some, None, map, take, get_or, length, refl, sym, subst, ap, inl, inr, arith}
use Rattle.std.specs.Prelude.{IfNone, IfSome, IsSomeAnd, slice_get, if◌then◌else◌}
use Rattle.std.proofs.lemmas.Bool.{cases_lt}
use Rattle.std.proofs.lemmas.List.{length-map, take_all}
use Rattle.std.proofs.lemmas.Option.{slice_get_past, slice_get_read, slice_get-map}
use Rattle.typed_tree.specs.declared.event.EventKind.{EventKind}
use Rattle.worker_pairing.specs.Events.{IsNth, before, count}
use Rattle.worker_pairing.specs.Faults.{kinds_of}
use Rattle.worker_pairing.specs.Marks.{Members, Saying}
use Rattle.worker_pairing.proofs.Counts.{before-all}
use Rattle.worker_faults.specs.Routes.{kinds_said, one_if}
use Rattle.worker_faults.proofs.Counted.{kinds-past, kinds-there}
use Rattle.worker_members.specs.declared.held.HeldMember.{HeldMember}
use Rattle.worker_members.specs.declared.held.Said.{Said}
use Rattle.worker_members.specs.Held.{kind_of, member_held, saying_held}
use Rattle.worker_partners.specs.declared.partners.Found.{Found}
use Rattle.worker_partners.specs.declared.partners.Side.{Side}
use Rattle.worker_partners.specs.Partners.{IsNthFound, is_on, sayings_of}

module _ (is : EventKind → Bool) where
  -- behind an event there is one more, where it is one
  before-suc : (es : List EventKind) (i : ℕ) (e : EventKind) → slice_get es i ≡ Some e → before is es (suc i) ≡ before is es i + one_if (is e)
  before-suc [] i e at = absurd (grind (arith, at))
  before-suc (x ∷ es) zero e at = let same : x ≡ e = grind (arith, at) in let one = ap (λ y. one_if (is y)) same in omega (arith, one)
  before-suc (x ∷ es) (suc i) e at = let more = before-suc es i e at in omega (arith, more)

  pub before-next : (es : List EventKind) (i : ℕ) (e : EventKind) → slice_get es i ≡ Some e → before is es (i + 1) ≡ before is es i + one_if (is e)
  before-next es i e at = let next : i + 1 ≡ suc i = omega arith in ap (before is es) next ∙ before-suc es i e at

  pub before-all-of : (es : List EventKind) (i : ℕ) → length es ≤ i → before is es i ≡ count is es
  before-all-of es i le = ap (count is) (take_all i es le)

module _ (is : EventKind → Bool) (xs : List Said) (i seen k : ℕ) where
  kind-at : (x : Said) → i < length xs → x ≡ get_or xs i x → slice_get (kinds_said xs) i ≡ Some (kind_of x.kind)
  kind-at x lt at = slice_get-map (λ s. kind_of s.kind) xs i ∙ ap as_kind (slice_get_read xs (length xs) i x refl lt at)
    where
      as_kind : Option Said → Option EventKind
      as_kind (Some s) = Some (kind_of s.kind)
      as_kind None = None

  -- one event more, which isn't the one
  pub sought-next : (x : Said) (here : Bool) (m : ℕ) → i < length xs → x ≡ get_or xs i x → here ≡ is (kind_of x.kind) → m ≡ one_if here → seen ≡ before is (kinds_said xs) i
      → seen + m ≡ before is (kinds_said xs) (i + 1)
  sought-next x here m lt at on same so =
      let more = before-next is (kinds_said xs) i (kind_of x.kind) (kind-at x lt at) in
      let one = same ∙ ap one_if on in
      omega (arith, more, one, so)

  pub sought-less : (here : Bool) (m : ℕ) → m ≡ one_if here → seen ≤ k → ((here ≡ true) × (seen ≡ k) → ⊥) → seen + m ≤ k
  sought-less false m same le apart = omega (arith, same, le)
  sought-less true m same le apart = by (cases_lt seen k)
    where
      by : (seen < k) ⊎ (k ≤ seen) → seen + m ≤ k
      by (inl lt) = omega (arith, lt, same)
      by (inr more) = absurd (apart (refl, omega (arith, le, more)))

  -- this is the one
  pub sought-here : (x : Said) (here : Bool) (number : ℕ) → i < length xs → x ≡ get_or xs i x → here ≡ is (kind_of x.kind) → seen ≡ before is (kinds_said xs) i → number ≡ i
      → here ≡ true → seen ≡ k → IsNth is (kinds_said xs) k number × (slice_get xs number ≡ Some x)
  sought-here x here number lt at on so place is_here same =
      let there : slice_get (kinds_said xs) i ≡ Some (kind_of x.kind) = kind-at x lt at in
      let nth : IsNth is (kinds_said xs) k i = (subst (λ o. IsSomeAnd o (λ e. is e ≡ true)) (sym there) (sym on ∙ is_here), sym so ∙ same) in
      (subst (IsNth is (kinds_said xs) k) (sym place) nth, ap (slice_get xs) place ∙ slice_get_read xs (length xs) i x refl lt at)

  -- there was none
  pub sought-none : length xs ≤ i → seen ≡ before is (kinds_said xs) i → seen ≤ k → (j : ℕ) → ¬ IsNth is (kinds_said xs) k j
  sought-none le so few j nth =
      let all = before-all-of is (kinds_said xs) i (subst (λ n. n ≤ i) (sym (length-map xs (λ s. kind_of s.kind))) le) in
      let less = before-all is (kinds_said xs) j nth.0 in
      let place = nth.1 in
      omega (arith, all, less, place, so, few)

-- ---- among those of a worker

sayings-there : (ws : List HeldMember) (w : ℕ) (m : HeldMember) → slice_get ws w ≡ Some m → sayings_of (map member_held ws) w ≡ map saying_held m.sayings.items
sayings-there [] w m at = absurd (grind (arith, at))
sayings-there (x ∷ ws) zero m at = ap (λ (k : HeldMember). map saying_held k.sayings.items) (same at)
  where
    same : Some x ≡ Some m → x ≡ m
    same e = grind (arith, e)
sayings-there (x ∷ ws) (suc w) m at = sayings-there ws w m at

said-held : (xs : List Said) (i : ℕ) (s : Said) → slice_get xs i ≡ Some s → slice_get (map saying_held xs) i ≡ Some (saying_held s)
said-held [] i s at = absurd (grind (arith, at))
said-held (x ∷ xs) zero s at = ap held at
  where
    held : Option Said → Option Saying
    held (Some t) = Some (saying_held t)
    held None = None
said-held (x ∷ xs) (suc i) s at = said-held xs i s at

module _ (ws : List HeldMember) (w : ℕ) (side : Side) (k : ℕ) where
  pub found-of : (m : HeldMember) (list : List Said) (o : Option Found) → slice_get ws w ≡ Some m → list ≡ m.sayings.items
      → IfSome o (λ f. IsNth (is_on side) (kinds_said list) k f.number × (slice_get list f.number ≡ Some f.said))
      → IfNone o ((i : ℕ) → ¬ IsNth (is_on side) (kinds_said list) k i) → IsNthFound (map member_held ws) w side k o
  found-of m list (Some f) at is found none =
      let same : kinds_said list ≡ kinds_of (map member_held ws) w = ap kinds_said is ∙ kinds-there ws w m (sym at) in
      record {
        nth = subst (λ es. IsNth (is_on side) es k f.number) same found.0;
        said = ap (λ l. slice_get l f.number) (sayings-there ws w m at) ∙ said-held m.sayings.items f.number f.said (ap (λ l. slice_get l f.number) (sym is) ∙ found.1);
      }
  found-of m list None at is found none =
      let same : kinds_said list ≡ kinds_of (map member_held ws) w = ap kinds_said is ∙ kinds-there ws w m (sym at) in
      (λ i nth. none i (subst (λ es. IsNth (is_on side) es k i) (sym same) nth))

  pub none-of : length ws ≤ w → IsNthFound (map member_held ws) w side k None
  none-of le i nth =
      let nothing : kinds_of (map member_held ws) w ≡ [] = sym (kinds-past ws w (sym (slice_get_past ws w le))) in
      none-in i (subst (λ es. IsSomeAnd (slice_get es i) (λ e. is_on side e ≡ true)) nothing nth.0)
    where
      none-in : (i : ℕ) → IsSomeAnd (slice_get [] i) (λ e. is_on side e ≡ true) → ⊥
      none-in i h = h
