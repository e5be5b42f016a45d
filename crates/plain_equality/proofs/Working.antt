-- What holds while the members of one held pair after another are held too.
use Rattle.std.proofs.Common.{◌≡◌, ◌↔◌, ◌∙◌, ◌+◌, ◌<◌, ◌≤◌, ℕ, Bool, true, false, IsTrue, List, [], Option, Some, None, All, Contains, length, get_or, take, refl, sym, subst, ap, arith}
use Rattle.std.proofs.lemmas.Bool.{false≢true}
use Rattle.std.proofs.lemmas.List.{length-append, take_all, take-append-le}
use Rattle.std.proofs.lemmas.List.Elements.{All-append, All-contains, All-more, All-nil, All-weaker}
use Rattle.value_model.specs.declared.value.Value.{Value}
use Rattle.value_model.specs.declared.value.Value.TheVariants.{Struct}
use Rattle.value_model.specs.Heap.{Heap}
use Rattle.op_model.specs.Equality.{AreEqual, Step, face_of, member_at}
use Rattle.plain_equality.specs.Pairs.{AreHeld, AreKnownSides, AreMembersHeld, AreMembersKnown, AreSides, AreStructurePairs, IsHeld, IsKnown}
use Rattle.plain_equality.proofs.Equal.{equal-faces, equal-members, equal-steps, known-equal}
use Rattle.plain_equality.proofs.Holding.{holds-weaker, known-more, members-more}

-- ---- from pairs of members to the structures

module _ (h : Heap) (n m : ℕ) (old new : List (ℕ × ℕ)) where
  pub members-absent : AreStructurePairs h n m None → AreMembersHeld h n m old new false
  members-absent (step, apart) = λ e. apart (equal-steps h (Struct n) (Struct m) e step)

  module _ (pairs : List (Value × Value)) (are : AreStructurePairs h n m (Some pairs)) where
    abbrev IsMember : Value × Value → Type 0
    IsMember p = (step : Step) × (member_at h step (Struct n) ≡ Some p.0) × (member_at h step (Struct m) ≡ Some p.1)

    member-equal : (p : Value × Value) → Contains pairs p → AreEqual h (Struct n) (Struct m) → AreEqual h p.0 p.1
    member-equal p c e = let (step, a, b) = All-contains IsMember pairs p are.1 c in equal-members h (Struct n) (Struct m) p.0 p.1 step e a b

    known-sides : All (λ p. IsKnown h new p.0 p.1) pairs → (x y : Option Value) → AreSides pairs x y → AreKnownSides h new x y
    known-sides all (Some v) (Some w) c = All-contains (λ p. IsKnown h new p.0 p.1) pairs (v, w) all c
    known-sides all (Some v) None c = c
    known-sides all None (Some w) c = c
    known-sides all None None c = c

    pub members-held : (result : Bool) → AreHeld h pairs old new result → AreMembersHeld h n m old new result
    members-held true (all, more) = (
      λ step. known-sides all (member_at h step (Struct n)) (member_at h step (Struct m)) (are.0 step),
      holds-weaker old new (λ a b. Contains pairs (Struct a, Struct b)) (λ a b. (face_of h (Struct a) ≡ face_of h (Struct b)) × (AreEqual h (Struct n) (Struct m) → AreEqual h (Struct a) (Struct b)))
          (λ a b c. ((All-contains (λ p. IsKnown h new p.0 p.1) pairs (Struct a, Struct b) all c).0, member-equal (Struct a, Struct b) c)) more,
    )
    members-held false (p, c, unlike) = λ e. unlike (equal-faces h p.0 p.1 (member-equal p c e))

-- ---- from pair to pair

-- the pair looks alike, and is equal where the two values are
abbrev pub IsReached : Heap → Value → Value → ℕ × ℕ → Type 0
IsReached h v w p = (face_of h (Struct p.0) ≡ face_of h (Struct p.1)) × (AreEqual h v w → AreEqual h (Struct p.0) (Struct p.1))

pub record IsWorking (h : Heap) (v w : Value) (held : List (ℕ × ℕ)) (next : ℕ) : Type 0 where
  pub known : IsKnown h held v w
  pub bound : next ≤ length held
  pub sides : All (λ p. AreMembersKnown h held p.0 p.1) (take next held)
  pub reached : All (IsReached h v w) held

module _ (h : Heap) (v w : Value) where
  pub working-begins : (held : List (ℕ × ℕ)) → IsHeld h v w [] held true → IsWorking h v w held 0
  working-begins held (known, (more, e, all)) = record {
    known = known;
    bound = omega arith;
    sides = All-nil (λ p. AreMembersKnown h held p.0 p.1);
    reached = subst (All (IsReached h v w)) (sym e) (All-weaker (λ p. (v ≡ Struct p.0) × (w ≡ Struct p.1)) (IsReached h v w) (λ p is. reach p is.0 is.1) more all);
  }
    where
      reach : (p : ℕ × ℕ) → v ≡ Struct p.0 → w ≡ Struct p.1 → IsReached h v w p
      reach p a b = (
        sym (ap (face_of h) a) ∙ (known.0 ∙ ap (face_of h) b),
        λ e. subst (λ x. AreEqual h x (Struct p.1)) a (subst (λ y. AreEqual h v y) b e),
      )

  module _ (held : List (ℕ × ℕ)) (next : ℕ) (k : IsWorking h v w held next) (p : ℕ × ℕ) (lt : next < length held) (is : p ≡ get_or held next p) where
    pub working-reached : IsReached h v w p
    working-reached = subst (IsReached h v w) (sym is) (k.reached next p lt)

    pub working-more : (new : List (ℕ × ℕ)) → AreMembersHeld h p.0 p.1 held new true → IsWorking h v w new (next + 1)
    working-more new (sides, more) = record {
      known = known-more h held new Reached more v w k.known;
      bound = let long : length new ≡ length held + length more.0 = ap length more.1 ∙ length-append held more.0 in omega (arith, lt, long);
      sides = subst (All (λ q. AreMembersKnown h new q.0 q.1)) (sym same)
          (All-more (λ q. AreMembersKnown h new q.0 q.1) held next p lt
          (All-weaker (λ q. AreMembersKnown h held q.0 q.1) (λ q. AreMembersKnown h new q.0 q.1) (λ q s. members-more h held new Reached more q.0 q.1 s) (take next held) k.sides)
          (subst (λ q. AreMembersKnown h new q.0 q.1) is sides));
      reached = subst (All (IsReached h v w)) (sym more.1)
          (All-append (IsReached h v w) held more.0 k.reached
          (All-weaker (λ q. Reached q.0 q.1) (IsReached h v w) (λ q r. (r.0, λ e. r.1 (working-reached.1 e))) more.0 more.2));
    }
      where
        Reached : ℕ → ℕ → Type 0
        Reached a b = (face_of h (Struct a) ≡ face_of h (Struct b)) × (AreEqual h (Struct p.0) (Struct p.1) → AreEqual h (Struct a) (Struct b))

        same : take (next + 1) new ≡ take (next + 1) held
        same = let le : next + 1 ≤ length held = omega (arith, lt) in ap (take (next + 1)) more.1 ∙ take-append-le (next + 1) held more.0 le

    pub working-fails : (new : List (ℕ × ℕ)) → AreMembersHeld h p.0 p.1 held new false → IsTrue false ↔ AreEqual h v w
    working-fails new apart = (λ t. absurd (false≢true t), λ e. absurd (apart (working-reached.1 e)))

  pub working-ends : (held : List (ℕ × ℕ)) (next : ℕ) → length held ≤ next → IsWorking h v w held next → IsTrue true ↔ AreEqual h v w
  working-ends held next le k =
      (λ t. known-equal h held (λ n m c. All-contains (λ p. AreMembersKnown h held p.0 p.1) held (n, m) (subst (All (λ p. AreMembersKnown h held p.0 p.1)) (take_all next held le) k.sides) c) v w k.known, λ e. refl)

  pub unlike-ends : (old held : List (ℕ × ℕ)) → IsHeld h v w old held false → IsTrue false ↔ AreEqual h v w
  unlike-ends old held apart = (λ t. absurd (false≢true t), λ e. absurd (apart (equal-faces h v w e)))
