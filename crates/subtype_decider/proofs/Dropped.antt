-- Entries that are dropped, one after another.
use Rattle.std.specs.Option.{option_copied, is_some}
use Rattle.std.proofs.Common.{◌≡◌, ◌⊎◌, ◌↔◌, ⊎_elim, ℕ, Bool, IsTrue, Bor, List, [], ◌∷◌, ◌++◌, Option, Some, None, Contains, get_or, subst, sym, ap, ◌∙◌, refl, arith, ◌<◌}
use Rattle.std.proofs.lemmas.Bool.{cases_order, false≢true}
use Rattle.bal_base.specs.declared.shape.Shape.{Shape}
use Rattle.subtype_decider.specs.declared.held.Held.{Held}
use Rattle.subtype_decider.specs.Entries.{AreApart, IsWithout}
use Rattle.subtype_decider.specs.Working.{IsAmongHeld, IsWithoutAll, KeepsShape}
use Rattle.subtype_decider.proofs.Members.{any_default, Any-here, Any-later, Any-cases, Any-left, Any-right, Any-append_cases}

abbrev pub Entries : Type 0
Entries = List (ℕ × Option Shape)

abbrev pub Asks : ℕ → Held → Type 0
Asks question h = h.question ≡ question

-- what the table keeps of a question is one thing
pub one_entry : (kept : Entries) (question : ℕ) (a b : Option Shape) → AreApart kept → Contains kept (question, a) → Contains kept (question, b) → a ≡ b
one_entry kept question a b apart x y =
    let at = λ (c : Option Shape) (m : Contains kept (question, c)) (d : ℕ × Option Shape). any_default kept m.0 d (question, c) m.1 ∙ m.2 in
    ⊎_elim
    (λ (is : x.0 ≡ y.0). ap (λ e. e.1) (sym x.2 ∙ ap (λ k. get_or kept k (question, a)) is ∙ at b y (question, a)))
    (λ (o : (x.0 < y.0) ⊎ (y.0 < x.0)). absurd (⊎_elim
    (λ (l : x.0 < y.0). apart x.0 y.0 (question, a) l y.1 (ap (λ e. e.0) (at a x (question, a)) ∙ sym (ap (λ e. e.0) (at b y (question, a)))))
    (λ (l : y.0 < x.0). apart y.0 x.0 (question, a) l x.1 (ap (λ e. e.0) (at b y (question, a)) ∙ sym (ap (λ e. e.0) (at a x (question, a)))))
    o))
    (cases_order x.0 y.0)

pub none-IsWithoutAll : (kept : Entries) → IsWithoutAll kept kept []
none-IsWithoutAll kept = record { others = λ e c n. c; from = λ e c. (c, λ a. omega (arith, a.2)) }

pub one-IsWithoutAll : (old mid new : Entries) (gone : List Held) (h : Held) → IsWithoutAll old mid gone → IsWithout mid new h.question → IsWithoutAll old new (h ∷ gone)
one-IsWithoutAll old mid new gone h a w = record {
  others = λ e c n. w.others e (a.others e c (λ m. n (Any-later (Asks e.0) h gone m))) (λ is. n (Any-here (Asks e.0) h gone (sym is)));
  from = λ e c.
      let m = w.from e c in
      let o = a.from e m.0 in
      (o.0, λ some. ⊎_elim (λ (is : h.question ≡ e.0). m.1 (sym is)) (λ (r : IsAmongHeld gone e.0). o.1 r) (Any-cases (Asks e.0) h gone some));
}

pub both-IsWithoutAll : (old mid new : Entries) (xs ys : List Held) → IsWithoutAll old mid xs → IsWithoutAll mid new ys → IsWithoutAll old new (xs ++ ys)
both-IsWithoutAll old mid new xs ys a b = record {
  others = λ e c n. b.others e (a.others e c (λ m. n (Any-left (Asks e.0) xs ys m))) (λ m. n (Any-right (Asks e.0) xs ys m));
  from = λ e c.
      let m = b.from e c in
      let o = a.from e m.0 in
      (o.0, λ some. ⊎_elim (λ (l : IsAmongHeld xs e.0). o.1 l) (λ (r : IsAmongHeld ys e.0). m.1 r) (Any-append_cases (Asks e.0) xs ys some));
}

-- whether what is kept of a question is a shape
pub told-KeepsShape : (kept : Entries) (question : ℕ) (r : Option (Bor Shape)) (b : Bool) → AreApart kept → b ≡ is_some r → Contains kept (question, option_copied r) → IsTrue b ↔ KeepsShape kept question
told-KeepsShape kept question None b apart e c = (
  λ t. absurd (false≢true (subst IsTrue e t)),
  λ k. absurd (bad k.0 (one_entry kept question None (Some k.0) apart c k.1)),
)
  where
    bad : (x : Shape) → None ≡ Some x → ⊥
    bad x p = cc
told-KeepsShape kept question (Some x) b apart e c = (λ t. (x.now, c), λ k. subst IsTrue (sym e) refl)
