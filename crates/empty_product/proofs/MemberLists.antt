-- Members of mappings as lists: those at keys that have a part, and the part at a key.
use Rattle.std.proofs.Common.{◌≡◌, ⊎_elim, ℕ, zero, suc, List, [], ◌∷◌, All, Contains, Bool, true, false, cond, Option, Some, None, slice_get, refl, sym, ap, subst, ◌∙◌, arith}
use Rattle.std.specs.Prelude.{if◌then◌else◌}
use Rattle.std.specs.Cmp.Lexicographic.{bytes_decides}
use Rattle.std.proofs.lemmas.Bool.{false≢true}
use Rattle.std.proofs.lemmas.List.Elements.{All-nil, All-cons, All-head, All-tail, Contains-append_right}
use Rattle.bal_base.specs.declared.text.Text.{Text}
use Rattle.bal_base.specs.declared.shape.Shape.{Shape}
use Rattle.type_model.specs.Places.{is_same_text, HasKey}
use Rattle.empty_product.specs.Mappings.{members_at}
use Rattle.type_model.proofs.TextOrder.{Below, below-apart, Sorted, KeysSorted}
use Rattle.empty_product.proofs.SortedLists.{Sorted-at}
use Rattle.empty_product.proofs.Zipped.{none_some, some_same, All-slice_get, Contains-at, Any-none, Any-more}

abbrev pub Member : Type 0
Member = Text × Shape

abbrev pub HasName : Text → Member → Type 0
HasName key m = m.0 ≡ key

-- ---- the part at a key

abbrev pub part_at : List Member → Text → Option Shape
part_at [] key = None
part_at (m ∷ ms) key = if is_same_text m.0 key then Some m.1 else part_at ms key

pub part_at-Some : (ms : List Member) (key : Text) (x : Shape) → part_at ms key ≡ Some x → Contains ms (key, x)
part_at-Some [] key x h = absurd (none_some h)
part_at-Some (m ∷ ms) key x h = by (is_same_text m.0 key) (λ k. part_at-Some ms key x k) refl h
  where
    by : (b : Bool) → (part_at ms key ≡ Some x → Contains ms (key, x)) → is_same_text m.0 key ≡ b → cond b (Some m.1) (part_at ms key) ≡ Some x → Contains (m ∷ ms) (key, x)
    by true r e h = (0, omega arith, λ i. ((bytes_decides m.0 key).0 e i, some_same h i))
    by false r e h = Contains-append_right (m ∷ []) ms (key, x) (r h)

pub part_at-None : (ms : List Member) (key : Text) → part_at ms key ≡ None → ¬ HasKey ms key
part_at-None [] key h a = Any-none (HasName key) a
part_at-None (m ∷ ms) key h a = by (is_same_text m.0 key) (λ k. part_at-None ms key k) refl h
  where
    by : (b : Bool) → (part_at ms key ≡ None → ¬ HasKey ms key) → is_same_text m.0 key ≡ b → cond b (Some m.1) (part_at ms key) ≡ None → ⊥
    by true rest e h = none_some (sym h)
    by false rest e h = ⊎_elim (λ (n : m.0 ≡ key). false≢true (sym e ∙ (bytes_decides m.0 key).1 n)) (λ (r : HasKey ms key). rest h r) (Any-more (HasName key) m ms a)

-- where the keys rise it is that of the member
pub part_at-member : (ms : List Member) → Sorted (λ (m : Member). m.0) ms → (key : Text) (x : Shape) (k : ℕ) → slice_get ms k ≡ Some (key, x) → part_at ms key ≡ Some x
part_at-member [] h key x k is = absurd (none_some is)
part_at-member (m ∷ ms) h key x zero is = by (is_same_text m.0 key) refl
  where
    here : m ≡ (key, x)
    here = some_same is

    by : (b : Bool) → is_same_text m.0 key ≡ b → cond b (Some m.1) (part_at ms key) ≡ Some x
    by true e = λ i. Some ((here i).1)
    by false e = absurd (false≢true (sym e ∙ (bytes_decides m.0 key).1 (λ i. (here i).0)))
part_at-member (m ∷ ms) h key x (suc k) is = by (is_same_text m.0 key) (part_at-member ms h.1 key x k is) refl
  where
    below : Below m.0 key
    below = All-slice_get (λ (n : Member). Below m.0 n.0) ms k (key, x) h.0 is

    by : (b : Bool) → part_at ms key ≡ Some x → is_same_text m.0 key ≡ b → cond b (Some m.1) (part_at ms key) ≡ Some x
    by true r e = absurd (below-apart m.0 key below ((bytes_decides m.0 key).0 e))
    by false r e = r

-- ---- members at keys that have a part

pub members_at-is : (keys : List Text) (parts : List (Option Shape)) (j : ℕ) (m : Member) → slice_get (members_at keys parts) j ≡ Some m → (k : ℕ) × (slice_get keys k ≡ Some m.0) × (slice_get parts k ≡ Some (Some m.1))
members_at-is [] parts j m h = absurd (none_some h)
members_at-is (key ∷ keys) [] j m h = absurd (none_some h)
members_at-is (key ∷ keys) (None ∷ parts) j m h = let r = members_at-is keys parts j m h in (suc r.0, r.1, r.2)
members_at-is (key ∷ keys) (Some x ∷ parts) zero m h = (0, (λ i. Some ((some_same h i).0)), λ i. Some (Some ((some_same h i).1)))
members_at-is (key ∷ keys) (Some x ∷ parts) (suc j) m h = let r = members_at-is keys parts j m h in (suc r.0, r.1, r.2)

pub members_at-has : (keys : List Text) (parts : List (Option Shape)) (k : ℕ) (key : Text) (x : Shape) → slice_get keys k ≡ Some key → slice_get parts k ≡ Some (Some x) → Contains (members_at keys parts) (key, x)
members_at-has [] parts k key x h i = absurd (none_some h)
members_at-has (l ∷ keys) [] k key x h i = absurd (none_some i)
members_at-has (l ∷ keys) (None ∷ parts) zero key x h i = absurd (none_some (some_same i))
members_at-has (l ∷ keys) (None ∷ parts) (suc k) key x h i = members_at-has keys parts k key x h i
members_at-has (l ∷ keys) (Some y ∷ parts) zero key x h i = (0, omega arith, λ j. (some_same h j, some_same (some_same i) j))
members_at-has (l ∷ keys) (Some y ∷ parts) (suc k) key x h i = Contains-append_right ((l, y) ∷ []) (members_at keys parts) (key, x) (members_at-has keys parts k key x h i)

-- what holds of all keys holds of those of the members
pub members_at-all : (P : Text → Type 0) (keys : List Text) (parts : List (Option Shape)) → All P keys → All (λ (m : Member). P m.0) (members_at keys parts)
members_at-all P [] parts h = All-nil _
members_at-all P (key ∷ keys) [] h = All-nil _
members_at-all P (key ∷ keys) (None ∷ parts) h = members_at-all P keys parts (All-tail P key keys h)
members_at-all P (key ∷ keys) (Some x ∷ parts) h = All-cons (λ (m : Member). P m.0) (key, x) (members_at keys parts) (All-head P key keys h) (members_at-all P keys parts (All-tail P key keys h))

pub members_at-sorted : (keys : List Text) (parts : List (Option Shape)) → KeysSorted keys → Sorted (λ (m : Member). m.0) (members_at keys parts)
members_at-sorted [] parts h = tt
members_at-sorted (key ∷ keys) [] h = tt
members_at-sorted (key ∷ keys) (None ∷ parts) h = members_at-sorted keys parts h.1
members_at-sorted (key ∷ keys) (Some x ∷ parts) h = (members_at-all (Below key) keys parts h.0, members_at-sorted keys parts h.1)

-- there is none at a key without a part
pub members_at-none : (keys : List Text) (parts : List (Option Shape)) → KeysSorted keys → (k : ℕ) (key : Text) → slice_get keys k ≡ Some key → slice_get parts k ≡ Some None → ¬ HasKey (members_at keys parts) key
members_at-none keys parts h k key at is a =
    let m = a.1 in
    let c = Contains-at (members_at keys parts) m (a.0, a.2, a.3) in
    let r = members_at-is keys parts c.0 m c.1 in
    let same = Sorted-at keys h k r.0 key at (r.1 ∙ ap Some a.4) in
    let both : slice_get parts r.0 ≡ Some None = subst (λ j. slice_get parts j ≡ Some None) same is in
    none_some (some_same (sym both ∙ r.2))
