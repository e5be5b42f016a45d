-- Needs that are found one behind another.
use Rattle.std.proofs.Common.{◌≡◌, ◌∙◌, Bool, true, false, List, [], ◌∷◌, ◌++◌, Option, Some, None, Bor, option_copied, slice_get, refl, sym, subst, ap, append_assoc, append-nil}
use Rattle.std.specs.List.{flat_map}
use Rattle.std.specs.Prelude.{if◌then◌else◌}
use Rattle.std.proofs.lemmas.Grind.{flat_map-append}
use Rattle.type_model.specs.declared.basic.SemType.{SemType}
use Rattle.code_needs.specs.Combining.{Needs, ◌&◌, none, nothing, of_some, one, one_and_more, test, two, three}
use Rattle.code_needs.specs.declared.kind.Kind.{Kind}
use Rattle.code_needs.specs.declared.kind.Kind.TheVariants.{Integers}
use Rattle.code_needs.specs.RowNeeds.{part_of, prompted, within}
use Rattle.need_questions.specs.declared.question.NeedQuestion.{NeedQuestion}
use Rattle.need_questions.specs.NeedsAsked.{needs_of}
use Rattle.needs_of_rows.specs.declared.found.Found.{Found}
use Rattle.needs_of_rows.specs.Finding.{Finds, needs_in}
use Rattle.needs_of_rows.specs.inner.Operands.{the_first, the_one, the_three, the_two}

-- ---- lists of needs

pub and-nothing : (n : Needs) → n & nothing ≡ n
and-nothing (Some xs) = ap (λ ys. Some ys) (append-nil xs)
and-nothing None = refl

pub nothing-and : (n : Needs) → nothing & n ≡ n
nothing-and (Some xs) = refl
nothing-and None = refl

pub and-none : (n : Needs) → n & None ≡ None
and-none (Some xs) = refl
and-none None = refl

pub and-assoc : (a b c : Needs) → (a & b) & c ≡ a & (b & c)
and-assoc (Some xs) (Some ys) (Some zs) = ap (λ l. Some l) (append_assoc xs ys zs)
and-assoc (Some xs) (Some ys) None = refl
and-assoc (Some xs) None c = refl
and-assoc None b c = refl

-- ---- what is found

pub found-then : (n m : Needs) (a b c : Found) → Finds n a b → Finds m b c → Finds (n & m) a c
found-then n m a b c p q = record {
  more = λ e.
      let k = q.more e in
      let h = p.more k.0 in
      (h.0, k.1 ∙ ap (λ x. x & m) h.1 ∙ and-assoc (needs_in a) n m);
}

pub found-three : (n m k : Needs) (a b c d : Found) → Finds n a b → Finds m b c → Finds k c d → Finds (n & (m & k)) a d
found-three n m k a b c d p q r = found-then n (m & k) a b d p (found-then m k b c d q r)

-- the same needs in other words
pub found-as : (n m : Needs) (a b : Found) → n ≡ m → Finds n a b → Finds m a b
found-as n m a b e p = subst (λ (k : Needs). Finds k a b) e p

-- two are found at once
pub found-split : (n m k : Needs) (a b c : Found) → Finds (n & m) a b → Finds k b c → Finds (n & (m & k)) a c
found-split n m k a b c p q = found-as ((n & m) & k) (n & (m & k)) a c (and-assoc n m k) (found-then (n & m) k a b c p q)

pub found-four : (n m k l : Needs) (a b c d e : Found) → Finds n a b → Finds m b c → Finds k c d → Finds l d e → Finds (n & (m & (k & l))) a e
found-four n m k l a b c d e p q r s = found-then n (m & (k & l)) a b e p (found-three m k l b c d e q r s)

pub found-nothing : (f : Found) → Finds nothing f f
found-nothing f = record { more = λ e. (e, sym (and-nothing (needs_in f))) }

-- a test that fails
pub found-refused : (n : Needs) (a b : Found) → n ≡ None → Finds None a b → Finds n a b
found-refused n a b e p = subst (λ (k : Needs). Finds k a b) (sym e) p

in-more : (refused : Bool) (old new : List NeedQuestion) (q : NeedQuestion) → new ≡ old ++ q ∷ []
    → (if refused then None else Some (flat_map needs_of new)) ≡ (if refused then None else Some (flat_map needs_of old)) & Some (needs_of q)
in-more true old new q e = refl
in-more false old new q e =
    ap (λ l. Some (flat_map needs_of l)) e
    ∙ ap (λ l. Some l) (flat_map-append needs_of old (q ∷ []) ∙ ap (λ l. flat_map needs_of old ++ l) (append-nil (needs_of q)))

-- a question more
pub found-one : (old new : Found) (q : NeedQuestion) → new.refused ≡ old.refused
    → (new.full ≡ false → (old.full ≡ false) × (new.questions.items ≡ old.questions.items ++ q ∷ []))
    → Finds (Some (needs_of q)) old new
found-one old new q same k = record {
  more = λ e. (
    (k e).0,
    subst (λ (r : Bool). (if r then None else Some (flat_map needs_of new.questions.items)) ≡ needs_in old & Some (needs_of q)) (sym same)
        (in-more old.refused old.questions.items new.questions.items q (k e).1),
  );
}

pub found-none : (old new : Found) → new.refused ≡ true → new.full ≡ old.full → Finds None old new
found-none old new is same = record {
  more = λ e. (
    sym same ∙ e,
    subst (λ (r : Bool). (if r then None else Some (flat_map needs_of new.questions.items)) ≡ needs_in old & None) (sym is) (sym (and-none (needs_in old))),
  );
}

-- ---- operands, where there are so many

one-as : (F : SemType → Needs) (ts : List SemType) → one ts F ≡ of_some (the_one ts) F
one-as F [] = refl
one-as F (a ∷ []) = refl
one-as F (a ∷ b ∷ ts) = refl

pub found-at-one : (F : SemType → Needs) (ts : List SemType) (a : SemType) (old new : Found) → Some a ≡ the_one ts → Finds (F a) old new → Finds (one ts F) old new
found-at-one F ts a old new e p = found-as (F a) (one ts F) old new (ap (λ (o : Option SemType). of_some o F) e ∙ sym (one-as F ts)) p

pub found-not-one : (F : SemType → Needs) (ts : List SemType) (old new : Found) → None ≡ the_one ts → Finds None old new → Finds (one ts F) old new
found-not-one F ts old new e p = found-as None (one ts F) old new (ap (λ (o : Option SemType). of_some o F) e ∙ sym (one-as F ts)) p

abbrev at_two : (SemType → SemType → Needs) → Option (SemType × SemType) → Needs
at_two F o = of_some o (λ p. F p.0 p.1)

two-as : (F : SemType → SemType → Needs) (ts : List SemType) → two ts F ≡ at_two F (the_two ts)
two-as F [] = refl
two-as F (a ∷ []) = refl
two-as F (a ∷ b ∷ []) = refl
two-as F (a ∷ b ∷ c ∷ ts) = refl

pub found-at-two : (F : SemType → SemType → Needs) (ts : List SemType) (a b : SemType) (old new : Found) → Some (a, b) ≡ the_two ts → Finds (F a b) old new
    → Finds (two ts F) old new
found-at-two F ts a b old new e p = found-as (F a b) (two ts F) old new (ap (at_two F) e ∙ sym (two-as F ts)) p

pub found-not-two : (F : SemType → SemType → Needs) (ts : List SemType) (old new : Found) → None ≡ the_two ts → Finds None old new → Finds (two ts F) old new
found-not-two F ts old new e p = found-as None (two ts F) old new (ap (at_two F) e ∙ sym (two-as F ts)) p

abbrev at_three : (SemType → SemType → SemType → Needs) → Option (SemType × SemType × SemType) → Needs
at_three F o = of_some o (λ p. F p.0 p.1 p.2)

three-as : (F : SemType → SemType → SemType → Needs) (ts : List SemType) → three ts F ≡ at_three F (the_three ts)
three-as F [] = refl
three-as F (a ∷ []) = refl
three-as F (a ∷ b ∷ []) = refl
three-as F (a ∷ b ∷ c ∷ []) = refl
three-as F (a ∷ b ∷ c ∷ d ∷ ts) = refl

pub found-at-three : (F : SemType → SemType → SemType → Needs) (ts : List SemType) (a b c : SemType) (old new : Found) → Some (a, b, c) ≡ the_three ts
    → Finds (F a b c) old new → Finds (three ts F) old new
found-at-three F ts a b c old new e p = found-as (F a b c) (three ts F) old new (ap (at_three F) e ∙ sym (three-as F ts)) p

pub found-not-three : (F : SemType → SemType → SemType → Needs) (ts : List SemType) (old new : Found) → None ≡ the_three ts → Finds None old new
    → Finds (three ts F) old new
found-not-three F ts old new e p = found-as None (three ts F) old new (ap (at_three F) e ∙ sym (three-as F ts)) p

abbrev at_first : (SemType → List SemType → Needs) → Option (SemType × List SemType) → Needs
at_first F o = of_some o (λ p. F p.0 p.1)

first-as : (F : SemType → List SemType → Needs) (ts : List SemType) → one_and_more ts F ≡ at_first F (the_first ts)
first-as F [] = refl
first-as F (a ∷ ts) = refl

pub found-at-first : (F : SemType → List SemType → Needs) (ts : List SemType) (a : SemType) (more : List SemType) (old new : Found) → Some (a, more) ≡ the_first ts
    → Finds (F a more) old new → Finds (one_and_more ts F) old new
found-at-first F ts a more old new e p = found-as (F a more) (one_and_more ts F) old new (ap (at_first F) e ∙ sym (first-as F ts)) p

pub found-not-first : (F : SemType → List SemType → Needs) (ts : List SemType) (old new : Found) → None ≡ the_first ts → Finds None old new
    → Finds (one_and_more ts F) old new
found-not-first F ts old new e p = found-as None (one_and_more ts F) old new (ap (at_first F) e ∙ sym (first-as F ts)) p

-- a whole and one bound, or a whole and two
part-as : (whole : Kind) (ts : List SemType) → None ≡ the_two ts → three ts (λ a from to. within a whole & within from Integers & within to Integers) ≡ part_of whole ts
part-as whole [] e = refl
part-as whole (a ∷ []) e = refl
part-as whole (a ∷ b ∷ []) e = absurd (let bad : None ≡ Some (a, b) = e in let bot : ⊥ = cc in bot)
part-as whole (a ∷ b ∷ c ∷ []) e = refl
part-as whole (a ∷ b ∷ c ∷ d ∷ ts) e = refl

pub found-between : (whole : Kind) (ts : List SemType) (old new : Found) → None ≡ the_two ts
    → Finds (three ts (λ a from to. within a whole & within from Integers & within to Integers)) old new → Finds (part_of whole ts) old new
found-between whole ts old new e p =
    found-as (three ts (λ a from to. within a whole & within from Integers & within to Integers)) (part_of whole ts) old new (part-as whole ts e) p

at-part : (whole : Kind) (a b : SemType) (ts : List SemType) → Some (a, b) ≡ the_two ts → within a whole & within b Integers ≡ part_of whole ts
at-part whole a b [] e = absurd (let bad : Some (a, b) ≡ None = e in let bot : ⊥ = cc in bot)
at-part whole a b (x ∷ []) e = absurd (let bad : Some (a, b) ≡ None = e in let bot : ⊥ = cc in bot)
at-part whole a b (x ∷ y ∷ []) e = ap (at_two (λ c d. within c whole & within d Integers)) e
at-part whole a b (x ∷ y ∷ z ∷ ts) e = absurd (let bad : Some (a, b) ≡ None = e in let bot : ⊥ = cc in bot)

pub found-part : (whole : Kind) (ts : List SemType) (a b : SemType) (old new : Found) → Some (a, b) ≡ the_two ts → Finds (within a whole & within b Integers) old new
    → Finds (part_of whole ts) old new
found-part whole ts a b old new e p = found-as (within a whole & within b Integers) (part_of whole ts) old new (at-part whole a b ts e) p

-- ---- members by the first one

no-first : {X : Type 0} (xs : List X) → None ≡ slice_get xs 0 → nothing ≡ none xs
no-first [] e = refl
no-first (x ∷ xs) e = absurd (let bad : None ≡ Some x = e in let bot : ⊥ = cc in bot)

pub found-no-first : {X : Type 0} (xs : List X) (f : Found) → None ≡ slice_get xs 0 → Finds (none xs) f f
found-no-first xs f e = found-as nothing (none xs) f f (no-first xs e) (found-nothing f)

some-first : {X : Type 0} (xs : List X) (x : X) → Some x ≡ slice_get xs 0 → None ≡ none xs
some-first [] x e = absurd (let bad : Some x ≡ None = e in let bot : ⊥ = cc in bot)
some-first (y ∷ xs) x e = refl

pub found-some-first : {X : Type 0} (xs : List X) (x : X) (old new : Found) → Some x ≡ slice_get xs 0 → Finds None old new → Finds (none xs) old new
found-some-first xs x old new e p = found-as None (none xs) old new (some-first xs x e) p

head-as : (F : SemType → Needs) (ts : List SemType) → one_and_more ts (λ t more. F t) ≡ of_some (slice_get ts 0) F
head-as F [] = refl
head-as F (t ∷ ts) = refl

pub found-at-head : (F : SemType → Needs) (ts : List SemType) (t : SemType) (old new : Found) → Some t ≡ slice_get ts 0 → Finds (F t) old new
    → Finds (one_and_more ts (λ s more. F s)) old new
found-at-head F ts t old new e p = found-as (F t) (one_and_more ts (λ s more. F s)) old new (ap (λ (o : Option SemType). of_some o F) e ∙ sym (head-as F ts)) p

pub found-no-head : (F : SemType → Needs) (ts : List SemType) (old new : Found) → None ≡ slice_get ts 0 → Finds None old new
    → Finds (one_and_more ts (λ s more. F s)) old new
found-no-head F ts old new e p = found-as None (one_and_more ts (λ s more. F s)) old new (ap (λ (o : Option SemType). of_some o F) e ∙ sym (head-as F ts)) p

-- no operand, or a prompt
unprompted : (ts : List SemType) → None ≡ slice_get ts 0 → nothing ≡ prompted ts
unprompted [] e = refl
unprompted (t ∷ ts) e = absurd (let bad : None ≡ Some t = e in let bot : ⊥ = cc in bot)

pub found-unprompted : (ts : List SemType) (f : Found) → None ≡ slice_get ts 0 → Finds (prompted ts) f f
found-unprompted ts f e = found-as nothing (prompted ts) f f (unprompted ts e) (found-nothing f)

is-prompted : (ts : List SemType) (t : SemType) → Some t ≡ slice_get ts 0 → one ts (λ s. nothing) ≡ prompted ts
is-prompted [] t e = absurd (let bad : Some t ≡ None = e in let bot : ⊥ = cc in bot)
is-prompted (s ∷ []) t e = refl
is-prompted (s ∷ r ∷ ts) t e = refl

pub found-prompted : (ts : List SemType) (t : SemType) (old new : Found) → Some t ≡ slice_get ts 0 → Finds (one ts (λ s. nothing)) old new → Finds (prompted ts) old new
found-prompted ts t old new e p = found-as (one ts (λ s. nothing)) (prompted ts) old new (is-prompted ts t e) p

-- ---- tests

pub found-passed : (b : Bool) (f : Found) → b ≡ true → Finds (test b) f f
found-passed b f e = subst (λ (c : Bool). Finds (test c) f f) (sym e) (found-nothing f)

pub found-failed : (b : Bool) (old new : Found) → b ≡ false → Finds None old new → Finds (test b) old new
found-failed b old new e p = subst (λ (c : Bool). Finds (test c) old new) (sym e) p

-- what is looked at is this
pub found-where : {X : Type 0} (F : X → Needs) (x y : X) (old new : Found) → x ≡ y → Finds (F y) old new → Finds (F x) old new
found-where F x y old new e p = subst (λ z. Finds (F z) old new) (sym e) p

-- ---- what may be there

pub found-there : {X : Type 0} (F : Option X → Needs) (o : Option (Bor X)) (r : Bor X) (old new : Found) → o ≡ Some r → Finds (F (Some r.now)) old new
    → Finds (F (option_copied o)) old new
found-there {X = X} F o r old new e p = subst (λ (x : Option (Bor X)). Finds (F (option_copied x)) old new) (sym e) p

pub found-missing : {X : Type 0} (F : Option X → Needs) (o : Option (Bor X)) (old new : Found) → o ≡ None → Finds (F None) old new → Finds (F (option_copied o)) old new
found-missing {X = X} F o old new e p = subst (λ (x : Option (Bor X)). Finds (F (option_copied x)) old new) (sym e) p

pub ruleset finding = (found-nothing, found-none, found-then, found-three)
