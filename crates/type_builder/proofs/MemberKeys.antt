-- What tells members apart.
use Rattle.std.proofs.Common.{◌≡◌, ◌&&◌, Bool, true, false, Option, None, Some, refl, sym, ap, subst, ◌∙◌}
use Rattle.std.specs.Option.{is_some}
use Rattle.std.specs.Ordering.{int_eq}
use Rattle.std.specs.Cmp.Lexicographic.{bytes_decides}
use Rattle.std.proofs.lemmas.Bool.{false≢true, and_parts}
use Rattle.std.proofs.lemmas.Bool.Decides.{Decides-eqb, Decides-int_eq}
use Rattle.type_model.specs.declared.basic.BasicSet.{BasicSet}
use Rattle.type_model.specs.declared.basic.BasicSet.TheVariants.{Nil, Bool as BoolOne, IntRange, StringOne, StringAll, ListAll, MappingAll, ErrorAll, FunctionAll, FutureAll, Readonly, Never}
use Rattle.type_model.specs.declared.basic.SemType.{SemType, Basic, Atom, Or', And', Not'}
use Rattle.type_builder.specs.Flat.{IsSameMember, key_of, set_key}
use Rattle.type_builder.specs.declared.flat.MemberKey.{MemberKey}
use Rattle.type_builder.specs.declared.flat.MemberKey.TheVariants.{Atom as AtomKey, Nil as NilKey, Bool as BoolKey, Ints, Text as TextKey, Strings, Lists, Mappings, Errors, Functions, Futures, Readonly as ReadonlyKey, Never as NeverKey}
use Rattle.type_builder.specs.contracts.flat.MemberKeyPartialEq.TheImpl.{eq-value}

abbrev pub same_key : MemberKey → MemberKey → Bool
same_key = eq-value.it

pub same-equal : (k l : MemberKey) → same_key k l ≡ true → k ≡ l
same-equal (AtomKey m) (AtomKey n) h = ap AtomKey ((Decides-eqb m n).0 h)
same-equal NilKey NilKey h = refl
same-equal (BoolKey true) (BoolKey true) h = refl
same-equal (BoolKey false) (BoolKey false) h = refl
same-equal (Ints a b) (Ints c d) h =
    let both = and_parts (int_eq a c) (int_eq b d) h in
    ap (λ x. Ints x b) ((Decides-int_eq a c).0 both.0) ∙ ap (Ints c) ((Decides-int_eq b d).0 both.1)
same-equal (TextKey s) (TextKey t) h = ap TextKey ((bytes_decides s t).0 h)
same-equal Strings Strings h = refl
same-equal Lists Lists h = refl
same-equal Mappings Mappings h = refl
same-equal Errors Errors h = refl
same-equal Functions Functions h = refl
same-equal Futures Futures h = refl
same-equal ReadonlyKey ReadonlyKey h = refl
same-equal NeverKey NeverKey h = refl
same-equal _ _ h = absurd (false≢true h)

pub same-itself : (k : MemberKey) → same_key k k ≡ true
same-itself (AtomKey m) = (Decides-eqb m m).1 refl
same-itself NilKey = refl
same-itself (BoolKey true) = refl
same-itself (BoolKey false) = refl
same-itself (Ints a b) = both (int_eq a a) (int_eq b b) ((Decides-int_eq a a).1 refl) ((Decides-int_eq b b).1 refl)
  where
    both : (p q : Bool) → p ≡ true → q ≡ true → (p && q) ≡ true
    both p q e f = ap (λ x. x && q) e ∙ f
same-itself (TextKey s) = (bytes_decides s s).1 refl
same-itself Strings = refl
same-itself Lists = refl
same-itself Mappings = refl
same-itself Errors = refl
same-itself Functions = refl
same-itself Futures = refl
same-itself ReadonlyKey = refl
same-itself NeverKey = refl

-- the member that has a key
abbrev of_key : MemberKey → SemType
of_key (AtomKey n) = Atom n
of_key NilKey = Basic Nil
of_key (BoolKey b) = Basic (BoolOne b)
of_key (Ints a b) = Basic (IntRange a b)
of_key (TextKey t) = Basic (StringOne t)
of_key Strings = Basic StringAll
of_key Lists = Basic ListAll
of_key Mappings = Basic MappingAll
of_key Errors = Basic ErrorAll
of_key Functions = Basic FunctionAll
of_key Futures = Basic FutureAll
of_key ReadonlyKey = Basic Readonly
of_key NeverKey = Basic Never

abbrev or_never : Option MemberKey → MemberKey
or_never None = NeverKey
or_never (Some k) = k

of-set : (b : BasicSet) → of_key (set_key b) ≡ Basic b
of-set Nil = refl
of-set (BoolOne b) = refl
of-set (IntRange low high) = refl
of-set (StringOne text) = refl
of-set StringAll = refl
of-set ListAll = refl
of-set MappingAll = refl
of-set ErrorAll = refl
of-set FunctionAll = refl
of-set FutureAll = refl
of-set Readonly = refl
of-set Never = refl

none-some : {A : Type 0} {a : A} → None ≡ Some a → ⊥
none-some h = false≢true (ap is_some h)

of-key : (t : SemType) (k : MemberKey) → key_of t ≡ Some k → of_key k ≡ t
of-key (Atom n) k h = ap of_key (sym (ap or_never h))
of-key (Basic b) k h = ap of_key (sym (ap or_never h)) ∙ of-set b
of-key (Or' _ s _ t) k h = absurd (none-some h)
of-key (And' _ s _ t) k h = absurd (none-some h)
of-key (Not' _ t) k h = absurd (none-some h)

own-member : (k : MemberKey) → IsSameMember (of_key k) (of_key k)
own-member (AtomKey n) = refl
own-member NilKey = refl
own-member (BoolKey b) = refl
own-member (Ints a b) = refl
own-member (TextKey t) = refl
own-member Strings = refl
own-member Lists = refl
own-member Mappings = refl
own-member Errors = refl
own-member Functions = refl
own-member Futures = refl
own-member ReadonlyKey = refl
own-member NeverKey = refl

-- members with the same key are one
pub one-member : (s t : SemType) (k : MemberKey) → key_of s ≡ Some k → key_of t ≡ Some k → IsSameMember s t
one-member s t k a b = subst (λ x. IsSameMember s x) (of-key t k b) (subst (λ x. IsSameMember x (of_key k)) (of-key s k a) (own-member k))

-- members that are one have the same key
pub one-key : (s t : SemType) → IsSameMember s t → key_of s ≡ key_of t
one-key (Basic b) (Basic c) e = ap (λ x. Some (set_key x)) e
one-key (Atom m) (Atom n) e = ap (λ x. Some (AtomKey x)) e
one-key _ _ e = absurd e
