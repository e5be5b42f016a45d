-- A look-up among those that begin with the first byte of a text finds what a look-up among all finds.
use Rattle.std.proofs.Common.{◌≡◌, ℕ, suc, Bool, true, false, nat_eq, nat_lt, if◌then◌else◌, List, [], ◌∷◌, length, take, Option, None, Some, Contains, find, inl, inr, refl, sym, ap, ◌∙◌, subst, arith}
use Rattle.std.specs.Prelude.{◌==◌}
use Rattle.std.specs.Str.{bytes_eq}
use Rattle.std.specs.List.{list_any, list_all, starts_with}
use Rattle.std.proofs.lemmas.Slice.Eq.{bytes_eq-Decides}
use Rattle.std.proofs.lemmas.Bool.{both_ways, cases_Bool, and_parts, or_cases}
use Rattle.bal_base.specs.declared.token.Keyword.{Keyword}
use Rattle.bal_base.specs.declared.token.Sign.{Sign}
use Rattle.bal_base.proofs.Tables.{every, list_all-at}
use Rattle.bal_lexer.specs.Spellings.{keyword_text, sign_text, left_out_words}
use Rattle.bal_lexer.specs.Groups.{first_byte, every_keyword, every_sign, keywords_from, signs_from, left_out_from, left_out_groups, group_of}
use Rattle.bal_lexer.proofs.Finds.{find-none, find-some, find-largest, descends}
use Rattle.bal_lexer.proofs.Keywords.{has_keyword, find-keyword}
use Rattle.bal_lexer.proofs.Signs.{signs_descend, has_sign, sign_length, sign_text-same}
use Rattle.bal_lexer.proofs.WordKinds.{contains-any}

-- a member that is written so
written-in : {X : Type 0} (text : X → List ℕ) (t : List ℕ) (xs : List X) → list_any (λ h. bytes_eq (text h) t) xs ≡ true → (h : X) × Contains xs h × (text h ≡ t)
written-in text t [] any = cc
written-in text t (x ∷ xs) any =
    elim (or_cases (bytes_eq (text x) t) (list_any (λ h. bytes_eq (text h) t) xs) any) [
      | inl here ↦ (x, (0, omega arith, refl), (bytes_eq-Decides (text x) t).0 here)
      | inr there ↦ let (h, (k, lt, e), same) = written-in text t xs there in (h, (suc k, omega arith, e), same)
    ]

-- ---- keywords

keyword_grouped : (k : Keyword) → list_any (λ h. bytes_eq (keyword_text h) (keyword_text k)) (keywords_from (first_byte (keyword_text k))) ≡ true
unfolding keywords_from
keyword_grouped k = every every_keyword has_keyword (λ g. list_any (λ h. bytes_eq (keyword_text h) (keyword_text g)) (keywords_from (first_byte (keyword_text g)))) refl k

pub keyword-lookup : (word : List ℕ) → find (λ h. bytes_eq (keyword_text h) word) (keywords_from (first_byte word)) ≡ find (λ h. bytes_eq (keyword_text h) word) every_keyword
keyword-lookup word = go (find (λ h. bytes_eq (keyword_text h) word) (keywords_from (first_byte word))) refl (find (λ h. bytes_eq (keyword_text h) word) every_keyword) refl
  where
    missed : (k : Keyword) → find (λ h. bytes_eq (keyword_text h) word) (keywords_from (first_byte word)) ≡ None → keyword_text k ≡ word → ⊥
    missed k none same =
        let (h, there, alike) = written-in keyword_text word (keywords_from (first_byte word)) (subst (λ w. list_any (λ h. bytes_eq (keyword_text h) w) (keywords_from (first_byte w)) ≡ true) same (keyword_grouped k)) in
        both_ways (bytes_eq (keyword_text h) word) (find-none (λ h. bytes_eq (keyword_text h) word) (keywords_from (first_byte word)) h none there) ((bytes_eq-Decides (keyword_text h) word).1 alike)

    go : (few : Option Keyword) → find (λ h. bytes_eq (keyword_text h) word) (keywords_from (first_byte word)) ≡ few → (all : Option Keyword) → find (λ h. bytes_eq (keyword_text h) word) every_keyword ≡ all → find (λ h. bytes_eq (keyword_text h) word) (keywords_from (first_byte word)) ≡ find (λ h. bytes_eq (keyword_text h) word) every_keyword
    go None e None f = e ∙ sym f
    go None e (Some k) f = absurd (missed k e ((bytes_eq-Decides (keyword_text k) word).0 (find-some (λ h. bytes_eq (keyword_text h) word) every_keyword k f)))
    go (Some k) e all f =
        let same : keyword_text k ≡ word = (bytes_eq-Decides (keyword_text k) word).0 (find-some (λ h. bytes_eq (keyword_text h) word) (keywords_from (first_byte word)) k e) in
        e ∙ sym (find-keyword k) ∙ ap (λ v. find (λ h. bytes_eq (keyword_text h) v) every_keyword) same

-- ---- words that are left out

left_out_grouped : list_all (λ w. list_any (λ v. bytes_eq v w) (left_out_from (first_byte w))) left_out_words ≡ true
unfolding left_out_words left_out_from left_out_groups
left_out_grouped = refl

left_out_inside : list_all (λ (g : ℕ × List (List ℕ)). list_all (λ w. list_any (λ v. bytes_eq v w) left_out_words) g.1) left_out_groups ≡ true
unfolding left_out_words left_out_groups
left_out_inside = refl

-- what holds of all groups holds of one
group-all : (q : List ℕ → Bool) (first : ℕ) (groups : List (ℕ × List (List ℕ))) → list_all (λ (g : ℕ × List (List ℕ)). list_all q g.1) groups ≡ true → list_all q (group_of first groups) ≡ true
group-all q first [] all = refl
group-all q first ((letter, words) ∷ groups) all =
    let parts = and_parts (list_all q words) (list_all (λ (g : ℕ × List (List ℕ)). list_all q g.1) groups) all in
    elim (cases_Bool (first == letter)) [
      | inl here ↦ ap (λ b. list_all q (if b then words else group_of first groups)) here ∙ parts.0
      | inr there ↦ ap (λ b. list_all q (if b then words else group_of first groups)) there ∙ group-all q first groups parts.1
    ]

group-inside : (first : ℕ) → list_all (λ w. list_any (λ v. bytes_eq v w) left_out_words) (left_out_from first) ≡ true
unfolding left_out_from
group-inside first = group-all (λ w. list_any (λ v. bytes_eq v w) left_out_words) first left_out_groups left_out_inside

pub left_out-lookup : (word : List ℕ) → list_any (λ w. bytes_eq w word) (left_out_from (first_byte word)) ≡ list_any (λ w. bytes_eq w word) left_out_words
left_out-lookup word = go (list_any (λ w. bytes_eq w word) (left_out_from (first_byte word))) refl (list_any (λ w. bytes_eq w word) left_out_words) refl
  where
    go : (few : Bool) → list_any (λ w. bytes_eq w word) (left_out_from (first_byte word)) ≡ few → (all : Bool) → list_any (λ w. bytes_eq w word) left_out_words ≡ all → list_any (λ w. bytes_eq w word) (left_out_from (first_byte word)) ≡ list_any (λ w. bytes_eq w word) left_out_words
    go true e true f = e ∙ sym f
    go false e false f = e ∙ sym f
    go true e false f =
        absurd (both_ways (list_any (λ v. bytes_eq v word) left_out_words) f (list_all-at (λ w. list_any (λ v. bytes_eq v w) left_out_words) (left_out_from (first_byte word)) word (group-inside (first_byte word)) (contains-any word (left_out_from (first_byte word)) e)))
    go false e true f =
        absurd (both_ways (list_any (λ v. bytes_eq v word) (left_out_from (first_byte word))) e (list_all-at (λ w. list_any (λ v. bytes_eq v w) (left_out_from (first_byte w))) left_out_words word left_out_grouped (contains-any word left_out_words f)))

-- ---- signs

sign_grouped : (g : Sign) → list_any (λ h. bytes_eq (sign_text h) (sign_text g)) (signs_from (first_byte (sign_text g))) ≡ true
unfolding signs_from
sign_grouped g = every every_sign has_sign (λ k. list_any (λ h. bytes_eq (sign_text h) (sign_text k)) (signs_from (first_byte (sign_text k)))) refl g

group_descends : (g : Sign) → descends (λ h. length (sign_text h)) (signs_from (first_byte (sign_text g))) ≡ true
unfolding signs_from
group_descends g = every every_sign has_sign (λ k. descends (λ h. length (sign_text h)) (signs_from (first_byte (sign_text k)))) refl g

in_group : (g : Sign) → Contains (signs_from (first_byte (sign_text g))) g
in_group g =
    let (h, there, alike) = written-in sign_text (sign_text g) (signs_from (first_byte (sign_text g))) (sign_grouped g) in
    subst (Contains (signs_from (first_byte (sign_text g)))) (sign_text-same h g alike) there

first_byte-front : (t s : List ℕ) → nat_lt 0 (length t) ≡ true → take (length t) s ≡ t → first_byte s ≡ first_byte t
first_byte-front [] s some e = cc
first_byte-front (x ∷ xs) [] some e = cc
first_byte-front (x ∷ xs) (y ∷ ys) some e = cc

pub sign-lookup : (s : List ℕ) → find (λ g. starts_with nat_eq s (sign_text g)) (signs_from (first_byte s)) ≡ find (λ g. starts_with nat_eq s (sign_text g)) every_sign
sign-lookup s = go (find (λ g. starts_with nat_eq s (sign_text g)) (signs_from (first_byte s))) refl (find (λ g. starts_with nat_eq s (sign_text g)) every_sign) refl
  where
    front : (g : Sign) → starts_with nat_eq s (sign_text g) ≡ true → take (length (sign_text g)) s ≡ sign_text g
    front g is_front = sym ((bytes_eq-Decides (sign_text g) (take (length (sign_text g)) s)).0 is_front)

    begins : (g : Sign) → starts_with nat_eq s (sign_text g) ≡ true → first_byte s ≡ first_byte (sign_text g)
    begins g is_front = first_byte-front (sign_text g) s (sign_length g) (front g is_front)

    here : (g : Sign) → starts_with nat_eq s (sign_text g) ≡ true → Contains (signs_from (first_byte s)) g
    here g is_front = subst (λ c. Contains (signs_from c) g) (sym (begins g is_front)) (in_group g)

    order : (g : Sign) → starts_with nat_eq s (sign_text g) ≡ true → descends (λ h. length (sign_text h)) (signs_from (first_byte s)) ≡ true
    order g is_front = subst (λ c. descends (λ h. length (sign_text h)) (signs_from c) ≡ true) (sym (begins g is_front)) (group_descends g)

    alike : (g h : Sign) → starts_with nat_eq s (sign_text g) ≡ true → starts_with nat_eq s (sign_text h) ≡ true → length (sign_text g) ≡ length (sign_text h) → g ≡ h
    alike g h is_front too long = sign_text-same g h (sym (front g is_front) ∙ ap (λ n. take n s) long ∙ front h too)

    both : (g h : Sign) → find (λ g. starts_with nat_eq s (sign_text g)) (signs_from (first_byte s)) ≡ Some g → find (λ g. starts_with nat_eq s (sign_text g)) every_sign ≡ Some h → g ≡ h
    both g h e f =
        let is_front = find-some (λ k. starts_with nat_eq s (sign_text k)) (signs_from (first_byte s)) g e in
        let too = find-some (λ k. starts_with nat_eq s (sign_text k)) every_sign h f in
        let below = find-largest (λ k. length (sign_text k)) (λ k. starts_with nat_eq s (sign_text k)) every_sign h g signs_descend f (has_sign g) is_front in
        let above = find-largest (λ k. length (sign_text k)) (λ k. starts_with nat_eq s (sign_text k)) (signs_from (first_byte s)) g h (order h too) e (here h too) too in
        alike g h is_front too (omega (arith, below, above))

    go : (few : Option Sign) → find (λ g. starts_with nat_eq s (sign_text g)) (signs_from (first_byte s)) ≡ few → (all : Option Sign) → find (λ g. starts_with nat_eq s (sign_text g)) every_sign ≡ all → find (λ g. starts_with nat_eq s (sign_text g)) (signs_from (first_byte s)) ≡ find (λ g. starts_with nat_eq s (sign_text g)) every_sign
    go None e None f = e ∙ sym f
    go None e (Some h) f =
        let too = find-some (λ k. starts_with nat_eq s (sign_text k)) every_sign h f in
        absurd (both_ways (starts_with nat_eq s (sign_text h)) (find-none (λ k. starts_with nat_eq s (sign_text k)) (signs_from (first_byte s)) h e (here h too)) too)
    go (Some g) e None f =
        let is_front = find-some (λ k. starts_with nat_eq s (sign_text k)) (signs_from (first_byte s)) g e in
        absurd (both_ways (starts_with nat_eq s (sign_text g)) (find-none (λ k. starts_with nat_eq s (sign_text k)) every_sign g f (has_sign g)) is_front)
    go (Some g) e (Some h) f = e ∙ ap Some (both g h e f) ∙ sym f
