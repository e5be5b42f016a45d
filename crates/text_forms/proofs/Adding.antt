-- Adding one text behind another, in a row and in a loop.
use Rattle.std.proofs.Common.{◌≡◌, refl, Bool, true, false, ℕ, zero, suc, ◌+◌, ◌<◌, List, [], ◌∷◌, ◌++◌, length, get_or, map, take, flat_map, IsAscii, chars, String, string_bytes, sym, ap, subst, ◌∙◌, append_assoc, arith}
use Rattle.std.specs.List.{join_by}
use Rattle.std.proofs.lemmas.List.{append-nil, take_more}
use Rattle.std.proofs.lemmas.List.Concat.{flat_map-append}
use Rattle.std.proofs.lemmas.List.Folds.{flat_map-map}
use Rattle.std.proofs.lemmas.Bool.{lt-ltb}
use Rattle.std.proofs.Math.Dec.{ltb}
use Rattle.std.proofs.lemmas.Str.{chars-append, chars-IsAscii, chars-nil, chars_past_char, IsUtf8-encode, IsUtf8-string_bytes}
use Rattle.std.specs.Char.{IsScalar}
use lib.Utf8.{encode}
use Rattle.std.specs.Global.{Global}
use Rattle.text_forms.specs.Forms.{Adds, text_if, written}

pub adds-both : (old mid new s t : List ℕ) → Adds old s mid → Adds mid t new → Adds old (s ++ t) new
adds-both old mid new s t h k = k ∙ ap (λ text. text ++ t) h ∙ append_assoc old s t

-- bytes of a text that are put behind the old ones
pub adds-bytes : (old new : String Global) (bs : List ℕ) → string_bytes new ≡ string_bytes old ++ bs → Adds (written old) (chars bs) (written new)
adds-bytes old new bs h = ap chars h ∙ chars-append (string_bytes old) bs (IsUtf8-string_bytes old)

-- bytes that are ASCII are their own characters
pub adds-ascii : (old new bs text : List ℕ) → Adds old (chars bs) new → bs ≡ text → IsAscii bs → Adds old text new
adds-ascii old new bs text h is ascii = subst (λ t. Adds old t new) (chars-IsAscii bs ascii ∙ is) h

-- a character by its bytes
pub adds-char : (old new : String Global) (c : ℕ) → IsScalar c → string_bytes new ≡ string_bytes old ++ encode c → Adds (written old) (c ∷ []) (written new)
adds-char old new c scalar h =
    let one : chars (encode c) ≡ c ∷ [] = chars_past_char (encode c) [] c (IsUtf8-encode c scalar) (sym (append-nil (encode c))) ∙ ap (λ cs. c ∷ cs) chars-nil in
    subst (λ t. Adds (written old) t (written new)) one (adds-bytes old new (encode c) h)

module _ {X : Type 0} (f : X → List ℕ) where
  flat_map-push : (xs : List X) (x : X) → flat_map f (xs ++ x ∷ []) ≡ flat_map f xs ++ f x
  flat_map-push xs x = flat_map-append f xs (x ∷ []) ∙ ap (λ t. flat_map f xs ++ t) (append-nil (f x))

  -- a step of a loop that adds the texts one behind the other
  pub adds-one_more : (xs : List X) (x : X) (old mid new : List ℕ) → Adds old (flat_map f xs) mid → Adds mid (f x) new → Adds old (flat_map f (xs ++ x ∷ [])) new
  adds-one_more xs x old mid new before next =
      subst (λ t. Adds old t new) (sym (flat_map-push xs x)) (adds-both old mid new (flat_map f xs) (f x) before next)

  abbrev is_some : List X → Bool
  is_some [] = false
  is_some (x ∷ xs) = true

  some_before : (xs : List X) (i : ℕ) → i < length xs → is_some (take i xs) ≡ ltb 0 i
  some_before [] i lt = absurd (omega (arith, lt))
  some_before (y ∷ ys) zero lt = refl
  some_before (y ∷ ys) (suc i) lt = sym (lt-ltb 0 (suc i) (omega arith))

  module _ (separator : List ℕ) where
    join_by-push : (xs : List X) (x : X) → join_by f separator (xs ++ x ∷ []) ≡ join_by f separator xs ++ (text_if (is_some xs) separator ++ f x)
    join_by-push [] x = append-nil (f x)
    join_by-push (y ∷ ys) x =
        ap (λ t. f y ++ t) (flat_map-append (λ z. separator ++ f z) ys (x ∷ []) ∙ ap (λ t. flat_map (λ z. separator ++ f z) ys ++ t) (append-nil (separator ++ f x)))
        ∙ sym (append_assoc (f y) (flat_map (λ z. separator ++ f z) ys) (separator ++ f x))

    -- a step of a loop that adds the texts with a separator between each two
    pub adds-joined_more : (xs : List X) (i : ℕ) (x : X) (a b c d : List ℕ) → i < length xs → x ≡ get_or xs i x → Adds a (join_by f separator (take i xs)) b → Adds b (text_if (ltb 0 i) separator) c → Adds c (f x) d
        → Adds a (join_by f separator (take (i + 1) xs)) d
    adds-joined_more xs i x a b c d lt is before sign here =
        let done = take i xs in
        let more : take (i + 1) xs ≡ done ++ x ∷ [] = take_more xs i x lt ∙ ap (λ y. done ++ y ∷ []) (sym is) in
        subst (λ t. Adds a t d) (sym (ap (join_by f separator) more ∙ join_by-push done x))
        (adds-both a b d (join_by f separator done) (text_if (is_some done) separator ++ f x) before
        (adds-both b c d (text_if (is_some done) separator) (f x) (subst (λ some. Adds b (text_if some separator) c) (sym (some_before xs i lt)) sign) here))

-- the same of a list that is made of another one's members
module _ {X Y : Type 0} (g : X → Y) (f : Y → List ℕ) (separator : List ℕ) where
  join_by-map : (xs : List X) → join_by f separator (map g xs) ≡ join_by (λ x. f (g x)) separator xs
  join_by-map [] = refl
  join_by-map (x ∷ xs) = ap (λ t. f (g x) ++ t) (flat_map-map (λ y. separator ++ f y) g xs)

  pub adds-mapped_more : (xs : List X) (i : ℕ) (x : X) (a b c d : List ℕ) → i < length xs → x ≡ get_or xs i x → Adds a (join_by f separator (map g (take i xs))) b → Adds b (text_if (ltb 0 i) separator) c → Adds c (f (g x)) d
      → Adds a (join_by f separator (map g (take (i + 1) xs))) d
  adds-mapped_more xs i x a b c d lt is before sign here =
      subst (λ t. Adds a t d) (sym (join_by-map (take (i + 1) xs)))
      (adds-joined_more (λ y. f (g y)) separator xs i x a b c d lt is (subst (λ t. Adds a t b) (join_by-map (take i xs)) before) sign here)

-- a text that is written first
pub adds-first : (old new : String Global) (text : List ℕ) → string_bytes old ≡ [] → Adds (written old) text (written new) → written new ≡ text
adds-first old new text h k = k ∙ ap (λ bs. chars bs ++ text) h ∙ ap (λ cs. cs ++ text) chars-nil
