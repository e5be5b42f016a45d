-- Texts, each once.
use Rattle.std.proofs.Common.{◌≡◌, ◌≢◌, ◌<◌, ◌++◌, ◌∙◌, ℕ, Bool, true, false, List, [], ◌∷◌, All, Any, if◌then◌else◌, ap, refl, sym, zero, suc, arith, get_or, length}
use Rattle.std.specs.Prelude.{AllPairs}
use Rattle.std.specs.List.{fold}
use Rattle.std.proofs.lemmas.Bool.{false≢true}
use Rattle.std.proofs.lemmas.List.Elements.{All-cons, All-head, All-nil}
use Rattle.std.proofs.lemmas.List.Folds.{Any-from_list_any, list_any-from_Any}
use Rattle.std.proofs.lemmas.List.Quantifiers.{all_pairs_push}
use Rattle.std.proofs.lemmas.List.Sums.{fold-append}
use Rattle.std.specs.Cmp.Lexicographic.{bytes_decides}
use Rattle.bal_base.specs.declared.text.Text.{Text}
use Rattle.type_model.specs.Places.{is_same_text}
use Rattle.pair_questions.specs.declared.pair.Pair.{Pair}
use Rattle.pair_questions.specs.inner.Strings.{texts_of}
use Rattle.pair_questions.proofs.KeyTexts.{IsApart, back-apart, front-apart}
use Rattle.detail_questions.specs.inner.Names.{among, with_key, with_keys, with_text, with_texts}

-- texts put one behind another, in two parts
pub texts_one_by_one : (texts one two : List Text) → with_texts texts (one ++ two) ≡ with_texts (with_texts texts one) two
texts_one_by_one texts one two = fold-append with_text texts one two

-- a text that isn't among them
pub with-new : (texts slice new : List Text) (text own : Text) (b : Bool) → slice ≡ texts → b ≡ among slice text → b ≡ false → new ≡ texts ++ own ∷ [] → own ≡ text → new ≡ with_text texts text
with-new texts slice new text own b same is e put share = put ∙ (ap (λ (t : Text). texts ++ t ∷ []) share ∙ by (among texts text) (sym e ∙ is ∙ ap (λ (ts : List Text). among ts text) same))
  where
    by : (c : Bool) → false ≡ c → texts ++ text ∷ [] ≡ (if c then texts else texts ++ text ∷ [])
    by false f = refl
    by true f = absurd (false≢true f)

-- ---- each once

abbrev pub AreDistinct : List Text → Type 0
AreDistinct texts = AllPairs (λ s t. s ≢ t) texts

not-among : (texts : List Text) (text : Text) → among texts text ≡ false → (k : ℕ) (d : Text) → k < length texts → get_or texts k d ≢ text
not-among texts text e k d lt same =
    let found : among texts text ≡ true = list_any-from_Any (λ t. is_same_text t text) texts (k, get_or texts k d, lt, own texts k d lt, (bytes_decides (get_or texts k d) text).1 same) in
    false≢true (sym e ∙ found)
  where
    own : (ts : List Text) (i : ℕ) (d : Text) → i < length ts → get_or ts i (get_or ts i d) ≡ get_or ts i d
    own [] i d lt = absurd (omega (arith, lt))
    own (t ∷ ts) zero d lt = refl
    own (t ∷ ts) (suc i) d lt = own ts i d (omega (arith, lt))

one-distinct : (texts : List Text) (text : Text) → AreDistinct texts → AreDistinct (with_text texts text)
one-distinct texts text h = by (among texts text) refl
  where
    by : (b : Bool) → among texts text ≡ b → AreDistinct (if b then texts else texts ++ text ∷ [])
    by true e = h
    by false e = all_pairs_push (λ s t. s ≢ t) texts text h (not-among texts text e)

all-distinct : (texts more : List Text) → AreDistinct texts → AreDistinct (with_texts texts more)
all-distinct texts [] h = h
all-distinct texts (t ∷ more) h = all-distinct (with_text texts t) more (one-distinct texts t h)

keys-distinct : (texts : List Text) (pairs : List Pair) → AreDistinct texts → AreDistinct (fold with_key texts pairs)
keys-distinct texts [] h = h
keys-distinct texts (p ∷ pairs) h = keys-distinct (with_key texts p) pairs (all-distinct texts (texts_of p.key.now) h)

pub names-distinct : (pairs : List Pair) → AreDistinct (with_keys pairs)
names-distinct pairs = keys-distinct [] pairs (λ i j d lt within. absurd (omega (arith, within)))

-- ---- all of them: what is apart from what was noted is apart from each

there-apart : (texts : List Text) (text x : Text) → Any (λ t. is_same_text t text ≡ true) texts → IsApart x texts → text ≢ x
there-apart texts text x (k, t, lt, is, e) apart same = apart k t lt (is ∙ ((bytes_decides t text).0 e ∙ same))

one-apart : (texts : List Text) (text x : Text) → IsApart x (with_text texts text) → IsApart x texts × (text ≢ x)
one-apart texts text x = by (among texts text) refl
  where
    by : (b : Bool) → among texts text ≡ b → IsApart x (if b then texts else texts ++ text ∷ []) → IsApart x texts × (text ≢ x)
    by true e h = (h, there-apart texts text x (Any-from_list_any (λ t. is_same_text t text) texts e) h)
    by false e h = (front-apart x texts (text ∷ []) h, All-head (λ s. s ≢ x) text [] (back-apart x texts (text ∷ []) h))

all-apart : (texts more : List Text) (x : Text) → IsApart x (with_texts texts more) → IsApart x texts × IsApart x more
all-apart texts [] x h = (h, All-nil (λ s. s ≢ x))
all-apart texts (t ∷ more) x h =
    let behind = all-apart (with_text texts t) more x h in
    let own = one-apart texts t x behind.0 in
    (own.0, All-cons (λ s. s ≢ x) t more own.1 behind.1)

abbrev EachApart : Text → List Pair → Type 0
EachApart x pairs = All (λ (p : Pair). IsApart x (texts_of p.key.now)) pairs

keys-apart : (texts : List Text) (pairs : List Pair) (x : Text) → IsApart x (fold with_key texts pairs) → IsApart x texts × EachApart x pairs
keys-apart texts [] x h = (h, All-nil (λ (p : Pair). IsApart x (texts_of p.key.now)))
keys-apart texts (p ∷ pairs) x h =
    let behind = keys-apart (with_key texts p) pairs x h in
    let own = all-apart texts (texts_of p.key.now) x behind.0 in
    (own.0, All-cons (λ (q : Pair). IsApart x (texts_of q.key.now)) p pairs own.1 behind.1)

pub names-apart : (pairs : List Pair) (x : Text) → IsApart x (with_keys pairs) → All (λ (p : Pair). IsApart x (texts_of p.key.now)) pairs
names-apart pairs x h = (keys-apart [] pairs x h).1
