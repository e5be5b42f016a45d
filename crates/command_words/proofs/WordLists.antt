-- Lists of words at a place, as their bytes.
use Rattle.std.proofs.Common.{◌≡◌, ◌∙◌, ◌<◌, ◌≤◌, ◌+◌, ℕ, suc, List, [], ◌∷◌, ◌++◌, String, add-one, drop, get_or, length, map, string_bytes, sym, ap, arith, drop-cons}
use Rattle.std.specs.Global.{Global}
use Rattle.std.specs.Borrow.{Bor}
use Rattle.std.proofs.Math.ListN.{drop_of_length-le, get_or-map}
use Rattle.std.proofs.lemmas.List.{length-map, map-append}
use Rattle.command_words.specs.inner.Reading.{bytes_of}

-- the word at a place, and those behind it
pub word-at : (words : List (String Global)) (i : ℕ) (word : String Global) (bytes : List ℕ) → i < length words → word ≡ get_or words i word → bytes ≡ string_bytes word
    → drop i (map string_bytes words) ≡ bytes ∷ drop (i + 1) (map string_bytes words)
word-at words i word bytes lt e b =
    let n : length (map string_bytes words) ≡ length words = length-map words string_bytes in
    let at : drop i (map string_bytes words) ≡ get_or (map string_bytes words) i (string_bytes word) ∷ drop (suc i) (map string_bytes words) =
    drop-cons (map string_bytes words) i (string_bytes word) (omega (arith, n, lt)) in
    let same : get_or (map string_bytes words) i (string_bytes word) ≡ bytes = get_or-map string_bytes words i word ∙ ap string_bytes (sym e) ∙ sym b in
    at ∙ ap (λ w. w ∷ drop (suc i) (map string_bytes words)) same ∙ ap (λ k. bytes ∷ drop k (map string_bytes words)) (sym (add-one i))

-- there is none behind the last one
pub words-end : (words : List (String Global)) (i : ℕ) → length words ≤ i → drop i (map string_bytes words) ≡ []
words-end words i le =
    let n : length (map string_bytes words) ≡ length words = length-map words string_bytes in
    drop_of_length-le (map string_bytes words) (omega (arith, n, le))

-- one more word
pub bytes-more : (words : List (Bor (List ℕ))) (word : Bor (List ℕ)) → bytes_of (words ++ word ∷ []) ≡ bytes_of words ++ word.now ∷ []
bytes-more words word = map-append (λ w. w.now) words (word ∷ [])
