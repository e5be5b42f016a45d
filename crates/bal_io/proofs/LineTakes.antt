-- What one read of a buffer takes of a line.
use Rattle.std.proofs.Common.{◌≡◌, ◌+◌, ◌≤◌, ◌<◌, ◌++◌, ◌==◌, ℕ, Bool, true, false, List, [], ◌∷◌, Option, Some, None, IfSome, length, take, drop, min, not, cond, refl, sym, ◌∙◌, ap, subst, arith, suc, eqb-true}
use Rattle.std.specs.Io.{StartsWith}
use Rattle.std.specs.Io.KnownBytes.{Keeps}
use Rattle.std.specs.Io.BufRead.{DropsConsumable}
use Rattle.std.proofs.lemmas.List.{append_assoc, drop_at, length-append, length-take, take-append-drop, take-append-le}
use Rattle.bal_io.specs.Content.{is_line_feed, first_line}
use Rattle.bal_io.specs.Fronts.{IsLineFront, IsWithinLine, Takes}
use Rattle.bal_io.specs.Streams.{IfKnown}
use Rattle.bal_io.specs.declared.fronts.Extent.TheVariants.{LineFeed, Full, AllTaken}
use Rattle.bal_io.specs.declared.std_source.Progress.TheVariants.{Ended, Cut, AtEnd, GoesOn}
use Rattle.bal_io.proofs.Lines.{before_feed, length-before_first, position_or_len-le-length, position_or_len-take}

feed_cons : (b : Bool) (x : ℕ) (xs : List ℕ) → (b ≡ true → x ≡ 10) → (b ≡ false → xs ≡ first_line xs ++ 10 ∷ drop (before_feed xs + 1) xs) → x ∷ xs ≡ take (cond (not b) (1 + before_feed xs) 0) (x ∷ xs) ++ 10 ∷ drop (cond (not b) (1 + before_feed xs) 0 + 1) (x ∷ xs)
feed_cons true x xs h k = ap (λ y. y ∷ xs) (h refl)
feed_cons false x xs h k =
    let m = before_feed xs in
    let Here : ℕ → Type 0 = λ n. x ∷ xs ≡ take n (x ∷ xs) ++ 10 ∷ drop (n + 1) (x ∷ xs) in
    let next : suc (m + 1) ≡ suc m + 1 = omega arith in
    let one : suc m ≡ 1 + m = omega arith in
    subst Here one (ap (λ l. x ∷ l) (k refl) ∙ ap (λ n. (x ∷ take m xs) ++ 10 ∷ drop n (x ∷ xs)) next)

-- the first line feed, and what stands around it
feed : (s : List ℕ) → before_feed s < length s → s ≡ first_line s ++ 10 ∷ drop (before_feed s + 1) s
feed [] h = absurd (omega (arith, h))
feed (x ∷ xs) h =
    feed_cons (x == 10) x xs (eqb-true x 10) (λ e. feed xs (omega (arith, h, ap (λ b. cond (not b) (1 + before_feed xs) 0) e)))

-- the bytes are the buffer and what follows it
split : (a s : List ℕ) → StartsWith a s → a ≡ s ++ drop (length s) a
split a s h = sym (take-append-drop (length s) a) ∙ ap (λ l. l ++ drop (length s) a) h

pub Takes-ended : (room : ℕ) (text s a : List ℕ) → IsLineFront room text LineFeed s → StartsWith a s → Takes room Ended text a (drop (length text + 1) a)
Takes-ended room text s a f h =
    let size : length text ≡ before_feed s = ap (λ l. length l) f.0 ∙ length-before_first is_line_feed s in
    let behind = drop (before_feed s + 1) s in
    let tail = drop (length s) a in
    let here : s ≡ text ++ 10 ∷ behind = feed s (omega (arith, size, f.1)) ∙ ap (λ l. l ++ 10 ∷ behind) (sym f.0) in
    let whole : a ≡ (text ++ 10 ∷ []) ++ (behind ++ tail) =
    split a s h ∙ ap (λ l. l ++ tail) here ∙ append_assoc text (10 ∷ behind) tail ∙ sym (append_assoc text (10 ∷ []) (behind ++ tail)) in
    let left : drop (length text + 1) a ≡ behind ++ tail =
    ap (λ l. drop (length text + 1) l) whole ∙ drop_at (text ++ 10 ∷ []) (behind ++ tail) (length text + 1) (length-append text (10 ∷ [])) in
    let within : IsWithinLine text =
    ap (λ l. before_feed l) f.0 ∙ position_or_len-take is_line_feed (before_feed s) s ∙ omega (arith, size) in
    (whole ∙ append_assoc text (10 ∷ []) (behind ++ tail) ∙ ap (λ l. text ++ 10 ∷ l) (sym left), within, f.2)

pub Takes-cut : (room : ℕ) (text s a : List ℕ) → IsLineFront room text Full s → StartsWith a s → Takes room Cut text a (drop (length text) a)
Takes-cut room text s a f h =
    let first = length-before_first is_line_feed s in
    let within = position_or_len-le-length is_line_feed s in
    let full : length text ≡ room = omega (arith, f.1, first, within, length-take room s, ap (λ l. length l) f.0) in
    let tail = drop (length s) a in
    let front : take (length text) a ≡ text =
    ap (λ l. take (length text) l) (split a s h) ∙ take-append-le (length text) s tail (omega (arith, f.1, first, within, full)) ∙ ap (λ n. take n s) full ∙ sym f.0 in
    let whole : a ≡ text ++ drop (length text) a = sym (take-append-drop (length text) a) ∙ ap (λ l. l ++ drop (length text) a) front in
    let same : before_feed s ≡ min (length s) (before_feed a) = sym (ap (λ l. before_feed l) h) ∙ position_or_len-take is_line_feed (length s) a in
    let longer : room < length (first_line a) = omega (arith, f.1, first, same, length-before_first is_line_feed a) in
    (whole, full, longer)

pub Takes-all : (room : ℕ) (text s a : List ℕ) → IsLineFront room text AllTaken s → StartsWith a s → Takes room GoesOn text a (drop (length text) a)
Takes-all room text s a f h =
    let whole : a ≡ text ++ drop (length text) a = split a s h ∙ ap (λ l. l ++ drop (length l) a) (sym f.0) in
    let size = ap (λ l. length l) f.0 in
    let within : IsWithinLine text =
    ap (λ l. before_feed l) f.0 ∙ omega (arith, size, length-before_first is_line_feed s, ap (λ l. length l) f.1) in
    (whole, within, omega (arith, size, f.2))

pub Takes-end : (room : ℕ) (s a : List ℕ) → length s ≡ 0 → (length s ≡ 0 → a ≡ []) → Takes room AtEnd [] a a
Takes-end room s a none h = (refl, h none, h none)

pub Takes-nothing : (room : ℕ) (a : List ℕ) → Takes room GoesOn [] a a
Takes-nothing room a = (refl, refl, omega arith)

consumed : (P : List ℕ → List ℕ → Type 0) (a b : List ℕ) (z : Option (List ℕ)) (size : ℕ) → b ≡ a → z ≡ Some (drop size b) → P a (drop size a) → IfKnown P (Some a) z
consumed P a b z size same left p =
    let Left : Option (List ℕ) → Type 0 = λ o. IfKnown P (Some a) o in
    subst Left (sym (left ∙ ap (λ l. Some (drop size l)) same)) p

-- what is left after a part of the buffer was consumed
pub IfKnown-consumed : (P : List ℕ → List ℕ → Type 0) (x mid z : Option (List ℕ)) (limit : Option ℕ) (s : List ℕ) (size : ℕ) → Keeps x mid → IfSome x (λ _. IfSome limit (λ n. length s ≤ n)) → IfSome x (λ a. StartsWith a s) → size ≤ length s → DropsConsumable mid z limit size → ((a : List ℕ) → StartsWith a s → P a (drop size a)) → IfKnown P x z
IfKnown-consumed P None mid z limit s size k l f fits d p = tt
IfKnown-consumed P (Some a) None z limit s size k l f fits d p = absurd k
IfKnown-consumed P (Some a) (Some b) z None s size k l f fits d p = consumed P a b z size k (d tt) (p a f)
IfKnown-consumed P (Some a) (Some b) z (Some n) s size k l f fits d p = consumed P a b z size k (d (omega (arith, l, fits))) (p a f)
