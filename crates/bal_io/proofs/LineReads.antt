-- A line that is read over several calls.
use Rattle.std.proofs.Common.{◌≡◌, ◌+◌, ◌-◌, ◌≤◌, ◌<◌, ◌++◌, ℕ, Bool, true, false, List, [], ◌∷◌, Option, Some, None, length, take, drop, not, cond, refl, sym, ◌∙◌, ap, subst, arith, inl, inr, zero, suc, lt-ltb, le-ltb, eq-eqb}
use Rattle.std.specs.Prelude.{◌==◌, ◌&&◌, slice_index, nat_lt, if◌then◌else◌}
use Rattle.std.proofs.lemmas.List.{append_assoc, append-nil, take_at, drop_at, take_all, drop_all, length-append, length-take, take_min}
use Rattle.std.proofs.lemmas.List.Folds.{prefix_len-append}
use Rattle.bal_io.specs.Content.{is_line_feed, first_line, line_text, without_return, GivesWhole, GivesCut, ReadsLine, LosesFront}
use Rattle.bal_io.specs.Fronts.{IsWithinLine, ReadsMore, HasRead}
use Rattle.bal_io.specs.Streams.{IfKnown}
use Rattle.bal_io.specs.declared.std_source.Progress.TheVariants.{Ended, Cut, AtEnd, GoesOn}
use Rattle.bal_io.proofs.Lines.{before_feed, length-before_first, position_or_len-le-length}

feed_at : (line rest : List ℕ) → IsWithinLine line → before_feed (line ++ rest) ≡ length line + before_feed rest
feed_at line rest h =
    let test = eq-eqb (before_feed line) (length line) h in
    prefix_len-append (λ b. not (is_line_feed b)) line rest ∙ ap (λ c. cond c (length line + before_feed rest) (before_feed line)) test

within-append : (a b : List ℕ) → IsWithinLine a → IsWithinLine b → IsWithinLine (a ++ b)
within-append a b h k = feed_at a b h ∙ omega (arith, k, length-append a b)

first_line-append : (line rest : List ℕ) → IsWithinLine line → length (first_line (line ++ rest)) ≡ length line + length (first_line rest)
first_line-append line rest h =
    length-before_first is_line_feed (line ++ rest) ∙ feed_at line rest h ∙ omega (arith, length-before_first is_line_feed rest)

text_if : (l : List ℕ) (b : Bool) → nat_lt (length (first_line l)) (length l) ≡ b → line_text l ≡ (if b then without_return (first_line l) else l)
text_if l b e = ap (λ c. if c then without_return (first_line l) else l) e

-- a line that a line feed ends
gives_ended : (max : ℕ) (line rest : List ℕ) → IsWithinLine line → length line ≤ max → GivesWhole max record { bytes = without_return line; whole = true } (line ++ 10 ∷ rest) rest
gives_ended max line rest h fits =
    let all = line ++ 10 ∷ rest in
    let here : before_feed all ≡ length line = feed_at line (10 ∷ rest) h ∙ omega arith in
    let first : first_line all ≡ line = take_at line (10 ∷ rest) (before_feed all) (sym here) in
    let size = length-append line (10 ∷ rest) in
    let longer : nat_lt (length (first_line all)) (length all) ≡ true = lt-ltb _ _ (omega (arith, size, ap (λ l. length l) first)) in
    let text : line_text all ≡ without_return line = text_if all true longer ∙ ap (λ l. without_return l) first in
    let whole : all ≡ (line ++ 10 ∷ []) ++ rest = sym (append_assoc line (10 ∷ []) rest) in
    let left : drop (before_feed all + 1) all ≡ rest = ap (λ l. drop (before_feed all + 1) l) whole ∙ drop_at (line ++ 10 ∷ []) rest (before_feed all + 1) (omega (arith, here, length-append line (10 ∷ []))) in
    (omega (arith, fits, ap (λ l. length l) first), refl, sym text, sym left)

-- a line that the end of the input ends
gives_last : (max : ℕ) (line : List ℕ) → IsWithinLine line → length line ≤ max → GivesWhole max record { bytes = line; whole = true } line []
gives_last max line h fits =
    let first : first_line line ≡ line = take_all (before_feed line) line (omega (arith, h)) in
    let shorter : nat_lt (length (first_line line)) (length line) ≡ false = le-ltb _ _ (omega (arith, ap (λ l. length l) first)) in
    let text : line_text line ≡ line = text_if line false shorter in
    let left : drop (before_feed line + 1) line ≡ [] = drop_all (before_feed line + 1) line (omega (arith, h)) in
    (omega (arith, fits, ap (λ l. length l) first), refl, sym text, sym left)

-- a line that is cut after as many bytes as are asked for
gives_cut : (max : ℕ) (line rest : List ℕ) → length line ≡ max → max < length (first_line (line ++ rest)) → GivesCut max record { bytes = line; whole = false } (line ++ rest) rest
gives_cut max line rest full more = (more, refl, sym (take_at line rest max full), sym (drop_at line rest max full))

-- all that was to be read, as the longer line and what is left behind it
joined : (line text more all here rest : List ℕ) → all ≡ line ++ here → more ≡ line ++ text → here ≡ text ++ rest → all ≡ more ++ rest
joined line text more all here rest h k t =
    h ∙ ap (λ l. line ++ l) t ∙ sym (append_assoc line text rest) ∙ ap (λ l. l ++ rest) (sym k)

pub HasRead-more : (max : ℕ) (line more all here rest : List ℕ) → HasRead line all here → ReadsMore max GoesOn line more here rest → HasRead more all rest
HasRead-more max line more all here rest h k =
    let within = within-append line k.0 h.1 k.2.1 in
    let Within : List ℕ → Type 0 = λ l. IsWithinLine l in
    (joined line k.0 more all here rest h.0 k.1 k.2.0, subst Within (sym k.1) within)

pub ReadsLine-ended : (max : ℕ) (line more all here rest : List ℕ) → length line ≤ max → HasRead line all here → ReadsMore max Ended line more here rest → ReadsLine max (Some record { bytes = without_return more; whole = true }) all rest
ReadsLine-ended max line more all here rest bound h k =
    let whole = joined line k.0 more all here (10 ∷ rest) h.0 k.1 k.2.0 in
    let Within : List ℕ → Type 0 = λ l. IsWithinLine l in
    let within = subst Within (sym k.1) (within-append line k.0 h.1 k.2.1) in
    let fits : length more ≤ max = omega (arith, bound, k.2.2, ap (λ l. length l) k.1, length-append line k.0) in
    let some : 0 < length (more ++ 10 ∷ rest) = omega (arith, length-append more (10 ∷ rest)) in
    let Gives : List ℕ → Type 0 = λ l. ReadsLine max (Some record { bytes = without_return more; whole = true }) l rest in
    subst Gives (sym whole) (some, inl (gives_ended max more rest within fits))

pub ReadsLine-cut : (max : ℕ) (line more all here rest : List ℕ) → length line ≤ max → HasRead line all here → ReadsMore max Cut line more here rest → ReadsLine max (Some record { bytes = more; whole = false }) all rest
ReadsLine-cut max line more all here rest bound h k =
    let whole = joined line k.0 more all here rest h.0 k.1 k.2.0 in
    let full : length more ≡ max = omega (arith, bound, k.2.1, ap (λ l. length l) k.1, length-append line k.0) in
    let goes_on = first_line-append line here h.1 in
    let longer : max < length (first_line all) = omega (arith, bound, k.2.2, goes_on, ap (λ l. length (first_line l)) h.0) in
    let First : List ℕ → Type 0 = λ l. max < length (first_line l) in
    let longer' = subst First whole longer in
    let some : 0 < length (more ++ rest) = omega (arith, longer', length-before_first is_line_feed (more ++ rest), position_or_len-le-length is_line_feed (more ++ rest)) in
    let Gives : List ℕ → Type 0 = λ l. ReadsLine max (Some record { bytes = more; whole = false }) l rest in
    subst Gives (sym whole) (some, inr (gives_cut max more rest full longer'))

none_left : (l : List ℕ) → length l ≡ 0 → l ≡ []
none_left [] h = refl
none_left (x ∷ xs) h = absurd (omega (arith, h))

-- at the end, all that was to be read is the line
all_read : (line text more all here : List ℕ) → all ≡ line ++ here → more ≡ line ++ text → text ≡ [] → here ≡ [] → (all ≡ more) × (line ≡ more)
all_read line text more all here h k none end =
    let same : line ≡ more = sym (k ∙ ap (λ l. line ++ l) none ∙ append-nil line) in
    (h ∙ ap (λ l. line ++ l) end ∙ append-nil line ∙ same, same)

pub ReadsLine-none : (max : ℕ) (line more all here rest : List ℕ) → length more ≡ 0 → HasRead line all here → ReadsMore max AtEnd line more here rest → ReadsLine max None all rest
ReadsLine-none max line more all here rest empty h k =
    ((all_read line k.0 more all here h.0 k.1 k.2.0 k.2.1).0 ∙ none_left more empty, k.2.2)

pub ReadsLine-last : (max : ℕ) (line more all here rest : List ℕ) → length line ≤ max → 0 < length more → HasRead line all here → ReadsMore max AtEnd line more here rest → ReadsLine max (Some record { bytes = more; whole = true }) all rest
ReadsLine-last max line more all here rest bound some h k =
    let end = all_read line k.0 more all here h.0 k.1 k.2.0 k.2.1 in
    let Within : List ℕ → Type 0 = λ l. IsWithinLine l in
    let within = subst Within end.1 h.1 in
    let fits : length more ≤ max = omega (arith, bound, ap (λ l. length l) end.1) in
    let All : List ℕ → Type 0 = λ l. ReadsLine max (Some record { bytes = more; whole = true }) l rest in
    let Rest : List ℕ → Type 0 = λ r. ReadsLine max (Some record { bytes = more; whole = true }) more r in
    subst All (sym end.0) (subst Rest (sym k.2.2) (some, inl (gives_last max more within fits)))

pub LosesFront-read : (line all here rest : List ℕ) → HasRead line all here → rest ≡ here → LosesFront all rest
LosesFront-read line all here rest h same = (line, ap (λ l. line ++ l) same ∙ sym h.0)

same : {P Q R : List ℕ → List ℕ → Type 0} → ((a b c : List ℕ) → P a b → Q b c → R a c) → (x y z : Option (List ℕ)) → IfKnown P x y → IfKnown Q y z → IfKnown R x z
same f None y z h k = tt
same f (Some a) None z h k = absurd h
same f (Some a) (Some b) None h k = k
same f (Some a) (Some b) (Some c) h k = f a b c h k

pub HasRead-none : (known : Option (List ℕ)) → IfKnown (HasRead []) known known
HasRead-none None = tt
HasRead-none (Some all) = (refl, refl)

cut_to : (b : Bool) (k : ℕ) (l : List ℕ) → take (length (if b then take k l else l)) l ≡ (if b then take k l else l)
cut_to true k l = ap (λ n. take n l) (length-take k l) ∙ take_min k l
cut_to false k l = take_all (length l) l (omega arith)

-- a line that is cut to the size that it has without a carriage return
pub without_return-take : (line : List ℕ) → take (length (without_return line)) line ≡ without_return line
without_return-take line = cut_to (nat_lt 0 (length line) && (slice_index line (length line - 1) == 13)) (length line - 1) line

pub is_some : (n m : ℕ) → n ≡ m → false ≡ (n == 0) → 0 < m
is_some zero m e h = cc
is_some (suc n) m e h = omega (arith, e)

module _ (max : ℕ) (line more : List ℕ) (x y z : Option (List ℕ)) (h : IfKnown (HasRead line) x y) where
  pub known-more : IfKnown (ReadsMore max GoesOn line more) y z → IfKnown (HasRead more) x z
  known-more k = same (HasRead-more max line more) x y z h k

  pub known-ended : length line ≤ max → IfKnown (ReadsMore max Ended line more) y z → IfKnown (ReadsLine max (Some record { bytes = without_return more; whole = true })) x z
  known-ended bound k = same (λ a b c. ReadsLine-ended max line more a b c bound) x y z h k

  pub known-cut : length line ≤ max → IfKnown (ReadsMore max Cut line more) y z → IfKnown (ReadsLine max (Some record { bytes = more; whole = false })) x z
  known-cut bound k = same (λ a b c. ReadsLine-cut max line more a b c bound) x y z h k

  pub known-none : length more ≡ 0 → IfKnown (ReadsMore max AtEnd line more) y z → IfKnown (ReadsLine max None) x z
  known-none empty k = same (λ a b c. ReadsLine-none max line more a b c empty) x y z h k

  pub known-last : length line ≤ max → 0 < length more → IfKnown (ReadsMore max AtEnd line more) y z → IfKnown (ReadsLine max (Some record { bytes = more; whole = true })) x z
  known-last bound some k = same (λ a b c. ReadsLine-last max line more a b c bound some) x y z h k

  pub known-lost : IfKnown (λ old new. new ≡ old) y z → IfKnown LosesFront x z
  known-lost k = same (LosesFront-read line) x y z h k
