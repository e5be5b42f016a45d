-- A line more that was read leads to a line more of the bytes.
use Rattle.std.proofs.Common.{◌≡◌, ◌⊎◌, ◌+◌, ◌-◌, ◌≤◌, ◌<◌, ◌++◌, ℕ, Bool, true, false, List, [], ◌∷◌, Some, None, length, take, drop, refl, sym, ◌∙◌, ap, subst, arith, inl, inr, ⊎_elim}
use Rattle.std.specs.Prelude.{nat_lt, if◌then◌else◌}
use Rattle.std.proofs.lemmas.List.{append-nil, append_assoc, drop_all, length-append, length-take, take-append-drop}
use Rattle.std.proofs.lemmas.Bool.{ltb-true, ltb-false}
use Rattle.bal_io.specs.Content.{GivesCut, GivesWhole, LosesFront, ReadsLine, first_line, is_line_feed, line_text, without_return}
use Rattle.bal_io.specs.Fronts.{IsWithinLine}
use Rattle.bal_io.specs.declared.outside.Line.{Line}
use Rattle.bal_io.proofs.Lines.{before_feed, length-before_first, position_or_len-le-length, position_or_len-take}
use Rattle.op_model.specs.Limits.{most_line_bytes}
use Rattle.whole_input.specs.Lines.{GiveSame, at_end, by_line, IsReadWhole}
use Rattle.whole_input.specs.inner.Ends.{AreReady, HasReadSo, ended_by, ends_with_return, line_end, shown}
use Rattle.whole_input.proofs.Given.{first-behind, reads-cut, reads-ended, reads-last, text-ended, text-last, within-first, within-return, within-text, without-end, without-none, without-one}

less-or-not : (a b : ℕ) → (a < b) ⊎ (b ≤ a)
less-or-not a b = grind arith

-- ---- ends

pub ready-end : AreReady [] []
ready-end = (at_end, λ some. some)

none-left : (a b : List ℕ) → a ≡ [] → GiveSame most_line_bytes a b → b ≡ []
none-left a b e at_end = refl
none-left a b e (by_line reads other more) = absurd (let some : 0 < length a = reads.0 in omega (arith, some, ap (λ l. length l) e))

-- ---- a whole line

module _ (now next rest : List ℕ) (some : 0 < length now) (fits : length (first_line now) ≤ most_line_bytes) (left : next ≡ drop (before_feed now + 1) now) (ready : AreReady next rest) where
  abbrev text : List ℕ
  text = line_text now

  abbrev line : Line
  line = record { bytes = text; whole = true }

  reads : ReadsLine most_line_bytes (Some line) now next
  reads = (some, inl (fits, refl, refl, left))

  -- the line is all that is left
  ends-all : nat_lt (length (first_line now)) (length now) ≡ false → IsWithinLine now
  ends-all e = omega (arith, ltb-false _ _ e, length-before_first is_line_feed now, position_or_len-le-length is_line_feed now)

  within : IsWithinLine text
  within = within-text _ _ now refl refl ends-all

  shorter : (b c : Bool) → nat_lt (length (first_line now)) (length now) ≡ b → ends_with_return (first_line now) ≡ c → length text ≤ most_line_bytes
  shorter true true e k = omega (arith, fits, length-take (length (first_line now) - 1) (first_line now), ap (λ l. length l) (text-ended now e ∙ without-one (first_line now) k))
  shorter true false e k = omega (arith, fits, ap (λ l. length l) (text-ended now e ∙ without-none (first_line now) k))
  shorter false c e k = omega (arith, fits, ltb-false _ _ e, ap (λ l. length l) (text-last now e))

  bounded : length text ≤ most_line_bytes
  bounded = shorter _ _ refl refl

  goes : (end : List ℕ) → ReadsLine most_line_bytes (Some line) ((text ++ end) ++ rest) rest → 0 < length (first_line ((text ++ end) ++ rest)) → AreReady now ((text ++ end) ++ rest)
  goes end h more = (by_line reads h ready.0, λ first. more)

  -- ended by a carriage return and a line feed
  by-two : length text < most_line_bytes → AreReady now ((text ++ 13 ∷ 10 ∷ []) ++ rest)
  by-two lt =
      let same : (text ++ 13 ∷ 10 ∷ []) ++ rest ≡ (text ++ 13 ∷ []) ++ 10 ∷ rest = append_assoc text (13 ∷ 10 ∷ []) rest ∙ sym (append_assoc text (13 ∷ []) (10 ∷ rest)) in
      let size = length-append text (13 ∷ []) in
      let h = reads-ended most_line_bytes (text ++ 13 ∷ []) rest (within-return text within) (omega (arith, lt, size)) in
      let Gives : List ℕ → Type 0 = λ t. ReadsLine most_line_bytes (Some record { bytes = t; whole = true }) ((text ++ 13 ∷ []) ++ 10 ∷ rest) rest in
      let Of : List ℕ → Type 0 = λ l. ReadsLine most_line_bytes (Some line) l rest in
      let first : 0 < length (first_line ((text ++ 13 ∷ []) ++ 10 ∷ rest)) = omega (arith, size, first-behind (text ++ 13 ∷ []) (10 ∷ rest) (within-return text within)) in
      let First : List ℕ → Type 0 = λ l. 0 < length (first_line l) in
      goes (13 ∷ 10 ∷ []) (subst Of (sym same) (subst Gives (without-end text) h)) (subst First (sym same) first)

  full : (length text < most_line_bytes → ⊥) → length text ≡ most_line_bytes
  full longer =
      let least : most_line_bytes ≤ length text = ⊎_elim (λ lt. absurd (longer lt)) (λ le. le) (less-or-not (length text) most_line_bytes) in
      omega (arith, bounded, least)

  -- a line as long as a line may be, which ends with a carriage return, is the last one
  is-last : (b c : Bool) → nat_lt (length (first_line now)) (length now) ≡ b → ends_with_return (first_line now) ≡ c → length text ≡ most_line_bytes → ends_with_return text ≡ true → text ≡ now
  is-last true true e k all r = absurd (omega (arith, fits, all, positive, length-take (length (first_line now) - 1) (first_line now), ap (λ l. length l) (text-ended now e ∙ without-one (first_line now) k)))
    where
      positive : 0 < most_line_bytes
      positive = omega arith
  is-last true false e k all r = absurd (let bad-test : true ≡ false = sym r ∙ (ap ends_with_return (text-ended now e ∙ without-none (first_line now) k) ∙ k) in let bad : ⊥ = cc in bad)
  is-last false c e k all r = text-last now e

  by-none : length text ≡ most_line_bytes → ends_with_return text ≡ true → AreReady now ((text ++ []) ++ rest)
  by-none all r =
      let same : text ≡ now = is-last _ _ refl refl all r in
      let stands : IsWithinLine now = subst (λ t. IsWithinLine t) same within in
      let nothing : next ≡ [] = left ∙ drop_all (before_feed now + 1) now (omega (arith, stands)) in
      let end : rest ≡ [] = none-left next rest nothing ready.0 in
      let whole : (text ++ []) ++ rest ≡ text = ap (λ l. (text ++ []) ++ l) end ∙ (append-nil (text ++ []) ∙ append-nil text) in
      let h = reads-last most_line_bytes text within bounded (omega (arith, all)) in
      let Rest : List ℕ → Type 0 = λ l. ReadsLine most_line_bytes (Some line) text l in
      let Of : List ℕ → Type 0 = λ l. ReadsLine most_line_bytes (Some line) l rest in
      let first : 0 < length (first_line text) = omega (arith, all, length-before_first is_line_feed text, within) in
      let First : List ℕ → Type 0 = λ l. 0 < length (first_line l) in
      goes [] (subst Of (sym whole) (subst Rest (sym end) h)) (subst First (sym whole) first)

  -- ended by a line feed
  by-one : length text ≡ most_line_bytes → ends_with_return text ≡ false → AreReady now ((text ++ 10 ∷ []) ++ rest)
  by-one all r =
      let same : (text ++ 10 ∷ []) ++ rest ≡ text ++ 10 ∷ rest = append_assoc text (10 ∷ []) rest in
      let h = reads-ended most_line_bytes text rest within bounded in
      let Gives : List ℕ → Type 0 = λ t. ReadsLine most_line_bytes (Some record { bytes = t; whole = true }) (text ++ 10 ∷ rest) rest in
      let Of : List ℕ → Type 0 = λ l. ReadsLine most_line_bytes (Some line) l rest in
      let first : 0 < length (first_line (text ++ 10 ∷ rest)) = omega (arith, all, first-behind text (10 ∷ rest) within) in
      let First : List ℕ → Type 0 = λ l. 0 < length (first_line l) in
      goes (10 ∷ []) (subst Of (sym same) (subst Gives (without-none text r) h)) (subst First (sym same) first)

  by-end : (b c : Bool) → nat_lt (length text) most_line_bytes ≡ b → ends_with_return text ≡ c →
      AreReady now ((text ++ (if b then 13 ∷ 10 ∷ [] else (if c then [] else 10 ∷ []))) ++ rest)
  by-end true c e k = by-two (ltb-true _ _ e)
  by-end false true e k = by-none (full (λ lt. omega (arith, lt, ltb-false _ _ e))) k
  by-end false false e k = by-one (full (λ lt. omega (arith, lt, ltb-false _ _ e))) k

  whole-leads : AreReady now (shown line ++ rest)
  whole-leads = by-end _ _ refl refl

-- ---- a line that is cut

cut-leads : (now next rest : List ℕ) → 0 < length now → most_line_bytes < length (first_line now) → next ≡ drop most_line_bytes now → AreReady next rest → AreReady now ((take most_line_bytes now ++ []) ++ rest)
cut-leads now next rest some more left ready =
    let text = take most_line_bytes now in
    let feed = length-before_first is_line_feed now in
    let size : length text ≡ most_line_bytes = omega (arith, more, feed, position_or_len-le-length is_line_feed now, length-take most_line_bytes now) in
    let within : IsWithinLine text = position_or_len-take is_line_feed most_line_bytes now ∙ omega (arith, more, feed, size) in
    let whole : text ++ next ≡ now = ap (λ l. text ++ l) left ∙ take-append-drop most_line_bytes now in
    let behind : 0 < length (first_line next) = omega (arith, more, size, first-behind text next within, ap (λ l. length (first_line l)) whole) in
    let h = reads-cut most_line_bytes text rest within size (ready.1 behind) in
    let same : (text ++ []) ++ rest ≡ text ++ rest = ap (λ l. l ++ rest) (append-nil text) in
    let Of : List ℕ → Type 0 = λ l. AreReady now l in
    subst Of (sym same)
    (by_line (some, inr (more, refl, refl, left)) h ready.0, λ first. omega (arith, size, more, first-behind text rest within))

-- ---- any line

line-leads : (line : Line) (now next rest : List ℕ) → ReadsLine most_line_bytes (Some line) now next → AreReady next rest → AreReady now (shown line ++ rest)
line-leads line now next rest (some, inl (fits, is, text, left)) ready =
    let same : line ≡ record { bytes = line_text now; whole = true } = ap (λ b. record { bytes = b; whole = line.whole }) text ∙ ap (λ w. record { bytes = line_text now; whole = w }) is in
    subst (λ l. AreReady now (shown l ++ rest)) (sym same) (whole-leads now next rest some fits left ready)
line-leads line now next rest (some, inr (more, is, text, left)) ready =
    let same : line ≡ record { bytes = take most_line_bytes now; whole = false } = ap (λ b. record { bytes = b; whole = line.whole }) text ∙ ap (λ w. record { bytes = take most_line_bytes now; whole = w }) is in
    subst (λ l. AreReady now (shown l ++ rest)) (sym same) (cut-leads now next rest some more left ready)

dropped : (n : ℕ) (old new : List ℕ) → new ≡ drop n old → LosesFront old new
dropped n old new e = (take n old, ap (λ l. take n old ++ l) e ∙ take-append-drop n old)

pub line-lost : (line : Line) (old new : List ℕ) → ReadsLine most_line_bytes (Some line) old new → LosesFront old new
line-lost l old new (some, inl whole) = dropped (before_feed old + 1) old new whole.3
line-lost l old new (some, inr cut) = dropped most_line_bytes old new cut.3

pub lost-twice : (a b c : List ℕ) → LosesFront a b → LosesFront b c → LosesFront a c
lost-twice a b c (x, e) (y, f) = (x ++ y, append_assoc x y c ∙ (ap (λ l. x ++ l) f ∙ e))

pub reads-on : (bytes : List ℕ) (line : Line) (old now next : List ℕ) → HasReadSo bytes old now → ReadsLine most_line_bytes (Some line) now next → HasReadSo (bytes ++ shown line) old next
reads-on bytes line old now next (leads, lost) h = (
  λ rest ready. subst (λ l. AreReady old l) (sym (append_assoc bytes (shown line) rest)) (leads (shown line ++ rest) (line-leads line now next rest h ready)),
  lost-twice old now next lost (line-lost line now next h),
)

pub reads-all : (bytes old now next : List ℕ) → HasReadSo bytes old now → ReadsLine most_line_bytes None now next → IsReadWhole bytes old next
reads-all bytes old now next (leads, lost) (none, nothing) =
    let Now : List ℕ → Type 0 = λ l. AreReady l [] in
    let ready = leads [] (subst Now (sym none) ready-end) in
    (subst (λ l. GiveSame most_line_bytes old l) (append-nil bytes) ready.0, nothing)
