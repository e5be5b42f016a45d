-- What was written of some bytes.
use Rattle.std.proofs.Common.{◌≡◌, ◌++◌, ℕ, List, [], Option, Some, None, take, drop, refl, sym, ◌∙◌, ap}
use Rattle.std.proofs.lemmas.List.{take-append-drop, append_assoc, append-nil}
use Rattle.bal_io.specs.Content.{Appends, AppendsFront}
use Rattle.bal_io.specs.Streams.{IfKnown}

-- a first part of the bytes was written, and the rest is left
abbrev pub Wrote : List ℕ → List ℕ → Option (List ℕ) → Option (List ℕ) → Type 0
Wrote bytes rest old new = (done : List ℕ) × (done ++ rest ≡ bytes) × IfKnown (Appends done) old new

same : (known : Option (List ℕ)) → IfKnown (Appends []) known known
same None = tt
same (Some xs) = sym (append-nil xs)

then_more : (a b : List ℕ) (x y z : Option (List ℕ)) → IfKnown (Appends a) x y → IfKnown (Appends b) y z → IfKnown (Appends (a ++ b)) x z
then_more a b None y z h k = tt
then_more a b (Some xs) None z h k = absurd h
then_more a b (Some xs) (Some ys) None h k = k
then_more a b (Some xs) (Some ys) (Some zs) h k = k ∙ ap (λ l. l ++ b) h ∙ append_assoc xs a b

front : (bytes a rest : List ℕ) (x y z : Option (List ℕ)) → a ++ rest ≡ bytes → IfKnown (Appends a) x y → IfKnown (λ old new. new ≡ old) y z → IfKnown (AppendsFront bytes) x z
front bytes a rest None y z e h k = tt
front bytes a rest (Some xs) None z e h k = absurd h
front bytes a rest (Some xs) (Some ys) None e h k = k
front bytes a rest (Some xs) (Some ys) (Some zs) e h k = (a, (rest, e), k ∙ h)

pub Wrote-none : (bytes : List ℕ) (known : Option (List ℕ)) → Wrote bytes bytes known known
Wrote-none bytes known = ([], refl, same known)

pub Wrote-more : (bytes rest : List ℕ) (size : ℕ) (x y z : Option (List ℕ)) → Wrote bytes rest x y → IfKnown (Appends (take size rest)) y z → Wrote bytes (drop size rest) x z
Wrote-more bytes rest size x y z h more = (
  h.0 ++ take size rest,
  append_assoc h.0 (take size rest) (drop size rest) ∙ ap (λ l. h.0 ++ l) (take-append-drop size rest) ∙ h.1,
  then_more h.0 (take size rest) x y z h.2 more,
)

all : (bytes a : List ℕ) (x y : Option (List ℕ)) → a ≡ bytes → IfKnown (Appends a) x y → IfKnown (Appends bytes) x y
all bytes a None y e h = tt
all bytes a (Some xs) None e h = h
all bytes a (Some xs) (Some ys) e h = h ∙ ap (λ l. xs ++ l) e

pub Wrote-all : (bytes : List ℕ) (x y : Option (List ℕ)) → Wrote bytes [] x y → IfKnown (Appends bytes) x y
Wrote-all bytes x y h = all bytes h.0 x y (sym (append-nil h.0) ∙ h.1) h.2

pub Wrote-front : (bytes rest : List ℕ) (x y z : Option (List ℕ)) → Wrote bytes rest x y → IfKnown (λ old new. new ≡ old) y z → IfKnown (AppendsFront bytes) x z
Wrote-front bytes rest x y z h k = front bytes h.0 rest x y z h.1 h.2 k

pub AppendsFront-take : (n : ℕ) (bytes old new : List ℕ) → Appends (take n bytes) old new → AppendsFront bytes old new
AppendsFront-take n bytes old new h = (take n bytes, (drop n bytes, take-append-drop n bytes), h)
