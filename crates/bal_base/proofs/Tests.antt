-- What a test of the parts says of the whole.
use Rattle.std.proofs.Common.{◌≡◌, ◌↔◌, IsTrue, Bool, sym, subst}

-- F of the value v is what is said of its parts, and the test decides that
pub by_parts : {S Q : Type 0} (F : S → Type 0) {s v : S} {r : Bool} → s ≡ v → (F v ↔ Q) → (IsTrue r ↔ Q) → IsTrue r ↔ F s
by_parts F is unfolds test = (λ h. subst F (sym is) (unfolds.1 (test.0 h)), λ h. test.1 (unfolds.0 (subst F is h)))

-- the same, where the test reads the parts as another value
pub by_read_parts : {S X : Type 0} (F : S → Type 0) (Q : X → Type 0) {s v : S} {xs ys : X} {r : Bool} → s ≡ v → xs ≡ ys → (F v ↔ Q ys) → (IsTrue r ↔ Q xs) → IsTrue r ↔ F s
by_read_parts F Q is read unfolds test = by_parts F is unfolds (λ h. subst Q read (test.0 h), λ h. test.1 (subst Q (sym read) h))
