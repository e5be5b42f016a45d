-- The same of inputs that may not tell what is left of them.
use Rattle.std.proofs.Common.{◌≡◌, ◌++◌, Bool, true, false, ℕ, List, [], Option, Some, None, refl, sym, ap, subst}
use Rattle.bal_io.specs.Content.{LosesFront, ReadsLine, Told}
use Rattle.bal_io.specs.declared.outside.Line.{Line}
use Rattle.op_model.specs.Limits.{most_line_bytes}
use Rattle.whole_input.specs.Lines.{IsReadWhole}
use Rattle.whole_input.specs.inner.Ends.{HasReadSo, TakesMore, shown}
use Rattle.whole_input.proofs.Leading.{line-lost, lost-twice, reads-all, reads-on}

told-both : {P Q R : List ℕ → List ℕ → Type 0} → ((a b c : List ℕ) → P a b → Q b c → R a c) → (x y z : Option (List ℕ)) → Told P x y → Told Q y z → Told R x z
told-both f None None None h k = tt
told-both f None None (Some c) h k = absurd k
told-both f None (Some b) z h k = absurd h
told-both f (Some a) None z h k = absurd h
told-both f (Some a) (Some b) None h k = absurd k
told-both f (Some a) (Some b) (Some c) h k = f a b c h k

pub told-so : {P Q : List ℕ → List ℕ → Type 0} → ((a b : List ℕ) → P a b → Q a b) → (x y : Option (List ℕ)) → Told P x y → Told Q x y
told-so f None None h = tt
told-so f None (Some b) h = absurd h
told-so f (Some a) None h = absurd h
told-so f (Some a) (Some b) h = f a b h

pub told-first : (x : Option (List ℕ)) → Told (HasReadSo []) x x
told-first None = tt
told-first (Some a) = (λ rest ready. ready, ([], refl))

pub told-on : (bytes more : List ℕ) (x y z : Option (List ℕ)) → Told (HasReadSo bytes) x y → Told (TakesMore true bytes more) y z → Told (HasReadSo more) x z
told-on bytes more x y z h k =
    told-both (λ a b c so took. subst (λ l. HasReadSo l a c) (sym took.2) (reads-on bytes took.0 a b c so took.1)) x y z h k

pub told-all : (bytes more : List ℕ) (x y z : Option (List ℕ)) → Told (HasReadSo bytes) x y → Told (TakesMore false bytes more) y z → Told (IsReadWhole more) x z
told-all bytes more x y z h k =
    told-both (λ a b c so none. subst (λ l. IsReadWhole l a c) (sym none.1) (reads-all bytes a b c so none.0)) x y z h k

pub told-lost : (bytes : List ℕ) (x y z : Option (List ℕ)) → Told (HasReadSo bytes) x y → Told LosesFront y z → Told LosesFront x z
told-lost bytes x y z h k = told-both (λ a b c so lost. lost-twice a b c so.1 lost) x y z h k

pub told-so-lost : (bytes : List ℕ) (x y : Option (List ℕ)) → Told (HasReadSo bytes) x y → Told LosesFront x y
told-so-lost bytes x y h = told-so (λ a b so. so.1) x y h

pub told-line-lost : (line : Line) (x y : Option (List ℕ)) → Told (ReadsLine most_line_bytes (Some line)) x y → Told LosesFront x y
told-line-lost line x y h = told-so (λ a b read. line-lost line a b read) x y h

pub told-more : (line : Line) (old new : List ℕ) (x y : Option (List ℕ)) → new ≡ old ++ shown line → Told (ReadsLine most_line_bytes (Some line)) x y → Told (TakesMore true old new) x y
told-more line old new x y e h = told-so (λ a b read. (line, read, e)) x y h

pub told-none : (old : List ℕ) (x y : Option (List ℕ)) → Told (ReadsLine most_line_bytes None) x y → Told (TakesMore false old old) x y
told-none old x y h = told-so (λ a b read. (read, refl)) x y h
