-- Operands that were pushed one by one, and taken away again.
use Rattle.std.proofs.Common.{◌≡◌, ◌∙◌, ◌++◌, ◌+◌, ◌-◌, ℕ, zero, suc, List, [], ◌∷◌, drop, length, take, refl, sym, ap, arith}
use Rattle.type_model.specs.declared.basic.SemType.{SemType}
use Rattle.tree_promises.specs.Types.{Stack}
use Rattle.map_model.specs.Maps.{above, mark}
use Rattle.map_traces.specs.Tracing.{Tracing, takes, turned}

abbrev pub at : List SemType → List Stack → Tracing
at w m = record { waiting = w; places = m }

-- these above those that wait
abbrev pub pushed : Stack → List SemType → List SemType
pushed [] w = w
pushed (t ∷ ts) w = pushed ts (t ∷ w)

pub turned-pushed : (ts : Stack) (w : List SemType) → turned (pushed ts w) ≡ above (turned w) ts
turned-pushed [] w = refl
turned-pushed (t ∷ ts) w = turned-pushed ts (t ∷ w)

drop-so : (w : List SemType) (k n : ℕ) → n ≡ k → drop n w ≡ drop k w
drop-so w k n e = ap (λ x. drop x w) e

pushed-dropped-more : (ts : Stack) (w : List SemType) (k n : ℕ) → n ≡ length ts + k → drop n (pushed ts w) ≡ drop k w
pushed-dropped-more [] w k n e = drop-so w k n (omega (arith, e))
pushed-dropped-more (t ∷ ts) w k n e = pushed-dropped-more ts (t ∷ w) (suc k) n (omega (arith, e))

pub pushed-dropped : (ts : Stack) (w : List SemType) (n : ℕ) → n ≡ length ts → drop n (pushed ts w) ≡ w
pushed-dropped ts w n e = pushed-dropped-more ts w 0 n (omega (arith, e))

-- those behind the first ones are taken away
pub front-left : (ts : Stack) (fixed : ℕ) (w : List SemType) (n : ℕ) → n ≡ length ts - fixed → drop n (pushed ts w) ≡ pushed (take fixed ts) w
front-left [] zero w n e = drop-so w 0 n (omega (arith, e))
front-left [] (suc fixed) w n e = drop-so w 0 n (omega (arith, e))
front-left (t ∷ ts) zero w n e = pushed-dropped (t ∷ ts) w n (omega (arith, e))
front-left (t ∷ ts) (suc fixed) w n e = front-left ts fixed (t ∷ w) n (omega (arith, e))

pub front-length : (ts : Stack) (fixed n : ℕ) → n ≡ length ts - fixed → length (take fixed ts) ≡ length ts - n
front-length [] zero n e = omega (arith, e)
front-length [] (suc fixed) n e = omega (arith, e)
front-length (t ∷ ts) zero n e = omega (arith, e)
front-length (t ∷ ts) (suc fixed) n e = omega (arith, e, front-length ts fixed n (omega (arith, e)))

pub above-more : (p ts : Stack) (t : SemType) → above p (ts ++ t ∷ []) ≡ above p ts ++ t ∷ []
above-more p [] t = refl
above-more p (x ∷ ts) t = above-more (p ++ x ∷ []) ts t

-- an operation that takes all of these
pub takes-all : (ts : Stack) (given : SemType) (w : List SemType) (m : List Stack) (n : ℕ) → n ≡ length ts → takes n given (at (pushed ts w) m) ≡ at (given ∷ w) (mark (above (turned w) ts) m)
takes-all ts given w m n e = λ i. at (given ∷ pushed-dropped ts w n e i) (mark (turned-pushed ts w i) m)

-- the last ones become a list, and then all that are left are taken
pub takes-rest : (ts : Stack) (fixed : ℕ) (list given : SemType) (w : List SemType) (m : List Stack) →
    takes ((length ts - (length ts - fixed)) + 1) given (takes (length ts - fixed) list (at (pushed ts w) m)) ≡ at (given ∷ w) (mark (above (turned w) (take fixed ts ++ list ∷ [])) (mark (above (turned w) ts) m))
takes-rest ts fixed list given w m =
    let front : Stack = take fixed ts in
    let count : ℕ = (length ts - (length ts - fixed)) + 1 in
    (λ i. takes count given (at (list ∷ front-left ts fixed w (length ts - fixed) refl i) (mark (turned-pushed ts w i) m)))
    ∙ (λ i. at (given ∷ left front (front-length ts fixed (length ts - fixed) refl) i) (mark (stands front i) (mark (above (turned w) ts) m)))
  where
    stands : (front : Stack) → turned (pushed front w) ++ list ∷ [] ≡ above (turned w) (front ++ list ∷ [])
    stands front = ap (λ x. x ++ list ∷ []) (turned-pushed front w) ∙ sym (above-more (turned w) front list)

    one-more : (length ts - (length ts - fixed)) + 1 ≡ suc (length ts - (length ts - fixed))
    one-more = omega arith

    left : (front : Stack) → length front ≡ length ts - (length ts - fixed) → drop ((length ts - (length ts - fixed)) + 1) (list ∷ pushed front w) ≡ w
    left front e = drop-so (list ∷ pushed front w) (suc (length ts - (length ts - fixed))) ((length ts - (length ts - fixed)) + 1) one-more ∙ pushed-dropped front w (length ts - (length ts - fixed)) (sym e)
