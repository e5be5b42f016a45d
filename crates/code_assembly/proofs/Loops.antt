-- One more instruction, of those that stand for steps one behind another.
use Rattle.std.proofs.Common.{◌≡◌, ◌∙◌, ◌+◌, ◌<◌, ℕ, List, [], ◌∷◌, ◌++◌, Option, sym, ap, subst, length, map, take, get_or}
use Rattle.std.specs.List.{AllZip}
use Rattle.std.proofs.lemmas.List.{map-append, take_more}
use Rattle.stack_code.specs.declared.instr.Instr.{Instr}
use Rattle.lower_expr.specs.declared.draft.Step.{Step}
use Rattle.lower_expr.specs.Drafts.{step_of}
use Rattle.code_assembly.specs.Standing.{AllCome, Comes, Grows, IsInstr, Stock, places_of}

pub zip-more : {A B : Type 0} (R : A → B → Type 0) (xs : List A) (ys : List B) (x : A) (y : B) → AllZip R xs ys → R x y → AllZip R (xs ++ x ∷ []) (ys ++ y ∷ [])
zip-more R [] [] x y all r = (r, tt)
zip-more R [] (b ∷ bs) x y all r = absurd all
zip-more R (a ∷ rest) [] x y all r = absurd all
zip-more R (a ∷ rest) (b ∷ bs) x y all r = (all.0, zip-more R rest bs x y all.1 r)

pub subst2 : {A B : Type 0} (P : A → B → Type 0) {a a' : A} {b b' : B} → a ≡ a' → b ≡ b' → P a b → P a' b'
subst2 P {a = a} {b' = b'} e f x = subst (λ z. P z b') e (subst (P a) f x)

-- from the first state of the loop to the one behind the next step
pub come-next : (s t u : Stock) (labels : List (Option ℕ)) (steps : List Step) (k : ℕ) (x : Step) (is news : List Instr) (i : Instr) → k < length steps → x ≡ get_or steps k x → news ≡ is ++ i ∷ []
    → Grows s t × AllCome t labels (map step_of (take k steps)) is → Grows t u → Comes u labels (step_of x) i
    → Grows s u × AllCome u labels (map step_of (take (k + 1) steps)) news
come-next s t u labels steps k x is news i lt at pushed before grows comes = (
  record { has = λ code h. before.0.has code (grows.has code h); tested = grows.tested ∙ before.0.tested; params = grows.params ∙ before.0.params },
  subst2 (λ cs js. AllCome u labels cs js)
      (sym (ap (map step_of) (take_more steps k x lt ∙ ap (λ y. take k steps ++ y ∷ []) (sym at)) ∙ map-append step_of (take k steps) (x ∷ []))) (sym pushed)
      (record { are = λ code h. zip-more (IsInstr code (places_of labels)) (map step_of (take k steps)) is (step_of x) i (before.1.are code (grows.has code h)) (comes.is code h) }),
)

-- ---- lists made one by one

pub map-next : {X Y : Type 0} (f : X → Y) (xs : List X) (k : ℕ) (x : X) (ys news : List Y) (y : Y) → k < length xs → x ≡ get_or xs k x → news ≡ ys ++ y ∷ [] → ys ≡ map f (take k xs) → y ≡ f x → news ≡ map f (take (k + 1) xs)
map-next f xs k x ys news y lt at pushed before is =
    pushed ∙ ap (λ l. l ++ y ∷ []) before ∙ ap (λ z. map f (take k xs) ++ z ∷ []) is
    ∙ sym (ap (map f) (take_more xs k x lt ∙ ap (λ y. take k xs ++ y ∷ []) (sym at)) ∙ map-append f (take k xs) (x ∷ []))

pub maps-next : {X Y Z : Type 0} (f : X → Z) (g : Y → Z) (xs : List X) (k : ℕ) (x : X) (ys news : List Y) (y : Y) → k < length xs → x ≡ get_or xs k x → news ≡ ys ++ y ∷ [] → map g ys ≡ map f (take k xs) → g y ≡ f x → map g news ≡ map f (take (k + 1) xs)
maps-next f g xs k x ys news y lt at pushed before is = map-next f xs k x (map g ys) (map g news) (g y) lt at (ap (map g) pushed ∙ map-append g ys (y ∷ [])) before is

pub zip-next : {X Y : Type 0} (R : X → Y → Type 0) (xs : List X) (k : ℕ) (x : X) (ys news : List Y) (y : Y) → k < length xs → x ≡ get_or xs k x → news ≡ ys ++ y ∷ [] → AllZip R (take k xs) ys → R x y → AllZip R (take (k + 1) xs) news
zip-next R xs k x ys news y lt at pushed before r =
    subst2 (λ l m. AllZip R l m) (sym (take_more xs k x lt ∙ ap (λ y. take k xs ++ y ∷ []) (sym at))) (sym pushed) (zip-more R (take k xs) ys x y before r)
