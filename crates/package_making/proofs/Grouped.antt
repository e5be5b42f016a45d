-- Files, taken apart by their modules.
use Rattle.std.proofs.Common.{◌≡◌, ◌≤◌, ◌<◌, ◌+◌, ℕ, suc, Bool, true, false, cond, not, nat_eq, List, [], ◌∷◌, ◌++◌, length, map, take, get_or, refl, sym, ap, ◌∙◌, eq-eqb, arith}
use Rattle.std.specs.Prelude.{filter}
use Rattle.std.proofs.lemmas.Bool.{eqb-true}
use Rattle.std.proofs.lemmas.List.{append-nil, length-take, take_all, take_more}
use Rattle.std.proofs.lemmas.List.Elements.{filter-append}
use Rattle.bal_tree.specs.declared.package.Module.{Module}
use Rattle.bal_tree.specs.declared.package.SourceFile.{SourceFile}
use Rattle.package_making.specs.Making.{files_at, module_of, modules_from, numbered, rank}
use Rattle.package_making.specs.inner.Ranked.{ranked}
use Rattle.package_making.specs.declared.making.Placed.{Placed}

abbrev pub is_at : ℕ → Placed → Bool
is_at place f = nat_eq f.rank place

-- ---- one more file

map-push : {X Y : Type 0} (f : X → Y) (ys : List X) (y : X) → map f (ys ++ y ∷ []) ≡ map f ys ++ f y ∷ []
map-push f [] y = refl
map-push f (z ∷ ys) y = ap (λ l. f z ∷ l) (map-push f ys y)

numbered-push : (numbers : List ℕ) (place : ℕ) (files : List SourceFile) (file : SourceFile)
    → numbered numbers place (files ++ file ∷ []) ≡ numbered numbers place files ++ (get_or numbers (place + length files) 0, file) ∷ []
numbered-push numbers place [] file = let e : place ≡ place + 0 = omega arith in ap (λ p. (get_or numbers p 0, file) ∷ []) e
numbered-push numbers place (f ∷ files) file =
    let e : suc place + length files ≡ place + suc (length files) = omega arith in
    ap (λ l. (get_or numbers place 0, f) ∷ l) (numbered-push numbers (suc place) files file ∙ ap (λ p. numbered numbers (suc place) files ++ (get_or numbers p 0, file) ∷ []) e)

numbered-long : (numbers : List ℕ) (place : ℕ) (files : List SourceFile) → length (numbered numbers place files) ≡ length files
numbered-long numbers place [] = refl
numbered-long numbers place (f ∷ files) = ap suc (numbered-long numbers (suc place) files)

map-long : {X Y : Type 0} (f : X → Y) (xs : List X) → length (map f xs) ≡ length xs
map-long f [] = refl
map-long f (x ∷ xs) = ap suc (map-long f xs)

pub ranked-more : (order numbers : List ℕ) (placed : List Placed) (files : List SourceFile) (file : SourceFile) (r : ℕ) → placed ≡ ranked order (numbered numbers 0 files)
    → r ≡ rank order (get_or numbers (length placed) 0) → placed ++ record { rank = r; file = file } ∷ [] ≡ ranked order (numbered numbers 0 (files ++ file ∷ []))
ranked-more order numbers placed files file r so is =
    let P : ℕ × SourceFile → Placed = λ f. record { rank = rank order f.0; file = f.1 } in
    let long : length placed ≡ 0 + length files = ap length so ∙ (map-long P (numbered numbers 0 files) ∙ (numbered-long numbers 0 files ∙ (let e : length files ≡ 0 + length files = omega arith in e))) in
    let last : record { rank = r; file = file } ≡ P (get_or numbers (0 + length files) 0, file) = λ i. record { rank = (is ∙ ap (λ n. rank order (get_or numbers n 0)) long) i; file = file } in
    (λ i. so i ++ last i ∷ [])
    ∙ (sym (map-push P (numbered numbers 0 files) (get_or numbers (0 + length files) 0, file)) ∙ ap (map P) (sym (numbered-push numbers 0 files file)))

pub ranks-more : (order numbers : List ℕ) (i : ℕ) (ranks : List ℕ) (r : ℕ) → i < length numbers → ranks ≡ map (rank order) (take i numbers) → r ≡ rank order (get_or numbers i 0)
    → ranks ++ r ∷ [] ≡ map (rank order) (take (i + 1) numbers)
ranks-more order numbers i ranks r lt so is =
    (λ j. so j ++ is j ∷ []) ∙ (sym (map-push (rank order) (take i numbers) (get_or numbers i 0)) ∙ ap (map (rank order)) (sym (take_more numbers i 0 lt)))

-- ---- taking apart

at-true : (place : ℕ) (f : Placed) → f.rank ≡ place → is_at place f ≡ true
at-true place f e = eq-eqb f.rank place e

pub here-more : (place : ℕ) (files : List Placed) (f : Placed) (here : List SourceFile) → here ≡ map (λ g. g.file) (filter (is_at place) files) → is_at place f ≡ true
    → here ++ f.file ∷ [] ≡ map (λ g. g.file) (filter (is_at place) (files ++ f ∷ []))
here-more place files f here so is =
    ap (λ l. l ++ f.file ∷ []) so
    ∙ (sym (map-push (λ g. g.file) (filter (is_at place) files) f)
    ∙ ap (map (λ g. g.file)) (ap (λ b. filter (is_at place) files ++ cond b (f ∷ []) []) (sym is) ∙ sym (filter-append (is_at place) files (f ∷ []))))

pub here-same : (place : ℕ) (files : List Placed) (f : Placed) (here : List SourceFile) → here ≡ map (λ g. g.file) (filter (is_at place) files) → is_at place f ≡ false
    → here ≡ map (λ g. g.file) (filter (is_at place) (files ++ f ∷ []))
here-same place files f here so is =
    so
    ∙ ap (map (λ g. g.file))
    (sym (append-nil (filter (is_at place) files)) ∙ (ap (λ b. filter (is_at place) files ++ cond b (f ∷ []) []) (sym is) ∙ sym (filter-append (is_at place) files (f ∷ []))))

pub others-more : (place : ℕ) (files : List Placed) (f : Placed) (others : List Placed) → others ≡ filter (λ g. not (is_at place g)) files → is_at place f ≡ false
    → others ++ f ∷ [] ≡ filter (λ g. not (is_at place g)) (files ++ f ∷ [])
others-more place files f others so is =
    ap (λ l. l ++ f ∷ []) so
    ∙ (ap (λ b. filter (λ g. not (is_at place g)) files ++ cond (not b) (f ∷ []) []) (sym is) ∙ sym (filter-append (λ g. not (is_at place g)) files (f ∷ [])))

pub others-same : (place : ℕ) (files : List Placed) (f : Placed) (others : List Placed) → others ≡ filter (λ g. not (is_at place g)) files → is_at place f ≡ true
    → others ≡ filter (λ g. not (is_at place g)) (files ++ f ∷ [])
others-same place files f others so is =
    so
    ∙ (sym (append-nil (filter (λ g. not (is_at place g)) files))
    ∙ (ap (λ b. filter (λ g. not (is_at place g)) files ++ cond (not b) (f ∷ []) []) (sym is) ∙ sym (filter-append (λ g. not (is_at place g)) files (f ∷ []))))

-- ---- those of later modules stay

filter-past : (k place : ℕ) (files : List Placed) → (k ≡ place → ⊥) → filter (is_at k) (filter (λ g. not (is_at place g)) files) ≡ filter (is_at k) files
filter-past k place [] apart = refl
filter-past k place (f ∷ files) apart = by (is_at place f) (is_at k f) refl refl (filter-past k place files apart)
  where
    both : is_at place f ≡ true → is_at k f ≡ true → ⊥
    both p q = apart (sym (eqb-true f.rank k q) ∙ eqb-true f.rank place p)

    by : (b d : Bool) → is_at place f ≡ b → is_at k f ≡ d → filter (is_at k) (filter (λ g. not (is_at place g)) files) ≡ filter (is_at k) files
        → filter (is_at k) (cond (not b) (f ∷ filter (λ g. not (is_at place g)) files) (filter (λ g. not (is_at place g)) files)) ≡ cond d (f ∷ filter (is_at k) files) (filter (is_at k) files)
    by true true p q rest = absurd (both p q)
    by true false p q rest = rest
    by false d p q rest = (λ i. cond (q i) (f ∷ rest i) (rest i))

pub later-stay : (place : ℕ) (all files others : List Placed) → ((k : ℕ) → place ≤ k → filter (is_at k) files ≡ filter (is_at k) all) → others ≡ filter (λ g. not (is_at place g)) files
    → (k : ℕ) → place + 1 ≤ k → filter (is_at k) others ≡ filter (is_at k) all
later-stay place all files others so is k later =
    let apart : k ≡ place → ⊥ = λ e. omega arith in
    ap (filter (is_at k)) is ∙ (filter-past k place files apart ∙ so k (omega arith))

-- ---- the modules

files-ranked : (order : List ℕ) (files : List (ℕ × SourceFile)) (place : ℕ) → map (λ g. g.file) (filter (is_at place) (ranked order files)) ≡ files_at order files place
files-ranked order [] place = refl
files-ranked order (f ∷ files) place = by (nat_eq (rank order f.0) place) (files-ranked order files place)
  where
    by : (b : Bool) → map (λ g. g.file) (filter (is_at place) (ranked order files)) ≡ files_at order files place
        → map (λ g. g.file) (cond b (record { rank = rank order f.0; file = f.1 } ∷ filter (is_at place) (ranked order files)) (filter (is_at place) (ranked order files)))
        ≡ map (λ g. g.1) (cond b (f ∷ filter (λ g. nat_eq (rank order g.0) place) files) (filter (λ g. nat_eq (rank order g.0) place) files))
    by true rest = ap (λ l. f.1 ∷ l) rest
    by false rest = rest

module _ (names next : List (List ℕ)) (order : List ℕ) (files : List (ℕ × SourceFile)) where
  modules-push : (place : ℕ) (numbers : List ℕ) (number : ℕ)
      → modules_from names next order files place (numbers ++ number ∷ []) ≡ modules_from names next order files place numbers ++ module_of names next order number (files_at order files (place + length numbers)) ∷ []
  modules-push place [] number = let e : place ≡ place + 0 = omega arith in ap (λ p. module_of names next order number (files_at order files p) ∷ []) e
  modules-push place (n ∷ numbers) number =
      let e : suc place + length numbers ≡ place + suc (length numbers) = omega arith in
      ap (λ l. module_of names next order n (files_at order files place) ∷ l)
      (modules-push (suc place) numbers number ∙ ap (λ p. modules_from names next order files (suc place) numbers ++ module_of names next order number (files_at order files p) ∷ []) e)

  pub modules-more : (place number : ℕ) (made : List Module) (rest : List Placed) (here : List SourceFile) (m : Module) → place < length order → get_or order place 0 ≡ number
      → made ≡ modules_from names next order files 0 (take place order) → filter (is_at place) rest ≡ filter (is_at place) (ranked order files)
      → here ≡ map (λ g. g.file) (filter (is_at place) rest) → m ≡ module_of names next order number here
      → made ++ m ∷ [] ≡ modules_from names next order files 0 (take (place + 1) order)
  modules-more place number made rest here m lt is so same files-here made-of =
      let long : place ≡ 0 + length (take place order) = omega (arith, lt, length-take place order) in
      let fits : here ≡ files_at order files (0 + length (take place order)) = files-here ∙ (ap (map (λ g. g.file)) same ∙ (files-ranked order files place ∙ ap (files_at order files) long)) in
      (λ i. so i ++ (made-of ∙ ap (module_of names next order number) fits) i ∷ [])
      ∙ (sym (modules-push 0 (take place order) number) ∙ ap (modules_from names next order files 0) (ap (λ n. take place order ++ n ∷ []) (sym is) ∙ sym (take_more order place 0 lt)))

  pub modules-all : (place : ℕ) (made : List Module) → made ≡ modules_from names next order files 0 (take place order) → length order ≤ place → made ≡ modules_from names next order files 0 order
  modules-all place made so all = so ∙ ap (modules_from names next order files 0) (take_all place order all)
