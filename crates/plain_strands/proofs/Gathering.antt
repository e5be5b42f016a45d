-- One result more, of the first of several strands.
use Rattle.std.proofs.Common.{◌≡◌, ◌∙◌, ◌-◌, ◌≤◌, ℕ, suc, List, [], ◌∷◌, ◌++◌, Option, Some, None, Result, Ok, Err, drop, get_or, length, map, take, refl, sym, ap, arith}
use Rattle.std.specs.Prelude.{IfOk}
use Rattle.std.proofs.lemmas.List.{take_all}
use Rattle.bal_base.specs.declared.text.Text.{Text}
use Rattle.value_model.specs.declared.value.Value.{Value}
use Rattle.op_model.specs.Common.{Common, Returned}
use Rattle.op_model.specs.Effects.{Effect}
use Rattle.op_model.specs.Strands.{end_of}
use Rattle.op_model.specs.Waits.{collects, gives_results, is_taken, took}
use Rattle.plain_strands.specs.declared.waits.Target.{Target}
use Rattle.plain_strands.specs.Results.{collects_untaken, free_end, prefixed}
use Rattle.plain_strands.specs.Targets.{target_of}
use Rattle.plain_strands.proofs.Collecting.{collects-by, prefixed-more}

pub if-ok : {A E : Type 0} (P Q : A → Type 0) (r : Result A E) → ((a : A) → P a → Q a) → IfOk r P → IfOk r Q
if-ok P Q (Ok a) f h = f a h
if-ok P Q (Err e) f h = h

pub first-any : {A : Type 0} (xs : List A) (d : A) → 1 ≤ length xs → get_or xs 0 d ≡ get_or xs 0 (get_or xs 0 d)
first-any [] d l = refl
first-any (x ∷ xs) d l = refl

module _ (atom : ℕ) (names : List Text) (rs : List (Option Value)) (c : Common) where
  pub more-none : (ts : List Target) (t : Target) (more : List (Option Value)) (x : Effect) → 1 ≤ length ts → t ≡ get_or ts 0 t → None ≡ free_end (is_taken c (target_of t)) (end_of c t.strand) → more ≡ rs ++ None ∷ [] → x ≡ gives_results atom names (prefixed more (collects (map target_of (take (length ts - 1) (drop 1 ts))) c)) → x ≡ gives_results atom names (prefixed rs (collects (map target_of ts) c))
  more-none [] t more x l et e m h = absurd (omega arith)
  more-none (u ∷ us) t more x l et e m h =
      let rest : take (suc (length us) - 1) us ≡ us = take_all (suc (length us) - 1) us (omega arith) in
      let left = map target_of us in
      h
      ∙ ((λ i. gives_results atom names (prefixed (m i) (collects (map target_of (rest i)) c)))
      ∙ ap (gives_results atom names) (prefixed-more rs None (collects left c)
      ∙ ap (prefixed rs) (ap (collects_untaken (collects left) c (target_of t)) e
      ∙ (sym (collects-by c (target_of t) left) ∙ (λ i. collects (target_of (et i) ∷ left) c)))))

  pub more-some : (ts : List Target) (t : Target) (v : Value) (more : List (Option Value)) (d : Common) (x : Effect) → 1 ≤ length ts → t ≡ get_or ts 0 t → Some (Returned v) ≡ free_end (is_taken c (target_of t)) (end_of c t.strand) → more ≡ rs ++ Some v ∷ [] → d ≡ took c (target_of t) → x ≡ gives_results atom names (prefixed more (collects (map target_of (take (length ts - 1) (drop 1 ts))) d)) → x ≡ gives_results atom names (prefixed rs (collects (map target_of ts) c))
  more-some [] t v more d x l et e m k h = absurd (omega arith)
  more-some (u ∷ us) t v more d x l et e m k h =
      let rest : take (suc (length us) - 1) us ≡ us = take_all (suc (length us) - 1) us (omega arith) in
      let left = map target_of us in
      h
      ∙ ((λ i. gives_results atom names (prefixed (m i) (collects (map target_of (rest i)) (k i))))
      ∙ ap (gives_results atom names) (prefixed-more rs (Some v) (collects left (took c (target_of t)))
      ∙ ap (prefixed rs) (ap (collects_untaken (collects left) c (target_of t)) e
      ∙ (sym (collects-by c (target_of t) left) ∙ (λ i. collects (target_of (et i) ∷ left) c)))))
