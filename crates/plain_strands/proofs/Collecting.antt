-- Results that are collected, and those that are given back.
use Rattle.std.proofs.Common.{◌≡◌, ◌∙◌, ℕ, zero, suc, Bool, true, false, List, [], ◌∷◌, ◌++◌, Option, Some, None, get_or, refl, sym, ap}
use Rattle.std.specs.Prelude.{not, if◌then◌else◌}
use Rattle.std.proofs.lemmas.List.{append-nil}
use Rattle.bal_base.specs.declared.text.Text.{Text}
use Rattle.value_model.specs.declared.value.Value.{Value}
use Rattle.value_model.specs.World.{World, Came as ModelCame, Gave as ModelGave, Threw as ModelThrew, PassesCells as ModelPasses}
use Rattle.op_model.specs.Common.{Common, End, Returned, Panicked, Strand}
use Rattle.op_model.specs.Effects.{Effect, Fails, lifted, with_world}
use Rattle.op_model.specs.Strands.{end_of, no_strand, strand_at}
use Rattle.op_model.specs.Waits.{Collected, FirstPanic, Results, Target, behind, collects, collects_end, gives_results, is_taken, took}
use Rattle.plain_run.specs.declared.held.Common.{Common as Held}
use Rattle.plain_run.specs.declared.world.Came.{Came}
use Rattle.plain_run.specs.declared.world.Came.TheVariants.{Gave, Threw, PassesCells}
use Rattle.plain_run.specs.Held.{common_of}
use Rattle.plain_messages.specs.Channels.{changed}
use Rattle.plain_strands.specs.Results.{CommonStays, JustTook, collects_untaken, free_end, mapping_given, prefixed}
use Rattle.plain_strands.specs.Targets.{with_taken}
use Rattle.plain_run.proofs.Lists.{append-one}

-- ---- a result that is given back

set-back : {A : Type 0} (xs : List A) (n : ℕ) (d : A) (f g : A → A) → g (f (get_or xs n d)) ≡ get_or xs n d → changed g d (changed f d xs n) n ≡ xs
set-back [] n d f g e = refl
set-back (x ∷ xs) zero d f g e = ap (λ y. y ∷ xs) e
set-back (x ∷ xs) (suc n) d f g e = ap (λ ys. x ∷ ys) (set-back xs n d f g e)

untaken : (s : Strand) → s.taken ≡ false → with_taken false (with_taken true s) ≡ s
untaken s e i = record { unit = s.unit; role = s.role; status = s.status; taken = sym e i }

pub given-back : (c d : Common) (t : Target) → not t.is_worker ≡ true → is_taken c t ≡ false → d ≡ took c t → record d { strands = changed (with_taken false) no_strand d.strands t.strand } ≡ c
given-back c d t w e h = by t.is_worker w e h
  where
    back : Common → Common
    back x = record x { strands = changed (with_taken false) no_strand x.strands t.strand }

    by : (b : Bool) → not b ≡ true → is_taken c (record { strand = t.strand; is_worker = b }) ≡ false → d ≡ took c (record { strand = t.strand; is_worker = b }) → back d ≡ c
    by true w e h = absurd (let bad : ⊥ = cc in bad)
    by false w e h = ap back h ∙ (λ i. record c { strands = set-back c.strands t.strand no_strand (with_taken true) (with_taken false) (untaken (strand_at c t.strand) e) i })

pub just-took : (old : Held) (t : Target) (mid new : Held) (came : Came) → common_of mid ≡ took (common_of old) t → CommonStays mid new came → JustTook old t new came
just-took old t mid new (Gave v) e h = tt
just-took old t mid new (Threw v) e h = tt
just-took old t mid new PassesCells e h = h ∙ e

-- ---- one result more

pub ended-taken : (more : Common → Collected) (c : Common) (t : Target) (end : Option End) → is_taken c t ≡ true → behind None (more c) ≡ collects_end more c t end
ended-taken more c t (Some (Returned v)) e = sym (ap (λ b. if b then behind None (more c) else behind (Some v) (more (took c t))) e)
ended-taken more c t (Some (Panicked v)) e = sym (ap (λ b. if b then behind None (more c) else FirstPanic v (took c t)) e)
ended-taken more c t None e = refl

pub ended-untaken : (more : Common → Collected) (c : Common) (t : Target) (end : Option End) → is_taken c t ≡ false → collects_untaken more c t end ≡ collects_end more c t end
ended-untaken more c t (Some (Returned v)) e = sym (ap (λ b. if b then behind None (more c) else behind (Some v) (more (took c t))) e)
ended-untaken more c t (Some (Panicked v)) e = sym (ap (λ b. if b then behind None (more c) else FirstPanic v (took c t)) e)
ended-untaken more c t None e = refl

pub collects-by : (c : Common) (t : Target) (ts : List Target) → collects (t ∷ ts) c ≡ collects_untaken (collects ts) c t (free_end (is_taken c t) (end_of c t.strand))
collects-by c t ts = by (is_taken c t) refl
  where
    by : (b : Bool) → is_taken c t ≡ b → collects_end (collects ts) c t (end_of c t.strand) ≡ collects_untaken (collects ts) c t (free_end b (end_of c t.strand))
    by true e = sym (ended-taken (collects ts) c t (end_of c t.strand) e)
    by false e = sym (ended-untaken (collects ts) c t (end_of c t.strand) e)

pub prefixed-more : (front : List (Option Value)) (v : Option Value) (found : Collected) → prefixed (front ++ v ∷ []) found ≡ prefixed front (behind v found)
prefixed-more front v (Results vs c) = ap (λ xs. Results xs c) (append-one front v vs)
prefixed-more front v (FirstPanic e c) = refl

pub prefixed-none : (found : Collected) → prefixed [] found ≡ found
prefixed-none (Results vs c) = refl
prefixed-none (FirstPanic e c) = refl

pub lifted-there : (c : Common) (w : World) (came : ModelCame) → lifted (with_world c w) came ≡ lifted c came
lifted-there c w (ModelGave vs v) = refl
lifted-there c w (ModelThrew e v) = refl
lifted-there c w ModelPasses = refl

-- ---- what comes of them

module _ (atom : ℕ) (names : List Text) (rs : List (Option Value)) (c : Common) where
  pub collected-none : (w : World) (came : ModelCame) → came ≡ mapping_given c.world atom names rs → lifted (with_world c w) came ≡ gives_results atom names (prefixed rs (collects [] c))
  collected-none w came e = lifted-there c w came ∙ (ap (lifted c) e ∙ ap (λ xs. lifted c (mapping_given c.world atom names xs)) (sym (append-nil rs)))

  pub collected-more : (t : Target) (ts : List Target) (v : Option Value) (found : Collected) (x : Effect) → x ≡ gives_results atom names (prefixed (rs ++ v ∷ []) found) → behind v found ≡ collects (t ∷ ts) c → x ≡ gives_results atom names (prefixed rs (collects (t ∷ ts) c))
  collected-more t ts v found x e h = e ∙ ap (gives_results atom names) (prefixed-more rs v found ∙ ap (prefixed rs) h)

  pub collected-panic : (t : Target) (ts : List Target) (v : Value) (d : Common) → d ≡ took c t → FirstPanic v (took c t) ≡ collects (t ∷ ts) c → Fails v d ≡ gives_results atom names (prefixed rs (collects (t ∷ ts) c))
  collected-panic t ts v d h k = ap (Fails v) h ∙ ap (λ found. gives_results atom names (prefixed rs found)) k

pub ruleset collecting = (append-nil, collects-by, collected-none, just-took, lifted-there, prefixed-more, prefixed-none)
