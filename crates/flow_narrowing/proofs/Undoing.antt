-- Changes that are taken back and made again.
use Rattle.std.proofs.Common.{◌≡◌, ◌≤◌, ◌+◌, ◌++◌, ℕ, zero, suc, List, [], ◌∷◌, Option, Some, None, slice_get, take, drop, length, min, refl, sym, ap, ◌∙◌, append_assoc, append-nil, length-append, arith}
use Rattle.std.proofs.Math.Seq.{drop-append_seam, take-append_seam, take-length}
use Rattle.std.proofs.lemmas.List.{length-take}
use Rattle.std.specs.Prelude.{slice_set}
use Rattle.typed_tree.specs.SharedTypes.{Shared}
use Rattle.flow_narrowing.specs.declared.flow.Variable.{Variable}
use Rattle.flow_narrowing.specs.declared.changes.Change.{Change}
use Rattle.flow_narrowing.specs.Changes.{Logs, MakesAgain, narrowed_at, put, undone, with_narrowed}

-- ---- one variable

some-same : {X : Type 0} (a b : X) → Some a ≡ Some b → a ≡ b
some-same a b e = cc

pub put-there : (vs : List Variable) (n : ℕ) (v : Variable) (t u : Option Shared) → slice_get vs n ≡ Some v → u ≡ t → slice_set vs n (with_narrowed v u) ≡ put vs n t
put-there [] n v t u e f = absurd (cc)
put-there (w ∷ vs) zero v t u e f = let same : w ≡ v = some-same w v e in ap (λ s. with_narrowed v s ∷ vs) f ∙ ap (λ x. with_narrowed x t ∷ vs) (sym same)
put-there (w ∷ vs) (suc n) v t u e f = ap (λ us. w ∷ us) (put-there vs n v t u e f)

pub put-past : (vs : List Variable) (n : ℕ) (t : Option Shared) → slice_get vs n ≡ None → vs ≡ put vs n t
put-past [] n t e = refl
put-past (w ∷ vs) zero t e = absurd (cc)
put-past (w ∷ vs) (suc n) t e = ap (λ us. w ∷ us) (put-past vs n t e)

narrowed-there : (vs : List Variable) (n : ℕ) (v : Variable) → slice_get vs n ≡ Some v → v.narrowed ≡ narrowed_at vs n
narrowed-there [] n v e = absurd (cc)
narrowed-there (w ∷ vs) zero v e = ap (λ x. x.narrowed) (sym (some-same w v e))
narrowed-there (w ∷ vs) (suc n) v e = narrowed-there vs n v e

narrowed-past : (vs : List Variable) (n : ℕ) → slice_get vs n ≡ None → None ≡ narrowed_at vs n
narrowed-past [] n e = refl
narrowed-past (w ∷ vs) zero e = absurd (cc)
narrowed-past (w ∷ vs) (suc n) e = narrowed-past vs n e

abbrev change_of : ℕ → Option Shared → Change
change_of n t = record { index = n; was = t }

pub again-there : (vs : List Variable) (n : ℕ) (v : Variable) (t : Option Shared) → slice_get vs n ≡ Some v → t ≡ v.narrowed → change_of n t ≡ change_of n (narrowed_at vs n)
again-there vs n v t e f = ap (change_of n) (f ∙ narrowed-there vs n v e)

pub again-past : (vs : List Variable) (n : ℕ) → slice_get vs n ≡ None → change_of n None ≡ change_of n (narrowed_at vs n)
again-past vs n e = ap (change_of n) (narrowed-past vs n e)

-- ---- changes one behind another

pub undone-last : (cs : List Change) (c : Change) (vs : List Variable) → undone (cs ++ c ∷ []) vs ≡ undone cs (put vs c.index c.was)
undone-last [] c vs = refl
undone-last (d ∷ cs) c vs = ap (λ us. put us d.index d.was) (undone-last cs c vs)

-- what was changed gets back what it had
pub put-back : (vs : List Variable) (index : ℕ) (t : Option Shared) → put (put vs index t) index (narrowed_at vs index) ≡ vs
put-back [] index t = refl
put-back (v ∷ vs) zero t = refl
put-back (v ∷ vs) (suc index) t = ap (λ us. v ∷ us) (put-back vs index t)

-- one more change that is taken back, and one more that makes it again
pub again-more : (back : List Change) (c d : Change) (vs us : List Variable) → d.index ≡ c.index → d.was ≡ narrowed_at us c.index → undone back us ≡ vs
    → undone (back ++ d ∷ []) (put us c.index c.was) ≡ vs
again-more back c d vs us at was e =
    undone-last back d (put us c.index c.was) ∙ ap (λ n. undone back (put (put us c.index c.was) n d.was)) at
    ∙ ap (λ t. undone back (put (put us c.index c.was) c.index t)) was ∙ ap (undone back) (put-back us c.index c.was) ∙ e

-- ---- a loop that takes changes back, from the end of a log

-- so many were taken back, and others make them again
pub record IsTaking (count : ℕ) (log : List Change) (vs : List Variable) (back : List Change) (left : List Change) (us : List Variable) (now : List Change) : Type 0 where
  pub taken : List Change
  pub split : left ++ taken ≡ log
  pub so_many : length taken ≡ count
  pub before : us ≡ undone taken vs
  pub again : MakesAgain back vs now us

pub none-taken : (log : List Change) (vs : List Variable) (back : List Change) → IsTaking 0 log vs back log vs back
none-taken log vs back = record { taken = []; split = append-nil log; so_many = refl; before = refl; again = record { more = []; behind = sym (append-nil back); again = refl } }

pub one-taken : (n : ℕ) (log : List Change) (vs : List Variable) (back left : List Change) (us : List Variable) (now : List Change) (rest : List Change) (c d : Change) (ws : List Variable) (more : List Change)
    → IsTaking n log vs back left us now → left ≡ rest ++ c ∷ [] → ws ≡ put us c.index c.was → d ≡ record { index = c.index; was = narrowed_at us c.index } → more ≡ now ++ d ∷ []
    → IsTaking (n + 1) log vs back rest ws more
one-taken n log vs back left us now rest c d ws more t is put_c make pushed = record {
  taken = c ∷ t.taken;
  split = sym (append_assoc rest (c ∷ []) t.taken) ∙ ap (λ l. l ++ t.taken) (sym is) ∙ t.split;
  so_many = omega (arith, t.so_many);
  before = put_c ∙ ap (λ xs. put xs c.index c.was) t.before;
  again = record {
    more = t.again.more ++ d ∷ [];
    behind = pushed ∙ ap (λ l. l ++ d ∷ []) t.again.behind ∙ append_assoc back t.again.more (d ∷ []);
    again = ap (undone (t.again.more ++ d ∷ [])) put_c ∙ again-more t.again.more c d vs us (ap (λ e. e.index) make) (ap (λ e. e.was) make) t.again.again;
  };
}

pub is-taken : (mark n : ℕ) (log : List Change) (vs : List Variable) (back left : List Change) (us : List Variable) (now : List Change) → n + mark ≡ length log
    → IsTaking n log vs back left us now → (left ≡ take mark log) × (us ≡ undone (drop mark log) vs)
is-taken mark n log vs back left us now count t =
    let sum : length left + length t.taken ≡ length log = sym (length-append left t.taken) ∙ ap length t.split in
    let at : length left ≡ mark = omega (arith, sum, count, t.so_many) in (
      sym (take-append_seam left t.taken) ∙ ap (λ k. take k (left ++ t.taken)) at ∙ ap (take mark) t.split,
      t.before ∙ ap (λ cs. undone cs vs) (sym (drop-append_seam left t.taken) ∙ ap (λ k. drop k (left ++ t.taken)) at ∙ ap (drop mark) t.split),
    )

-- ---- variables that were declared since, and those before them

take-put : (n : ℕ) (vs : List Variable) (index : ℕ) (t : Option Shared) → take n (put vs index t) ≡ put (take n vs) index t
take-put zero [] index t = refl
take-put zero (v ∷ vs) zero t = refl
take-put zero (v ∷ vs) (suc index) t = refl
take-put (suc n) [] index t = refl
take-put (suc n) (v ∷ vs) zero t = refl
take-put (suc n) (v ∷ vs) (suc index) t = ap (λ us. v ∷ us) (take-put n vs index t)

take-undone : (n : ℕ) (cs : List Change) (vs : List Variable) → take n (undone cs vs) ≡ undone cs (take n vs)
take-undone n [] vs = refl
take-undone n (c ∷ cs) vs = take-put n (undone cs vs) c.index c.was ∙ ap (λ us. put us c.index c.was) (take-undone n cs vs)

take-fewer : (n m : ℕ) (vs : List Variable) → n ≤ m → take n (take m vs) ≡ take n vs
take-fewer zero m vs le = refl
take-fewer (suc n) zero vs le = absurd (omega (arith, le))
take-fewer (suc n) (suc m) [] le = refl
take-fewer (suc n) (suc m) (v ∷ vs) le = ap (λ us. v ∷ us) (take-fewer n m vs (omega (arith, le)))

length-put : (vs : List Variable) (index : ℕ) (t : Option Shared) → length (put vs index t) ≡ length vs
length-put [] index t = refl
length-put (v ∷ vs) zero t = refl
length-put (v ∷ vs) (suc index) t = ap suc (length-put vs index t)

pub length-undone : (cs : List Change) (vs : List Variable) → length (undone cs vs) ≡ length vs
length-undone [] vs = refl
length-undone (c ∷ cs) vs = length-put (undone cs vs) c.index c.was ∙ length-undone cs vs

-- what takes a way back leaves no fewer variables than there were
no-fewer : (cs : List Change) (vs us : List Variable) → take (length vs) (undone cs us) ≡ vs → length vs ≤ length us
no-fewer cs vs us e =
    let at : min (length vs) (length (undone cs us)) ≡ length vs = sym (length-take (length vs) (undone cs us)) ∙ ap length e in
    let same : length (undone cs us) ≡ length us = length-undone cs us in
    omega (arith, at, same)

-- the end of a way leads from the variables where it began to those that it came to
pub end-again : (mark : ℕ) (changes old : List Change) (us ws left : List Variable) → MakesAgain old us changes ws → old ≡ [] → left ≡ take mark ws
    → undone changes left ≡ take mark us
end-again mark changes old us ws left m e is =
    ap (undone changes) is ∙ sym (take-undone mark changes ws)
    ∙ ap (take mark) (ap (λ cs. undone cs ws) (m.behind ∙ ap (λ cs. cs ++ m.more) e) ∙ m.again)

-- ---- laws of logs

undone-both : (cs ds : List Change) (vs : List Variable) → undone (cs ++ ds) vs ≡ undone cs (undone ds vs)
undone-both [] ds vs = refl
undone-both (c ∷ cs) ds vs = ap (λ us. put us c.index c.was) (undone-both cs ds vs)

pub logs-begin : (log : List Change) (vs : List Variable) → Logs log vs log vs
logs-begin log vs = record { more = []; behind = sym (append-nil log); back = take-length vs }

pub logs-go-on : (first second third : List Change) (vs us ws : List Variable) → Logs first vs second us → Logs second us third ws → Logs first vs third ws
logs-go-on first second third vs us ws a b = record {
  more = a.more ++ b.more;
  behind = b.behind ∙ ap (λ l. l ++ b.more) a.behind ∙ append_assoc first a.more b.more;
  back =
      let fewer : length vs ≤ length us = no-fewer a.more vs us a.back in
      let front : take (length vs) (undone b.more ws) ≡ take (length vs) us =
      sym (take-fewer (length vs) (length us) (undone b.more ws) fewer) ∙ ap (take (length vs)) b.back in
      ap (take (length vs)) (undone-both a.more b.more ws) ∙ take-undone (length vs) a.more (undone b.more ws) ∙ ap (undone a.more) front
      ∙ sym (take-undone (length vs) a.more us) ∙ a.back;
}

pub blocks-end : (old new : List Change) (vs us : List Variable) (scope : ℕ) → length vs ≤ scope → Logs old vs new us → Logs old vs new (take scope us)
blocks-end old new vs us scope le a = record {
  more = a.more;
  behind = a.behind;
  back = ap (take (length vs)) (sym (take-undone scope a.more us)) ∙ take-fewer (length vs) scope (undone a.more us) le ∙ a.back;
}

pub no-trace : (old new : List Change) (vs us : List Variable) → Logs old vs new us
    → (take (length old) new ≡ old) × (take (length vs) (undone (drop (length old) new) us) ≡ vs)
no-trace old new vs us a = (
  ap (take (length old)) a.behind ∙ take-append_seam old a.more,
  ap (λ cs. take (length vs) (undone cs us)) (ap (drop (length old)) a.behind ∙ drop-append_seam old a.more) ∙ a.back,
)

-- ---- what calls log

pub again-logs : (old new : List Change) (vs us : List Variable) → MakesAgain old vs new us → Logs old vs new us
again-logs old new vs us m = record { more = m.more; behind = m.behind; back = ap (take (length vs)) m.again ∙ take-length vs }

pub narrow-logs : (log new : List Change) (vs us : List Variable) (index : ℕ) (t : Option Shared) (d : Change) → us ≡ put vs index t → d ≡ change_of index (narrowed_at vs index)
    → new ≡ log ++ d ∷ [] → Logs log vs new us
narrow-logs log new vs us index t d e again f = again-logs log new vs us (record {
  more = change_of index (narrowed_at vs index) ∷ [];
  behind = f ∙ ap (λ x. log ++ x ∷ []) again;
  again = ap (λ ws. put ws index (narrowed_at vs index)) e ∙ put-back vs index t;
})
