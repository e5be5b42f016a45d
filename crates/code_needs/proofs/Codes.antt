-- A place holds exactly where its numbers pass and each of its needs is met.
use Rattle.std.proofs.Common.{◌≡◌, ◌⊎◌, ◌<◌, ◌+◌, ◌∙◌, ℕ, zero, suc, Bool, true, false, List, [], ◌∷◌, Some, None, get_or, inl, inr, length, refl, sym, subst, arith}
use Rattle.std.specs.Prelude.{All, Contains, IsSome}
use Rattle.type_model.specs.declared.atoms.AtomDef.{AtomDef}
use Rattle.type_model.specs.declared.basic.SemType.{SemType}
use Rattle.stack_code.specs.declared.code.Code.{Code}
use Rattle.operations.specs.declared.operation.Operation.TheVariants as op
use Rattle.stack_code.specs.Commands.{Do, command_at}
use Rattle.stack_code.specs.Messages.{IsBelow, IsLast, IsOf, ReturnsWell, TalksWell, worker}
use Rattle.stack_code.specs.Places.{Tally, stack_at, tally_at}
use Rattle.stack_code.specs.WellTyped.{PlaceHolds}
use Rattle.code_needs.specs.CodeNeeds.{NeedsAt, OfLeft, OfMessage, OfReturn, Passes, TellsMade}
use Rattle.code_needs.specs.Combining.{AreMet, Needs}
use Rattle.code_needs.specs.Laws.{NeedsDecideCode}
use Rattle.code_needs.specs.declared.kind.Kind.TheVariants.{Errors}
use Rattle.code_needs.specs.Needs.{Below, IsMet, Need, Within}
use Rattle.code_needs.specs.PlaceNeeds.{place_needs}
use Rattle.code_needs.proofs.Combined.{untrue}
use Rattle.code_needs.proofs.Places.{place-decided}

-- ---- lists and their members

same-at : {A : Type 0} (xs : List A) (k : ℕ) (c d : A) → k < length xs → get_or xs k c ≡ get_or xs k d
same-at [] k c d l = absurd (omega (arith, l))
same-at (x ∷ xs) zero c d l = refl
same-at (x ∷ xs) (suc k) c d l = same-at xs k c d (omega (arith, l))

of-all : {A : Type 0} (P : A → Type 0) (xs : List A) (x : A) → All P xs → Contains xs x → P x
of-all P xs x h (k, l, e) = subst P e (h k x l)

all-of : {A : Type 0} (P : A → Type 0) (xs : List A) → ((x : A) → Contains xs x → P x) → All P xs
all-of P xs h k d l = h (get_or xs k d) (k, l, same-at xs k (get_or xs k d) d l)

-- ---- lists of needs

module _ (env : List AtomDef) where
  some-met : (needs : Needs) → AreMet env needs → IsSome needs
  some-met (Some ns) h = refl
  some-met None h = absurd h

  met-one : (needs : Needs) (ns : List Need) (n : Need) → needs ≡ Some ns → Contains ns n → AreMet env needs → IsMet env n
  met-one needs ns n e c h = of-all (IsMet env) ns n (subst (AreMet env) e h) c

  met-by : (needs : Needs) → IsSome needs → ((ns : List Need) (n : Need) → needs ≡ Some ns → Contains ns n → IsMet env n) → AreMet env needs
  met-by (Some ns) there h = all-of (IsMet env) ns (λ n c. h ns n refl c)
  met-by None there h = untrue there

module _ (code : Code) (made : ℕ → ℕ → Tally → Bool) (tells : TellsMade code made) (p : ℕ) where
  -- ---- what holds has its needs met

  message-met : (p q : ℕ) (need : Need) → ((s t : SemType) → IsLast (stack_at code p) s → IsLast (stack_at code (q + 1)) t → IsBelow code s t) → OfMessage code p q need → IsMet code.atoms need
  message-met p q need fits m = subst (IsMet code.atoms) (sym m.is) (fits m.sent m.received m.last m.behind)

  return-met : (need : Need) (r : OfReturn code made p need) → ReturnsWell code r.function r.own p r.tally → IsMet code.atoms need
  return-met need r (inl all) = untrue (sym r.more ∙ (tells r.function r.own r.tally).1 all)
  return-met need r (inr errors) = by r.is
    where
      by : (need ≡ Within r.returned Errors) ⊎ OfLeft code made p r.function r.own r.tally r.returned need → IsMet code.atoms need
      by (inl e) = subst (IsMet code.atoms) (sym e) (errors r.returned r.last).0
      by (inr left) = subst (IsMet code.atoms) (sym left.is) ((errors r.returned r.last).1 left.peer left.place left.leaves left.behind left.last)

  need-met : PlaceHolds code p → (need : Need) → NeedsAt code made p need → IsMet code.atoms need
  need-met h need (inl (inl o)) =
      met-one code.atoms (place_needs code o.u o.station p) o.needs need o.are o.one ((place-decided code o.u o.station p).0 (h.typed o.unit o.u o.stands o.inside o.station o.works).0).1
  need-met h need (inl (inr r)) = return-met need r (h.talks.returns r.function r.own r.tally r.place r.returns r.numbers)
  need-met h need (inr (inl s)) = message-met p s.receive need ((h.talks.sends s.function s.sender s.receiver s.number s.sends).1 s.receive s.receives) s.message
  need-met h need (inr (inr r)) = message-met r.send p need ((h.talks.receives r.function r.sender r.receiver r.number r.receives).1 r.send r.sends) r.message

  passes : PlaceHolds code p → Passes code made p
  passes h =
      record {
        typed = (λ n u is inside station works.
            let t = h.typed n u is inside station works in
            let q = (place-decided code u station p).0 t.0 in
            (q.0, some-met code.atoms (place_needs code u station p) q.1, t.1));
        uses = h.uses;
        workers = h.talks.workers;
        sends = (λ f v w n s. (h.talks.sends f v w n s).0);
        receives = (λ f v w n r. (h.talks.receives f v w n r).0);
      }

  -- ---- and where they are met, it holds

  module _ (ok : Passes code made p) (met : (need : Need) → NeedsAt code made p need → IsMet code.atoms need) where
    abbrev IsReturn : ℕ → ℕ → Tally → Type 0
    IsReturn f v tally = IsOf code (worker code f v) p × (command_at code p ≡ Some (Do op.Return)) × (tally_at code p ≡ Some tally)

    returns-so : (f v : ℕ) (tally : Tally) → IsReturn f v tally → (b : Bool) → made f v tally ≡ b → ReturnsWell code f v p tally
    returns-so f v tally at true e = inl ((tells f v tally).0 e)
    returns-so f v tally at false e = inr (λ t last. (
      met (Within t Errors) (inl (inr (record { function = f; own = v; tally = tally; returned = t; place = at.0; returns = at.1; numbers = at.2; more = e; last = last; is = inl refl }))),
      (λ w q leaves s behind. met (Below t s) (inl (inr (record {
        function = f;
        own = v;
        tally = tally;
        returned = t;
        place = at.0;
        returns = at.1;
        numbers = at.2;
        more = e;
        last = last;
        is = inr (record { peer = w; place = q; behind = s; leaves = leaves; last = behind; is = refl });
      })))),
    ))

    talks : TalksWell code p
    talks =
        record {
          workers = ok.workers;
          sends = (λ f v w n s. (
            ok.sends f v w n s,
            (λ q r. λ t u last behind. met (Below t u) (inr (inl (record {
              function = f;
              sender = v;
              receiver = w;
              number = n;
              receive = q;
              sends = s;
              receives = r;
              message = record { sent = t; received = u; last = last; behind = behind; is = refl };
            })))),
          ));
          receives = (λ f v w n r. (
            ok.receives f v w n r,
            (λ q s. λ t u last behind. met (Below t u) (inr (inr (record {
              function = f;
              sender = v;
              receiver = w;
              number = n;
              send = q;
              receives = r;
              sends = s;
              message = record { sent = t; received = u; last = last; behind = behind; is = refl };
            })))),
          ));
          returns = (λ f v tally place returns numbers. returns-so f v tally (place, returns, numbers) (made f v tally) refl);
        }

    holds : PlaceHolds code p
    holds =
        record {
          typed = (λ n u is inside station works.
              let q = ok.typed n u is inside station works in (
                (place-decided code u station p).1 (
                  q.0,
                  met-by code.atoms (place_needs code u station p) q.1 (λ ns need e c. met need (inl (inl (record {
                    unit = n;
                    u = u;
                    station = station;
                    stands = is;
                    inside = inside;
                    works = works;
                    needs = ns;
                    are = e;
                    one = c;
                  })))),
                ),
                q.2,
              ));
          uses = ok.uses;
          talks = talks;
        }

pub code-decided : NeedsDecideCode
code-decided code made p tells = ((λ h. (passes code made tells p h, need-met code made tells p h)), (λ h. holds code made tells p h.0 h.1))
