-- The block is its two fields and what frees it. Assumes `Logic`.
use Rattle.std.proofs.Common.{ℕ, w64, [], ◌∷◌}
use seplogic.Ra.Ura.{Ura}
use base.Fraction.{full_share}
use base.Logic.{ent, sep}
use types.Logic.{Logic, sem}
use types.Kit.{‵, ◌⊛◌, ◌$◌, ◌∵◌, !, qed, move, keep, use1, use2, split, fsplit, fjoin, done}
use denote.Laws.{Lawfuls}
use denote.Memory.{part_at, part_of}
use denote.Plain.{uint_Lawful}
use denote.RawPtr.{Ptr, block_ptr}
use denote.Steps.{nothing}
use denote.Struct.Members.{rows_of, lawful_Lones, parts_at}
use denote.Struct.Parts.{Struct-left, left_Struct}
use Rattle.shared_string.specs.contracts.block.Shared.{the_row as shared_row}
use Rattle.shared_string.specs.Whole.{whole_owns}
use Rattle.shared_string.specs.Ownership.{Text, fields, left_of, counts, loan}
use Rattle.shared_string.proofs.Owners.{text_laws}

module _ {M : Type 1} {𝓤 : Ura M} (𝓛 : Logic 𝓤) (n : ℕ) (x : Text) (b o : ℕ) where
  lawfuls : Lawfuls 𝓛 (rows_of fields)
  lawfuls = (uint_Lawful 𝓛 w64, (text_laws.lawful 𝓛, tt))

  abbrev block : (shared_row).Denot
  block = record { owners = n; text = x }

  abbrev c : Ptr
  c = block_ptr b o

  -- a block comes apart into the count and what is lent
  pub cut : ent 𝓤 (sem 𝓛 (whole_owns shared_row c block)) (sep 𝓤 (sem 𝓛 (counts c x n)) (sem 𝓛 (loan c x)))
  unfolding part_of
  cut = qed 𝓛 (‵ (whole_owns shared_row c block) ∷ []) ∵ fsplit ! $
      use1 𝓛 (‵ (parts_at full_share fields 0 (n, (x, tt)) b o) ⊛ ‵ (left_of c)) (Struct-left 𝓛 full_share [] fields (lawful_Lones 𝓛 fields lawfuls) (n, (x, tt)) b o) $ split ! $
      fsplit ! $ move ! (1 ∷ []) $ fsplit ! $ move ! (3 ∷ 4 ∷ []) $ fjoin ! $ move ! (1 ∷ 0 ∷ []) $ fjoin ! $ move ! (2 ∷ 0 ∷ []) $ keep ! (0 ∷ 1 ∷ []) $ done !

  -- and together again
  pub joined : ent 𝓤 (sep 𝓤 (sem 𝓛 (counts c x n)) (sem 𝓛 (loan c x))) (sem 𝓛 (whole_owns shared_row c block))
  unfolding part_of
  joined = qed 𝓛 (‵ (counts c x n) ∷ ‵ (loan c x) ∷ []) ∵ move ! (1 ∷ []) $ fsplit ! $ move ! (1 ∷ []) $ fsplit ! $ nothing ! $ move ! (3 ∷ 0 ∷ []) $ fjoin ! $ move ! (3 ∷ 0 ∷ []) $ fjoin ! $ move ! (0 ∷ 1 ∷ []) $
      use2 𝓛 (‵ (part_at shared_row full_share block b o)) (left_Struct 𝓛 full_share [] fields (n, (x, tt)) b o) $ fjoin ! $ done !
