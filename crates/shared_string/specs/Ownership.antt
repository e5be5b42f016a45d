-- What the owners of one block own and lend.
use Rattle.std.specs.Prelude.{ℕ, ◌-◌, ◌^◌, Bool, true, false, List, [], ◌∷◌}
use base.Fraction.{full_share}
use base.FractionLaws.{Counts}
use base.Fml.{Lft, Key, Share, Fml, ftrue, ffalse, feq, flt, fsep, fex, flft, fdead, flent, fshr_bor, fleft}
use mir.Syntax.{Ty, w64, ty_int, ty_struct}
use types.Na.{na_inv}
use types.RcWeak.{rest}
use denote.RattleType.{RattleType}
use denote.Builtin.{usize}
use denote.Memory.{lone}
use denote.RawPtr.{Ptr, block_ptr, null_ptr, block_of, count_of, lies_at, ◌+ₚ◌}
use denote.Sharing.{one, beside, some, held}
use denote.Hidden.{kept}
use denote.Struct.Lending.{lent_at}
use denote.Struct.Members.{Member, raw_tys}
use Rattle.shared_string.specs.contracts.counted.Counted.{the_row}
use Rattle.shared_string.specs.Whole.{may_free}

-- a text with its count, as its code points
abbrev pub Text : Type 0
Text = List ℕ

abbrev pub text_row : RattleType
text_row = the_row

-- the fields of `Shared`, as they lie in memory
abbrev pub fields : List Member
fields = record { row = usize; ty = ty_int w64 } ∷ record { row = text_row; ty = lone text_row.mir } ∷ []

abbrev pub block_type : Ty
block_type = ty_struct [] (raw_tys fields)

-- `usize::MAX`
abbrev pub most : ℕ
most = 2 ^ 64 - 1

-- what is left of the block beside its fields
abbrev pub left_of : Ptr → Fml
left_of (block_ptr b o) = fleft full_share block_type (raw_tys fields) b o
left_of null_ptr = ffalse

-- what frees the block, once its two fields are back
abbrev pub frees : Ptr → Fml
frees c = fsep (left_of c) (may_free block_type c)

-- Two lifetimes: that of the loan of the text, and one that ends when the count is full.
abbrev pub Times : Type 0
Times = ℕ × ℕ

module _ (a : Times) where
  -- n owners are counted: that can still rise, or it is full for good, and the last part that was counted is shared out
  abbrev pub stage : ℕ → Bool → Fml
  stage n true = fsep (flt n most) (flft (a.1 ∷ []) full_share)
  stage n false = fsep (feq ℕ n most) (fsep (fdead (a.1 ∷ [])) (fshr_bor [] (λ q. flft (a.0 ∷ []) q)))

  -- an owner is counted, and has one part of the loan's token, or it came when the count was full
  abbrev pub kind : Share → Bool → Fml
  kind s true = fex (Counts 64 s 1) (λ _. ftrue)
  kind s false = fdead (a.1 ∷ [])

  abbrev pub holds : Fml
  holds = fex Share (λ s. fsep (flft (a.0 ∷ []) s) (fex Bool (kind s)))

module _ (c : Ptr) (x : Text) where
  abbrev pub counts : ℕ → Fml
  counts n = lies_at usize full_share (c +ₚ 0) n

  -- what is lent to the owners, and goes to the last of them
  abbrev pub loan : Fml
  loan = fsep (lies_at text_row full_share (c +ₚ 8) x) (frees c)

  -- what an owner sees for as long as the loan lasts
  abbrev pub sees : Lft → Fml
  sees = lent_at text_row (c +ₚ 8) x

  abbrev pub key : Key
  key = (block_of c, count_of c)

  module _ (a : Times) where
    -- with n owners that are counted, the parts of the loan's token that they do not have lie here
    abbrev pub counted : ℕ → Fml
    counted n = fsep (counts n) (fsep (rest 64 a.0 n) (fsep (flent (a.0 ∷ []) loan) (fex Bool (stage a n))))

    -- the loan lasts, or it is over
    abbrev pub phase : Bool → Fml
    phase true = fex ℕ counted
    phase false = fdead (a.0 ∷ [])

    abbrev pub shared : Fml
    shared = fex Bool phase

    abbrev pub owner : Fml
    owner = fsep (holds a) (fsep (na_inv key shared) (sees (a.0 ∷ [])))

    -- what a `&` to an owner holds
    abbrev pub lends : Lft → Fml
    lends = beside (one (λ q. flft (a.0 ∷ []) q)) (beside (kept key shared) (held (a.0 ∷ []) sees))

  abbrev pub owner_owns : Fml
  owner_owns = fex Times owner

  abbrev pub owner_shares : Lft → Fml
  owner_shares = some Times lends
