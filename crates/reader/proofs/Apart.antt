-- A reader that was passed by value, taken apart for a call on its memory and place. It is Copy: what it owns is had twice, one copy is kept
-- whole, and of the other what the memory owns goes to the callee, beside the lifetime's token.
-- The check takes this step by itself wherever the code does; the law stands here by name.
use mathlib.Core.Path.{◌≡◌, refl}
use Prim.Native.Nat.{◌<◌, ◌^◌}
use mathlib.Core.List.{List, [], ◌∷◌}
use lib.ListN.{length}
use seplogic.Ra.Ura.{Ura}
use mir.Syntax.{named, w64}
use mir.Val.{Val, vint}
use base.Logic.{SProp, ent, sep}
use base.Fml.{Lft, Share, Fml, ftrue, flft}
use types.Logic.{Logic, sem}
use contract.Lifetimes.{Lfts}
use types.Kit.{‵, raw, ◌⊛◌, given, ⋆, ◌$◌, ◌∵◌, !, qed, move, drop, use1, use2, split, learn, fsplit, fjoin, frame, done}
use denote.RattleType.{RattleType, owns}
use denote.Laws.{Is}
use denote.Plain.{uint_Makes}
use denote.Builtin.{u8, usize}
use denote.Signature.{named_lft}
use denote.Slice.{slice_val, ShrSlice}
use denote.Steps.{owned, nothing}
use denote.Struct.Declared.{Declared}
use denote.Struct.Laws as LL
use denote.Struct.Rest.{all_own, field_own, rest, own_open, own_out}
use denote.Struct.Values.{Values}
use Rattle.reader.specs.declared.Reader.{Reader}
use Rattle.reader.specs.contracts.Reader as T
use Rattle.reader.proofs.Reader.TheLaws as T'

-- the reader's type, over the signature's lifetimes
abbrev pub B : Lfts 1 → RattleType
B κs = T.the_row (named_lft 1 0 tt κs)

-- `&'a [u8]`
abbrev pub Part : Lft → RattleType
Part κ = ShrSlice (named 0) κ u8

-- the reader's laws
abbrev pub D : Lft → Declared
D κ = T.the_type (named_lft 1 0 tt (κ, tt))

abbrev pub L : (κ : Lft) → LL.Laws (D κ)
L κ = T'.the_laws (named_lft 1 0 tt (κ, tt))

-- what it owns, the values of its fields, and the machine values that the callee is passed
abbrev pub Own : Lft → Reader → Fml
Own κ d = (B (κ, tt)).own_val d (T'.lowered d ∷ [])

abbrev pub fields : (κ : Lft) → Reader → Values (D κ).parts
fields κ d = (d.pool, (d.place, tt))

abbrev pub passed : Reader → List Val × (List Val × Unit {0})
passed d = (slice_val d.pool.ref_ptr (length d.pool.now) ∷ [], (vint w64 d.place ∷ [], tt))

module _ {M : Type 1} {𝓤 : Ura M} (𝓛 : Logic 𝓤) (κ : Lft) (q : Share) (d : Reader) where
  pub twice : ent 𝓤 (sem 𝓛 (Own κ d)) (sep 𝓤 (sem 𝓛 (Own κ d)) (sem 𝓛 (Own κ d)))
  twice = (LL.copy (D κ) (T'.the_copy (named_lft 1 0 tt (κ, tt))) 𝓛).twice d (T'.lowered d ∷ [])

  -- for a callee that asks P of the token and of what it is passed
  pub apart : d.place < 2 ^ 64 → {P : SProp 𝓤} → ent 𝓤 (⋆ 𝓛 ((‵ (flft κ q) ⊛ ‵ ftrue) ∷ ‵ (owns (Part κ ∷ usize ∷ []) (d.pool, (d.place, tt)) (passed d)) ∷ [])) P
      → ent 𝓤 (⋆ 𝓛 ((‵ (flft κ q) ⊛ ‵ ftrue) ∷ ‵ (owns (B (κ, tt) ∷ []) (d, tt) (T'.lowered d ∷ [], tt)) ∷ [])) (sep 𝓤 P (sem 𝓛 (Own κ d)))
  apart fits {P} asked =
      qed 𝓛 ((‵ (flft κ q) ⊛ ‵ ftrue) ∷ ‵ (owns (B (κ, tt) ∷ []) (d, tt) (T'.lowered d ∷ [], tt)) ∷ []) ∵
      move ! (1 ∷ []) $ fsplit ! $ move ! (1 ∷ []) $ drop ! $ use1 𝓛 (‵ (Own κ d) ⊛ ‵ (Own κ d)) twice $ split ! $
      use1 𝓛 (given (T'.lowered d ∷ [] ≡ T'.lowered d ∷ []) (‵ (all_own (D κ).parts (L κ) (fields κ d)))) (own_open 𝓛 (D κ) (L κ) (fields κ d) (T'.lowered d)) $
      learn ! (λ _. use1 𝓛 (‵ (field_own (D κ).parts (L κ) 0 d.pool) ⊛ ‵ (rest (D κ).parts (L κ) 0 (fields κ d))) (own_out 𝓛 (D κ).parts (L κ) 0 (fields κ d)) $ split ! $
      -- [what the memory owns; what the place owns; what the reader owns; the token]
      move ! (1 ∷ []) $ drop ! $ nothing ! $ owned ! usize (Is usize) (uint_Makes 𝓛 w64) d.place _ (refl, fits) $ fjoin ! $ move ! (1 ∷ 0 ∷ []) $ fjoin ! $
      move ! (2 ∷ 0 ∷ []) $ use2 𝓛 (raw P) asked $ frame ! $ done !)
